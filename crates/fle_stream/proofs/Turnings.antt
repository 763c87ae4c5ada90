-- A run on its way: outputs are written, and the course of what is left is what comes.
use Rattle.std.proofs.Common.{◌≡◌, ℕ, ◌+◌, ◌≤◌, Option, Some, List, [], ◌∷◌, ◌++◌, length, take, drop, refl, sym, ◌∙◌}
use Rattle.std.proofs.Common.{◌-◌, ◌*◌, ◌<◌, mul-add, mul-le-mul_left, ap, subst, arith, append_assoc, append-nil}
use Rattle.std.proofs.Common.{add_assoc, zero-add, length-append}
use Rattle.std.proofs.Common.{length-drop}
use Rattle.std.proofs.lemmas.List.{take_all, take-append-le, drop-append-le, drop-drop}
use Rattle.fle_outside.specs.Blocks.{Block}
use Rattle.fle_outside.specs.Seen.{Draws, EntropySeen, Gains, SinkSeen}
use Rattle.fle_outside.proofs.Drawings.{draws_none, draws_then}
use Rattle.fle_stream.specs.Plan.{Output, read_of, documents_of, draws_of, size_of, written}
use Rattle.fle_stream.specs.Outcome.{Outcome, Course, preceded}
use Rattle.fle_stream.specs.Run.{HandedPast, Reading, CutAfter, EndsIn, LastStep, OneStep, Ran, total}
use Rattle.fle_stream.specs.Turn.{IsOfStream}
use Rattle.fle_stream.specs.declared.why.Cut.{Cut}
use Rattle.fle_stream.specs.declared.why.Cut.TheVariants as cuts
use Rattle.fle_stream.specs.declared.why.Why.{Why}
use Rattle.fle_stream.specs.declared.why.Why.TheVariants as whys

-- ---- how much turns take

-- documents of so many bytes at most, and d more of them
pub grows : (b k d : ℕ) → 0 < k → b * (k - 1) + b * d ≡ b * (k + d - 1)
grows b k d some = let n : k - 1 + d ≡ k + d - 1 = omega (arith, some) in
    sym (mul-add b (k - 1) d) ∙ ap (λ (m : ℕ). b * m) n

-- the documents before one of this number, and those of the last turn
pub reaches : (b k d at : ℕ) → 0 < k → k ≤ at → b * (k - 1) + b * d ≤ b * (at + (d - 1))
reaches b k d at some within =
    let n : k - 1 + d ≤ at + (d - 1) = omega (arith, some, within) in
    let whole : b * (k - 1) + b * d ≡ b * (k - 1 + d) = sym (mul-add b (k - 1) d) in
    omega (arith, whole, mul-le-mul_left b n)

pub record Going (course : Course) (start : List ℕ) (left : Option (List ℕ)) (entropy entropy_now : EntropySeen)
    (out out_now : SinkSeen) (number taken : ℕ) : Type 0 where
  pub here : left ≡ Some (drop taken start)
  pub done : List Output
  pub bytes : read_of done ≡ taken
  pub numbers : 1 + documents_of done ≡ number
  pub comes : course 1 0 start ≡ preceded done taken (course number taken (drop taken start))
  pub drawn : List Block
  pub enough : length drawn ≡ draws_of done
  pub draws : Draws entropy entropy_now drawn
  pub gains : Gains out.told out_now.told (written done drawn)
  pub filled : out.assured ≤ out_now.assured + size_of done

-- sums over outputs
read_of-append : (xs ys : List Output) → read_of (xs ++ ys) ≡ read_of xs + read_of ys
read_of-append [] ys = sym (zero-add (read_of ys))
read_of-append (x ∷ xs) ys = ap (λ (n : ℕ). x.read + n) (read_of-append xs ys)
    ∙ sym (add_assoc x.read (read_of xs) (read_of ys))

documents_of-append : (xs ys : List Output) → documents_of (xs ++ ys) ≡ documents_of xs + documents_of ys
documents_of-append [] ys = sym (zero-add (documents_of ys))
documents_of-append (x ∷ xs) ys = ap (λ (n : ℕ). x.documents + n) (documents_of-append xs ys)
    ∙ sym (add_assoc x.documents (documents_of xs) (documents_of ys))

pub draws_of-append : (xs ys : List Output) → draws_of (xs ++ ys) ≡ draws_of xs + draws_of ys
draws_of-append [] ys = sym (zero-add (draws_of ys))
draws_of-append (x ∷ xs) ys = ap (λ (n : ℕ). x.plan.draws + n) (draws_of-append xs ys)
    ∙ sym (add_assoc x.plan.draws (draws_of xs) (draws_of ys))

size_of-append : (xs ys : List Output) → size_of (xs ++ ys) ≡ size_of xs + size_of ys
size_of-append [] ys = sym (zero-add (size_of ys))
size_of-append (x ∷ xs) ys = ap (λ (n : ℕ). x.plan.size + n) (size_of-append xs ys)
    ∙ sym (add_assoc x.plan.size (size_of xs) (size_of ys))

pub no_blocks : (bs : List Block) → length bs ≡ 0 → bs ≡ []
no_blocks [] none = refl
no_blocks (b ∷ bs) none = absurd (omega (arith, none))

-- the outputs of two lists, each with its own blocks
pub written-append : (xs ys : List Output) (first more : List Block) → length first ≡ draws_of xs
    → written (xs ++ ys) (first ++ more) ≡ written xs first ++ written ys more
written-append [] ys first more enough = ap (λ (bs : List Block). written ys (bs ++ more)) (no_blocks first enough)
written-append (x ∷ xs) ys first more enough =
    let within : x.plan.draws ≤ length first = omega (arith, enough) in
    let head : take x.plan.draws (first ++ more) ≡ take x.plan.draws first =
    take-append-le x.plan.draws first more within in
    let back : drop x.plan.draws (first ++ more) ≡ drop x.plan.draws first ++ more =
    drop-append-le x.plan.draws first more within in
    let rest : length (drop x.plan.draws first) ≡ draws_of xs = omega (arith, length-drop x.plan.draws first, enough) in
    ap (λ (bs : List Block). x.plan.bytes bs ++ written (xs ++ ys) (drop x.plan.draws (first ++ more))) head
    ∙ (ap (λ (bs : List Block). x.plan.bytes (take x.plan.draws first) ++ written (xs ++ ys) bs) back
    ∙ (ap (λ (bytes : List ℕ). x.plan.bytes (take x.plan.draws first) ++ bytes)
    (written-append xs ys (drop x.plan.draws first) more rest)
    ∙ sym (append_assoc (x.plan.bytes (take x.plan.draws first)) (written xs (drop x.plan.draws first))
    (written ys more))))

-- one output with its blocks
pub written_one : (o : Output) (drawn : List Block) → length drawn ≡ o.plan.draws
    → written (o ∷ []) drawn ≡ o.plan.bytes drawn
written_one o drawn enough =
    let least : length drawn ≤ o.plan.draws = omega (arith, enough) in
    ap (λ (bs : List Block). o.plan.bytes bs ++ []) (take_all o.plan.draws drawn least)
    ∙ append-nil (o.plan.bytes drawn)

-- what is written, one after another
pub gains_then : (a b c : Option (List ℕ)) (x y : List ℕ) → Gains a b x → Gains b c y → Gains a c (x ++ y)
gains_then a b c x y first second = λ w is. second (w ++ x) (first w is)
    ∙ ap (λ (bytes : List ℕ). Some bytes) (append_assoc w x y)

-- what comes before, twice, is one
preceded_twice : (xs ys : List Output) (n m : ℕ) (o : Outcome)
    → preceded xs n (preceded ys m o) ≡ preceded (xs ++ ys) (n + m) o
preceded_twice xs ys n m o =
    ap (λ (os : List Output). record { finish = o.finish; number = o.number; outputs = os; used = n + (m + o.used) })
    (sym (append_assoc xs ys o.outputs))
    ∙ ap (λ (u : ℕ). record { finish = o.finish; number = o.number; outputs = (xs ++ ys) ++ o.outputs; used = u })
    (sym (add_assoc n m o.used))

preceded_none : (o : Outcome) → o ≡ preceded [] 0 o
preceded_none o = ap (λ (u : ℕ). record { finish = o.finish; number = o.number; outputs = o.outputs; used = u })
    (sym (zero-add o.used))

pub begins : (course : Course) (start : List ℕ) (left : Option (List ℕ)) (entropy : EntropySeen) (out : SinkSeen)
    → left ≡ Some start → Going course start left entropy entropy out out 1 0
begins course start left entropy out is = record {
  here = is;
  done = [];
  bytes = refl;
  numbers = refl;
  comes = preceded_none (course 1 0 start);
  drawn = [];
  enough = refl;
  draws = draws_none entropy;
  gains = λ w at. at ∙ ap (λ (bytes : List ℕ). Some bytes) (sym (append-nil w));
  filled = omega arith;
}

-- one more turn wrote an output
pub goes : {course : Course} {start : List ℕ} {left after : Option (List ℕ)}
    {entropy entropy_now entropy_after : EntropySeen} {out out_now out_after : SinkSeen} {number taken n d : ℕ}
    → Going course start left entropy entropy_now out out_now number taken
    → OneStep course number taken (drop taken start) after entropy_now entropy_after out_now out_after n d
    → Going course start after entropy entropy_after out out_after (number + d) (taken + n)
goes {course = course} {start = start} {after = after} {entropy = entropy} {entropy_now = entropy_now}
    {entropy_after = entropy_after} {out = out} {out_now = out_now} {out_after = out_after} {number = number}
    {taken = taken} {n = n} {d = d} going step =
    let one : Output = record { read = n; documents = d; plan = step.plan } in
    let behind : drop n (drop taken start) ≡ drop (taken + n) start = drop-drop n taken start in
    let comes : course number taken (drop taken start)
    ≡ preceded (one ∷ []) n (course (number + d) (taken + n) (drop (taken + n) start)) =
    step.comes ∙ ap (λ (bytes : List ℕ). preceded (one ∷ []) n (course (number + d) (taken + n) bytes)) behind in
    let all : written (going.done ++ one ∷ []) (going.drawn ++ step.drawn)
    ≡ written going.done going.drawn ++ step.plan.bytes step.drawn =
    written-append going.done (one ∷ []) going.drawn step.drawn going.enough
    ∙ ap (λ (bytes : List ℕ). written going.done going.drawn ++ bytes) (written_one one step.drawn step.enough) in
    record {
      here = step.left ∙ ap (λ (bytes : List ℕ). Some bytes) behind;
      done = going.done ++ one ∷ [];
      bytes = omega (arith, read_of-append going.done (one ∷ []), going.bytes);
      numbers = omega (arith, documents_of-append going.done (one ∷ []), going.numbers);
      comes = going.comes ∙ (ap (λ (o : Outcome). preceded going.done taken o) comes
          ∙ preceded_twice going.done (one ∷ []) taken n (course (number + d) (taken + n) (drop (taken + n) start)));
      drawn = going.drawn ++ step.drawn;
      enough = omega (
        arith,
        length-append going.drawn step.drawn,
        draws_of-append going.done (one ∷ []),
        going.enough,
        step.enough,
      );
      draws = draws_then going.draws step.draws;
      gains = subst (λ (bytes : List ℕ). Gains out.told out_after.told bytes) (sym all)
          (gains_then out.told out_now.told out_after.told (written going.done going.drawn)
          (step.plan.bytes step.drawn) going.gains step.wrote);
      filled = omega (arith, size_of-append going.done (one ∷ []), going.filled, step.filled);
    }

-- what the input has left, from the start of the stream on
handed_past : (taken most : ℕ) (start : List ℕ) (after : Option (List ℕ)) → HandedPast 0 most (drop taken start) after
    → HandedPast taken most start after
handed_past taken most start after past =
    let m : 0 + past.0 ≡ past.0 = zero-add past.0 in (
      past.0,
      past.1,
      past.2 ∙ ap (λ (bytes : List ℕ). Some bytes)
          (ap (λ (k : ℕ). drop k (drop taken start)) m ∙ drop-drop past.0 taken start),
    )

reading_past : (taken first : ℕ) (spans start : List ℕ) (after : Option (List ℕ)) (number : ℕ)
    → Reading first 0 spans (drop taken start) after number → Reading first taken spans start after number
reading_past taken first spans start after number r =
    let m : 0 + r.taken ≡ r.taken = zero-add r.taken in
    record {
      before = r.before;
      at = r.at;
      among = r.among;
      taken = r.taken;
      least = r.least;
      most = r.most;
      left = r.left ∙ ap (λ (bytes : List ℕ). Some bytes)
          (ap (λ (k : ℕ). drop k (drop taken start)) m ∙ drop-drop r.taken taken start);
    }

cut_past : (cut : Cut) (first taken : ℕ) (spans start : List ℕ) (after : Option (List ℕ)) (number : ℕ)
    → IsOfStream (whys.Cut cut)
    → CutAfter cut first 0 spans (drop taken start) after number → CutAfter cut first taken spans start after number
cut_past cuts.Folder first taken spans start after number kind left = absurd kind
cut_past cuts.Input first taken spans start after number kind left =
    reading_past taken first spans start after number left
cut_past cuts.Output first taken spans start after number kind left = (
  handed_past taken (total spans) start after left.0,
  left.1,
)
cut_past cuts.Entropy first taken spans start after number kind left = (
  handed_past taken (total spans) start after left.0,
  left.1,
)
cut_past cuts.Memory first taken spans start after number kind left = handed_past taken (total spans) start after left

-- the end of what is left is the end of all
end_past : (why : Why) (number : ℕ) (done : List Output) (o : Outcome) (rest : List Output) (more : List Block)
    (part : List ℕ) (first taken : ℕ) (spans start : List ℕ) (after : Option (List ℕ))
    → IsOfStream why → EndsIn why number o rest more part first 0 spans (drop taken start) after
    → EndsIn why number (preceded done taken o) rest more part first taken spans start after
end_past (whys.Finished finish) number done o rest more part first taken spans start after kind end = record {
  same = end.same;
  at = end.at;
  all = end.all;
  undrawn = end.undrawn;
  unwritten = end.unwritten;
  left = end.left ∙ ap (λ (bytes : List ℕ). Some bytes) (drop-drop o.used taken start);
}
end_past (whys.Cut cut) number done o rest more part first taken spans start after kind end = (
  end.0,
  cut_past cut first taken spans start after number kind end.1,
)

-- a turn ended the run
pub stops : {course : Course} {start : List ℕ} {left after : Option (List ℕ)} (spans : List ℕ
    → List ℕ) {entropy entropy_now entropy_after : EntropySeen} {out out_now out_after : SinkSeen} {number taken at : ℕ}
    {why : Why}
    → Going course start left entropy entropy_now out out_now number taken
    → IsOfStream why
    → LastStep (course number taken (drop taken start)) number (drop taken start) after
    (spans (drop taken start)) entropy_now entropy_after out_now out_after at why
    → Ran (course 1 0 start) 1 start after spans entropy entropy_after out out_after at why
stops {course = course} {start = start} {after = after} spans {out = out} {out_now = out_now} {out_after = out_after}
    {number = number} {taken = taken} {at = at} {why = why} going kind last =
    let o : Outcome = course number taken (drop taken start) in
    let past = end_past why at going.done o o.outputs last.more last.part number taken
    (spans (drop taken start)) start after kind last.end in
    let there : EndsIn why at (course 1 0 start) o.outputs last.more last.part number taken
    (spans (drop taken start)) start after =
    subst (λ (p : Outcome). EndsIn why at p o.outputs last.more last.part number taken
    (spans (drop taken start)) start after) (sym going.comes) past in
    let counted : EndsIn why at (course 1 0 start) o.outputs last.more last.part (1 + documents_of going.done) taken
    (spans (drop taken start)) start after =
    subst (λ (k : ℕ). EndsIn why at (course 1 0 start) o.outputs last.more last.part k taken
    (spans (drop taken start)) start after) (sym going.numbers) there in
    record {
      done = going.done;
      rest = o.outputs;
      split = ap (λ (p : Outcome). p.outputs) going.comes;
      first = going.drawn;
      more = last.more;
      enough = going.enough;
      draws = draws_then going.draws last.draws;
      part = last.part;
      gains = gains_then out.told out_now.told out_after.told
          (written going.done going.drawn) last.part going.gains last.gains;
      end = subst (λ (k : ℕ). EndsIn why at (course 1 0 start) o.outputs last.more last.part
          (1 + documents_of going.done) k (spans (drop k start)) start after) (sym going.bytes) counted;
    }

-- where the sink is assured of all outputs, it is assured of those that are left
pub room_left : {course : Course} {start : List ℕ} {left : Option (List ℕ)} {entropy entropy_now : EntropySeen}
    {out out_now : SinkSeen} {number taken : ℕ}
    → Going course start left entropy entropy_now out out_now number taken
    → size_of (course 1 0 start).outputs ≤ out.assured
    → size_of (course number taken (drop taken start)).outputs ≤ out_now.assured
room_left {course = course} {start = start} {number = number} {taken = taken} going enough =
    let all = ap (λ (p : Outcome). size_of p.outputs) going.comes in
    omega (arith, all, size_of-append going.done (course number taken (drop taken start)).outputs, going.filled, enough)

-- and likewise of blocks
pub supply_left : {course : Course} {start : List ℕ} {left : Option (List ℕ)} {entropy entropy_now : EntropySeen}
    {out out_now : SinkSeen} {number taken : ℕ}
    → Going course start left entropy entropy_now out out_now number taken
    → draws_of (course 1 0 start).outputs ≤ entropy.assured
    → draws_of (course number taken (drop taken start)).outputs ≤ entropy_now.assured
supply_left {course = course} {start = start} {number = number} {taken = taken} going enough =
    let all = ap (λ (p : Outcome). draws_of p.outputs) going.comes in
    omega (
      arith,
      all,
      draws_of-append going.done (course number taken (drop taken start)).outputs,
      going.draws.falls,
      going.enough,
      enough,
    )
