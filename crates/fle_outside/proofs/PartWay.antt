-- Bytes on their way into a sink: a front of them is written, and these are left.
use denote.Ref.{Bor}
use Rattle.std.proofs.Common.{get_or, drop-cons, add-one, ◌≡◌, ℕ, ◌+◌, ◌<◌, ◌≤◌, Option, Some, Ok, Err, List, [], ◌++◌}
use Rattle.std.proofs.Common.{length, take, drop, refl, sym, ◌∙◌, ap, arith, append_assoc, append-nil, length-append}
use Rattle.std.proofs.Common.{length-take-le, take-append-drop}
use Rattle.fle_outside.specs.Writes.{WriteTakes}
use Rattle.fle_outside.specs.Seen.{Gains, SinkSeen}
use Rattle.fle_outside.specs.Writing.{WritesWhole, joined}
use Rattle.fle_outside.specs.declared.answers.WriteAnswer.TheVariants as writes
use Rattle.fle_outside.specs.declared.answers.Failed.{Failed}

pub record PartWay (before now : SinkSeen) (whole left : List ℕ) : Type 0 where
  pub put : List ℕ
  pub split : whole ≡ put ++ left
  pub gains : Gains before.told now.told put
  pub later : before.faults ≤ now.faults
  pub falls : before.assured ≤ now.assured + length put

-- nothing is written yet
pub part_begin : (before : SinkSeen) (bytes : List ℕ) → PartWay before before bytes bytes
part_begin before bytes = record {
  put = [];
  split = refl;
  gains = λ w is. is ∙ ap (λ (x : List ℕ). Some x) (sym (append-nil w));
  later = omega arith;
  falls = omega arith;
}

-- one more write took n bytes
pub gains_more : (before now new : Option (List ℕ)) (put left : List ℕ) (n : ℕ) → Gains before now put
    → WriteTakes now new (writes.Took n) left → Gains before new (put ++ take n left)
gains_more before now new put left n gains takes w is =
    let step = rw (gains w is) at takes in
    step ∙ ap (λ (x : List ℕ). Some x) (append_assoc w put (take n left))

pub part_took : {before now new : SinkSeen} {whole left : List ℕ} (n : ℕ)
    → PartWay before now whole left
    → WriteTakes now.told new.told (writes.Took n) left → n ≤ length left → now.faults ≤ new.faults
    → now.assured ≤ new.assured + n
    → PartWay before new whole (drop n left)
part_took {before} {now} {new} {whole} {left} n way takes within later falls =
    let size : length (take n left) ≡ n = length-take-le n left within in
    record {
      put = way.put ++ take n left;
      split = way.split ∙ (ap (λ (x : List ℕ). way.put ++ x) (sym (take-append-drop n left))
          ∙ sym (append_assoc way.put (take n left) (drop n left)));
      gains = gains_more before.told now.told new.told way.put left n way.gains takes;
      later = omega (arith, way.later);
      falls = omega (arith, way.falls, length-append way.put (take n left), size);
    }

-- all of them are written
pub part_end : {before now : SinkSeen} {whole : List ℕ}
    → PartWay before now whole []
    → WritesWhole before now (Ok tt) whole
part_end {whole = whole} way =
    let all : whole ≡ way.put = way.split ∙ append-nil way.put in
    record {
      puts = λ w is. way.gains w is ∙ ap (λ (x : List ℕ). Some (w ++ x)) (sym all);
      later = way.later;
      cause = tt;
      sure = λ enough. refl;
      falls = omega (arith, way.falls, ap length all);
    }

-- one more part is written
pub part_put : {before now new : SinkSeen} {whole left part rest : List ℕ} {u : Unit {0}}
    → PartWay before now whole left → left ≡ part ++ rest
    → WritesWhole now new (Ok u) part
    → PartWay before new whole rest
part_put {part = part} {rest = rest} way is wrote = record {
  put = way.put ++ part;
  split = way.split ∙ (ap (λ (x : List ℕ). way.put ++ x) is ∙ sym (append_assoc way.put part rest));
  gains = λ w at. wrote.puts (w ++ way.put) (way.gains w at)
      ∙ ap (λ (x : List ℕ). Some x) (append_assoc w way.put part);
  later = omega (arith, way.later, wrote.later);
  falls = omega (arith, way.falls, wrote.falls, length-append way.put part);
}

-- one more part is not written whole
pub part_put_stop : {before now new : SinkSeen} {whole left part : List ℕ} {f : Failed} (rest : List ℕ)
    → PartWay before now whole left → left ≡ part ++ rest
    → WritesWhole now new (Err f) part
    → WritesWhole before new (Err f) whole
part_put_stop {now = now} {whole = whole} {left = left} {part = part} rest way is wrote =
    let cut = wrote.puts.1.2 in
    record {
      puts = (
        way.put ++ wrote.puts.0,
        (
          wrote.puts.1.0 ++ rest,
          omega (arith, wrote.puts.1.1, length-append wrote.puts.1.0 rest),
          way.split ∙ (ap (λ (x : List ℕ). way.put ++ x)
              (is ∙ (ap (λ (x : List ℕ). x ++ rest) cut ∙ append_assoc wrote.puts.0 wrote.puts.1.0 rest))
              ∙ sym (append_assoc way.put wrote.puts.0 (wrote.puts.1.0 ++ rest))),
        ),
        λ w at. wrote.puts.2 (w ++ way.put) (way.gains w at)
            ∙ ap (λ (x : List ℕ). Some x) (append_assoc w way.put wrote.puts.0),
      );
      later = omega (arith, way.later, wrote.later);
      cause = omega (arith, way.later, wrote.cause);
      sure = λ enough.
          let short : length part ≤ now.assured = omega (
            arith,
            enough,
            way.falls,
            ap length way.split,
            length-append way.put left,
            ap length is,
            length-append part rest,
          ) in
          wrote.sure short;
      falls = tt;
    }

-- the parts from the i-th on begin with the i-th
pub joined_at : (i : ℕ) (parts : List (Bor (List ℕ))) (d : Bor (List ℕ)) → i < length parts
    → joined (drop i parts) ≡ (get_or parts i d).now ++ joined (drop (i + 1) parts)
joined_at i parts d within = rw (add-one, drop-cons parts i d) refl
