-- One piece after another, through a piece that holds back what isn't written yet.
use Rattle.std.proofs.Common.{◌≡◌, Result, Ok, Err, List, ℕ, Some, [], ◌++◌, length, take, refl, sym, ◌∙◌, ap}
use Rattle.std.proofs.Common.{append_assoc, append-nil}
use Rattle.std.specs.Prelude.{unwrap_or}
use Rattle.std.proofs.Math.Seq.{take-append_seam}
use Rattle.fle_outside.specs.Seen.{Gains, SinkSeen}
use Rattle.fle_outside.specs.Writing.{Puts, WritesWhole}
use Rattle.fle_outside.specs.declared.answers.Failed.{Failed}
use Rattle.fle_outside.proofs.PartWay.{PartWay, part_put, part_put_stop, part_end}
use Rattle.ext_json.specs.Pieces.{Sends}
use Rattle.ext_json.proofs.Writing.{put_nothing, put_then}

-- what a piece that tells its bytes holds, behind what it held
gained : (held now more : List ℕ) → Gains (Some held) (Some now) more → now ≡ held ++ more
gained held now more gains = ap (λ o. unwrap_or o []) (gains held refl)

-- all of it has room in the piece
pub sends_held : (held now written : List ℕ) (out : SinkSeen) → Gains (Some held) (Some now) written
    → Sends held now out out (Ok tt) written
sends_held held now written out gains = ([], sym (gained held now written gains), put_nothing out)

-- it has no room, and the piece is cut back
pub cut_back : (held now cut written : List ℕ) (n : ℕ) (f : Failed) → Puts (Some held) (Some now) (Err f) written
    → n ≡ length held → cut ≡ take n now → cut ≡ held
cut_back held now cut written n f puts size is =
    let whole : now ≡ held ++ puts.0 = gained held now puts.0 puts.2 in
    is ∙ (ap (λ (k : ℕ). take k now) size ∙ (ap (λ (x : List ℕ). take (length held) x) whole
    ∙ take-append_seam held puts.0))

-- what was held is written, and then the text straight into the sink
pub sends_long : {before now new : SinkSeen} {held left written : List ℕ} {u : Unit {0}}
    (result : Result (Unit {0}) Failed)
    → WritesWhole before now (Ok u) held → WritesWhole now new result written → left ≡ []
    → Sends held left before new result written
sends_long {held = held} {left = left} {written = written} (Ok _) first second none = (
  held ++ written,
  sym (ap (λ (x : List ℕ). (held ++ written) ++ x) none ∙ append-nil (held ++ written)),
  put_then (Ok tt) first second,
)
sends_long (Err f) first second none = put_then (Err f) first second

-- one more text, of which a part may be held back
pub sends_more : {before now new : SinkSeen} {whole held_now left : List ℕ} {u : Unit {0}}
    (held written rest : List ℕ)
    → PartWay before now whole (held ++ left) → left ≡ written ++ rest
    → Sends held held_now now new (Ok u) written
    → PartWay before new whole (held_now ++ rest)
sends_more {held_now = held_now} {left = left} held written rest way is sent =
    let all : held ++ left ≡ sent.0 ++ (held_now ++ rest) =
    ap (λ (x : List ℕ). held ++ x) is ∙ (sym (append_assoc held written rest)
    ∙ (ap (λ (x : List ℕ). x ++ rest) sent.1 ∙ append_assoc sent.0 held_now rest)) in
    part_put {part = sent.0} {rest = held_now ++ rest} way all sent.2

-- one more text that is not written whole
pub sends_stop : {before now new : SinkSeen} {whole left : List ℕ} {f : Failed} (held held_now written rest : List ℕ)
    → PartWay before now whole (held ++ left) → left ≡ written ++ rest
    → Sends held held_now now new (Err f) written
    → WritesWhole before new (Err f) whole
sends_stop held held_now written rest way is sent =
    part_put_stop {part = held ++ written} rest way
    (ap (λ (x : List ℕ). held ++ x) is ∙ sym (append_assoc held written rest)) sent

-- what is held in the end is written
pub sends_end : {before now new : SinkSeen} {whole held left : List ℕ} (result : Result (Unit {0}) Failed)
    → PartWay before now whole (held ++ left) → left ≡ [] → WritesWhole now new result held
    → WritesWhole before new result whole
sends_end {held = held} {left = left} (Ok _) way none wrote =
    part_end (part_put {part = held} {rest = []} way (ap (λ (x : List ℕ). held ++ x) none) wrote)
sends_end {held = held} {left = left} (Err f) way none wrote =
    part_put_stop {part = held} [] way (ap (λ (x : List ℕ). held ++ x) none) wrote

-- what was gathered from nothing
pub piece_is : (empty now written : List ℕ) → empty ≡ [] → Gains (Some empty) (Some now) written → now ≡ written
piece_is empty now written none gains =
    gained empty now written gains ∙ ap (λ (x : List ℕ). x ++ written) none
