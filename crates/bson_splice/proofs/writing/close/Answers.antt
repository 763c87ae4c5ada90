use Rattle.std.proofs.Common.{◌≡◌, ◌∙◌, ◌+◌, ◌-◌, [], ◌∷◌, ◌++◌, ap, arith, length, List, ℕ, take, append_assoc}
use Rattle.std.proofs.Common.{length-append, length-take-le}
use Rattle.std.specs.Int.{to_le_bytes, w32}
use borrow.Rule.Slice.PartMut.{put_mid}
use Rattle.bson_splice.proofs.Parts.{behind_put, later, patched}
use Rattle.bson_splice.proofs.writing.close.Goals as goal

pub returns-clause-closed : goal.returns-clause-closed
returns-clause-closed c = λ front four elements here four4 old.
    let xs = c.put-behind.new.out in
    let ys = c.copy_from_slice.new.self in
    let whole : take c.put-behind.result xs ≡ (front ++ four) ++ (elements ++ 0 ∷ []) =
    c.put-behind.ensures.put ∙ ap (λ (x : List ℕ). x ++ 0 ∷ []) old ∙ append_assoc (front ++ four) elements (0 ∷ []) in
    let size : c.put-behind.result - c.args.at ≡ length elements + 5 =
    omega (
      arith,
      c.put-behind.ensures.end,
      ap length old,
      length-append (front ++ four) elements,
      length-append front four,
      length-take-le c.args.end c.args.out.now (omega (arith, c.requires.room)),
      here,
      four4,
    ) in
    let bytes : ys ≡ to_le_bytes w32 (length elements + 5) =
    c.copy_from_slice.ensures.after ∙ c.to_le_bytes.ensures ∙ ap (λ (n : ℕ). to_le_bytes w32 n) size in
    let four_long : length ys ≡ 4 = ap length bytes in
    let four_more : c.args.at + 4 - c.args.at ≡ 4 = omega arith in
    ap (λ (k : ℕ). take c.put-behind.result (put_mid c.args.at k xs ys)) four_more
    ∙ patched c.args.at c.put-behind.result xs ys front four (elements ++ 0 ∷ []) here four4 four_long whole
    (omega (arith, c.put-behind.ensures.end, c.put-behind.ensures.size, c.requires.room))
    ∙ ap (λ (y : List ℕ). front ++ (y ++ (elements ++ 0 ∷ []))) bytes

pub returns-clause-behind : goal.returns-clause-behind
returns-clause-behind c =
    let at = c.args.at in
    let four : length c.copy_from_slice.new.self ≡ 4 =
    ap length (c.copy_from_slice.ensures.after ∙ c.to_le_bytes.ensures) in
    later (at + 4) c.put-behind.result _ c.put-behind.new.out
    (omega (arith, c.requires.begun, c.put-behind.ensures.end))
    (behind_put at 4 (at + 4 - at) c.put-behind.new.out c.copy_from_slice.new.self
    (omega (arith, c.requires.begun, c.requires.room, c.put-behind.ensures.size)) four (omega arith))
    ∙ c.put-behind.ensures.behind
