use Rattle.std.proofs.Common.{◌≡◌, ◌∙◌, ◌+◌, [], ◌∷◌, ◌++◌, List, ℕ, length, ap, ap₂, sym}
use Rattle.std.specs.Int.{to_le_bytes, w32}
use Rattle.bson_tree.specs.Spelling.{value_bytes}
use Rattle.payload6.specs.Needs.{need_bytes, need_seen}
use Rattle.reply_check.proofs.Pieces.{nowhere}
use Rattle.reply_check.proofs.markings.holds_marking.Goals as goal

pub returns-in-Some : goal.returns-in-Some
returns-in-Some c =
    let size : c.length_bytes.result
    ≡ to_le_bytes w32 (length (value_bytes c.args.item.now.tree) + length (need_bytes (need_seen c.args.need)) + 24) =
    c.length_bytes.ensures.bytes
    ∙ ap₂ (λ (bytes : List ℕ) (n : ℕ). to_le_bytes w32 (length bytes + n + 24)) c.value.ensures.spelling
    c.len.ensures.len in
    record {
      holds = c.are_fields.ensures.fields c.args.contents.now
          (c.in-Some.ensures.behind ∙ ap (λ (bytes : List ℕ). (0 ∷ []) ++ (bytes ++ c.in-Some.fields.now)) size);
    }

pub returns-in-None : goal.returns-in-None
returns-in-None c =
    let size : c.length_bytes.result
    ≡ to_le_bytes w32 (length (value_bytes c.args.item.now.tree) + length (need_bytes (need_seen c.args.need)) + 24) =
    c.length_bytes.ensures.bytes
    ∙ ap₂ (λ (bytes : List ℕ) (n : ℕ). to_le_bytes w32 (length bytes + n + 24)) c.value.ensures.spelling
    c.len.ensures.len in
    record {
      holds = nowhere c.args.algorithm (need_seen c.args.need) c.args.item.now.tree c.args.contents.now
          (λ rest e. c.in-None.ensures.behind rest
          (e ∙ ap (λ (bytes : List ℕ). (0 ∷ []) ++ (bytes ++ rest)) (sym size)));
    }
