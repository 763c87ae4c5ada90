use Rattle.std.proofs.Common.{◌∙◌, ℕ, List, codes, ◌||◌, Some, sym, ap, take}
use Rattle.encrypt_schema.specs.Commands.Visits.{names_of}
use Rattle.encrypt_schema.specs.Language.Names.{named}
use Rattle.command_marker.proofs.Judged.{query_read, update_item_unusable, update_item_other}
use Rattle.command_marker.proofs.items.judge_update_item.Goals as goal

pub returns-then-is_query : goal.returns-then-is_query
returns-then-is_query c =
    let elder = take c.args.k (names_of c.args.document.now.tree) in
    let name = c.args.item.now.name in
    let t = c.args.item.now.tree in
    record {
      judged = query_read c.args.rows.now elder name t c.read_document.result
          (ap (λ (n : List ℕ). named n (codes "q")) (sym c.name-name.ensures.name) ∙ sym c.is_query.ensures
          ∙ c.if-is_query.true) c.read_document.ensures.read;
    }

pub returns-then-is_unusable : goal.returns-then-is_unusable
returns-then-is_unusable c =
    let elder = take c.args.k (names_of c.args.document.now.tree) in
    let name = c.args.item.now.name in
    let t = c.args.item.now.tree in
    record {
      judged = ap Some c.unusable.ensures.reason
          ∙ update_item_unusable c.args.rows.now elder name t
          (ap (λ (n : List ℕ). named n (codes "arrayFilters") || named n (codes "c")) (sym c.name-name.ensures.name)
          ∙ sym c.is_unusable.ensures ∙ c.if-is_unusable.true);
    }

pub returns : goal.returns
returns c =
    let elder = take c.args.k (names_of c.args.document.now.tree) in
    let name = c.args.item.now.name in
    let t = c.args.item.now.tree in
    record {
      judged = update_item_other c.args.rows.now elder name t c.other_field.result
          (ap (λ (n : List ℕ). named n (codes "q")) (sym c.name-name.ensures.name) ∙ sym c.is_query.ensures
          ∙ c.if-is_query.false)
          (ap (λ (n : List ℕ). named n (codes "u")) (sym c.name-name.ensures.name) ∙ sym c.is_change.ensures
          ∙ c.if-is_change.false)
          (ap (λ (n : List ℕ). named n (codes "arrayFilters") || named n (codes "c")) (sym c.name-name.ensures.name)
          ∙ sym c.is_unusable.ensures ∙ c.if-is_unusable.false) (c.other_field.ensures.other c.args.rows.now);
    }
