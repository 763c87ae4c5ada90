use Rattle.std.proofs.Common.{◌∙◌, ℕ, List, codes, sym, ap, take}
use Rattle.encrypt_schema.specs.Commands.Visits.{names_of}
use Rattle.encrypt_schema.specs.Language.Names.{named}
use Rattle.command_marker.proofs.Judged.{delete_query_read, delete_item_other}
use Rattle.command_marker.proofs.items.judge_delete_item.Goals as goal

pub returns-then-is_query : goal.returns-then-is_query
returns-then-is_query c =
    let elder = take c.args.k (names_of c.args.document.now.tree) in
    let name = c.args.item.now.name in
    let t = c.args.item.now.tree in
    record {
      judged = λ rows. delete_query_read rows elder name t c.read_document.result
          (ap (λ (n : List ℕ). named n (codes "q")) (sym c.name-name.ensures.name) ∙ sym c.is_query.ensures
          ∙ c.if-is_query.true) c.read_document.ensures.read;
    }

pub returns : goal.returns
returns c =
    let elder = take c.args.k (names_of c.args.document.now.tree) in
    let name = c.args.item.now.name in
    let t = c.args.item.now.tree in
    record {
      judged = λ rows. delete_item_other rows elder name t c.other_field.result
          (ap (λ (n : List ℕ). named n (codes "q")) (sym c.name-name.ensures.name) ∙ sym c.is_query.ensures
          ∙ c.if-is_query.false) (c.other_field.ensures.other rows);
    }
