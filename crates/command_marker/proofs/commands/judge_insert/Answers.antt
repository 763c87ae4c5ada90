use Rattle.std.proofs.Common.{◌∙◌, ℕ, List, codes, sym, ap, take}
use Rattle.encrypt_schema.specs.Commands.Visits.{names_of}
use Rattle.encrypt_schema.specs.Language.Names.{named}
use Rattle.command_marker.proofs.Judged.{documents_read, insert_other}
use Rattle.command_marker.proofs.commands.judge_insert.Goals as goal

pub returns-then-is_documents : goal.returns-then-is_documents
returns-then-is_documents c =
    let elder = take c.args.k (names_of c.args.document.now.tree) in
    let name = c.args.item.now.name in
    let t = c.args.item.now.tree in
    record {
      judged = λ rows. documents_read rows elder name t c.read_array.result
          (ap (λ (n : List ℕ). named n (codes "documents")) (sym c.name-name.ensures.name) ∙ sym c.is_documents.ensures
          ∙ c.if-is_documents.true) c.read_array.ensures.read;
    }

pub returns : goal.returns
returns c =
    let elder = take c.args.k (names_of c.args.document.now.tree) in
    let name = c.args.item.now.name in
    let t = c.args.item.now.tree in
    record {
      judged = λ rows. insert_other rows elder name t c.other_field.result
          (ap (λ (n : List ℕ). named n (codes "documents")) (sym c.name-name.ensures.name) ∙ sym c.is_documents.ensures
          ∙ c.if-is_documents.false) (c.other_field.ensures.other rows);
    }
