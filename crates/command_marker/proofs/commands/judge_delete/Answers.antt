use Rattle.std.proofs.Common.{◌∙◌, ℕ, List, codes, Some, sym, ap, take}
use Rattle.encrypt_schema.specs.Commands.Visits.{names_of}
use Rattle.encrypt_schema.specs.Language.Names.{named}
use Rattle.command_marker.proofs.Judged.{deletes_read, delete_let_unusable, delete_other}
use Rattle.command_marker.proofs.commands.judge_delete.Goals as goal

pub returns-then-is_deletes : goal.returns-then-is_deletes
returns-then-is_deletes c =
    let elder = take c.args.k (names_of c.args.document.now.tree) in
    let name = c.args.item.now.name in
    let t = c.args.item.now.tree in
    record {
      judged = λ rows. deletes_read rows elder name t c.read_array.result
          (ap (λ (n : List ℕ). named n (codes "deletes")) (sym c.name-name.ensures.name) ∙ sym c.is_deletes.ensures
          ∙ c.if-is_deletes.true) c.read_array.ensures.read;
    }

pub returns-then-is_let : goal.returns-then-is_let
returns-then-is_let c =
    let elder = take c.args.k (names_of c.args.document.now.tree) in
    let name = c.args.item.now.name in
    let t = c.args.item.now.tree in
    record {
      judged = λ rows. ap Some c.unusable.ensures.reason
          ∙ delete_let_unusable rows elder name t (ap (λ (n : List ℕ). named n (codes "let"))
          (sym c.name-name.ensures.name) ∙ sym c.is_let.ensures ∙ c.if-is_let.true);
    }

pub returns : goal.returns
returns c =
    let elder = take c.args.k (names_of c.args.document.now.tree) in
    let name = c.args.item.now.name in
    let t = c.args.item.now.tree in
    record {
      judged = λ rows. delete_other rows elder name t c.other_field.result
          (ap (λ (n : List ℕ). named n (codes "deletes")) (sym c.name-name.ensures.name) ∙ sym c.is_deletes.ensures
          ∙ c.if-is_deletes.false)
          (ap (λ (n : List ℕ). named n (codes "let")) (sym c.name-name.ensures.name) ∙ sym c.is_let.ensures
          ∙ c.if-is_let.false) (c.other_field.ensures.other rows);
    }
