use Rattle.std.proofs.Common.{◌∙◌, ℕ, List, codes, Some, sym, ap, take}
use Rattle.encrypt_schema.specs.Commands.Visits.{names_of}
use Rattle.encrypt_schema.specs.Language.Names.{named}
use Rattle.command_marker.proofs.Judged.{updates_read, update_let_unusable, update_other}
use Rattle.command_marker.proofs.commands.judge_update.Goals as goal

pub returns-then-is_updates : goal.returns-then-is_updates
returns-then-is_updates c =
    let elder = take c.args.k (names_of c.args.document.now.tree) in
    let name = c.args.item.now.name in
    let t = c.args.item.now.tree in
    record {
      judged = λ rows. updates_read rows elder name t c.read_array.result
          (ap (λ (n : List ℕ). named n (codes "updates")) (sym c.name-name.ensures.name) ∙ sym c.is_updates.ensures
          ∙ c.if-is_updates.true) c.read_array.ensures.read;
    }

pub returns-then-is_let : goal.returns-then-is_let
returns-then-is_let c =
    let elder = take c.args.k (names_of c.args.document.now.tree) in
    let name = c.args.item.now.name in
    let t = c.args.item.now.tree in
    record {
      judged = λ rows. ap Some c.unusable.ensures.reason
          ∙ update_let_unusable rows elder name t (ap (λ (n : List ℕ). named n (codes "let"))
          (sym c.name-name.ensures.name) ∙ sym c.is_let.ensures ∙ c.if-is_let.true);
    }

pub returns : goal.returns
returns c =
    let elder = take c.args.k (names_of c.args.document.now.tree) in
    let name = c.args.item.now.name in
    let t = c.args.item.now.tree in
    record {
      judged = λ rows. update_other rows elder name t c.other_field.result
          (ap (λ (n : List ℕ). named n (codes "updates")) (sym c.name-name.ensures.name) ∙ sym c.is_updates.ensures
          ∙ c.if-is_updates.false)
          (ap (λ (n : List ℕ). named n (codes "let")) (sym c.name-name.ensures.name) ∙ sym c.is_let.ensures
          ∙ c.if-is_let.false) (c.other_field.ensures.other rows);
    }
