use Rattle.std.proofs.Common.{◌∙◌, ℕ, List, codes, ◌||◌, Some, sym, ap, take}
use Rattle.encrypt_schema.specs.Commands.Visits.{names_of}
use Rattle.encrypt_schema.specs.Language.Names.{named}
use Rattle.command_marker.proofs.Judged.{filter_read, projection_read, find_unusable, find_other}
use Rattle.command_marker.proofs.commands.judge_find.Goals as goal

pub returns-then-is_filter : goal.returns-then-is_filter
returns-then-is_filter c =
    let elder = take c.args.k (names_of c.args.document.now.tree) in
    let name = c.args.item.now.name in
    let t = c.args.item.now.tree in
    record {
      judged = λ rows. filter_read rows elder name t c.read_document.result
          (ap (λ (n : List ℕ). named n (codes "filter")) (sym c.name-name.ensures.name) ∙ sym c.is_filter.ensures
          ∙ c.if-is_filter.true) c.read_document.ensures.read;
    }

pub returns-then-is_projection : goal.returns-then-is_projection
returns-then-is_projection c =
    let elder = take c.args.k (names_of c.args.document.now.tree) in
    let name = c.args.item.now.name in
    let t = c.args.item.now.tree in
    record {
      judged = λ rows. projection_read rows elder name t
          c.read_document-then-is_projection.result
          (ap (λ (n : List ℕ). named n (codes "projection")) (sym c.name-name.ensures.name)
          ∙ sym c.is_projection.ensures ∙ c.if-is_projection.true) c.read_document-then-is_projection.ensures.read;
    }

pub returns-then-is_unusable : goal.returns-then-is_unusable
returns-then-is_unusable c =
    let elder = take c.args.k (names_of c.args.document.now.tree) in
    let name = c.args.item.now.name in
    let t = c.args.item.now.tree in
    record {
      judged = λ rows. ap Some c.unusable.ensures.reason
          ∙ find_unusable rows elder name t (ap (λ (n : List ℕ). named n (codes "min") ||
          (named n (codes "max") || named n (codes "let"))) (sym c.name-name.ensures.name) ∙ sym c.is_unusable.ensures
          ∙ c.if-is_unusable.true);
    }

pub returns : goal.returns
returns c =
    let elder = take c.args.k (names_of c.args.document.now.tree) in
    let name = c.args.item.now.name in
    let t = c.args.item.now.tree in
    record {
      judged = λ rows. find_other rows elder name t c.other_field.result
          (ap (λ (n : List ℕ). named n (codes "filter")) (sym c.name-name.ensures.name) ∙ sym c.is_filter.ensures
          ∙ c.if-is_filter.false)
          (ap (λ (n : List ℕ). named n (codes "projection")) (sym c.name-name.ensures.name)
          ∙ sym c.is_projection.ensures ∙ c.if-is_projection.false)
          (ap (λ (n : List ℕ). named n (codes "min") || (named n (codes "max") || named n (codes "let")))
          (sym c.name-name.ensures.name) ∙ sym c.is_unusable.ensures ∙ c.if-is_unusable.false)
          (c.other_field.ensures.other rows);
    }
