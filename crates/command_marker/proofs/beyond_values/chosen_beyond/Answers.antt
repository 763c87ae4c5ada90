use Rattle.std.proofs.Common.{◌≡◌, ◌∙◌, ℕ, List, codes, true, false, ap, sym}
use Rattle.encrypt_schema.specs.Language.Names.{named}
use Rattle.command_marker.proofs.BeyondTests.{chosen_by}
use Rattle.command_marker.proofs.beyond_values.chosen_beyond.Goals as goal

pub returns-then-is_slice : goal.returns-then-is_slice
returns-then-is_slice c =
    let name = c.args.item.now.name in
    let slice : named name (codes "$slice") ≡ true = ap (λ (n : List ℕ). named n (codes "$slice"))
    (sym c.name.ensures.name) ∙ sym c.is_slice.ensures ∙ c.if-is_slice.true in
    record { beyond = c.slice_beyond.ensures.beyond ∙ sym (chosen_by name c.args.item.now.tree true slice) }

pub returns : goal.returns
returns c =
    let name = c.args.item.now.name in
    let slice : named name (codes "$slice") ≡ false = ap (λ (n : List ℕ). named n (codes "$slice"))
    (sym c.name.ensures.name) ∙ sym c.is_slice.ensures ∙ c.if-is_slice.false in
    record { beyond = c.meta_beyond.ensures.beyond ∙ sym (chosen_by name c.args.item.now.tree false slice) }
