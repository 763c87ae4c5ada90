use Rattle.std.proofs.Common.{◌≡◌}
use Rattle.encrypt_schema.specs.Views.Gathered.{no_settings, settings_behind, settings_seen}
use Rattle.encrypt_schema.proofs.schema.settings.settings_in.Given as goal

abbrev pub invariant-loop-item : goal.invariant-loop-item
invariant-loop-item l = settings_behind l.typed (settings_seen l.settings) l.item-iterator.tree
    ≡ settings_behind l.typed no_settings l.document.tree
