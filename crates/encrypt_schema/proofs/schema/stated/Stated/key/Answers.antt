-- The setting of `encrypt`, or else that of `encryptMetadata`.
use Rattle.std.proofs.Common.{◌∙◌, Option, ap}
use Rattle.std.specs.Prelude.{option_and_then}
use Rattle.bson_tree.specs.Tree.{Tree}
use Rattle.bson_codec.specs.Borrowed.{At}
use Rattle.encrypt_schema.specs.Language.Rules.{or_child}
use Rattle.encrypt_schema.specs.Views.Gathered.{Gathered, found_seen, gathered_of}
use Rattle.encrypt_schema.proofs.Language.Gathered.{key_stated}
use Rattle.encrypt_schema.proofs.schema.stated.Stated.key.Goals as goal

abbrev second : Gathered → Option Tree
second g = option_and_then (λ r. r.key) g.metadata

pub returns-in-Some : goal.returns-in-Some
returns-in-Some c = record {
  setting =
      ap (λ (o : Option Tree). or_child o (second (found_seen c.self.inside.found))) c.in-Some.ensures.setting
      ∙ key_stated (found_seen c.self.inside.found) c.args.self.now.tree
      (c.self.invariant ∙ ap (λ (d : At). gathered_of d.tree) c.self.view_is);
}

pub returns-in-None : goal.returns-in-None
returns-in-None c = record {
  setting =
      c.key_in-in-None.ensures.setting
      ∙ ap (λ (o : Option Tree). or_child o (second (found_seen c.self.inside.found))) c.in-None.ensures.setting
      ∙ key_stated (found_seen c.self.inside.found) c.args.self.now.tree
      (c.self.invariant ∙ ap (λ (d : At). gathered_of d.tree) c.self.view_is);
}
