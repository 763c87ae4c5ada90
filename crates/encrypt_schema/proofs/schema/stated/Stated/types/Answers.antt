-- The setting of `encrypt` alone.
use Rattle.std.proofs.Common.{◌∙◌, ap}
use Rattle.bson_codec.specs.Borrowed.{At}
use Rattle.encrypt_schema.specs.Views.Gathered.{found_seen, gathered_of}
use Rattle.encrypt_schema.proofs.Language.Gathered.{types_stated}
use Rattle.encrypt_schema.proofs.schema.stated.Stated.types.Goals as goal

pub returns : goal.returns
returns c = record {
  setting =
      c.types_in.ensures.setting
      ∙ types_stated (found_seen c.self.inside.found) c.args.self.now.tree
      (c.self.invariant ∙ ap (λ (d : At). gathered_of d.tree) c.self.view_is);
}
