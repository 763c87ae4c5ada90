use Rattle.std.proofs.Common.{◌≡◌, List, sym, subst}
use Rattle.std.specs.Prelude.{MatchResult}
use Rattle.encrypt_schema.specs.declared.schema.faults.InfoFault.TheVariants as errors
use Rattle.encrypt_schema.specs.Language.Collection.{Collection}
use Rattle.encrypt_schema.proofs.Language.Numbered.{found_none}
use Rattle.encrypt_schema.proofs.Language.Placed.{put_behind}
use Rattle.encrypt_schema.proofs.schema.collections.Infos.put_new.Goals as goal

pub add-requires-clause-new : goal.add-requires-clause-new
add-requires-clause-new c = found_none c.args.self.now c.args.info.name c.requires.new

pub returns : goal.returns
returns c = record {
  put = subst
      (λ (ds : List Collection). MatchResult c.add.result (λ _. c.add.new.self ≡ ds)
      (λ e. (e ≡ errors.Memory) × (c.add.new.self ≡ c.args.self.now)))
      (sym (put_behind c.args.info c.args.self.now (found_none c.args.self.now c.args.info.name c.requires.new)))
      c.add.ensures.added;
}
