-- The collection has that name.
use Rattle.std.proofs.Common.{◌∙◌, ap}
use Rattle.std.specs.Option.{option_copied}
use Rattle.fle_demo.proofs.Infos.{not_none, only_found}
use Rattle.fle_demo.proofs.line.only_info.Goals as goal

pub unreachable-requires : goal.unreachable-requires
unreachable-requires c =
    let alone = c.requires.alone.1 in
    not_none (option_copied c.info_of.result) alone.collection (ap option_copied c.in-None.is)
    (c.info_of.ensures.named
    ∙ only_found c.requires.alone.0 c.args.infos.now alone alone.collection alone.only)
