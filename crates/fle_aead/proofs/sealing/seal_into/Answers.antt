use Rattle.std.proofs.Common.{◌<◌, refl, rules}
use Rattle.std.proofs.lemmas.List.Elements.{All-from_get_or}
use Rattle.aes_block.proofs.WordBytes.{block_from}
use Rattle.fle_aead.proofs.sealing.seal_into.Goals as goal

pub returns : goal.returns
returns g c = record {
  sealed = record {
    iv_block = block_from c.args.iv (search rules) (search rules);
    plain = All-from_get_or (λ b. b < 256) c.args.plain.now 0 (λ i _. search rules);
    form = rw (c.copy_from_slice.ensures.after, c.tag.ensures, c.seal_body.ensures) refl;
  };
}
