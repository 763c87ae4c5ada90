-- No document that is opened draws a block.
use Rattle.std.proofs.Common.{◌≡◌, Result, Ok, Err, refl}
use Rattle.bson_tree.specs.Tree.{Items}
use Rattle.doc_rewrite.specs.Opened.{Keyring, opened}
use Rattle.encrypt_schema.specs.Commands.Visits.{Refusal}
use Rattle.fle_engine.specs.Opening.{open_ruling, opened_or}
use Rattle.fle_engine.specs.Rulings.{at_front}
use Rattle.fle_runner.specs.Decrypt.{decrypt_verdict}
use Rattle.fle_runner.specs.Verdicts.{as_verdict}
use Rattle.fle_stream.specs.Plan.{DrawsNone, draws_in}

opened_draws : (d : Items) (o : Result Items Refusal) → draws_in (as_verdict d (opened_or o)) ≡ 0
opened_draws d (Ok e) = refl
opened_draws d (Err r) = refl

pub decrypt_draws : (keys : Keyring) → DrawsNone (decrypt_verdict keys)
unfolding decrypt_verdict open_ruling
decrypt_draws keys = λ d. opened_draws d (opened keys (at_front d))
