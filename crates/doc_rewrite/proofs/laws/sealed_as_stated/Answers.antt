use Rattle.doc_rewrite.proofs.SealedAsStated.{as_stated}
use Rattle.doc_rewrite.proofs.laws.sealed_as_stated.Goals as goal

pub returns : goal.returns
returns c = record { sealed = λ keys rows d blocks bytes are had. as_stated keys rows d blocks bytes are had }
