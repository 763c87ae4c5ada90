use Rattle.doc_rewrite.proofs.OpensAgain.{spelled_again, stations_of}
use Rattle.doc_rewrite.proofs.laws.sealing_is_spelled.Goals as goal

pub returns : goal.returns
returns c = record {
  spelled = λ keys rows d e doc h fits. spelled_again keys rows d e doc (stations_of keys rows d e h) fits;
}
