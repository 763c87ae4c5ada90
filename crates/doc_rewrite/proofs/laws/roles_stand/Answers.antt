use Rattle.doc_rewrite.proofs.Names.{clean_named, ids_named}
use Rattle.doc_rewrite.proofs.Stands.{marks_stand}
use Rattle.doc_rewrite.proofs.laws.roles_stand.Goals as goal

pub returns : goal.returns
returns c = record {
  stand = λ rows d none. marks_stand rows d (clean_named rows d none);
  by_ids = λ rows d h. marks_stand rows d (ids_named rows d h);
}
