-- A document of which nothing is sealed.
use Rattle.std.proofs.Common.{◌≡◌, ℕ, ◌+◌, List, [], length, arith, refl, subst, sym}
use Rattle.bson_tree.specs.Spelling.{doc_bytes}
use Rattle.bson_codec.specs.Borrowed.{At}
use Rattle.bson_splice.specs.Splices.{Put}
use Rattle.bson_splice.specs.Takes.{Takes}
use Rattle.bson_splice.specs.Whole.{StandsAt}
use Rattle.bson_splice.proofs.Fitting.{none_fit}
use Rattle.doc_rewrite.specs.Plans.{StandsFor}
use Rattle.doc_rewrite.proofs.Growth.{sealed_long}
use Rattle.doc_rewrite.proofs.Judged.{none_among}

none_stand : (d : At) → StandsAt [] d
none_stand d ps f =
    subst (λ (qs : List Put). Takes (d.start + 4) d.tree qs []) (sym (none_fit ps f))
    (none_among (d.start + 4) d.tree [])

pub clear_stands : (d : At) (n : ℕ) → n ≡ length (doc_bytes d.tree)
    → StandsFor (record { sites = []; marks = []; rows = []; size = n }) d
clear_stands d n long = record {
  places = none_stand d;
  own = refl;
  size = sealed_long [] d (none_stand d) n (omega (arith, long)) tt;
}
