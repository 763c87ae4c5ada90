-- A set of the hashes of the names before an element: where these are apart, so are the names.
use Rattle.std.proofs.Common.{◌≡◌, ◌∙◌, ℕ, Bool, true, false, ◌||◌, not, cond, List, [], ◌∷◌, refl, sym, ap, subst}
use Rattle.std.proofs.Common.{⊎_elim, nat_cmp}
use Rattle.std.proofs.lemmas.Bool.{cases_Bool, false≢true}
use Rattle.std.specs.BTreeSet.{BTreeSet, UpdatesBy}
use Rattle.bson_tree.specs.Tree.{Tree, Items, item}
use Rattle.encrypt_schema.specs.Language.Names.{named, is_among}
use Rattle.encrypt_schema.specs.Language.Values.{are_distinct, distinct_behind}
use Rattle.bson_tree.specs.NameNumbers.{hash_of}
use Rattle.encrypt_schema.specs.Views.Hashes.{has_hash}
use Rattle.encrypt_schema.proofs.Language.Few.{told}
use Rattle.encrypt_schema.proofs.Paths.Paths.{named_same}

-- the set has the hashes of the names before, and what is left tells of the whole
pub record Hashed (hashes : BTreeSet ℕ) (left whole : Items) : Type 0 where
  pub before : List (List ℕ)
  pub known : (name : List ℕ) → is_among name before ≡ true → has_hash hashes (hash_of name) ≡ true
  pub read : distinct_behind before left ≡ are_distinct whole

-- at the start there is none
pub none_hashed : (hashes : BTreeSet ℕ) (left whole : Items) → left ≡ whole → Hashed hashes left whole
none_hashed hashes left whole same = record {
  before = [];
  known = λ name y. absurd (false≢true y);
  read = ap (distinct_behind []) same;
}

kept_true : (a b : Bool) → b ≡ true → cond a true b ≡ true
kept_true true b y = refl
kept_true false b y = y

or_right : (a b : Bool) → a ≡ false → (a || b) ≡ true → b ≡ true
or_right true b n y = absurd (false≢true (sym n))
or_right false b n y = y

fresh : (b has : Bool) → (b ≡ true → has ≡ true) → true ≡ not has → b ≡ false
fresh false has h new = refl
fresh true true h new = absurd (false≢true (sym new))
fresh true false h new = absurd (false≢true (h refl))

-- a name whose hash is new is new
pub one_hashed : (old new : BTreeSet ℕ) (hash : ℕ) (name : List ℕ) (t : Tree) (here left whole : Items)
    → Hashed old here whole → here ≡ item name t left → hash ≡ hash_of name
    → UpdatesBy nat_cmp (nat_cmp hash) old new true → true ≡ not (has_hash old hash)
    → Hashed new left whole
one_hashed old new hash name t here left whole f step is h added = record {
  before = name ∷ f.before;
  known = λ other y. ⊎_elim
      (λ same. subst (λ (n : List ℕ). has_hash new (hash_of n) ≡ true) (sym (named_same other name same))
      (subst (λ (k : ℕ). has_hash new k ≡ true) is h.1))
      (λ differs. h.0 (hash_of other) ∙ kept_true _ (has_hash old (hash_of other))
      (f.known other (or_right (named other name) (is_among other f.before) differs y)))
      (cases_Bool (named other name));
  read = sym (told f.before name t here left false step
      (fresh (is_among name f.before) (has_hash old (hash_of name)) (f.known name)
      (subst (λ (k : ℕ). true ≡ not (has_hash old k)) is added))) ∙ f.read;
}
