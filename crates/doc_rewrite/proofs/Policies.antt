-- The site of a mark is read from its rule, and sites by their numbers.
use Rattle.std.proofs.Common.{◌≡◌, ℕ, zero, suc, ◌+◌, ◌<◌, List, [], ◌∷◌, Option, Some, None, slice_get}
use Rattle.std.proofs.Common.{option_map, drop, refl, ap, ◌∙◌, sym, subst, arith, unwrap_or}
use Rattle.std.proofs.lemmas.Option.{slice_get-map}
use Rattle.std.specs.Prelude.{MatchOption}
use Rattle.bson_codec.specs.Borrowed.{At}
use Rattle.bson_splice.specs.Spans.{IsNextAt}
use Rattle.encrypt_schema.specs.declared.command.marks.Mark.{Mark}
use Rattle.encrypt_schema.specs.declared.schema.policy.Policy.{Policy}
use Rattle.encrypt_schema.specs.Language.Row.{Row}
use Rattle.encrypt_schema.proofs.Language.PolicyAt.{policy_found}
use Rattle.payload6.specs.Needs.{Need, Name, name_text, need_by}
use Rattle.doc_rewrite.specs.Plans.{AreRuled}
use Rattle.doc_rewrite.specs.Sites.{Site, site_of, sites_of, spans_of}

pub site_found : (rows : List Row) (d : At) (m : Mark) (policy : Policy) (need : Option Need) (site : Site)
    → option_map (λ (row : Row). row.policy) (slice_get rows m.policy) ≡ Some policy
    → need ≡ need_by policy.key (name_text d m)
    → site ≡ record {
      start = m.start;
      end = m.end;
      algorithm = policy.algorithm;
      need = unwrap_or need (Name []);
    }
    → site ≡ site_of rows d m
site_found rows d m policy need site found named is =
    is
    ∙ ap (λ (o : Option Need). record {
      start = m.start;
      end = m.end;
      algorithm = policy.algorithm;
      need = unwrap_or o (Name []);
    }) named
    ∙ ap (λ (p : Policy). record {
      start = m.start;
      end = m.end;
      algorithm = p.algorithm;
      need = unwrap_or (need_by p.key (name_text d m)) (Name []);
    }) (sym (policy_found m.policy rows policy found))

-- what has a number, and what stands behind it
none_left : {A : Type 0} (i : ℕ) (xs : List A) → slice_get xs i ≡ None → drop i xs ≡ []
none_left zero [] e = refl
none_left (suc i) [] e = refl
none_left zero (x ∷ xs) e = absurd cc
none_left (suc i) (x ∷ xs) e = none_left i xs e

one_left : {A : Type 0} (i : ℕ) (xs : List A) (x : A) → slice_get xs i ≡ Some x → drop i xs ≡ x ∷ drop (i + 1) xs
one_left i [] x e = absurd cc
one_left zero (y ∷ xs) x e = cc
one_left (suc i) (y ∷ xs) x e =
    let turned : suc (i + 1) ≡ suc i + 1 = omega arith in
    subst (λ (k : ℕ). drop i xs ≡ x ∷ drop k (y ∷ xs)) turned (one_left i xs x e)

-- by what is found
pub first_left : {A : Type 0} (i : ℕ) (xs : List A) (found : Option A) → found ≡ slice_get xs i
    → MatchOption found (drop i xs ≡ []) (λ x. drop i xs ≡ x ∷ drop (i + 1) xs)
first_left i xs None e = none_left i xs (sym e)
first_left i xs (Some x) e = one_left i xs x (sym e)

-- the same of what is seen of it
pub seen_left : {A B : Type 0} (see : A → B) (i : ℕ) (xs : List B) (found : Option A)
    → option_map see found ≡ slice_get xs i
    → MatchOption found (drop i xs ≡ []) (λ x. drop i xs ≡ see x ∷ drop (i + 1) xs)
seen_left see i xs None e = none_left i xs (sym e)
seen_left see i xs (Some x) e = one_left i xs (see x) (sym e)

-- where the next site begins
pub next_start : (i : ℕ) (ss : List Site) (found : Option ℕ)
    → found ≡ option_map (λ (s : Site). s.start) (slice_get ss i)
    → MatchOption found (spans_of (drop i ss) ≡ []) (λ at. IsNextAt (spans_of (drop i ss)) at)
next_start zero [] None e = refl
next_start (suc i) [] None e = refl
next_start i [] (Some at) e = absurd cc
next_start zero (s ∷ ss) None e = absurd cc
next_start zero (s ∷ ss) (Some at) e = cc
next_start (suc i) (s ∷ ss) None e = next_start i ss None e
next_start (suc i) (s ∷ ss) (Some at) e = next_start i ss (Some at) e

-- a mark is of a rule that is there
pub ruled_at : (n i : ℕ) (ms : List Mark) (m : Mark) → AreRuled n ms → Some m ≡ slice_get ms i → m.policy < n
ruled_at n i [] m are e = absurd cc
ruled_at n zero (k ∷ ms) m are e =
    let same : k ≡ m = cc in
    subst (λ (x : Mark). x.policy < n) same are.0
ruled_at n (suc i) (k ∷ ms) m are e = ruled_at n i ms m are.1 e

-- the site of a mark is that of its number
pub site_is : (rows : List Row) (d : At) (ms : List Mark) (i : ℕ) (m : Mark) (s : Site) → Some m ≡ slice_get ms i
    → s ≡ site_of rows d m → Some s ≡ slice_get (sites_of rows d ms) i
site_is rows d ms i m s e is =
    ap Some is ∙ ap (option_map (site_of rows d)) e ∙ sym (slice_get-map (site_of rows d) ms i)

pub site_is_none : (rows : List Row) (d : At) (ms : List Mark) (i : ℕ) → None ≡ slice_get ms i
    → None ≡ slice_get (sites_of rows d ms) i
site_is_none rows d ms i e = ap (option_map (site_of rows d)) e ∙ sym (slice_get-map (site_of rows d) ms i)
