-- What becomes of the list where the entry of an id was used first.
use Rattle.std.proofs.Common.{◌≡◌, ◌∙◌, ℕ, ◌-◌, Bool, true, false, cond, List, [], ◌∷◌, take, Option, Some, None}
use Rattle.std.proofs.Common.{Result, Ok, Err, OnErr, refl, sym, ap, subst, inl, inr}
use Rattle.std.specs.Prelude.{bytes_eq, is_some, IfOk, unwrap_or}
use Rattle.std.specs.Cmp.Lexicographic.{bytes_decides}
use Rattle.std.proofs.lemmas.Bool.{false≢true}
use Rattle.data_key.specs.declared.key_doc.KeyDoc.{KeyDoc}
use Rattle.key_vault.specs.Cached.{Entry, entry_in, found_first, is_kept, kept_first, kept_key, key_from}
use Rattle.key_vault.specs.Cached.{used_first, without, Keeps, KeepsOpened}

-- an entry that was found has the id
abbrev HasId : List ℕ → Option Entry → Type 0
HasId id None = Unit {0}
HasId id (Some e) = id ≡ e.id

has_id_if : (id : List ℕ) (b : Bool) (e : Entry) (x : Option Entry) → bytes_eq id e.id ≡ b → HasId id x
    → HasId id (cond b (Some e) x)
has_id_if id true e x same rest = (bytes_decides id e.id).0 same
has_id_if id false e x same rest = rest

has_id : (id : List ℕ) (es : List Entry) → HasId id (entry_in id es)
has_id id [] = tt
has_id id (e ∷ es) = has_id_if id (bytes_eq id e.id) e _ refl (has_id id es)

-- an entry is kept where one is found
kept_in : (id : List ℕ) (es : List Entry) → is_kept id es ≡ is_some (entry_in id es)
kept_in id [] = refl
kept_in id (e ∷ es) =
    ap (λ (b : Bool). cond (bytes_eq id e.id) true b) (kept_in id es)
    ∙ some_in (bytes_eq id e.id) e (entry_in id es)
  where
    some_in : (b : Bool) (e : Entry) (o : Option Entry) → cond b true (is_some o) ≡ is_some (cond b (Some e) o)
    some_in true e o = refl
    some_in false e o = refl

used_by : (capacity : ℕ) (key : KeyDoc) (k : List ℕ) (es : List Entry) (o : Option Entry) → entry_in key.id es ≡ o
    → HasId key.id o → key_from key.material o ≡ Some k
    → found_first o es ≡ kept_first capacity (record { id = key.id; material = key.material; key = k }) es
used_by capacity key k es None is has e = absurd (false≢true (ap is_some e))
used_by capacity key k es (Some f) is has e = by_test (bytes_eq f.material key.material) refl e
  where
    by_test : (b : Bool) → bytes_eq f.material key.material ≡ b → cond b (Some f.key) None ≡ Some k
        → f ∷ without f.id es
        ≡ kept_first capacity (record { id = key.id; material = key.material; key = k }) es
    by_test true same e =
        ap (λ (i : List ℕ). (record { id = i; material = f.material; key = f.key }) ∷ without i es) (sym has)
        ∙ ap (λ (m : List ℕ). (record { id = key.id; material = m; key = f.key }) ∷ without key.id es)
        ((bytes_decides f.material key.material).0 same)
        ∙ ap (λ (x : Option (List ℕ)). (record {
          id = key.id;
          material = key.material;
          key = unwrap_or x k;
        }) ∷ without key.id es) e
        ∙ ap (λ (b : Bool). (record { id = key.id; material = key.material; key = k })
        ∷ cond b (without key.id es) (take (capacity - 1) es)) (sym (kept_in key.id es ∙ ap is_some is))
    by_test false same e = absurd (false≢true (ap is_some e))

-- a key that is used goes first as one that was opened
pub used_kept : (capacity : ℕ) (key : KeyDoc) (k : List ℕ) (es : List Entry) → kept_key key es ≡ Some k
    → used_first key.id es ≡ kept_first capacity (record { id = key.id; material = key.material; key = k }) es
used_kept capacity key k es e = used_by capacity key k es (entry_in key.id es) refl (has_id key.id es) e

-- a key that is put goes first, whether what was kept under its id was used before or not
put_used : (capacity : ℕ) (e : Entry) (es : List Entry) (o : Option Entry) → entry_in e.id es ≡ o → HasId e.id o
    → kept_first capacity e (found_first o es) ≡ kept_first capacity e es
put_used capacity e es None is has = refl
put_used capacity e es (Some f) is has =
    let one : bytes_eq e.id f.id ≡ true = (bytes_decides e.id f.id).1 has in
    ap (λ (b : Bool). e ∷ cond (cond b true (is_kept e.id (without f.id es)))
    (cond b (without f.id es) (f ∷ without e.id (without f.id es))) (take (capacity - 1) (f ∷ without f.id es))) one
    ∙ ap (λ (i : List ℕ). e ∷ without i es) (sym has)
    ∙ ap (λ (b : Bool). e ∷ cond b (without e.id es) (take (capacity - 1) es)) (sym (kept_in e.id es ∙ ap is_some is))

-- where none is kept under the id, nothing moves
new_used : (id : List ℕ) (es : List Entry) (o : Option Entry) → HasId id o → is_kept id (found_first o es) ≡ false
    → found_first o es ≡ es
new_used id es None has new = refl
new_used id es (Some f) has new =
    absurd (false≢true (sym new ∙ ap (λ (b : Bool). cond b true (is_kept id (without f.id es)))
    ((bytes_decides id f.id).1 has)))

kept_used : (capacity : ℕ) (key : KeyDoc) (k : List ℕ) (es now : List Entry)
    → KeepsOpened capacity key k (used_first key.id es) now → KeepsOpened capacity key k es now
kept_used capacity key k es now kept = elim kept [
  | inl first ↦ inl (first
      ∙ put_used capacity (record { id = key.id; material = key.material; key = k }) es (entry_in key.id es) refl
      (has_id key.id es))
  | inr left ↦
      let same : used_first key.id es ≡ es =
      new_used key.id es (entry_in key.id es) (has_id key.id es) left.0 in
      inr (subst (λ (xs : List Entry). is_kept key.id xs ≡ false) same left.0, left.1 ∙ same)
]

-- so a key that is opened after a look-up leaves what one that is opened without it leaves
pub keeps_used : {E : Type 0} (capacity room : ℕ) (key : KeyDoc) (before used now : List Entry)
    (r : Result (List ℕ) E)
    → room ≡ capacity → used ≡ used_first key.id before → IfOk r (λ k. KeepsOpened room key k used now)
    → OnErr r (now ≡ used)
    → Keeps capacity key before now r
keeps_used capacity room key before used now (Ok k) same is kept refused =
    kept_used capacity key k before now
    (subst (λ (es : List Entry). KeepsOpened capacity key k es now) is
    (subst (λ (n : ℕ). KeepsOpened n key k used now) same kept))
keeps_used capacity room key before used now (Err x) same is kept refused = refused ∙ is
