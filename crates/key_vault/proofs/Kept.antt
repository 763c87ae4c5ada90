-- What is kept was opened under the master key, and stands in its order.
use Rattle.std.proofs.Common.{◌≡◌, ◌∙◌, ℕ, zero, suc, ◌-◌, ◌==◌, length, Bool, true, false, cond, List, [], ◌∷◌, map}
use Rattle.std.proofs.Common.{take, Option, Some, None, Result, Ok, Err, OnOk, OnErr, refl, sym, ap, subst}
use Rattle.std.proofs.Common.{inl, inr}
use Rattle.std.specs.Prelude.{bytes_eq, slice_get, is_some, IfSome, IfOk, IsSome, IsOk, option_map, unwrap_or}
use Rattle.std.specs.Prelude.{if◌then◌else◌}
use Rattle.std.specs.Option.{option_map_or}
use Rattle.std.specs.Cmp.Lexicographic.{bytes_decides}
use Rattle.std.specs.Map.{lookup, lookup_entry, remove_entry}
use Rattle.std.proofs.lemmas.Bool.{false≢true, eqb-true}
use Rattle.fle_aead.specs.Sealed.{opened_message}
use Rattle.lru.specs.LruCache.{LruCache, lru_cache, promoted, put_entries}
use Rattle.lru.proofs.CallerLemmas.{Contains-lookup, Contains-promoted, Contains-put_entries}
use Rattle.data_key.specs.declared.key_doc.KeyDoc.{KeyDoc}
use Rattle.local_kms.specs.Wrapped.{Unwraps, unwrapped, key_of_plain}
use Rattle.key_vault.specs.declared.cache.Opened.{Opened}
use Rattle.key_vault.specs.Cached.{AreOpened, Entry, entry_in, entry_of, found_first, is_kept}
use Rattle.key_vault.specs.Cached.{kept_first, kept_key, key_from, used_first, without, KeepsOpened}

-- a look-up gives what was kept
pub looked_up : (master : List ℕ) (test : List ℕ → Bool) (es : List (List ℕ × Opened)) (v : Opened)
    → AreOpened master es
    → lookup test es ≡ Some v → Unwraps master v.material (Ok v.key)
looked_up master test es v are e = let c = Contains-lookup test es v e in are (c.0, v) c.1

pub promoted_opened : (master : List ℕ) (test : List ℕ → Bool) (es : List (List ℕ × Opened)) → AreOpened master es
    → AreOpened master (promoted test es)
promoted_opened master test es are e c = are e (Contains-promoted test es e c)

put_opened : (master : List ℕ) (eq : List ℕ → List ℕ → Bool) (s : LruCache (List ℕ) Opened) (k : List ℕ) (v : Opened)
    → AreOpened master s.entries
    → Unwraps master v.material (Ok v.key) → AreOpened master (put_entries eq s k v)
put_opened master eq s k v are right e c = elim (Contains-put_entries eq s k v e c) [
  | inl there ↦ are e there
  | inr put ↦ subst (λ (w : Opened). Unwraps master w.material (Ok w.key)) (sym put.0) right
]

-- whether the pair was put or not
pub after_put : {A E : Type 0} (master : List ℕ) (eq : List ℕ → List ℕ
    → Bool) (s n : LruCache (List ℕ) Opened) (k : List ℕ) (v : Opened) (r : Result A E) → AreOpened master s.entries
    → Unwraps master v.material (Ok v.key) → OnOk r (n ≡ lru_cache (put_entries eq s k v) s.cap) → OnErr r (n ≡ s)
    → AreOpened master n.entries
after_put master eq s n k v (Ok x) are right ok err =
    subst (λ (m : LruCache (List ℕ) Opened). AreOpened master m.entries) (sym ok) (put_opened master eq s k v are right)
after_put master eq s n k v (Err x) are right ok err =
    subst (λ (m : LruCache (List ℕ) Opened). AreOpened master m.entries) (sym err) are

pub cap_put : {A E : Type 0} (eq : List ℕ → List ℕ
    → Bool) (s n : LruCache (List ℕ) Opened) (k : List ℕ) (v : Opened) (r : Result A E)
    → OnOk r (n ≡ lru_cache (put_entries eq s k v) s.cap) → OnErr r (n ≡ s) → n.cap ≡ s.cap
cap_put eq s n k v (Ok x) ok err = ap (λ (m : LruCache (List ℕ) Opened). m.cap) ok
cap_put eq s n k v (Err x) ok err = ap (λ (m : LruCache (List ℕ) Opened). m.cap) err

-- ---- the order

map_if : (b : Bool) (xs ys : List (List ℕ × Opened))
    → map entry_of (cond b xs ys) ≡ cond b (map entry_of xs) (map entry_of ys)
map_if true xs ys = refl
map_if false xs ys = refl

removed : (id : List ℕ) (es : List (List ℕ × Opened))
    → map entry_of (remove_entry (bytes_eq id) es) ≡ without id (map entry_of es)
removed id [] = refl
removed id (e ∷ es) =
    map_if (bytes_eq id e.0) es (e ∷ remove_entry (bytes_eq id) es)
    ∙ ap (λ (xs : List Entry). cond (bytes_eq id e.0) (map entry_of es) (entry_of e ∷ xs)) (removed id es)

-- an entry is kept where the look-up finds one
some_if : (b : Bool) (e : List ℕ × Opened) (o : Option (List ℕ × Opened))
    → cond b true (is_some o) ≡ is_some (cond b (Some e) o)
some_if true e o = refl
some_if false e o = refl

kept_found : (id : List ℕ) (es : List (List ℕ × Opened))
    → is_kept id (map entry_of es) ≡ is_some (lookup_entry (bytes_eq id) es)
kept_found id [] = refl
kept_found id (e ∷ es) =
    ap (λ (b : Bool). cond (bytes_eq id e.0) true b) (kept_found id es)
    ∙ some_if (bytes_eq id e.0) e (lookup_entry (bytes_eq id) es)

-- the entry that is found has this id, and the value that the look-up gives
abbrev Found : List ℕ → Option (List ℕ × Opened) → Option Opened → Type 0
Found id None value = value ≡ None
Found id (Some e) value = (e.0 ≡ id) × (value ≡ Some e.1)

found_if : (id : List ℕ) (b : Bool) (e : List ℕ × Opened) (o : Option (List ℕ × Opened)) (v : Option Opened)
    → bytes_eq id e.0 ≡ b → Found id o v
    → Found id (cond b (Some e) o) (cond b (Some e.1) v)
found_if id true e o v same rest = (sym ((bytes_decides id e.0).0 same), refl)
found_if id false e o v same rest = rest

found_entry : (id : List ℕ) (es : List (List ℕ × Opened))
    → Found id (lookup_entry (bytes_eq id) es) (lookup (bytes_eq id) es)
found_entry id [] = refl
found_entry id (e ∷ es) = found_if id (bytes_eq id e.0) e _ _ refl (found_entry id es)

abbrev entry : List ℕ → Opened → Entry
entry id v = record { id = id; material = v.material; key = v.key }

-- the list by what is found
abbrev promoted_to : List ℕ → List (List ℕ × Opened) → Option (List ℕ × Opened) → List (List ℕ × Opened)
promoted_to id es o = option_map_or (λ e. e ∷ remove_entry (bytes_eq id) es) o es

abbrev put_to : List ℕ → Opened → LruCache (List ℕ) Opened → Option (List ℕ × Opened) → List (List ℕ × Opened)
put_to id v s o = option_map_or (λ e. (e.0, v) ∷ remove_entry (bytes_eq id) s.entries) o
    ((id, v) ∷ take (s.cap - 1) s.entries)

-- ---- found by id, and by material

entry_if : (b : Bool) (e : List ℕ × Opened) (x : Option Entry) (o : Option (List ℕ × Opened))
    → x ≡ option_map entry_of o → cond b (Some (entry_of e)) x ≡ option_map entry_of (cond b (Some e) o)
entry_if true e x o rest = refl
entry_if false e x o rest = rest

entry_by : (id : List ℕ) (es : List (List ℕ × Opened))
    → entry_in id (map entry_of es) ≡ option_map entry_of (lookup_entry (bytes_eq id) es)
entry_by id [] = refl
entry_by id (e ∷ es) = entry_if (bytes_eq id e.0) e _ _ (entry_by id es)

-- the data key of a value where it is of this material
abbrev key_of_opened : List ℕ → Option Opened → Option (List ℕ)
key_of_opened material None = None
key_of_opened material (Some v) = if bytes_eq v.material material then Some v.key else None

key_if : (material : List ℕ) (b : Bool) (e : List ℕ × Opened) (x : Option Entry) (o : Option Opened)
    → key_from material x ≡ key_of_opened material o
    → key_from material (cond b (Some (entry_of e)) x) ≡ key_of_opened material (cond b (Some e.1) o)
key_if material true e x o rest = refl
key_if material false e x o rest = rest

key_by : (id material : List ℕ) (es : List (List ℕ × Opened))
    → key_from material (entry_in id (map entry_of es)) ≡ key_of_opened material (lookup (bytes_eq id) es)
key_by id material [] = refl
key_by id material (e ∷ es) = key_if material (bytes_eq id e.0) e _ _ (key_by id material es)

-- what a look-up finds is kept where its material is the key's
pub kept_none : (key : KeyDoc) (es : List (List ℕ × Opened)) → None ≡ lookup (bytes_eq key.id) es
    → None ≡ kept_key key (map entry_of es)
kept_none key es is = ap (key_of_opened key.material) is ∙ sym (key_by key.id key.material es)

pub kept_some : {E : Type 0} (key : KeyDoc) (es : List (List ℕ × Opened)) (v : Opened)
    (r : Result (Option (List ℕ)) E) → Some v ≡ lookup (bytes_eq key.id) es
    → IfOk r (λ k. k ≡ key_of_opened key.material (Some v)) → IfOk r (λ k. k ≡ kept_key key (map entry_of es))
kept_some key es v r is found =
    subst (λ (o : Option (List ℕ)). IfOk r (λ k. k ≡ o))
    (ap (key_of_opened key.material) is ∙ sym (key_by key.id key.material es)) found

-- the value whose data key was found
abbrev HasKey : List ℕ → List ℕ → Option Opened → Type 0
HasKey material key o = (v : Opened) × (o ≡ Some v) × (v.material ≡ material) × (v.key ≡ key)

has_key : (material key : List ℕ) (o : Option Opened) → key_of_opened material o ≡ Some key → HasKey material key o
has_key material key None e = absurd (false≢true (ap is_some e))
has_key material key (Some v) e = by_test (bytes_eq v.material material) refl e
  where
    by_test : (b : Bool) → bytes_eq v.material material ≡ b → cond b (Some v.key) None ≡ Some key
        → HasKey material key (Some v)
    by_test true same e =
        (v, refl, (bytes_decides v.material material).0 same, ap (λ (o : Option (List ℕ)). unwrap_or o key) e)
    by_test false same e = absurd (false≢true (ap is_some e))

kept_value : (key : KeyDoc) (k : List ℕ) (es : List (List ℕ × Opened)) → kept_key key (map entry_of es) ≡ Some k
    → HasKey key.material k (lookup (bytes_eq key.id) es)
kept_value key k es e =
    has_key key.material k (lookup (bytes_eq key.id) es) (sym (key_by key.id key.material es) ∙ e)

kept_opened : (master : List ℕ) (key : KeyDoc) (k : List ℕ) (es : List (List ℕ × Opened)) → AreOpened master es
    → kept_key key (map entry_of es) ≡ Some k → Unwraps master key.material (Ok k)
kept_opened master key k es are e =
    let v = kept_value key k es e in
    subst (λ (m : List ℕ). Unwraps master m (Ok k)) v.2
    (subst (λ (x : List ℕ). Unwraps master v.0.material (Ok x)) v.3
    (looked_up master (bytes_eq key.id) es v.0 are v.1))

-- a key that is kept was opened
pub shared_opened : {E : Type 0} (master : List ℕ) (key : KeyDoc) (r : Result (Option (List ℕ)) E)
    (es : List (List ℕ × Opened)) → AreOpened master es → IfOk r (λ k. k ≡ kept_key key (map entry_of es))
    → IfOk r (λ k. IfSome k (λ x. Unwraps master key.material (Ok x)))
shared_opened master key (Ok (Some k)) es are is = kept_opened master key k es are (sym is)
shared_opened master key (Ok None) es are is = tt
shared_opened master key (Err x) es are is = tt

-- what is promoted is the entry that is used
pub promoted_used : (id : List ℕ) (es : List (List ℕ × Opened))
    → map entry_of (promoted (bytes_eq id) es) ≡ used_first id (map entry_of es)
promoted_used id es = by_entry (lookup_entry (bytes_eq id) es) refl
  where
    by_entry : (o : Option (List ℕ × Opened)) → lookup_entry (bytes_eq id) es ≡ o
        → map entry_of (promoted (bytes_eq id) es) ≡ used_first id (map entry_of es)
    by_entry None is =
        ap (λ (x : Option (List ℕ × Opened)). map entry_of (promoted_to id es x)) is
        ∙ sym (ap (λ (x : Option Entry). found_first x (map entry_of es))
        (entry_by id es ∙ ap (option_map entry_of) is))
    by_entry (Some e) is =
        let found : Found id (Some e) (lookup (bytes_eq id) es) =
        subst (λ (o : Option (List ℕ × Opened)). Found id o (lookup (bytes_eq id) es)) is (found_entry id es) in
        ap (λ (x : Option (List ℕ × Opened)). map entry_of (promoted_to id es x)) is
        ∙ ap (λ (xs : List Entry). entry_of e ∷ xs) (removed id es)
        ∙ ap (λ (i : List ℕ). entry_of e ∷ without i (map entry_of es)) (sym found.0)
        ∙ sym (ap (λ (x : Option Entry). found_first x (map entry_of es))
        (entry_by id es ∙ ap (option_map entry_of) is))

-- ---- the most recently used

-- a look-up finds it where it has the id, and it stays where it is
pub first_looked_up : (id : List ℕ) (es : List (List ℕ × Opened)) (e : List ℕ × Opened) → Some e ≡ slice_get es 0
    → bytes_eq id e.0 ≡ true → Some e.1 ≡ lookup (bytes_eq id) es
first_looked_up id [] e is same = absurd cc
first_looked_up id (f ∷ es) e is same =
    let one : e ≡ f = ap (λ (o : Option (List ℕ × Opened)). unwrap_or o e) is in
    ap (λ (x : List ℕ × Opened). Some x.1) one
    ∙ sym (ap (λ (b : Bool). cond b (Some f.1) (lookup (bytes_eq id) es))
    (subst (λ (x : List ℕ × Opened). bytes_eq id x.0 ≡ true) one same))

pub first_promoted : (id : List ℕ) (es : List (List ℕ × Opened)) (e : List ℕ × Opened) → Some e ≡ slice_get es 0
    → bytes_eq id e.0 ≡ true → es ≡ promoted (bytes_eq id) es
first_promoted id [] e is same = absurd cc
first_promoted id (f ∷ es) e is same =
    let one : e ≡ f = ap (λ (o : Option (List ℕ × Opened)). unwrap_or o e) is in
    sym (ap (λ (b : Bool). option_map_or (λ x. x ∷ cond b es (f ∷ remove_entry (bytes_eq id) es))
    (cond b (Some f) (lookup_entry (bytes_eq id) es)) (f ∷ es))
    (subst (λ (x : List ℕ × Opened). bytes_eq id x.0 ≡ true) one same))

pub none_looked_up : (id : List ℕ) (es : List (List ℕ × Opened)) → None ≡ slice_get es 0
    → None ≡ lookup (bytes_eq id) es
none_looked_up id [] is = refl
none_looked_up id (f ∷ es) is = absurd cc

pub none_promoted : (id : List ℕ) (es : List (List ℕ × Opened)) → None ≡ slice_get es 0
    → es ≡ promoted (bytes_eq id) es
none_promoted id [] is = refl
none_promoted id (f ∷ es) is = absurd cc

-- ---- put
map_take : (n : ℕ) (es : List (List ℕ × Opened)) → map entry_of (take n es) ≡ take n (map entry_of es)
map_take zero es = refl
map_take (suc n) [] = refl
map_take (suc n) (e ∷ es) = ap (λ (xs : List Entry). entry_of e ∷ xs) (map_take n es)

put_by : (id : List ℕ) (v : Opened) (s : LruCache (List ℕ) Opened) (o : Option (List ℕ × Opened)) (w : Option Opened)
    → lookup_entry (bytes_eq id) s.entries ≡ o → Found id o w
    → map entry_of (put_entries bytes_eq s id v) ≡ kept_first s.cap (entry id v) (map entry_of s.entries)
put_by id v s None w is found =
    let here : is_kept id (map entry_of s.entries) ≡ false = kept_found id s.entries ∙ ap is_some is in
    ap (λ (x : Option (List ℕ × Opened)). map entry_of (put_to id v s x)) is
    ∙ ap (λ (xs : List Entry). entry id v ∷ xs) (map_take (s.cap - 1) s.entries)
    ∙ ap (λ (b : Bool). entry id v ∷ cond b (without id (map entry_of s.entries))
    (take (s.cap - 1) (map entry_of s.entries))) (sym here)
put_by id v s (Some e) w is found =
    let here : is_kept id (map entry_of s.entries) ≡ true = kept_found id s.entries ∙ ap is_some is in
    ap (λ (x : Option (List ℕ × Opened)). map entry_of (put_to id v s x)) is
    ∙ ap (λ (i : List ℕ). entry i v ∷ map entry_of (remove_entry (bytes_eq id) s.entries)) found.0
    ∙ ap (λ (xs : List Entry). entry id v ∷ xs) (removed id s.entries)
    ∙ ap (λ (b : Bool). entry id v ∷ cond b (without id (map entry_of s.entries))
    (take (s.cap - 1) (map entry_of s.entries))) (sym here)

none_there : (o : Option (List ℕ × Opened)) (id : List ℕ) (w : Option Opened) → Found id o w → (IsSome w → ⊥)
    → is_some o ≡ false
none_there None id w found nothing = refl
none_there (Some e) id w found nothing = absurd (nothing (ap is_some found.1))

-- whether there was memory or not
pub kept_put : {A E : Type 0} (key : KeyDoc) (opened : List ℕ) (v : Opened) (s n : LruCache (List ℕ) Opened)
    (r : Result A E)
    → v.material ≡ key.material → v.key ≡ opened → OnOk r (n ≡ lru_cache (put_entries bytes_eq s key.id v) s.cap)
    → OnErr r (n ≡ s)
    → (IsSome (lookup (bytes_eq key.id) s.entries) → IsOk r)
    → KeepsOpened s.cap key opened (map entry_of s.entries) (map entry_of n.entries)
kept_put key opened v s n (Ok x) m k ok err sure =
    inl
    (ap (λ (c : LruCache (List ℕ) Opened). map entry_of c.entries) ok
    ∙ put_by key.id v s (lookup_entry (bytes_eq key.id) s.entries) (lookup (bytes_eq key.id) s.entries) refl
    (found_entry key.id s.entries)
    ∙ ap (λ (a : List ℕ). kept_first s.cap (record { id = key.id; material = a; key = v.key })
    (map entry_of s.entries)) m
    ∙ ap (λ (a : List ℕ). kept_first s.cap (record { id = key.id; material = key.material; key = a })
    (map entry_of s.entries)) k)
kept_put key opened v s n (Err x) m k ok err sure =
    inr (
      kept_found key.id s.entries
          ∙ none_there (lookup_entry (bytes_eq key.id) s.entries) key.id (lookup (bytes_eq key.id) s.entries)
          (found_entry key.id s.entries) (λ some. absurd (false≢true (sure some))),
      ap (λ (c : LruCache (List ℕ) Opened). map entry_of c.entries) err,
    )

-- only material of 160 bytes opens
some_if_true : (b : Bool) (o : Option (List ℕ)) (k : List ℕ) → cond b o None ≡ Some k → b ≡ true
some_if_true true o k e = refl
some_if_true false o k e = absurd (false≢true (ap is_some e))

pub unwrapped_long : (master material key : List ℕ) → Unwraps master material (Ok key) → length material ≡ 160
unfolding unwrapped
unwrapped_long master material key u =
    eqb-true (length material) 160 (some_if_true (length material == 160)
    (key_of_plain (opened_message master [] material)) key u.opened)
