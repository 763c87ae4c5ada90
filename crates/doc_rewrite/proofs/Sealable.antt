-- Where no place of a command has an offence of the content pass, each protected value has a type that may be sealed.
use Rattle.std.proofs.Common.{◌≡◌, ℕ, ◌+◌, Bool, true, false, List, [], ◌∷◌, ◌++◌, length, Option, Some, None}
use Rattle.std.proofs.Common.{refl, arith}
use Rattle.std.specs.Prelude.{◌||◌}
use Rattle.bson_tree.specs.Tree.{Tree, leaf, node, Items, no_items, item, tag_of}
use Rattle.bson_tree.specs.Spelling.{value_bytes}
use Rattle.encrypt_schema.specs.declared.command.reason.Reason.{Reason}
use Rattle.encrypt_schema.specs.Commands.Offences.{when, is_never_allowed, stored, of_role, reasons_at, least}
use Rattle.encrypt_schema.specs.Commands.Offences.{first_reason, ruled_offence, content_offence}
use Rattle.encrypt_schema.specs.Commands.Pointers.{Targets, pointed}
use Rattle.encrypt_schema.specs.Commands.Stations.{Entry, Station, Store, Compare, station}
use Rattle.encrypt_schema.specs.Commands.Visits.{entry, Visit, visits_in, visits, Refusal, or_else, refused_at}
use Rattle.encrypt_schema.specs.Commands.Visits.{content_of, first_refusal}
use Rattle.encrypt_schema.specs.Language.Row.{Row}
use Rattle.encrypt_schema.proofs.Commands.Ruled.{IsRuled, station_ruled}
use Rattle.payload6.specs.Opening.{is_single}
use Rattle.doc_rewrite.specs.SealedTrees.{rule_of}
use Rattle.doc_rewrite.proofs.Covered.{CoveredBy, CoveredIn, AreCovered}

none_least : (rs : List Reason) → least rs ≡ None → rs ≡ []
none_least [] e = refl
none_least (r ∷ rs) e = absurd cc

first_off : (b : Bool) (r : Reason) (rest : List Reason) → when b r ++ rest ≡ [] → b ≡ false
first_off true r rest e = absurd cc
first_off false r rest e = refl

left_off : (a b : Bool) → (a || b) ≡ false → a ≡ false
left_off true b e = absurd cc
left_off false b e = refl

left_nil : (xs ys : List Reason) → xs ++ ys ≡ [] → xs ≡ []
left_nil [] ys e = refl
left_nil (x ∷ xs) ys e = absurd cc

stored_type : (rows : List Row) (i : ℕ) (e : Entry) → stored rows i e ≡ [] → is_never_allowed e.tag ≡ false
stored_type rows i e h = left_off (is_never_allowed e.tag) _ (first_off _ _ _ h)

-- by the place's own station
own_type : (rows : List Row) (s : Station) (e : Entry) (i : ℕ) → rule_of s ≡ Some i → of_role rows s e ≡ []
    → is_never_allowed e.tag ≡ false
own_type rows (Store j) e i r h = stored_type rows j e h
own_type rows (Compare j) e i r h = stored_type rows j e (left_nil (stored rows j e) _ (left_nil _ _ h))
own_type rows _ e i r h = absurd cc

below_none : (s : Station) (i : ℕ) → rule_of s ≡ Some i → IsRuled 0 s → ⊥
below_none (Store j) i r h = absurd (omega (arith, h))
below_none (Compare j) i r h = absurd (omega (arith, h))
below_none _ i r h = absurd cc

no_first : (a b : Option Reason) → first_reason a b ≡ None → a ≡ None
no_first None b e = refl
no_first (Some r) b e = absurd cc

-- without rules nothing is protected
pub role_type : (rows : List Row) (s : Station) (ts : Targets) (elder : List (List ℕ)) (e : Entry) (i : ℕ)
    → IsRuled (length rows) s → rule_of (station rows s e) ≡ Some i → content_offence rows ts s elder e ≡ None
    → is_never_allowed e.tag ≡ false
unfolding ruled_offence
role_type [] s ts elder e i ruled r h = absurd (below_none (station [] s e) i r (station_ruled [] s e ruled))
role_type (row ∷ rows) s ts elder e i ruled r h =
    own_type (row ∷ rows) (station (row ∷ rows) s e) e i r
    (left_nil (of_role (row ∷ rows) (station (row ∷ rows) s e) e) _ (none_least (reasons_at (row ∷ rows) s elder e)
    (no_first (least (reasons_at (row ∷ rows) s elder e)) _ h)))

pub first_none : (a b : Option Refusal) → or_else a b ≡ None → a ≡ None
first_none None b e = refl
first_none (Some x) b e = absurd cc

pub later_none : (a b : Option Refusal) → or_else a b ≡ None → b ≡ None
later_none None b e = e
later_none (Some x) b e = absurd cc

pub offence_none : (at : ℕ) (o : Option Reason) → refused_at at o ≡ None → o ≡ None
offence_none at None e = refl
offence_none at (Some r) e = absurd cc

module _ (rows : List Row) where
  front_none : (vs ws : List Visit) → first_refusal (content_of rows) (vs ++ ws) ≡ None
      → first_refusal (content_of rows) vs ≡ None
  front_none [] ws e = refl
  front_none (v ∷ vs) ws e =
      rw (first_none (refused_at v.start (content_of rows v)) _ e)
      (front_none vs ws (later_none (refused_at v.start (content_of rows v)) _ e))

  back_none : (vs ws : List Visit) → first_refusal (content_of rows) (vs ++ ws) ≡ None
      → first_refusal (content_of rows) ws ≡ None
  back_none [] ws e = e
  back_none (v ∷ vs) ws e = back_none vs ws (later_none (refused_at v.start (content_of rows v)) _ e)

module _ (S : ℕ → Tree → Tree → Type 0) (rows : List Row) where
  -- related, and of a type that may be sealed
  abbrev pub Sealable : ℕ → Tree → Tree → Type 0
  Sealable i t u = S i t u × (is_single (tag_of t) ≡ false)

  fine_leaf : (s : Station) (ts : Targets) (elder : List (List ℕ)) (name : List ℕ) (tag : ℕ) (bytes : List ℕ)
      (u : Tree) (o : Option ℕ)
      → IsRuled (length rows) s → rule_of (station rows s (entry name (leaf tag bytes))) ≡ o
      → content_offence rows ts s elder (entry name (leaf tag bytes)) ≡ None
      → CoveredBy S o (leaf tag bytes) u (u ≡ leaf tag bytes)
      → CoveredBy Sealable o (leaf tag bytes) u (u ≡ leaf tag bytes)
  fine_leaf s ts elder name tag bytes u (Some i) ruled r off sealed =
      (sealed, role_type rows s ts elder (entry name (leaf tag bytes)) i ruled r off)
  fine_leaf s ts elder name tag bytes u None ruled r off sealed = sealed

  fine_node : (s w : Station) (ts : Targets) (elder : List (List ℕ)) (name : List ℕ) (tag : ℕ) (is : Items) (u : Tree)
      (o : Option ℕ)
      → IsRuled (length rows) s → rule_of (station rows s (entry name (node tag is))) ≡ o
      → content_offence rows ts s elder (entry name (node tag is)) ≡ None
      → CoveredBy S o (node tag is) u ((js : Items) × (u ≡ node tag js) × AreCovered S rows w is js)
      → ((js : Items) → AreCovered S rows w is js → AreCovered Sealable rows w is js)
      → CoveredBy Sealable o (node tag is) u ((js : Items) × (u ≡ node tag js) × AreCovered Sealable rows w is js)
  fine_node s w ts elder name tag is u (Some i) ruled r off sealed inside =
      (sealed, role_type rows s ts elder (entry name (node tag is)) i ruled r off)
  fine_node s w ts elder name tag is u None ruled r off sealed inside = (sealed.0, sealed.1, inside sealed.0 sealed.2)

  mutual
    fine_in : (s : Station) (ts : Targets) (at : ℕ) (elder : List (List ℕ)) (name : List ℕ) (t u : Tree)
        → IsRuled (length rows) s
        → content_offence rows ts s elder (entry name t) ≡ None
        → first_refusal (content_of rows) (visits_in rows (station rows s (entry name t)) ts at t) ≡ None
        → CoveredIn S rows (station rows s (entry name t)) t u
        → CoveredIn Sealable rows (station rows s (entry name t)) t u
    fine_in s ts at elder name (leaf tag bytes) u ruled off none sealed =
        fine_leaf s ts elder name tag bytes u (rule_of (station rows s (entry name (leaf tag bytes)))) ruled refl off
        sealed
    fine_in s ts at elder name (node tag is) u ruled off none sealed =
        let w = station rows s (entry name (node tag is)) in
        fine_node s w ts elder name tag is u (rule_of w) ruled refl off sealed
        (λ js p. fine_items w (pointed rows w ts at is) (at + 4) [] is js
        (station_ruled rows s (entry name (node tag is)) ruled) none p)

    pub fine_items : (s : Station) (ts : Targets) (at : ℕ) (elder : List (List ℕ)) (is js : Items)
        → IsRuled (length rows) s
        → first_refusal (content_of rows) (visits rows s ts at elder is) ≡ None → AreCovered S rows s is js
        → AreCovered Sealable rows s is js
    fine_items s ts at elder no_items js ruled none sealed = sealed
    fine_items s ts at elder (item name t is) js ruled none sealed =
        let p = at + (2 + length name) in
        let q = p + length (value_bytes t) in
        let own = refused_at p (content_offence rows ts s elder (entry name t)) in
        let within = visits_in rows (station rows s (entry name t)) ts p t in
        let rest = visits rows s ts q (elder ++ name ∷ []) is in
        let off = offence_none p (content_offence rows ts s elder (entry name t)) (first_none own _ none) in
        let behind = later_none own _ none in (
          sealed.0,
          sealed.1,
          sealed.2,
          fine_in s ts p elder name t sealed.0 ruled off (front_none rows within rest behind) sealed.3,
          fine_items s ts q (elder ++ name ∷ []) is sealed.1 ruled (back_none rows within rest behind) sealed.4,
        )
