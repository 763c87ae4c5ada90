-- In what the rules settle a library refuses nothing beyond them.
use Rattle.std.proofs.Common.{◌≡◌, ◌∙◌, ◌+◌, ◌++◌, ◌∷◌, [], ℕ, Bool, true, false, cond, List, length, Option, None, refl}
use Rattle.std.proofs.Common.{ap, ap₂}
use Rattle.std.proofs.lemmas.Bool.{false≢true}
use Rattle.bson_tree.specs.Tree.{Tree, leaf, node, Items, no_items, item}
use Rattle.bson_tree.specs.Spelling.{value_bytes}
use Rattle.encrypt_schema.specs.declared.command.operators.Subject.{Subject}
use Rattle.encrypt_schema.specs.declared.command.operators.Subject.TheVariants.{Field, Prefix}
use Rattle.encrypt_schema.specs.declared.command.reason.Reason.{Reason}
use Rattle.encrypt_schema.specs.declared.path.class.Class.{Class}
use Rattle.encrypt_schema.specs.declared.path.class.Class.TheVariants.{Protected, Below, Above, Clear}
use Rattle.encrypt_schema.specs.Language.Row.{Row}
use Rattle.encrypt_schema.specs.Paths.Classes.{class}
use Rattle.encrypt_schema.specs.Paths.Dotted.{split}
use Rattle.encrypt_schema.specs.Commands.More.{beyond_of, is_settled, of_more}
use Rattle.encrypt_schema.specs.Commands.Offences.{least}
use Rattle.encrypt_schema.specs.Commands.Pointers.{Targets, pointed}
use Rattle.encrypt_schema.specs.Commands.Stations.{Entry, Station, Inserts, Document, Sets, Elements, Store, Compare, Bare}
use Rattle.encrypt_schema.specs.Commands.Stations.{Passed, compared_with, dotted, is_document, station, stored_at}
use Rattle.encrypt_schema.specs.Commands.Visits.{entry, first_refusal, or_else, refused_at, visits, visits_in}
use Rattle.encrypt_schema.proofs.Commands.Silence.{refusal_append}

settled_cond : (b : Bool) (s u : Station) → is_settled s ≡ true → is_settled u ≡ true → is_settled (cond b s u) ≡ true
settled_cond true s u p q = p
settled_cond false s u p q = q

settled_stored : (c : Class) (path : List (List ℕ)) (document : Bool) → is_settled (stored_at c path document) ≡ true
settled_stored (Protected i) path document = refl
settled_stored Above path document = settled_cond document (Document path) Passed refl refl
settled_stored Below path document = refl
settled_stored Clear path document = refl

settled_compared : (x : Subject) → is_settled (compared_with x) ≡ true
settled_compared (Field i) = refl
settled_compared Prefix = refl

settled_child : (rows : List Row) (s : Station) (e : Entry) → is_settled s ≡ true
    → is_settled (station rows s e) ≡ true
settled_child rows Inserts e h = settled_cond (is_document e) (Document []) Passed refl refl
settled_child rows (Document path) e h =
    settled_stored (class rows (path ++ e.name ∷ [])) (path ++ e.name ∷ []) (is_document e)
settled_child rows Sets e h = settled_stored (dotted rows e.name) (split e.name) (is_document e)
settled_child rows (Elements x) e h = settled_compared x
settled_child rows (Store i) e h = refl
settled_child rows (Compare i) e h = refl
settled_child rows Bare e h = refl
settled_child rows Passed e h = refl
settled_child rows _ e h = absurd (false≢true h)

settled_clear : (s : Station) (elder : List (List ℕ)) (e : Entry) → is_settled s ≡ true
    → least (of_more s elder e) ≡ None
settled_clear Inserts elder e h = refl
settled_clear (Document path) elder e h = refl
settled_clear Sets elder e h = refl
settled_clear (Elements x) elder e h = refl
settled_clear (Store i) elder e h = refl
settled_clear (Compare i) elder e h = refl
settled_clear Bare elder e h = refl
settled_clear Passed elder e h = refl
settled_clear _ elder e h = absurd (false≢true h)

mutual
  pub settled_in : (rows : List Row) (s : Station) (ts : Targets) (at : ℕ) (t : Tree) → is_settled s ≡ true
      → first_refusal beyond_of (visits_in rows s ts at t) ≡ None
  settled_in rows s ts at (leaf tag bytes) h = refl
  settled_in rows s ts at (node tag is) h = settled_among rows s (pointed rows s ts at is) (at + 4) [] is h

  settled_among : (rows : List Row) (s : Station) (ts : Targets) (at : ℕ) (elder : List (List ℕ)) (is : Items)
      → is_settled s ≡ true
      → first_refusal beyond_of (visits rows s ts at elder is) ≡ None
  settled_among rows s ts at elder no_items h = refl
  settled_among rows s ts at elder (item name t is) h =
      let u = station rows s (entry name t) in
      let inside = visits_in rows u ts (at + (2 + length name)) t in
      let behind = visits rows s ts (at + (2 + length name) + length (value_bytes t)) (elder ++ name ∷ []) is in
      ap (λ (r : Option Reason). or_else (refused_at (at + (2 + length name)) r)
      (first_refusal beyond_of (inside ++ behind))) (settled_clear s elder (entry name t) h)
      ∙ refusal_append beyond_of inside behind
      ∙ ap₂ or_else
      (settled_in rows u ts (at + (2 + length name)) t (settled_child rows s (entry name t) h))
      (settled_among rows s ts (at + (2 + length name) + length (value_bytes t)) (elder ++ name ∷ []) is h)
