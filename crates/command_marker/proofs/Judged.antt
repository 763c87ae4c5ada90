-- The elements of commands and of their parts, judged by the fields that are read.
use Rattle.std.proofs.Common.{◌≡◌, ◌==◌, Bool, true, false, cond, not, ◌&&◌, ◌||◌, ℕ, codes, List, Some, None, Result}
use Rattle.std.proofs.Common.{Ok, Err, refl, sym, subst, ◌∙◌}
use Rattle.std.proofs.lemmas.Bool.{false≢true}
use Rattle.std.proofs.lemmas.Slice.Eq.{bytes_eq-Decides}
use Rattle.bson_tree.specs.Tree.{Tree, tag_of, kids_of}
use Rattle.encrypt_schema.specs.declared.command.reason.Reason.{Reason}
use Rattle.encrypt_schema.specs.declared.command.reason.Reason.TheVariants.{BadField, FieldNotAllowed, Pipeline}
use Rattle.encrypt_schema.specs.Language.Names.{named, is_among}
use Rattle.encrypt_schema.specs.Language.Row.{Row}
use Rattle.encrypt_schema.specs.Commands.Stations.{Insert, Update, Delete, Find, Updates, Deletes, UpdateItem}
use Rattle.encrypt_schema.specs.Commands.Stations.{DeleteItem, is_dollar_first, update_of, station, Entry, Bounds, Keys}
use Rattle.encrypt_schema.specs.Commands.Stations.{IndexKeys, Own}
use Rattle.encrypt_schema.specs.declared.command.listed.OwnDocument.{OwnDocument}
use Rattle.encrypt_schema.specs.Commands.ListedFields.{delete_item_kind, delete_kind, find_kind, insert_kind}
use Rattle.encrypt_schema.specs.Commands.ListedFields.{update_item_kind, update_kind}
use Rattle.encrypt_schema.specs.Commands.Offences.{ruled_offence, is_again, least, of_row}
use Rattle.encrypt_schema.specs.Commands.Visits.{names_of, entry}
use Rattle.encrypt_schema.specs.declared.command.walking.Next.{Next}
use Rattle.encrypt_schema.specs.declared.command.walking.Next.TheVariants as nexts
use Rattle.filter_rules.specs.declared.places.FilterPlace.TheVariants as filters
use Rattle.command_marker.specs.declared.places.CommandPlace.{CommandPlace}
use Rattle.command_marker.specs.declared.places.CommandPlace.TheVariants as places
use Rattle.command_marker.specs.Places.{IsOther, Judges, read_as, unusable_reason}
use Rattle.command_marker.proofs.OtherFields.{delete_item_offence, delete_offence, find_offence, insert_offence}
use Rattle.command_marker.proofs.OtherFields.{update_item_offence, update_offence}

-- what holds of a word holds of a name that equals it
at_word : (P : List ℕ → Type 0) (name word : List ℕ) → named name word ≡ true → P word → P name
unfolding named
at_word P name word h p = subst P (sym ((bytes_eq-Decides name word).0 h)) p

-- an insert: `documents`
documents_at : (rows : List Row) (elder : List (List ℕ)) (t : Tree) (fits again : Bool) → (tag_of t == 4) ≡ fits
    → is_among (codes "documents") elder ≡ again
    → Judges rows Insert elder (entry (codes "documents") t) (read_as (fits && not again) places.Inserts)
unfolding named ruled_offence is_again
documents_at rows elder t true true p q = rw (p, q) refl
documents_at rows elder t true false p q = (rw p refl, tt, rw (p, q) refl)
documents_at rows elder t false true p q =
    let row : Some BadField ≡ least (of_row rows Insert elder (entry (codes "documents") t)) = rw (p, q) refl in
    row ∙ sym (insert_offence rows elder (entry (codes "documents") t))
documents_at rows elder t false false p q =
    let row : Some BadField ≡ least (of_row rows Insert elder (entry (codes "documents") t)) = rw (p, q) refl in
    row ∙ sym (insert_offence rows elder (entry (codes "documents") t))

pub documents_read : (rows : List Row) (elder : List (List ℕ)) (name : List ℕ) (t : Tree)
    (result : Result (Next CommandPlace) Reason) → named name (codes "documents") ≡ true
    → result ≡ read_as ((tag_of t == 4) && not (is_among name elder)) places.Inserts
    → Judges rows Insert elder (entry name t) result
documents_read rows elder name t result h is =
    subst (λ (r : Result (Next CommandPlace) Reason). Judges rows Insert elder (entry name t) r) (sym is)
    (at_word (λ (n : List ℕ). Judges rows Insert elder (entry n t)
    (read_as ((tag_of t == 4) && not (is_among n elder)) places.Inserts)) name (codes "documents") h
    (documents_at rows elder t _ _ refl refl))

-- any other field
pub insert_other : (rows : List Row) (elder : List (List ℕ)) (name : List ℕ) (t : Tree)
    (next : Next CommandPlace)
    → named name (codes "documents") ≡ false → IsOther rows (insert_kind name) (entry name t) next
    → Judges rows Insert elder (entry name t) (Ok next)
unfolding ruled_offence is_again
insert_other rows elder name t next p told =
    let row : None ≡ least (of_row rows Insert elder (entry name t)) = rw p refl in
    (rw p told.0, told.1, row ∙ sym (insert_offence rows elder (entry name t)))

-- an update: `updates`
updates_at : (rows : List Row) (elder : List (List ℕ)) (t : Tree) (fits again : Bool) → (tag_of t == 4) ≡ fits
    → is_among (codes "updates") elder ≡ again
    → Judges rows Update elder (entry (codes "updates") t) (read_as (fits && not again) places.Updates)
unfolding named ruled_offence is_again
updates_at rows elder t true true p q = rw (p, q) refl
updates_at rows elder t true false p q = (rw p refl, tt, rw (p, q) refl)
updates_at rows elder t false true p q =
    let row : Some BadField ≡ least (of_row rows Update elder (entry (codes "updates") t)) = rw (p, q) refl in
    row ∙ sym (update_offence rows elder (entry (codes "updates") t))
updates_at rows elder t false false p q =
    let row : Some BadField ≡ least (of_row rows Update elder (entry (codes "updates") t)) = rw (p, q) refl in
    row ∙ sym (update_offence rows elder (entry (codes "updates") t))

pub updates_read : (rows : List Row) (elder : List (List ℕ)) (name : List ℕ) (t : Tree)
    (result : Result (Next CommandPlace) Reason) → named name (codes "updates") ≡ true
    → result ≡ read_as ((tag_of t == 4) && not (is_among name elder)) places.Updates
    → Judges rows Update elder (entry name t) result
updates_read rows elder name t result h is =
    subst (λ (r : Result (Next CommandPlace) Reason). Judges rows Update elder (entry name t) r) (sym is)
    (at_word (λ (n : List ℕ). Judges rows Update elder (entry n t)
    (read_as ((tag_of t == 4) && not (is_among n elder)) places.Updates)) name (codes "updates") h
    (updates_at rows elder t _ _ refl refl))

-- `let`
update_let_at : (rows : List Row) (elder : List (List ℕ)) (t : Tree) (again : Bool)
    → is_among (codes "let") elder ≡ again
    → Some (unusable_reason again) ≡ ruled_offence rows Update elder (entry (codes "let") t)
unfolding named ruled_offence is_again
update_let_at rows elder t true q =
    let row : Some BadField ≡ least (of_row rows Update elder (entry (codes "let") t)) = rw q refl in
    row ∙ sym (update_offence rows elder (entry (codes "let") t))
update_let_at rows elder t false q =
    let row : Some FieldNotAllowed ≡ least (of_row rows Update elder (entry (codes "let") t)) = rw q refl in
    row ∙ sym (update_offence rows elder (entry (codes "let") t))

pub update_let_unusable : (rows : List Row) (elder : List (List ℕ)) (name : List ℕ) (t : Tree)
    → named name (codes "let") ≡ true
    → Some (unusable_reason (is_among name elder)) ≡ ruled_offence rows Update elder (entry name t)
update_let_unusable rows elder name t h =
    at_word (λ (n : List ℕ). Some (unusable_reason (is_among n elder))
    ≡ ruled_offence rows Update elder (entry n t)) name (codes "let") h
    (update_let_at rows elder t _ refl)

-- any other field
pub update_other : (rows : List Row) (elder : List (List ℕ)) (name : List ℕ) (t : Tree)
    (next : Next CommandPlace)
    → named name (codes "updates") ≡ false → named name (codes "let") ≡ false
    → IsOther rows (update_kind name) (entry name t) next
    → Judges rows Update elder (entry name t) (Ok next)
unfolding ruled_offence is_again
update_other rows elder name t next p q told =
    let row : None ≡ least (of_row rows Update elder (entry name t)) = rw (p, q) refl in
    (rw p told.0, told.1, row ∙ sym (update_offence rows elder (entry name t)))

-- a delete: `deletes`
deletes_at : (rows : List Row) (elder : List (List ℕ)) (t : Tree) (fits again : Bool) → (tag_of t == 4) ≡ fits
    → is_among (codes "deletes") elder ≡ again
    → Judges rows Delete elder (entry (codes "deletes") t) (read_as (fits && not again) places.Deletes)
unfolding named ruled_offence is_again
deletes_at rows elder t true true p q = rw (p, q) refl
deletes_at rows elder t true false p q = (rw p refl, tt, rw (p, q) refl)
deletes_at rows elder t false true p q =
    let row : Some BadField ≡ least (of_row rows Delete elder (entry (codes "deletes") t)) = rw (p, q) refl in
    row ∙ sym (delete_offence rows elder (entry (codes "deletes") t))
deletes_at rows elder t false false p q =
    let row : Some BadField ≡ least (of_row rows Delete elder (entry (codes "deletes") t)) = rw (p, q) refl in
    row ∙ sym (delete_offence rows elder (entry (codes "deletes") t))

pub deletes_read : (rows : List Row) (elder : List (List ℕ)) (name : List ℕ) (t : Tree)
    (result : Result (Next CommandPlace) Reason) → named name (codes "deletes") ≡ true
    → result ≡ read_as ((tag_of t == 4) && not (is_among name elder)) places.Deletes
    → Judges rows Delete elder (entry name t) result
deletes_read rows elder name t result h is =
    subst (λ (r : Result (Next CommandPlace) Reason). Judges rows Delete elder (entry name t) r) (sym is)
    (at_word (λ (n : List ℕ). Judges rows Delete elder (entry n t)
    (read_as ((tag_of t == 4) && not (is_among n elder)) places.Deletes)) name (codes "deletes") h
    (deletes_at rows elder t _ _ refl refl))

-- `let`
delete_let_at : (rows : List Row) (elder : List (List ℕ)) (t : Tree) (again : Bool)
    → is_among (codes "let") elder ≡ again
    → Some (unusable_reason again) ≡ ruled_offence rows Delete elder (entry (codes "let") t)
unfolding named ruled_offence is_again
delete_let_at rows elder t true q =
    let row : Some BadField ≡ least (of_row rows Delete elder (entry (codes "let") t)) = rw q refl in
    row ∙ sym (delete_offence rows elder (entry (codes "let") t))
delete_let_at rows elder t false q =
    let row : Some FieldNotAllowed ≡ least (of_row rows Delete elder (entry (codes "let") t)) = rw q refl in
    row ∙ sym (delete_offence rows elder (entry (codes "let") t))

pub delete_let_unusable : (rows : List Row) (elder : List (List ℕ)) (name : List ℕ) (t : Tree)
    → named name (codes "let") ≡ true
    → Some (unusable_reason (is_among name elder)) ≡ ruled_offence rows Delete elder (entry name t)
delete_let_unusable rows elder name t h =
    at_word (λ (n : List ℕ). Some (unusable_reason (is_among n elder))
    ≡ ruled_offence rows Delete elder (entry n t)) name (codes "let") h
    (delete_let_at rows elder t _ refl)

-- any other field
pub delete_other : (rows : List Row) (elder : List (List ℕ)) (name : List ℕ) (t : Tree)
    (next : Next CommandPlace)
    → named name (codes "deletes") ≡ false → named name (codes "let") ≡ false
    → IsOther rows (delete_kind name) (entry name t) next
    → Judges rows Delete elder (entry name t) (Ok next)
unfolding ruled_offence is_again
delete_other rows elder name t next p q told =
    let row : None ≡ least (of_row rows Delete elder (entry name t)) = rw (p, q) refl in
    (rw p told.0, told.1, row ∙ sym (delete_offence rows elder (entry name t)))

-- a find: `filter`
filter_at : (rows : List Row) (elder : List (List ℕ)) (t : Tree) (fits again : Bool) → (tag_of t == 3) ≡ fits
    → is_among (codes "filter") elder ≡ again
    → Judges rows Find elder (entry (codes "filter") t) (read_as (fits && not again) (places.Filter filters.Filter))
unfolding named ruled_offence is_again
filter_at rows elder t true true p q = rw (p, q) refl
filter_at rows elder t true false p q = (rw p refl, tt, rw (p, q) refl)
filter_at rows elder t false true p q = rw (p, q) refl
filter_at rows elder t false false p q = rw (p, q) refl

pub filter_read : (rows : List Row) (elder : List (List ℕ)) (name : List ℕ) (t : Tree)
    (result : Result (Next CommandPlace) Reason) → named name (codes "filter") ≡ true
    → result ≡ read_as ((tag_of t == 3) && not (is_among name elder)) (places.Filter filters.Filter)
    → Judges rows Find elder (entry name t) result
filter_read rows elder name t result h is =
    subst (λ (r : Result (Next CommandPlace) Reason). Judges rows Find elder (entry name t) r) (sym is)
    (at_word (λ (n : List ℕ). Judges rows Find elder (entry n t)
    (read_as ((tag_of t == 3) && not (is_among n elder)) (places.Filter filters.Filter))) name (codes "filter") h
    (filter_at rows elder t _ _ refl refl))

-- `projection`
projection_at : (rows : List Row) (elder : List (List ℕ)) (t : Tree) (fits again : Bool) → (tag_of t == 3) ≡ fits
    → is_among (codes "projection") elder ≡ again
    → Judges rows Find elder (entry (codes "projection") t) (read_as (fits && not again) places.Projection)
unfolding named ruled_offence is_again
projection_at rows elder t true true p q = rw (p, q) refl
projection_at rows elder t true false p q = (rw p refl, tt, rw (p, q) refl)
projection_at rows elder t false true p q = rw (p, q) refl
projection_at rows elder t false false p q = rw (p, q) refl

pub projection_read : (rows : List Row) (elder : List (List ℕ)) (name : List ℕ) (t : Tree)
    (result : Result (Next CommandPlace) Reason) → named name (codes "projection") ≡ true
    → result ≡ read_as ((tag_of t == 3) && not (is_among name elder)) places.Projection
    → Judges rows Find elder (entry name t) result
projection_read rows elder name t result h is =
    subst (λ (r : Result (Next CommandPlace) Reason). Judges rows Find elder (entry name t) r) (sym is)
    (at_word (λ (n : List ℕ). Judges rows Find elder (entry n t)
    (read_as ((tag_of t == 3) && not (is_among n elder)) places.Projection)) name (codes "projection") h
    (projection_at rows elder t _ _ refl refl))

-- `min`
find_min_at : (rows : List Row) (elder : List (List ℕ)) (t : Tree) (again : Bool) → is_among (codes "min") elder ≡ again
    → Some (unusable_reason again) ≡ ruled_offence rows Find elder (entry (codes "min") t)
unfolding named ruled_offence is_again
find_min_at rows elder t true q =
    let row : Some BadField ≡ least (of_row rows Find elder (entry (codes "min") t)) = rw q refl in
    row ∙ sym (find_offence rows elder (entry (codes "min") t))
find_min_at rows elder t false q =
    let row : Some FieldNotAllowed ≡ least (of_row rows Find elder (entry (codes "min") t)) = rw q refl in
    row ∙ sym (find_offence rows elder (entry (codes "min") t))

pub find_min_unusable : (rows : List Row) (elder : List (List ℕ)) (name : List ℕ) (t : Tree)
    → named name (codes "min") ≡ true
    → Some (unusable_reason (is_among name elder)) ≡ ruled_offence rows Find elder (entry name t)
find_min_unusable rows elder name t h =
    at_word (λ (n : List ℕ). Some (unusable_reason (is_among n elder)) ≡ ruled_offence rows Find elder (entry n t)) name
    (codes "min") h
    (find_min_at rows elder t _ refl)

-- `max`
find_max_at : (rows : List Row) (elder : List (List ℕ)) (t : Tree) (again : Bool) → is_among (codes "max") elder ≡ again
    → Some (unusable_reason again) ≡ ruled_offence rows Find elder (entry (codes "max") t)
unfolding named ruled_offence is_again
find_max_at rows elder t true q =
    let row : Some BadField ≡ least (of_row rows Find elder (entry (codes "max") t)) = rw q refl in
    row ∙ sym (find_offence rows elder (entry (codes "max") t))
find_max_at rows elder t false q =
    let row : Some FieldNotAllowed ≡ least (of_row rows Find elder (entry (codes "max") t)) = rw q refl in
    row ∙ sym (find_offence rows elder (entry (codes "max") t))

pub find_max_unusable : (rows : List Row) (elder : List (List ℕ)) (name : List ℕ) (t : Tree)
    → named name (codes "max") ≡ true
    → Some (unusable_reason (is_among name elder)) ≡ ruled_offence rows Find elder (entry name t)
find_max_unusable rows elder name t h =
    at_word (λ (n : List ℕ). Some (unusable_reason (is_among n elder)) ≡ ruled_offence rows Find elder (entry n t)) name
    (codes "max") h
    (find_max_at rows elder t _ refl)

-- `let`
find_let_at : (rows : List Row) (elder : List (List ℕ)) (t : Tree) (again : Bool) → is_among (codes "let") elder ≡ again
    → Some (unusable_reason again) ≡ ruled_offence rows Find elder (entry (codes "let") t)
unfolding named ruled_offence is_again
find_let_at rows elder t true q =
    let row : Some BadField ≡ least (of_row rows Find elder (entry (codes "let") t)) = rw q refl in
    row ∙ sym (find_offence rows elder (entry (codes "let") t))
find_let_at rows elder t false q =
    let row : Some FieldNotAllowed ≡ least (of_row rows Find elder (entry (codes "let") t)) = rw q refl in
    row ∙ sym (find_offence rows elder (entry (codes "let") t))

pub find_let_unusable : (rows : List Row) (elder : List (List ℕ)) (name : List ℕ) (t : Tree)
    → named name (codes "let") ≡ true
    → Some (unusable_reason (is_among name elder)) ≡ ruled_offence rows Find elder (entry name t)
find_let_unusable rows elder name t h =
    at_word (λ (n : List ℕ). Some (unusable_reason (is_among n elder)) ≡ ruled_offence rows Find elder (entry n t)) name
    (codes "let") h
    (find_let_at rows elder t _ refl)

first_of_two : (a b : Bool) → (a || b) ≡ false → a ≡ false
first_of_two true b e = absurd (false≢true (sym e))
first_of_two false b e = refl

second_of_two : (a b : Bool) → (a || b) ≡ false → b ≡ false
second_of_two true b e = absurd (false≢true (sym e))
second_of_two false b e = e

one_of_two : (a b : Bool) {P : Type 0} → (a || b) ≡ true → (a ≡ true → P) → (b ≡ true → P) → P
one_of_two true b e p q = p refl
one_of_two false b e p q = q e

-- those that a find can't use
pub find_unusable : (rows : List Row) (elder : List (List ℕ)) (name : List ℕ) (t : Tree)
    → (named name (codes "min") || (named name (codes "max") || named name (codes "let"))) ≡ true
    → Some (unusable_reason (is_among name elder)) ≡ ruled_offence rows Find elder (entry name t)
find_unusable rows elder name t h =
    one_of_two (named name (codes "min")) (named name (codes "max") || named name (codes "let")) h
    (find_min_unusable rows elder name t)
    (λ k. one_of_two (named name (codes "max")) (named name (codes "let")) k (find_max_unusable rows elder name t)
    (find_let_unusable rows elder name t))

-- any other field
find_rest : (rows : List Row) (elder : List (List ℕ)) (name : List ℕ) (t : Tree) (next : Next CommandPlace)
    → named name (codes "filter") ≡ false
    → named name (codes "projection") ≡ false → named name (codes "min") ≡ false → named name (codes "max") ≡ false
    → named name (codes "let") ≡ false → IsOther rows (find_kind name) (entry name t) next
    → Judges rows Find elder (entry name t) (Ok next)
unfolding ruled_offence is_again
find_rest rows elder name t next p q r s u told =
    let row : None ≡ least (of_row rows Find elder (entry name t)) = rw (p, q, r, s, u) refl in
    (rw (p, q) told.0, told.1, row ∙ sym (find_offence rows elder (entry name t)))

pub find_other : (rows : List Row) (elder : List (List ℕ)) (name : List ℕ) (t : Tree) (next : Next CommandPlace)
    → named name (codes "filter") ≡ false → named name (codes "projection") ≡ false
    → (named name (codes "min") || (named name (codes "max") || named name (codes "let"))) ≡ false
    → IsOther rows (find_kind name) (entry name t) next
    → Judges rows Find elder (entry name t) (Ok next)
find_other rows elder name t next p q h told =
    let k = second_of_two (named name (codes "min")) (named name (codes "max") || named name (codes "let")) h in
    find_rest rows elder name t next p q
    (first_of_two (named name (codes "min")) (named name (codes "max") || named name (codes "let")) h)
    (first_of_two (named name (codes "max")) (named name (codes "let")) k)
    (second_of_two (named name (codes "max")) (named name (codes "let")) k) told

-- an item of `updates`: `q`
query_at : (rows : List Row) (elder : List (List ℕ)) (t : Tree) (fits again : Bool) → (tag_of t == 3) ≡ fits
    → is_among (codes "q") elder ≡ again
    → Judges rows UpdateItem elder (entry (codes "q") t) (read_as (fits && not again) (places.Filter filters.Filter))
unfolding named ruled_offence is_again
query_at rows elder t true true p q = rw (p, q) refl
query_at rows elder t true false p q = (rw p refl, tt, rw (p, q) refl)
query_at rows elder t false true p q = rw (p, q) refl
query_at rows elder t false false p q = rw (p, q) refl

pub query_read : (rows : List Row) (elder : List (List ℕ)) (name : List ℕ) (t : Tree)
    (result : Result (Next CommandPlace) Reason) → named name (codes "q") ≡ true
    → result ≡ read_as ((tag_of t == 3) && not (is_among name elder)) (places.Filter filters.Filter)
    → Judges rows UpdateItem elder (entry name t) result
query_read rows elder name t result h is =
    subst (λ (r : Result (Next CommandPlace) Reason). Judges rows UpdateItem elder (entry name t) r) (sym is)
    (at_word (λ (n : List ℕ). Judges rows UpdateItem elder (entry n t)
    (read_as ((tag_of t == 3) && not (is_among n elder)) (places.Filter filters.Filter))) name (codes "q") h
    (query_at rows elder t _ _ refl refl))

-- `arrayFilters`
array_filters_at : (rows : List Row) (elder : List (List ℕ)) (t : Tree) (again : Bool)
    → is_among (codes "arrayFilters") elder ≡ again
    → Some (unusable_reason again) ≡ ruled_offence rows UpdateItem elder (entry (codes "arrayFilters") t)
unfolding named ruled_offence is_again
array_filters_at rows elder t true q =
    let row : Some BadField ≡ least (of_row rows UpdateItem elder (entry (codes "arrayFilters") t)) = rw q refl in
    row ∙ sym (update_item_offence rows elder (entry (codes "arrayFilters") t))
array_filters_at rows elder t false q =
    let row : Some FieldNotAllowed ≡ least (of_row rows UpdateItem elder (entry (codes "arrayFilters") t)) =
    rw q refl in
    row ∙ sym (update_item_offence rows elder (entry (codes "arrayFilters") t))

pub array_filters_unusable : (rows : List Row) (elder : List (List ℕ)) (name : List ℕ) (t : Tree)
    → named name (codes "arrayFilters") ≡ true
    → Some (unusable_reason (is_among name elder)) ≡ ruled_offence rows UpdateItem elder (entry name t)
array_filters_unusable rows elder name t h =
    at_word (λ (n : List ℕ). Some (unusable_reason (is_among n elder))
    ≡ ruled_offence rows UpdateItem elder (entry n t)) name (codes "arrayFilters") h
    (array_filters_at rows elder t _ refl)

-- `c`
constants_at : (rows : List Row) (elder : List (List ℕ)) (t : Tree) (again : Bool) → is_among (codes "c") elder ≡ again
    → Some (unusable_reason again) ≡ ruled_offence rows UpdateItem elder (entry (codes "c") t)
unfolding named ruled_offence is_again
constants_at rows elder t true q =
    let row : Some BadField ≡ least (of_row rows UpdateItem elder (entry (codes "c") t)) = rw q refl in
    row ∙ sym (update_item_offence rows elder (entry (codes "c") t))
constants_at rows elder t false q =
    let row : Some FieldNotAllowed ≡ least (of_row rows UpdateItem elder (entry (codes "c") t)) = rw q refl in
    row ∙ sym (update_item_offence rows elder (entry (codes "c") t))

pub constants_unusable : (rows : List Row) (elder : List (List ℕ)) (name : List ℕ) (t : Tree)
    → named name (codes "c") ≡ true
    → Some (unusable_reason (is_among name elder)) ≡ ruled_offence rows UpdateItem elder (entry name t)
constants_unusable rows elder name t h =
    at_word (λ (n : List ℕ). Some (unusable_reason (is_among n elder))
    ≡ ruled_offence rows UpdateItem elder (entry n t)) name (codes "c") h
    (constants_at rows elder t _ refl)

-- those that an item of `updates` can't use
pub update_item_unusable : (rows : List Row) (elder : List (List ℕ)) (name : List ℕ) (t : Tree)
    → (named name (codes "arrayFilters") || named name (codes "c")) ≡ true
    → Some (unusable_reason (is_among name elder)) ≡ ruled_offence rows UpdateItem elder (entry name t)
update_item_unusable rows elder name t h =
    one_of_two (named name (codes "arrayFilters")) (named name (codes "c")) h (array_filters_unusable rows elder name t)
    (constants_unusable rows elder name t)

-- `u`: an array; another value that is no document; an update
change_at : (rows : List Row) (elder : List (List ℕ)) (t : Tree) (again array document dollar : Bool)
    → is_among (codes "u") elder ≡ again → (tag_of t == 4) ≡ array → (tag_of t == 3) ≡ document
    → is_dollar_first (names_of (kids_of t)) ≡ dollar
    → ruled_offence rows UpdateItem elder (entry (codes "u") t)
    ≡ cond again (Some BadField) (cond array (Some Pipeline) (cond document None (Some BadField)))
unfolding named ruled_offence is_again
change_at rows elder t true true true true p q r s = rw (p, q, r, s) refl
change_at rows elder t true true true false p q r s = rw (p, q, r, s) refl
change_at rows elder t true true false dollar p q r s = rw (p, q, r) refl
change_at rows elder t true false true true p q r s = rw (p, q, r, s) refl
change_at rows elder t true false true false p q r s = rw (p, q, r, s) refl
change_at rows elder t true false false dollar p q r s = rw (p, q, r) refl
change_at rows elder t false true true true p q r s = rw (p, q, r, s) refl
change_at rows elder t false true true false p q r s = rw (p, q, r, s) refl
change_at rows elder t false true false dollar p q r s = rw (p, q, r) refl
change_at rows elder t false false true true p q r s = rw (p, q, r, s) refl
change_at rows elder t false false true false p q r s = rw (p, q, r, s) refl
change_at rows elder t false false false dollar p q r s = rw (p, q, r) refl

pub change_is : (rows : List Row) (elder : List (List ℕ)) (name : List ℕ) (t : Tree) (again array document : Bool)
    → named name (codes "u") ≡ true
    → is_among name elder ≡ again → (tag_of t == 4) ≡ array → (tag_of t == 3) ≡ document
    → ruled_offence rows UpdateItem elder (entry name t)
    ≡ cond again (Some BadField) (cond array (Some Pipeline) (cond document None (Some BadField)))
change_is rows elder name t again array document h p q r =
    at_word
    (λ (n : List ℕ). is_among n elder ≡ again → ruled_offence rows UpdateItem elder (entry n t)
    ≡ cond again (Some BadField) (cond array (Some Pipeline) (cond document None (Some BadField))))
    name (codes "u") h (λ stands. change_at rows elder t again array document _ stands q r refl) p

pub change_station : (rows : List Row) (name : List ℕ) (t : Tree) → named name (codes "u") ≡ true
    → (tag_of t == 3) ≡ true
    → station rows UpdateItem (entry name t) ≡ update_of (names_of (kids_of t))
unfolding named
change_station rows name t h d =
    at_word (λ (n : List ℕ). station rows UpdateItem (entry n t) ≡ update_of (names_of (kids_of t))) name (codes "u") h
    (rw d refl)

-- any other element
update_item_rest : (rows : List Row) (elder : List (List ℕ)) (name : List ℕ) (t : Tree) (next : Next CommandPlace)
    → named name (codes "q") ≡ false
    → named name (codes "u") ≡ false → named name (codes "arrayFilters") ≡ false → named name (codes "c") ≡ false
    → IsOther rows (update_item_kind name) (entry name t) next
    → Judges rows UpdateItem elder (entry name t) (Ok next)
unfolding ruled_offence is_again
update_item_rest rows elder name t next p q r s told =
    let row : None ≡ least (of_row rows UpdateItem elder (entry name t)) = rw (p, q, r, s) refl in
    (rw (p, q) told.0, told.1, row ∙ sym (update_item_offence rows elder (entry name t)))

pub update_item_other : (rows : List Row) (elder : List (List ℕ)) (name : List ℕ) (t : Tree) (next : Next CommandPlace)
    → named name (codes "q") ≡ false → named name (codes "u") ≡ false
    → (named name (codes "arrayFilters") || named name (codes "c")) ≡ false
    → IsOther rows (update_item_kind name) (entry name t) next
    → Judges rows UpdateItem elder (entry name t) (Ok next)
update_item_other rows elder name t next p q h told =
    update_item_rest rows elder name t next p q
    (first_of_two (named name (codes "arrayFilters")) (named name (codes "c")) h)
    (second_of_two (named name (codes "arrayFilters")) (named name (codes "c")) h) told

-- an item of `deletes`: `q`
delete_query_at : (rows : List Row) (elder : List (List ℕ)) (t : Tree) (fits again : Bool) → (tag_of t == 3) ≡ fits
    → is_among (codes "q") elder ≡ again
    → Judges rows DeleteItem elder (entry (codes "q") t) (read_as (fits && not again) (places.Filter filters.Filter))
unfolding named ruled_offence is_again
delete_query_at rows elder t true true p q = rw (p, q) refl
delete_query_at rows elder t true false p q = (rw p refl, tt, rw (p, q) refl)
delete_query_at rows elder t false true p q = rw (p, q) refl
delete_query_at rows elder t false false p q = rw (p, q) refl

pub delete_query_read : (rows : List Row) (elder : List (List ℕ)) (name : List ℕ) (t : Tree)
    (result : Result (Next CommandPlace) Reason) → named name (codes "q") ≡ true
    → result ≡ read_as ((tag_of t == 3) && not (is_among name elder)) (places.Filter filters.Filter)
    → Judges rows DeleteItem elder (entry name t) result
delete_query_read rows elder name t result h is =
    subst (λ (r : Result (Next CommandPlace) Reason). Judges rows DeleteItem elder (entry name t) r) (sym is)
    (at_word (λ (n : List ℕ). Judges rows DeleteItem elder (entry n t)
    (read_as ((tag_of t == 3) && not (is_among n elder)) (places.Filter filters.Filter))) name (codes "q") h
    (delete_query_at rows elder t _ _ refl refl))

-- any other element
pub delete_item_other : (rows : List Row) (elder : List (List ℕ)) (name : List ℕ) (t : Tree)
    (next : Next CommandPlace)
    → named name (codes "q") ≡ false → IsOther rows (delete_item_kind name) (entry name t) next
    → Judges rows DeleteItem elder (entry name t) (Ok next)
unfolding ruled_offence is_again
delete_item_other rows elder name t next p told =
    let row : None ≡ least (of_row rows DeleteItem elder (entry name t)) = rw p refl in
    (rw p told.0, told.1, row ∙ sym (delete_item_offence rows elder (entry name t)))

-- of these nothing is refused by the rules, whatever they hold
pub bounds_judged : (rows : List Row) (elder : List (List ℕ)) (e : Entry) → Judges rows Bounds elder e (Ok nexts.Passed)
unfolding ruled_offence
bounds_judged rows elder e = (refl, tt, refl)

pub keys_judged : (rows : List Row) (elder : List (List ℕ)) (e : Entry) → Judges rows Keys elder e (Ok nexts.Passed)
unfolding ruled_offence
keys_judged rows elder e = (refl, tt, refl)

pub index_keys_judged : (rows : List Row) (elder : List (List ℕ)) (e : Entry)
    → Judges rows IndexKeys elder e (Ok nexts.Passed)
unfolding ruled_offence
index_keys_judged rows elder e = (refl, tt, refl)

pub own_judged : (rows : List Row) (own : OwnDocument) (elder : List (List ℕ)) (e : Entry)
    → Judges rows (Own own) elder e (Ok nexts.Passed)
unfolding ruled_offence
own_judged rows own elder e = (refl, tt, refl)

-- the items of `updates`: documents that state `q` and `u`
update_items_at : (rows : List Row) (elder : List (List ℕ)) (name : List ℕ) (t : Tree) (document query change : Bool)
    → (tag_of t == 3) ≡ document → is_among (codes "q") (names_of (kids_of t)) ≡ query
    → is_among (codes "u") (names_of (kids_of t)) ≡ change
    → Judges rows Updates elder (entry name t) (cond (document && (query && change))
    (Ok (nexts.Inside places.UpdateItem)) (Err BadField))
unfolding ruled_offence
update_items_at rows elder name t true true true p q r = (rw p refl, tt, rw (p, q, r) refl)
update_items_at rows elder name t true true false p q r = rw (p, q, r) refl
update_items_at rows elder name t true false change p q r = rw (p, q) refl
update_items_at rows elder name t false true true p q r = rw (p, q, r) refl
update_items_at rows elder name t false true false p q r = rw (p, q, r) refl
update_items_at rows elder name t false false change p q r = rw (p, q) refl

pub updates_judged : (rows : List Row) (elder : List (List ℕ)) (name : List ℕ) (t : Tree) (b : Bool)
    → ((tag_of t == 3) && (is_among (codes "q") (names_of (kids_of t)) && is_among (codes "u") (names_of (kids_of t))))
    ≡ b
    → Judges rows Updates elder (entry name t) (cond b (Ok (nexts.Inside places.UpdateItem)) (Err BadField))
updates_judged rows elder name t b e =
    subst (λ (x : Bool). Judges rows Updates elder (entry name t)
    (cond x (Ok (nexts.Inside places.UpdateItem)) (Err BadField))) e
    (update_items_at rows elder name t _ _ _ refl refl refl)

-- the items of `deletes`: documents that state `q`
delete_items_at : (rows : List Row) (elder : List (List ℕ)) (name : List ℕ) (t : Tree) (document query : Bool)
    → (tag_of t == 3) ≡ document → is_among (codes "q") (names_of (kids_of t)) ≡ query
    → Judges rows Deletes elder (entry name t) (cond (document && query) (Ok (nexts.Inside places.DeleteItem))
    (Err BadField))
unfolding ruled_offence
delete_items_at rows elder name t true true p q = (rw p refl, tt, rw (p, q) refl)
delete_items_at rows elder name t true false p q = rw (p, q) refl
delete_items_at rows elder name t false true p q = rw (p, q) refl
delete_items_at rows elder name t false false p q = rw (p, q) refl

pub deletes_judged : (rows : List Row) (elder : List (List ℕ)) (name : List ℕ) (t : Tree) (b : Bool)
    → ((tag_of t == 3) && is_among (codes "q") (names_of (kids_of t))) ≡ b
    → Judges rows Deletes elder (entry name t) (cond b (Ok (nexts.Inside places.DeleteItem)) (Err BadField))
deletes_judged rows elder name t b e =
    subst (λ (x : Bool). Judges rows Deletes elder (entry name t)
    (cond x (Ok (nexts.Inside places.DeleteItem)) (Err BadField))) e
    (delete_items_at rows elder name t _ _ refl refl)
