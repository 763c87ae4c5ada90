-- Projections, and the documents in them, by the tests of their values.
use Rattle.std.proofs.Common.{◌≡◌, ◌∙◌, ◌==◌, ◌&&◌, ◌||◌, Bool, true, false, cond, not, ℕ, codes, List, Some, None, Ok}
use Rattle.std.proofs.Common.{refl, sym, ap}
use Rattle.bson_tree.specs.Tree.{Tree, tag_of, kids_of}
use Rattle.encrypt_schema.specs.declared.command.reason.Reason.TheVariants.{FieldNotAllowed}
use Rattle.encrypt_schema.specs.declared.command.walking.Next.TheVariants as nexts
use Rattle.encrypt_schema.specs.Language.Names.{named}
use Rattle.encrypt_schema.specs.Language.Row.{Row}
use Rattle.encrypt_schema.specs.Commands.Offences.{is_slice_or_meta, least, of_row, ruled_offence, when}
use Rattle.encrypt_schema.specs.Commands.Stations.{Entry, Bounds, Chosen, Passed, Projection, has_name, is_array}
use Rattle.encrypt_schema.specs.Commands.Stations.{is_document}
use Rattle.encrypt_schema.specs.Commands.Visits.{entry, names_of}
use Rattle.command_marker.specs.declared.places.CommandPlace.TheVariants as places
use Rattle.command_marker.specs.Places.{Judges}
use Rattle.command_marker.proofs.Held.{no_reasons}
use Rattle.command_marker.proofs.OtherFields.{by_row}

-- an element that can't be used: an array; a document without `$slice` or `$meta` alone
abbrev pub is_unusable : Tree → Bool
is_unusable t = (tag_of t == 4) || ((tag_of t == 3) && not (is_slice_or_meta (names_of (kids_of t))))

projection_offence : (rows : List Row) (elder : List (List ℕ)) (e : Entry)
    → ruled_offence rows Projection elder e ≡ least (of_row rows Projection elder e)
projection_offence rows elder e =
    by_row rows Projection elder e (no_reasons rows (is_document e) Chosen Passed e refl refl)

projection_told : (rows : List Row) (elder : List (List ℕ)) (name : List ℕ) (t : Tree) (b : Bool) → is_unusable t ≡ b
    → ruled_offence rows Projection elder (entry name t) ≡ least (when b FieldNotAllowed)
projection_told rows elder name t b h =
    projection_offence rows elder (entry name t) ∙ ap (λ (x : Bool). least (when x FieldNotAllowed)) h

pub projection_refused : (rows : List Row) (elder : List (List ℕ)) (name : List ℕ) (t : Tree) → is_unusable t ≡ true
    → Some FieldNotAllowed ≡ ruled_offence rows Projection elder (entry name t)
projection_refused rows elder name t h = sym (projection_told rows elder name t true h)

pub projection_document : (rows : List Row) (elder : List (List ℕ)) (name : List ℕ) (t : Tree) → is_unusable t ≡ false
    → (tag_of t == 3) ≡ true
    → Judges rows Projection elder (entry name t) (Ok (nexts.Inside places.Chosen))
projection_document rows elder name t h d =
    (sym (ap (λ (b : Bool). cond b Chosen Passed) d), tt, sym (projection_told rows elder name t false h))

pub projection_value : (rows : List Row) (elder : List (List ℕ)) (name : List ℕ) (t : Tree) → is_unusable t ≡ false
    → (tag_of t == 3) ≡ false
    → Judges rows Projection elder (entry name t) (Ok nexts.Passed)
projection_value rows elder name t h d =
    (sym (ap (λ (b : Bool). cond b Chosen Passed) d), tt, sym (projection_told rows elder name t false h))

chosen_free : (rows : List Row) (elder : List (List ℕ)) (e : Entry) → None ≡ ruled_offence rows Chosen elder e
chosen_free rows elder e =
    sym (by_row rows Chosen elder e
    (no_reasons rows (has_name (codes "$slice") e && is_array e) Bounds Passed e refl refl))

pub chosen_array : (rows : List Row) (elder : List (List ℕ)) (name : List ℕ) (t : Tree)
    → (named name (codes "$slice") && (tag_of t == 4)) ≡ true
    → Judges rows Chosen elder (entry name t) (Ok (nexts.Inside places.Bounds))
chosen_array rows elder name t h =
    (sym (ap (λ (b : Bool). cond b Bounds Passed) h), tt, chosen_free rows elder (entry name t))

pub chosen_value : (rows : List Row) (elder : List (List ℕ)) (name : List ℕ) (t : Tree)
    → (named name (codes "$slice") && (tag_of t == 4)) ≡ false
    → Judges rows Chosen elder (entry name t) (Ok nexts.Passed)
chosen_value rows elder name t h =
    (sym (ap (λ (b : Bool). cond b Bounds Passed) h), tt, chosen_free rows elder (entry name t))
