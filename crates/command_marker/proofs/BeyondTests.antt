-- What a library refuses beyond the rules, by the tests of values.
use Rattle.std.proofs.Common.{◌≡◌, ◌∙◌, ◌==◌, Bool, true, false, cond, ◌&&◌, ◌||◌, ℕ, List, [], ◌∷◌, codes}
use Rattle.std.proofs.Common.{Some, None, sym, ap}
use Rattle.bson_tree.specs.Tree.{Tree, leaf, tag_of}
use Rattle.bson_codec.specs.Layout.{string_bytes}
use Rattle.encrypt_schema.specs.declared.command.listed.FieldKind.{FieldKind}
use Rattle.encrypt_schema.specs.declared.command.reason.Reason.TheVariants.{BadField, FieldNotAllowed}
use Rattle.encrypt_schema.specs.Language.Names.{is_among, named}
use Rattle.encrypt_schema.specs.Commands.More.{chosen_wrong, of_other, other_wrong}
use Rattle.encrypt_schema.specs.Commands.Offences.{is_empty, is_said, least, text_of, unless}
use Rattle.encrypt_schema.specs.Commands.Stations.{Entry}
use Rattle.encrypt_schema.specs.Commands.Visits.{entry, raw_of}
use Rattle.encrypt_schema.proofs.Language.Texts.{text_is}

-- the empty string
pub empty_found : (t : Tree) (text : List ℕ) → t ≡ leaf 2 (string_bytes text)
    → is_empty text ≡ ((tag_of t == 2) && is_empty (text_of (raw_of t)))
empty_found t text e = rw e (ap is_empty (sym (text_is text)))

pub empty_none : (t : Tree) → (tag_of t == 2) ≡ false
    → false ≡ ((tag_of t == 2) && is_empty (text_of (raw_of t)))
empty_none t e = ap (λ (b : Bool). b && is_empty (text_of (raw_of t))) (sym e)

-- a field that is judged by its own rules; one that stands for the second time; any other
pub of_read : (read : List (List ℕ)) (kind : FieldKind) (elder : List (List ℕ)) (e : Entry)
    → is_among e.name read ≡ true
    → None ≡ least (of_other read kind elder e)
of_read read kind elder e h =
    sym (ap (λ (b : Bool). least (cond b [] (cond (is_among e.name elder) (BadField ∷ []) (other_wrong kind e)))) h)

pub of_again : (read : List (List ℕ)) (kind : FieldKind) (elder : List (List ℕ)) (e : Entry)
    → is_among e.name read ≡ false → is_among e.name elder ≡ true
    → Some BadField ≡ least (of_other read kind elder e)
of_again read kind elder e h k =
    sym (ap (λ (b : Bool). least (cond b [] (cond (is_among e.name elder) (BadField ∷ []) (other_wrong kind e)))) h
    ∙ ap (λ (b : Bool). least (cond b (BadField ∷ []) (other_wrong kind e))) k)

pub of_kind : (read : List (List ℕ)) (kind : FieldKind) (elder : List (List ℕ)) (e : Entry)
    → is_among e.name read ≡ false → is_among e.name elder ≡ false
    → least (other_wrong kind e) ≡ least (of_other read kind elder e)
of_kind read kind elder e h k =
    sym (ap (λ (b : Bool). least (cond b [] (cond (is_among e.name elder) (BadField ∷ []) (other_wrong kind e)))) h
    ∙ ap (λ (b : Bool). least (cond b (BadField ∷ []) (other_wrong kind e))) k)

-- an element of a document of a projection, by whether it is `$slice`
pub chosen_by : (name : List ℕ) (t : Tree) (b : Bool) → named name (codes "$slice") ≡ b
    → least (chosen_wrong (entry name t))
    ≡ least
    (cond b (unless (is_said (tag_of t) || (tag_of t == 4)) FieldNotAllowed)
    (unless (named name (codes "$meta") && (tag_of t == 2)) FieldNotAllowed))
chosen_by name t b h =
    ap
    (λ (x : Bool). least
    (cond x (unless (is_said (tag_of t) || (tag_of t == 4)) FieldNotAllowed)
    (unless (named name (codes "$meta") && (tag_of t == 2)) FieldNotAllowed))) h
