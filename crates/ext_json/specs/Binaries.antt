-- MongoDB Extended JSON v2, "Type wrapper objects": JSON objects that stand for binaries.
use Rattle.std.specs.Prelude.{ℕ, ◌+◌, ◌==◌, List, [], ◌∷◌, codes, Option, Some, None, option_and_then, option_map}
use Rattle.std.specs.Prelude.{if◌then◌else◌}
use Rattle.std.specs.Result.{result_ok}
use Rattle.base64.specs.Engines.{standard}
use Rattle.base64.specs.GeneralPurpose.{decode_of}
use Rattle.hex.specs.Hex.{decode_sized}
use Rattle.uuid.specs.Text.{parsed}
use Rattle.serde_json.specs.Data.{Data, Members, no_members, member}
use Rattle.serde_json.specs.Find.{get_member, as_str, as_object}

-- how many members an object has
abbrev pub members_count : Members → ℕ
members_count no_members = 0
members_count (member k d ms) = members_count ms + 1

-- a subtype and contents
abbrev pub Contents : Type 0
Contents = ℕ × List ℕ

-- the one byte that was decoded
abbrev pub first_or_zero : List ℕ → ℕ
first_or_zero [] = 0
first_or_zero (b ∷ bs) = b

-- "subType": the byte of exactly two hexadecimal digits, of any case
abbrev pub subtype_in : List ℕ → Option ℕ
subtype_in text = option_map first_or_zero (result_ok (decode_sized text 1))

-- "base64": the bytes of a text with its padding, spare bits 0 (RFC 4648, sections 3.2, 3.5 and 4)
abbrev pub contents_in : List ℕ → Option (List ℕ)
contents_in text = result_ok (decode_of standard text)

-- what the two texts of a binary give
abbrev pub binary_in : List ℕ → List ℕ → Option Contents
binary_in base64 subtype = option_and_then (λ kind. option_map (λ bytes. (kind, bytes)) (contents_in base64))
    (subtype_in subtype)

-- two members that are texts
abbrev pub both_texts : Option Data → Option Data → Option (List ℕ × List ℕ)
both_texts base64 subtype = option_and_then (λ b. option_map (λ s. (b, s)) (option_and_then as_str subtype))
    (option_and_then as_str base64)

-- the texts `base64` and `subType` of an object that has exactly these two members
abbrev pub texts_in : Members → Option (List ℕ × List ℕ)
texts_in ms = if members_count ms == 2 then both_texts (get_member (codes "base64") ms)
    (get_member (codes "subType") ms) else None

-- what stands under `$binary`: None where it is malformed
abbrev pub binary_of : Data → Option Contents
binary_of d = option_and_then (λ t. binary_in t.0 t.1) (option_and_then texts_in (as_object d))

-- what stands under `$uuid`, of subtype 04 (RFC 4122, section 3): None where it is malformed
abbrev pub uuid_of : Data → Option Contents
uuid_of d = option_map (λ bytes. (4, bytes)) (option_and_then parsed (as_str d))

-- by the members of these two names, of an object that has one member
abbrev pub wrapped_by : Option Data → Option Data → Option (Option Contents)
wrapped_by (Some d) uuid = Some (binary_of d)
wrapped_by None uuid = option_map uuid_of uuid

-- Some exactly for an object whose single name is `$binary` or `$uuid`: what it gives, None where it is malformed
abbrev pub wrapped : Members → Option (Option Contents)
wrapped ms = if members_count ms == 1 then wrapped_by (get_member (codes "$binary") ms)
    (get_member (codes "$uuid") ms) else None
