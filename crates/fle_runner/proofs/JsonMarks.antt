-- A file of collection infos in JSON leads to what its documents in BSON lead to.
use Rattle.std.proofs.Common.{◌≡◌, ◌∙◌, ℕ, ◌+◌, ◌<◌, ◌≤◌, ◌^◌, Bool, true, false, cond, nat_lt, Option, Some, None}
use Rattle.std.proofs.Common.{Result, Ok, Err, List, [], ◌∷◌, ◌++◌, length, sym, ap, arith, append-nil}
use Rattle.std.proofs.Common.{append_assoc, length-append}
use Rattle.std.specs.Int.{to_le_bytes, w32}
use Rattle.std.specs.Prelude.{slice_index}
use Rattle.std.proofs.lemmas.Bool.Decides.{nat_tests}
use Rattle.serde_json.specs.Data.{Data, array, Items as Values, no_items as no_values, item as value_then}
use Rattle.serde_json.specs.Read.{read}
use Rattle.std.specs.Str.{is_utf8}
use Rattle.bson_tree.specs.Spelling.{doc_bytes, items_bytes}
use Rattle.bson_tree.specs.Tree.{Items}
use Rattle.bson_tree.proofs.Sizes.{framed_size}
use Rattle.encrypt_schema.specs.Language.Collection.{Collection}
use Rattle.ext_json.specs.Infos.{infos_in, json_infos, member_of, member_then, members_of}
use Rattle.ext_json.specs.declared.fault.JsonFault.{JsonFault}
use Rattle.ext_json.specs.declared.fault.JsonFault.TheVariants as json_faults
use Rattle.fle_files.specs.Infos.{infos_read, is_json}
use Rattle.fle_files.specs.Limits.{file_limit}
use Rattle.fle_files.specs.Setup.{infos_or, with_infos, with_master, with_vault}
use Rattle.fle_files.proofs.InfosRead.{bson_is, json_is}
use Rattle.fle_stream.specs.Task.{Task, each, fails, pairs}
use Rattle.fle_stream.specs.declared.why.Finish.TheVariants as finishes
use Rattle.fle_stream.specs.declared.why.SetupFault.TheVariants as setups
use Rattle.context_machine.specs.Rings.{finder}
use Rattle.fle_runner.specs.Encrypt.{encrypt_task, encrypt_verdict}
use Rattle.fle_runner.specs.EncryptWith.{encrypt_pairing, encrypt_with_task}
use Rattle.fle_runner.specs.Mark.{mark_task, mark_verdict}

-- ---- what the documents of a JSON text begin with

-- the bytes before the members stand in front of what they come to
abbrev Begins : List ℕ → List ℕ → Type 0
Begins bytes all = (rest : List ℕ) × (all ≡ bytes ++ rest)

longer : (a b all : List ℕ) → Begins (a ++ b) all → Begins a all
longer a b all begins = (b ++ begins.0, begins.1 ∙ append_assoc a b begins.0)

member_begins : (fault : JsonFault) (next : Items → Result (List ℕ) JsonFault) (bytes all : List ℕ) (o : Option Items)
    → ((is : Items) → next is ≡ Ok all → Begins (bytes ++ doc_bytes is) all) → member_then fault next o ≡ Ok all
    → (is : Items) × Begins (bytes ++ doc_bytes is) all
member_begins fault next bytes all None behind e = absurd cc
member_begins fault next bytes all (Some is) behind e = (is, behind is e)

members_begin : (k : ℕ) (bytes all : List ℕ) (ds : Values) → members_of k bytes ds ≡ Ok all → Begins bytes all
members_begin k bytes all no_values e =
    let same : bytes ≡ all = cc in
    ([], sym same ∙ sym (append-nil bytes))
members_begin k bytes all (value_then d ds) e =
    let first = member_begins (json_faults.Form k) (λ is. members_of (k + 1) (bytes ++ doc_bytes is) ds) bytes all
    (member_of (length bytes) d) (λ is. members_begin (k + 1) (bytes ++ doc_bytes is) all ds) e in
    longer bytes (doc_bytes first.0) all first.1

-- ---- no BSON of at most 64 MiB is taken for JSON

fourth : (elements more : List ℕ) → length elements + 5 ≤ 2 ^ 26
    → nat_lt 8 (slice_index ((to_le_bytes w32 (length elements + 5) ++ (elements ++ 0 ∷ [])) ++ more) 3) ≡ false
fourth elements more few =
    let low : slice_index ((to_le_bytes w32 (length elements + 5) ++ (elements ++ 0 ∷ [])) ++ more) 3 < 5 =
    omega (arith, few) in
    grind (arith, nat_tests)

isnt_json : (is : Items) (more bytes : List ℕ) → bytes ≡ doc_bytes is ++ more → length bytes ≤ file_limit
    → is_json bytes ≡ false
isnt_json is more bytes e few =
    let long : length bytes ≡ length (doc_bytes is) + length more = ap length e ∙ length-append (doc_bytes is) more in
    let size = framed_size (items_bytes is) in
    let some : nat_lt (length bytes) 4 ≡ false = grind (arith, nat_tests) in
    let here : nat_lt 8 (slice_index bytes 3) ≡ false =
    ap (λ (bs : List ℕ). nat_lt 8 (slice_index bs 3)) e
    ∙ fourth (items_bytes is) more (omega (arith, long, size, few)) in
    ap (λ (b : Bool). cond b (nat_lt 0 (length bytes)) (nat_lt 8 (slice_index bytes 3))) some ∙ here

array_isnt : (ds : Values) (bson : List ℕ) → members_of 1 [] ds ≡ Ok bson → length bson ≤ file_limit
    → is_json bson ≡ false
array_isnt no_values bson e few =
    let same : bson ≡ [] = cc in
    ap is_json same
array_isnt (value_then d ds) bson e few =
    let first = member_begins (json_faults.Form 1) (λ is. members_of 2 (doc_bytes is) ds) [] bson (member_of 0 d)
    (λ is. members_begin 2 (doc_bytes is) bson ds) e in
    isnt_json first.0 first.1.0 bson first.1.1 few

read_isnt : (o : Option Data) (bson : List ℕ) → infos_in o ≡ Ok bson → length bson ≤ file_limit
    → is_json bson ≡ false
read_isnt None bson e few = absurd cc
read_isnt (Some (array ds)) bson e few = array_isnt ds bson e few
read_isnt (Some d) bson e few = absurd cc

text_isnt : (b : Bool) (o : Option Data) (bson : List ℕ)
    → cond b (infos_in o) (Err json_faults.Syntax) ≡ Ok bson → length bson ≤ file_limit → is_json bson ≡ false
text_isnt true o bson e few = read_isnt o bson e few
text_isnt false o bson e few = absurd cc

bson_isnt : (json bson : List ℕ) → json_infos json ≡ Ok bson → length bson ≤ file_limit → is_json bson ≡ false
unfolding json_infos
bson_isnt json bson e few = text_isnt (is_utf8 json) (read json) bson e few

-- ---- so both files lead on alike

loaded : (number : ℕ) (next : List Collection → Task) (bytes : List ℕ) → length bytes ≤ file_limit
    → with_infos number (Some bytes) next ≡ infos_or number next (infos_read bytes)
loaded number next bytes fits =
    let short : nat_lt file_limit (length bytes) ≡ false = grind (arith, nat_tests) in
    ap (λ (b : Bool). cond b (fails (finishes.Setup number setups.TooLong 0))
    (infos_or number next (infos_read bytes))) short

json_leads : (number : ℕ) (next : List Collection → Task) (json bson : List ℕ) → length json ≤ file_limit
    → length bson ≤ file_limit → is_json json ≡ true → json_infos json ≡ Ok bson
    → with_infos number (Some json) next ≡ with_infos number (Some bson) next
json_leads number next json bson fits fits2 is gives =
    loaded number next json fits
    ∙ (ap (infos_or number next) (json_is json bson is gives ∙ sym (bson_is bson (bson_isnt json bson gives fits2)))
    ∙ sym (loaded number next bson fits2))

pub json_marks : (db json bson : List ℕ) → length json ≤ file_limit → length bson ≤ file_limit → is_json json ≡ true
    → json_infos json ≡ Ok bson → mark_task db (Some json) ≡ mark_task db (Some bson)
json_marks db json bson fits fits2 is gives =
    json_leads 1 (λ infos. each (mark_verdict infos db)) json bson fits fits2 is gives

pub json_seals : (db : List ℕ) (vault master : Option (List ℕ)) (json bson : List ℕ) → length json ≤ file_limit
    → length bson ≤ file_limit → is_json json ≡ true → json_infos json ≡ Ok bson
    → encrypt_task db vault (Some json) master ≡ encrypt_task db vault (Some bson) master
json_seals db vault master json bson fits fits2 is gives =
    λ i. with_vault 1 vault (λ keys. json_leads 2 (λ infos. with_master 3 master
    (λ key. each (encrypt_verdict (finder keys key) infos db))) json bson fits fits2 is gives i)

pub json_pairs : (db : List ℕ) (vault master : Option (List ℕ)) (json bson : List ℕ) → length json ≤ file_limit
    → length bson ≤ file_limit → is_json json ≡ true → json_infos json ≡ Ok bson
    → encrypt_with_task db vault (Some json) master ≡ encrypt_with_task db vault (Some bson) master
json_pairs db vault master json bson fits fits2 is gives =
    λ i. with_vault 1 vault (λ keys. json_leads 2 (λ infos. with_master 3 master
    (λ key. pairs (encrypt_pairing (finder keys key) infos db))) json bson fits fits2 is gives i)
