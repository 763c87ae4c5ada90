-- A document that is opened with the keys that were kept.
use Rattle.std.proofs.Common.{◌≡◌, ◌∙◌, ℕ, List, [], ◌∷◌, ◌++◌, map, Bool, true, false, cond, Option, Some, None}
use Rattle.std.proofs.Common.{Result, Ok, Err, Vec, Global, refl, sym, ap, subst}
use Rattle.std.specs.Prelude.{is_some, IfOk}
use Rattle.bson_codec.specs.Borrowed.{At}
use Rattle.data_key.specs.declared.key_doc.KeyDoc.{KeyDoc}
use Rattle.doc_rewrite.specs.Finding.{HasKeysFor, IsFoundIn, Tells, found_at}
use Rattle.doc_rewrite.specs.Founds.{Place, payloads_of}
use Rattle.doc_rewrite.specs.Keys.{Found, Table, key_by_id, under_id}
use Rattle.doc_rewrite.specs.Opened.{Keyring}
use Rattle.doc_rewrite.specs.declared.found.FoundAt.{FoundAt}
use Rattle.fle_outside.specs.declared.answers.Memory.{Memory}
use Rattle.context_machine.specs.declared.opened_keys.KeysStop.{KeysStop}
use Rattle.context_machine.specs.Decrypting.{Gathers, GathersOne, need_found}
use Rattle.context_machine.specs.Needs.{AreIds, NeedAt, first_needs, is_needed, names_of, put_new, with_name, with_new}
use Rattle.context_machine.specs.Asks.{key_filter}
use Rattle.context_machine.specs.Needs.{IsId, ids_of}
use Rattle.bson_tree.specs.Spelling.{doc_bytes}
use Rattle.context_machine.specs.Rings.{AreOpened, by_ids, finder, need_in, needs_in, ring}
use Rattle.payload6.specs.Needs.{Need, Id, Name}
use Rattle.context_machine.specs.States.{Opens}
use Rattle.context_machine.specs.Tables.{OpensKeys, TellsTable, table_of}
use Rattle.context_machine.proofs.Keyed.{finder_own, opens_ids, opens_keys}

-- ---- what is needed

needs_same : (ps : List Place) → map need_found (map found_at ps) ≡ map need_in ps
needs_same [] = refl
needs_same (p ∷ ps) = ap (λ (ns : List NeedAt). need_in p ∷ ns) (needs_same ps)

found_needs : (d : At) (fs : List FoundAt) → IsFoundIn d fs → map need_found fs ≡ needs_in d
found_needs d fs found = ap (map need_found) found.all ∙ needs_same (payloads_of d)

-- all that were told of, where memory didn't run short
gathers_all : (a b : Gathers) (fs : List FoundAt) → Tells GathersOne a b fs → b.short ≡ false
    → (a.short ≡ false) × (b.needs ≡ with_new a.needs (map need_found fs))
gathers_all a b [] told long = (ap (λ (g : Gathers). g.short) told ∙ long, sym (ap (λ (g : Gathers). g.needs) told))
gathers_all a b (f ∷ fs) told long =
    let rest = gathers_all told.0 b fs told.2 long in
    let one = told.1 rest.0 in
    (one.0, rest.1 ∙ ap (λ (ns : List NeedAt). with_new ns (map need_found fs)) one.1)

pub gathered : (d : At) (fs : List FoundAt) (a b : Gathers) → IsFoundIn d fs → a ≡ record { needs = []; short = false }
    → Tells GathersOne a b fs → b.short ≡ false → b.needs ≡ first_needs (needs_in d)
gathered d fs a b found none told long =
    (gathers_all a b fs told long).1
    ∙ ap (λ (g : Gathers). with_new g.needs (map need_found fs)) none
    ∙ ap first_needs (found_needs d fs found)

-- a document needs keys by their ids alone
places_ids : (ps : List Place) → AreIds (map need_in ps)
places_ids [] = tt
places_ids (p ∷ ps) = (tt, places_ids ps)

pub needs_ids : (d : At) → AreIds (needs_in d)
needs_ids d = places_ids (payloads_of d)

ids_behind : (ns : List NeedAt) (n : NeedAt) → AreIds ns → IsId n.need → AreIds (ns ++ n ∷ [])
ids_behind [] n ids is = (is, tt)
ids_behind (m ∷ ms) n ids is = (ids.0, ids_behind ms n ids.1 is)

put_ids : (ns : List NeedAt) (n : NeedAt) (b : Bool) → AreIds ns → IsId n.need → AreIds (cond b ns (ns ++ n ∷ []))
put_ids ns n true ids is = ids
put_ids ns n false ids is = ids_behind ns n ids is

with_ids : (asked ns : List NeedAt) → AreIds asked → AreIds ns → AreIds (with_new asked ns)
with_ids asked [] ids more = ids
with_ids asked (n ∷ ns) ids more =
    with_ids (put_new asked n) ns (put_ids asked n (is_needed n.need asked) ids more.0) more.1

id_nameless : (need : Need) (names : List (List ℕ)) → IsId need → with_name need names ≡ names
id_nameless (Id id) names is = refl
id_nameless (Name name) names is = absurd is

nameless : (ns : List NeedAt) → AreIds ns → names_of ns ≡ []
nameless [] ids = refl
nameless (n ∷ ns) ids = id_nameless n.need (names_of ns) ids.0 ∙ nameless ns ids.1

pub first_ids : (d : At) → AreIds (first_needs (needs_in d))
first_ids d = with_ids [] (needs_in d) tt (needs_ids d)

-- so no name is asked for
pub no_names : (d : At) → names_of (first_needs (needs_in d)) ≡ []
no_names d = nameless (first_needs (needs_in d)) (first_ids d)

-- the filter by which keys are asked for has ids alone
pub filter_asked : (d : At) (needs : List NeedAt) (out : List ℕ) → needs ≡ first_needs (needs_in d)
    → out ≡ doc_bytes (key_filter (ids_of needs) (names_of needs))
    → out ≡ doc_bytes (key_filter (ids_of (first_needs (needs_in d))) [])
filter_asked d needs out is written =
    written ∙ ap (λ (ns : List NeedAt). doc_bytes (key_filter (ids_of ns) (names_of ns))) is
    ∙ ap (λ (names : List (List ℕ)). doc_bytes (key_filter (ids_of (first_needs (needs_in d))) names)) (no_names d)

pub filter_told : (d : At) (needs : List NeedAt) (r : Result (Vec ℕ Global) Memory) → needs ≡ first_needs (needs_in d)
    → IfOk r (λ out. out.items ≡ doc_bytes (key_filter (ids_of needs) (names_of needs)))
    → IfOk r (λ out. out.items ≡ doc_bytes (key_filter (ids_of (first_needs (needs_in d))) []))
filter_told d needs (Ok out) is written = filter_asked d needs out.items is written
filter_told d needs (Err short) is written = tt

-- ---- what is there

some_under : (id : List ℕ) (o : Option (List ℕ)) (f : Found) → under_id id o ≡ Some f → is_some o ≡ true
some_under id None f e = absurd cc
some_under id (Some key) f e = refl

has_keys : (keys : Keyring) (table : Table) (ps : List Place) → AreOpened (by_ids keys) (map need_in ps) table
    → HasKeysFor (key_by_id table.ids) (map found_at ps)
has_keys keys table [] are = tt
has_keys keys table (p ∷ ps) are = (some_under _ _ are.0.0 are.0.2, has_keys keys table ps are.1)

pub keyed : (keys : Keyring) (d : At) (table : Table) → AreOpened (by_ids keys) (needs_in d) table
    → HasKeysFor (key_by_id table.ids) (map found_at (payloads_of d))
keyed keys d table are = has_keys keys table (payloads_of d) are

-- ---- the keys kept

-- what the code answers of the keys kept, in the words of the state
pub kept_opens : (s : Opens) (d : At) (kept : List KeyDoc) (needs : List NeedAt) (master : List ℕ)
    (r : Result Table KeysStop) → record { document = d; kept = kept } ≡ s → needs ≡ first_needs (needs_in d)
    → TellsTable (table_of (finder kept master) needs) r
    → OpensKeys (by_ids (ring s.kept master)) (needs_in s.document) r
kept_opens s d kept needs master r is first tells =
    let made : TellsTable (table_of (finder kept master) (first_needs (needs_in d))) r =
    subst (λ (ns : List NeedAt). TellsTable (table_of (finder kept master) ns) r) first tells in
    subst (λ (o : Opens). OpensKeys (by_ids (ring o.kept master)) (needs_in o.document) r) is
    (opens_ids kept master (needs_in d) r (needs_ids d)
    (opens_keys (finder kept master) (finder_own kept master) (needs_in d) r made))

-- the same of the keys of a vault, where the needs are shown as the code holds them
pub vault_opens : (keys : List KeyDoc) (s : Opens) (d : At) (kept : List KeyDoc) (needs shown : List NeedAt)
    (master : List ℕ) (r : Result Table KeysStop) → record { document = d; kept = kept } ≡ s
    → needs ≡ first_needs (needs_in d) → shown ≡ needs → TellsTable (table_of (finder keys master) shown) r
    → OpensKeys (by_ids (ring keys master)) (needs_in s.document) r
vault_opens keys s d kept needs shown master r is first same tells =
    let made : TellsTable (table_of (finder keys master) (first_needs (needs_in d))) r =
    subst (λ (ns : List NeedAt). TellsTable (table_of (finder keys master) ns) r) (same ∙ first) tells in
    subst (λ (o : Opens). OpensKeys (by_ids (ring keys master)) (needs_in o.document) r) is
    (opens_ids keys master (needs_in d) r (needs_ids d)
    (opens_keys (finder keys master) (finder_own keys master) (needs_in d) r made))
