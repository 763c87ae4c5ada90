-- A document is opened under the only key of a vault.
use Rattle.std.proofs.Common.{◌≡◌, ◌∙◌, ℕ, List, [], ◌∷◌, ap, sym, subst}
use Rattle.bson_codec.specs.Borrowed.{At}
use Rattle.context_machine.specs.Kept.{AreFedFrom, fed}
use Rattle.context_machine.specs.Needs.{AreIds, NeedAt, first_needs}
use Rattle.context_machine.specs.Rings.{AreOpened, Finder, by_ids, first_keyless, needs_in, ring}
use Rattle.context_machine.specs.States.{Opens, OpensWith}
use Rattle.context_machine.specs.Tables.{KeysFail}
use Rattle.context_machine.specs.declared.opened_keys.KeysStop.{KeysStop}
use Rattle.context_machine.specs.declared.opened_keys.KeysStop.TheVariants as stops
use Rattle.context_machine.proofs.Decrypting.{needs_ids}
use Rattle.data_key.specs.declared.key_doc.KeyDoc.{KeyDoc}
use Rattle.doc_rewrite.specs.Keys.{Table}
use Rattle.doc_rewrite.specs.Opened.{Keyring, opened}
use Rattle.fle_demo.specs.Sums.{equal_to}
use Rattle.fle_demo.proofs.Steps.{Answers}

-- what the keys kept are of a vault, by ids alone
abbrev pub IdsAlike : Type 0
IdsAlike = (vault kept : List KeyDoc) (ns : List NeedAt) (master : List ℕ) (table : Table) → AreIds ns
    → AreFedFrom vault (first_needs ns) kept
    → AreOpened (by_ids (ring kept master)) ns table → AreOpened (by_ids (ring vault master)) ns table

abbrev pub LacksIds : Type 0
LacksIds = (vault kept : List KeyDoc) (ns : List NeedAt) (master : List ℕ) → AreIds ns
    → AreFedFrom vault (first_needs ns) kept
    → first_keyless (by_ids (ring kept master)) ns ≡ first_keyless (by_ids (ring vault master)) ns

fail_alike : (keys others : Finder) (ns : List NeedAt) (stop : KeysStop)
    → first_keyless keys ns ≡ first_keyless others ns → KeysFail keys ns stop → KeysFail others ns stop
fail_alike keys others ns (stops.Refused reason at) same is = sym same ∙ is
fail_alike keys others ns stops.TooLong same is = is
fail_alike keys others ns stops.Memory same is = tt

-- what stops it stops it under the vault with this key
pub fail_under : Answers → LacksIds → (w now : Opens) (key : KeyDoc) (master : List ℕ) (stop : KeysStop) → w.kept ≡ []
    → now ≡ record { document = w.document; kept = fed (first_needs (needs_in w.document)) w.kept key }
    → KeysFail (by_ids (ring now.kept master)) (needs_in now.document) stop
    → KeysFail (by_ids (ring (key ∷ []) master)) (needs_in w.document) stop
fail_under answers lacks w now key master stop fresh fed_is is =
    let ns = needs_in w.document in
    let kept = fed (first_needs ns) [] key in
    let mine = subst (λ (x : Opens). KeysFail (by_ids (ring x.kept master)) (needs_in x.document) stop) fed_is is in
    let bare = subst (λ (k : List KeyDoc). KeysFail (by_ids (ring (fed (first_needs ns) k key) master)) ns stop)
    fresh mine in
    fail_alike (by_ids (ring kept master)) (by_ids (ring (key ∷ []) master)) ns stop
    (lacks (key ∷ []) kept ns master (needs_ids w.document) (answers (first_needs ns) (key ∷ []))) bare

-- what it opens to under the keys of its table is what it opens to under the vault with this key
pub equal_under : Answers → IdsAlike → (w now : Opens) (key : KeyDoc) (master : List ℕ) (r : OpensWith)
    (bytes : List ℕ) (n : ℕ) → w.kept ≡ []
    → now ≡ record { document = w.document; kept = fed (first_needs (needs_in w.document)) w.kept key }
    → r ≡ record { document = now.document; kept = now.kept; table = r.table }
    → AreOpened (by_ids (ring now.kept master)) (needs_in now.document) r.table
    → ((keys : Keyring) → AreOpened (by_ids keys) (needs_in r.document) r.table → n
    ≡ equal_to bytes (opened keys r.document))
    → n ≡ equal_to bytes (opened (ring (key ∷ []) master) w.document)
equal_under answers alike w now key master r bytes n fresh fed_is is table equal =
    let ns = needs_in w.document in
    let kept = fed (first_needs ns) [] key in
    let same : r.document ≡ w.document =
    ap (λ (x : OpensWith). x.document) is ∙ ap (λ (x : Opens). x.document) fed_is in
    let mine = subst (λ (x : Opens). AreOpened (by_ids (ring x.kept master)) (needs_in x.document) r.table) fed_is
    table in
    let bare = subst (λ (k : List KeyDoc). AreOpened (by_ids (ring (fed (first_needs ns) k key) master)) ns r.table)
    fresh mine
    in
    let only = alike (key ∷ []) kept ns master r.table (needs_ids w.document) (answers (first_needs ns) (key ∷ []))
    bare in
    subst (λ (d : At). n ≡ equal_to bytes (opened (ring (key ∷ []) master) d)) same
    (equal (ring (key ∷ []) master)
    (subst (λ (d : At). AreOpened (by_ids (ring (key ∷ []) master)) (needs_in d) r.table) (sym same) only))
