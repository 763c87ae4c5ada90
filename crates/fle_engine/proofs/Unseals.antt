-- What a document comes to that is to be opened, by what its states answer.
use Rattle.std.proofs.Common.{◌≡◌, ℕ, List, [], None, Result, Ok, Err, Vec, Global, refl, sym, ap, subst, ◌∙◌}
use Rattle.bson_tree.specs.Tree.{Items}
use Rattle.bson_codec.specs.Borrowed.{At}
use Rattle.context_machine.specs.Decrypting.{IsMisshapen, OpensTo, StaysSealed}
use Rattle.context_machine.specs.Rings.{AreOpened, by_ids, needs_in}
use Rattle.context_machine.specs.States.{Opens, OpensWith}
use Rattle.context_machine.specs.Tables.{KeysFail}
use Rattle.context_machine.specs.declared.opened_keys.KeysStop.{KeysStop}
use Rattle.context_machine.specs.declared.opened_keys.KeysStop.TheVariants as stops
use Rattle.context_machine.proofs.Alike.{keyless_stops, misshapen_stops, table_opens}
use Rattle.doc_rewrite.specs.Founds.{payloads_of}
use Rattle.doc_rewrite.specs.Keys.{Table, key_by_id}
use Rattle.doc_rewrite.specs.Opened.{Keyring, first_wrong, misshapen, opened, ring_of}
use Rattle.doc_rewrite.specs.declared.unsealing.Spot.{Spot}
use Rattle.encrypt_schema.specs.Commands.Visits.{Refusal}
use Rattle.encrypt_schema.specs.declared.command.marks.MarkFault.{MarkFault}
use Rattle.encrypt_schema.specs.declared.command.marks.MarkFault.TheVariants as faults
use Rattle.fle_outside.specs.Seen.{EntropySeen}
use Rattle.fle_outside.proofs.Drawings.{draws_none}
use Rattle.fle_engine.specs.Answers.{AnswerIs}
use Rattle.fle_engine.specs.Opening.{open_ruling, opened_or}
use Rattle.fle_engine.specs.Rulings.{Ruling, StopsAs, Tells, refused}
use Rattle.fle_engine.specs.declared.answer.Answer.{Answer}
use Rattle.fle_engine.specs.declared.answer.Answer.TheVariants as answers
use Rattle.fle_engine.proofs.Seals.{front_is}

-- a document by itself, by what it opens to
ruling_is : (keys : Keyring) (d : At) (o : Result Items Refusal) → d.start ≡ 0 → opened keys d ≡ o
    → open_ruling keys d.tree ≡ opened_or o
unfolding open_ruling
ruling_is keys d o whole is = ap opened_or (ap (opened keys) (sym (front_is d whole)) ∙ is)

-- a payload has a length that none has
pub misshapen_told : (keys : Keyring) (d : At) (fault : MarkFault) → d.start ≡ 0 → IsMisshapen d fault
    → Tells fault (open_ruling keys d.tree)
misshapen_told keys d (faults.Refused reason at) whole is =
    let r : Refusal = record { reason = reason; at = at } in
    ruling_is keys d (Err r) whole (misshapen_stops keys d r is)
misshapen_told keys d faults.Memory whole is = tt

-- a payload's key isn't to be had
pub keyless_told : (keys : Keyring) (d : At) (stop : KeysStop) → d.start ≡ 0
    → first_wrong misshapen (payloads_of d) ≡ None → KeysFail (by_ids keys) (needs_in d) stop
    → StopsAs stop (open_ruling keys d.tree)
keyless_told keys d (stops.Refused reason at) whole shaped fail =
    let r : Refusal = record { reason = reason; at = at } in
    ruling_is keys d (Err r) whole (keyless_stops keys d r shaped fail)
keyless_told keys d stops.TooLong whole shaped fail = absurd fail
keyless_told keys d stops.Memory whole shaped fail = tt

-- each payload's key is there: the document is opened, or a payload stays sealed
pub opened_made : (keys : Keyring) (d : At) (table : Table) (bytes : List ℕ) (output : Vec ℕ Global)
    (e : EntropySeen) → d.start ≡ 0
    → AreOpened (by_ids keys) (needs_in d) table → OpensTo (ring_of (key_by_id table.ids)) d bytes
    → output.items ≡ bytes
    → AnswerIs (open_ruling keys d.tree) d.tree e e (answers.Made output)
opened_made keys d table bytes output e whole are opens same =
    let is : opened keys d ≡ Ok opens.0 = sym (table_opens keys table d are) ∙ opens.1 in
    subst (λ (v : Ruling). AnswerIs v d.tree e e (answers.Made output))
    (sym (ruling_is keys d (Ok opens.0) whole is))
    ([], refl, draws_none e, same ∙ opens.2, refl)

pub sealed_told : (keys : Keyring) (d : At) (table : Table) (spot : Spot) → d.start ≡ 0
    → AreOpened (by_ids keys) (needs_in d) table → StaysSealed (ring_of (key_by_id table.ids)) d spot
    → open_ruling keys d.tree ≡ refused (record { reason = spot.reason; at = spot.at })
sealed_told keys d table spot whole are stays =
    ruling_is keys d (Err (record { reason = spot.reason; at = spot.at })) whole
    (sym (table_opens keys table d are) ∙ stays)

-- ---- the state that is ready

pub keys_open : (keys : Keyring) (s : Opens) (r : OpensWith) (e : EntropySeen) (a : Answer)
    → r ≡ record { document = s.document; kept = s.kept; table = r.table }
    → AreOpened (by_ids keys) (needs_in s.document) r.table
    → ((own : Keyring) → AreOpened (by_ids own) (needs_in r.document) r.table
    → AnswerIs (open_ruling own r.document.tree) r.document.tree e e a)
    → AnswerIs (open_ruling keys s.document.tree) s.document.tree e e a
keys_open keys s r e a ready opened answered =
    let here : r.document ≡ s.document = ap (λ (x : OpensWith). x.document) ready in
    subst (λ (x : At). AreOpened (by_ids keys) (needs_in x) r.table
    → AnswerIs (open_ruling keys x.tree) x.tree e e a) here (answered keys) opened
