-- What is ready: what is known of a command once it is sealed, or a block couldn't be drawn, and of a document once it
-- is opened, or isn't.
use Rattle.std.proofs.Common.{◌≡◌, ◌∙◌, ◌++◌, ◌≤◌, ℕ, List, Result, Ok, Err, drop, length, take}
use Rattle.std.proofs.Common.{ap, arith, refl, subst, sym, take_at}
use Rattle.std.proofs.lemmas.List.{length-take}
use Rattle.bson_codec.specs.Borrowed.{At}
use Rattle.bson_tree.specs.Spelling.{doc_bytes}
use Rattle.data_key.specs.declared.key_doc.KeyDoc.{KeyDoc}
use Rattle.fle_outside.specs.Seen.{EntropySeen}
use Rattle.doc_rewrite.specs.Keys.{GivesLongIds, Table, key_by_id, key_in}
use Rattle.doc_rewrite.specs.Opened.{Keyring, opened_whole, ring_of}
use Rattle.doc_rewrite.specs.Opening.{OpensWhole}
use Rattle.doc_rewrite.specs.Sealing.{FellShort, IsSealedWhole}
use Rattle.doc_rewrite.specs.Sites.{draws_of}
use Rattle.doc_rewrite.specs.declared.unsealing.Spot.{Spot}
use Rattle.context_machine.specs.Decrypting.{OpensTo, StaysSealed}
use Rattle.context_machine.specs.Ready.{IsReady, finished, readied, sealed_size, values_of}
use Rattle.context_machine.specs.States.{Finished, OpenedDone, Opens, OpensWith, Readied, Waits}

-- what is sealed has all that was ready, and bytes
pub finished_as : (w : Waits) (table : Table) (bytes : List ℕ) (r : Readied) (d : Finished)
    → readied w table ≡ r → d ≡ finished (readied w table) bytes → d ≡ finished r d.bytes
finished_as w table bytes r d is made =
    subst (λ (x : Readied). d ≡ finished x d.bytes) is
    (subst (λ (y : Finished). y ≡ finished (readied w table) y.bytes) (sym made) refl)

-- the bytes that were written fill those that were there
pub filled : (out now : List ℕ) (len : ℕ) → length now ≡ length out → len ≡ length out
    → take len (now ++ drop (length now) out) ≡ now
filled out now len same whole = take_at now (drop (length now) out) len (omega (arith, same, whole))

-- the bytes are the sealed command
pub sealed_as : (w : Waits) (table : Table) (now bytes : List ℕ) (before after : EntropySeen) (r : Readied)
    (d : Finished) → readied w table ≡ r → d ≡ finished (readied w table) bytes → bytes ≡ now
    → IsSealedWhole (key_in table) (values_of w.info w.command) w.command before after now
    → IsSealedWhole (key_in r.table) (values_of r.info r.command) r.command before after d.bytes
sealed_as w table now bytes before after r d is made same whole =
    subst (λ (x : Readied). IsSealedWhole (key_in x.table) (values_of x.info x.command) x.command before after d.bytes)
    is (subst (λ (bs : List ℕ). IsSealedWhole (key_in table) (values_of w.info w.command) w.command before after bs)
    (sym (ap (λ (y : Finished). y.bytes) made ∙ same)) whole)

-- the ids of its data keys have 16 bytes
pub long_as : (w : Waits) (table : Table) (r : Readied) → readied w table ≡ r → GivesLongIds (key_in table)
    → GivesLongIds (key_in r.table)
long_as w table r is long = subst (λ (x : Readied). GivesLongIds (key_in x.table)) is long

-- so many bytes were there
pub size_as : (w : Waits) (table : Table) (out bytes : List ℕ) (r : Readied) (d : Finished)
    → readied w table ≡ r → d ≡ finished (readied w table) bytes → IsReady w table out → length bytes ≡ length out
    → length d.bytes ≡ sealed_size r.info r.command
size_as w table out bytes r d is made ready same =
    subst (λ (x : Readied). length d.bytes ≡ sealed_size x.info x.command) is
    (ap (λ (y : Finished). length y.bytes) made ∙ same ∙ ready.room)

-- it is ready still, whatever stands in those bytes
pub ready_still : (w : Waits) (table : Table) (out now : List ℕ) → IsReady w table out
    → length now ≡ length out → IsReady w table now
ready_still w table out now ready same = record { keyed = ready.keyed; room = same ∙ ready.room; most = ready.most }

-- fewer blocks were drawn than the command's values need
pub fell_as : (w : Waits) (table : Table) (before after : EntropySeen) (r : Readied) → readied w table ≡ r
    → FellShort before after (draws_of (values_of w.info w.command))
    → FellShort before after (draws_of (values_of r.info r.command))
fell_as w table before after r is fell =
    subst (λ (x : Readied). FellShort before after (draws_of (values_of x.info x.command))) is fell

-- the document is that of the state that asked for its keys
pub opens_asked : (document : At) (kept : List KeyDoc) (asked : Opens) (keys : Keyring) (now : List ℕ)
    (result : Result ℕ Spot) → record { document = document; kept = kept } ≡ asked
    → OpensWhole keys document now result → OpensWhole keys asked.document now result
opens_asked document kept asked keys now result is whole =
    subst (λ (a : Opens). OpensWhole keys a.document now result) is whole

-- what is opened has all that was ready, and bytes
pub opened_as : (document : At) (kept : List KeyDoc) (table : Table) (bytes : List ℕ) (r : OpensWith)
    (d : OpenedDone) → record { document = document; kept = kept; table = table } ≡ r
    → d ≡ record { document = document; kept = kept; table = table; bytes = bytes }
    → d ≡ record { document = r.document; kept = r.kept; table = r.table; bytes = d.bytes }
opened_as document kept table bytes r d is made =
    subst (λ (x : OpensWith). d
    ≡ record { document = x.document; kept = x.kept; table = x.table; bytes = d.bytes }) is
    (subst (λ (y : OpenedDone). y ≡ record { document = document; kept = kept; table = table; bytes = y.bytes })
    (sym made) refl)

-- the front of the bytes that were written is the opened document
pub opens_as : (document : At) (kept : List KeyDoc) (table : Table) (now bytes : List ℕ) (n : ℕ)
    (r : OpensWith) (d : OpenedDone) → record { document = document; kept = kept; table = table } ≡ r
    → d ≡ record { document = document; kept = kept; table = table; bytes = bytes } → bytes ≡ take n now
    → OpensWhole (ring_of (key_by_id table.ids)) document now (Ok n)
    → OpensTo (ring_of (key_by_id r.table.ids)) r.document d.bytes
opens_as document kept table now bytes n r d is made same whole =
    subst (λ (x : OpensWith). OpensTo (ring_of (key_by_id x.table.ids)) x.document d.bytes) is (
      opened_whole (ring_of (key_by_id table.ids)) document,
      whole.0,
      ap (λ (y : OpenedDone). y.bytes) made ∙ same ∙ whole.2,
    )

-- it has at most as many bytes as the document
pub short_as : (document : At) (kept : List KeyDoc) (table : Table) (now bytes : List ℕ) (n : ℕ)
    (r : OpensWith) (d : OpenedDone) → record { document = document; kept = kept; table = table } ≡ r
    → d ≡ record { document = document; kept = kept; table = table; bytes = bytes } → bytes ≡ take n now
    → n ≤ length (doc_bytes document.tree) → length d.bytes ≤ length (doc_bytes r.document.tree)
short_as document kept table now bytes n r d is made same few =
    subst (λ (x : OpensWith). length d.bytes ≤ length (doc_bytes x.document.tree)) is
    (omega (arith, few, ap (λ (y : OpenedDone). length y.bytes) made, ap length same, length-take n now))

-- it isn't opened
pub stays_as : (document : At) (kept : List KeyDoc) (table : Table) (now : List ℕ) (spot : Spot)
    (r : OpensWith) → record { document = document; kept = kept; table = table } ≡ r
    → OpensWhole (ring_of (key_by_id table.ids)) document now (Err spot)
    → StaysSealed (ring_of (key_by_id r.table.ids)) r.document spot
stays_as document kept table now spot r is whole =
    subst (λ (x : OpensWith). StaysSealed (ring_of (key_by_id x.table.ids)) x.document spot) is whole
