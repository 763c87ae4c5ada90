-- What a run of `encrypt` wrote, read by `decrypt`: the commands.
use Rattle.std.proofs.Common.{◌≡◌, ℕ, ◌<◌, ◌^◌, ◌∙◌, None, Result, Ok, List, [], ◌∷◌, ◌++◌, length}
use Rattle.std.proofs.Common.{refl, sym, ap, subst, append-nil, arith, Bool, true, false, cond, nat_lt, ◌+◌}
use Rattle.std.specs.List.{All}
use Rattle.bson_codec.specs.Layout.{IsDoc}
use Rattle.bson_tree.specs.Spelling.{doc_bytes}
use Rattle.bson_tree.specs.Tree.{Items}
use Rattle.encrypt_schema.specs.Commands.Targets.{rows_of}
use Rattle.encrypt_schema.specs.Commands.Visits.{Refusal, content_verdict}
use Rattle.fle_outside.specs.Blocks.{Block}
use Rattle.fle_outside.specs.Seen.{EntropySeen, Gains, SinkSeen}
use Rattle.doc_rewrite.specs.Opened.{Keyring, opened}
use Rattle.doc_rewrite.specs.SealedTrees.{IsSealedByStations}
use Rattle.doc_rewrite.proofs.OpensAgain.{opens_again, spelled_again, stations_of}
use Rattle.context_machine.specs.Rings.{found_in}
use Rattle.fle_stream.specs.Plan.{Verdict, writes, refused, too_long}
use Rattle.fle_stream.specs.Streams.{Docs, doc, documents, ends}
use Rattle.fle_stream.specs.declared.status.Status.{Status}
use Rattle.fle_stream.specs.declared.status.Status.TheVariants as statuses
use Rattle.fle_engine.specs.Opening.{open_ruling, opened_or}
use Rattle.fle_runner.specs.Decrypt.{decrypt_verdict}
use Rattle.fle_runner.specs.Headline.{AreOpenable, AreReadable, AreSealedUnder, OpensAgain, SealsFirst, SealsNext}
use Rattle.fle_runner.specs.Headline.{Setup, accepted_in, verdict_of}
use Rattle.fle_runner.proofs.IfAccepted.{if_accepted}
use Rattle.fle_runner.specs.ReadBack.{ComesTo, stream}
use Rattle.fle_runner.specs.Verdicts.{as_verdict, plain_plan}
use Rattle.fle_runner.proofs.Accepted.{accepted, accepted_is}
use Rattle.fle_runner.proofs.Headline.{contents_free, is_accepted}
use Rattle.fle_runner.proofs.HeadlineReads.{AreRead, documents_read}
use Rattle.fle_runner.specs.Encrypt.{at_front}

-- a document that opens comes to the bytes of what it opens to
opens_to : (keys : Keyring) (c d : Items) → opened keys (at_front d) ≡ Ok c
    → decrypt_verdict keys d ≡ writes (plain_plan (doc_bytes c))
unfolding decrypt_verdict open_ruling
opens_to keys c d e = ap (λ (r : Result Items Refusal). as_verdict d (opened_or r)) e

pub come_back : (x : Setup) (cs : List Items) (blocks : List Block) (ds : List Items) → OpensAgain x
    → AreSealedUnder x cs blocks ds → AreReadable x cs ds → ComesTo (decrypt_verdict x.opens) cs ds
come_back x [] blocks [] had sealed readable = tt
come_back x [] blocks (d ∷ ds) had sealed readable = absurd sealed
come_back x (c ∷ cs) blocks [] had sealed readable = absurd sealed
come_back x (c ∷ cs) blocks (d ∷ ds) had sealed readable =
    let keys = found_in x.keys in
    let rows = rows_of x.infos c in
    let stations : IsSealedByStations keys rows c d =
    stations_of keys rows c d sealed.3.command in
    let small = readable.3 in
    let long : length (doc_bytes d) < 2 ^ 31 = omega (arith, small) in
    let back = opens_again keys rows x.opens (at_front c) (at_front d) readable.0 readable.1 readable.2 had stations
    in (
      spelled_again keys rows c d readable.0 stations long,
      small,
      opens_to x.opens c d back,
      come_back x cs sealed.1 ds had sealed.4 readable.4,
    )

-- ---- the commands of a run

-- commands that were read and accepted: each has a spelling, and nothing is refused of its contents
abbrev AreSound : Setup → List Items → Type 0
AreSound x [] = Unit {0}
AreSound x (c ∷ cs) = IsDoc c × (content_verdict (rows_of x.infos c) 0 c ≡ None) × AreSound x cs

one_sound : (x : Setup) (b : Bool) (w : Verdict) (c : Items) (cs : List Items) → verdict_of x c ≡ w → IsDoc c
    → AreSound x cs → AreSound x (cond b (if_accepted w c cs) [])
one_sound x false w c cs e laid others = tt
one_sound x true (refused reason place) c cs e laid others = tt
one_sound x true too_long c cs e laid others = tt
one_sound x true (writes plan) c cs e laid others = (laid, contents_free x c (is_accepted x c plan e).none, others)

sound : (x : Setup) (taken : ℕ) (docs : Docs) → AreRead docs → AreSound x (accepted (verdict_of x) taken docs)
unfolding accepted
sound x taken (ends rest) read = tt
sound x taken (doc n c docs) read =
    one_sound x (nat_lt taken (2 ^ 40)) (verdict_of x c) c (accepted (verdict_of x) (taken + n) docs) refl read.0.laid
    (sound x (taken + n) docs read.1)

-- so are the first of them
sound_front : (x : Setup) (whole others : List Items) → AreSound x (whole ++ others) → AreSound x whole
sound_front x [] others all = tt
sound_front x (c ∷ cs) others all = (all.0, all.1, sound_front x cs others all.2)

sound_readable : (x : Setup) (cs ds : List Items) → AreSound x cs → AreOpenable x cs ds → AreReadable x cs ds
sound_readable x [] ds all openable = tt
sound_readable x (c ∷ cs) [] all openable = tt
sound_readable x (c ∷ cs) (d ∷ ds) all openable =
    (all.0, all.1, openable.0, openable.1, sound_readable x cs ds all.2 openable.2)

-- the first of the commands that a run accepted are readable
pub front_readable : (x : Setup) (told : List ℕ) (whole others ds : List Items) → All (λ b. b < 256) told
    → accepted_in x 0 (documents told) ≡ whole ++ others → AreOpenable x whole ds → AreReadable x whole ds
front_readable x told whole others ds all split openable =
    sound_readable x whole ds
    (sound_front x whole others
    (subst (AreSound x) (accepted_is x 0 (documents told) ∙ split)
    (sound x 0 (documents told) (documents_read told all))))
    openable

-- and all of them
pub all_readable : (x : Setup) (told : List ℕ) (ds : List Items) → All (λ b. b < 256) told
    → AreOpenable x (accepted_in x 0 (documents told)) ds → AreReadable x (accepted_in x 0 (documents told)) ds
all_readable x told ds all openable =
    front_readable x told (accepted_in x 0 (documents told)) [] ds all
    (sym (append-nil (accepted_in x 0 (documents told)))) openable

-- no byte of a further command is written but where the output failed
no_part : (x : Setup) (status : Status) (others : List Items) (more : List Block) (part : List ℕ)
    → (status ≡ statuses.WriteFault → ⊥) → SealsNext x status others more part → part ≡ []
no_part x statuses.Done others more part other next = next.1
no_part x statuses.Refused others more part other next = next.1
no_part x statuses.Words others more part other next = next.1
no_part x statuses.Malformed others more part other next = next.1
no_part x statuses.Setup others more part other next = next.1
no_part x statuses.ReadFault others more part other next = next.1
no_part x statuses.WriteFault others more part other next = absurd (other refl)
no_part x statuses.EntropyFault [] more part other next = absurd next
no_part x statuses.EntropyFault (c ∷ cs) more part other next = next.1
no_part x statuses.Memory others more part other next = next.1
no_part x statuses.Limit others more part other next = next.1

-- so what is written is sealed commands
pub front_gains : (x : Setup) (told : List ℕ) (status : Status) (entropy entropy_after : EntropySeen)
    (out out_after : SinkSeen) → (status ≡ statuses.WriteFault → ⊥)
    → (s : SealsFirst x told status entropy entropy_after out out_after)
    → Gains out.told out_after.told (stream s.sealed)
front_gains x told status entropy entropy_after out out_after other s =
    subst (λ (bytes : List ℕ). Gains out.told out_after.told bytes)
    (ap (λ (part : List ℕ). stream s.sealed ++ part) (no_part x status s.others s.more s.part other s.next)
    ∙ append-nil (stream s.sealed)) s.gains

-- a run of `decrypt` over it
pub front_back : (x : Setup) (told : List ℕ) (status : Status) (entropy entropy_after : EntropySeen)
    (out out_after : SinkSeen) → OpensAgain x → All (λ b. b < 256) told
    → (s : SealsFirst x told status entropy entropy_after out out_after) → AreOpenable x s.whole s.sealed
    → ComesTo (decrypt_verdict x.opens) s.whole s.sealed
front_back x told status entropy entropy_after out out_after had all s openable =
    come_back x s.whole s.blocks s.sealed had s.each
    (front_readable x told s.whole s.others s.sealed all s.split openable)
