-- The steps in which a command of the demo is sealed: its block, and its only key.
use Rattle.std.proofs.Common.{◌≡◌, ◌∙◌, ◌<◌, ◌≤◌, ℕ, List, [], ◌∷◌, ◌++◌, length, map, Option, Some, None, sym}
use Rattle.std.proofs.Common.{ap, subst}
use Rattle.std.proofs.Common.{arith}
use Rattle.std.specs.Prelude.{unwrap_or}
use Rattle.bson_codec.specs.Borrowed.{At}
use Rattle.bson_tree.specs.Spelling.{doc_bytes}
use Rattle.context_machine.specs.Kept.{AnswerAs, AreFedFrom, all_fed, fed}
use Rattle.context_machine.specs.Needs.{AreIds, IsId, NeedAt, first_needs}
use Rattle.context_machine.specs.Ready.{StopsWaiting, readied, sealed_size, values_of}
use Rattle.context_machine.specs.Rings.{AreOpened, Finder, by_ids, finder, first_keyless, found_in, need_at}
use Rattle.context_machine.specs.Rings.{needs_of, reason_of, ring}
use Rattle.context_machine.specs.States.{Readied, Waits}
use Rattle.context_machine.specs.Waiting.{fed_key, wanted_of}
use Rattle.context_machine.specs.declared.opened_keys.KeysStop.{KeysStop}
use Rattle.context_machine.specs.declared.opened_keys.KeysStop.TheVariants as stops
use Rattle.context_machine.proofs.Keyed.{ids_opened, keyless_ids}
use Rattle.data_key.specs.declared.key_doc.KeyDoc.{KeyDoc}
use Rattle.doc_rewrite.specs.Keys.{Table, key_in}
use Rattle.doc_rewrite.specs.Opened.{Keyring}
use Rattle.doc_rewrite.specs.Sealed.{sealed}
use Rattle.doc_rewrite.specs.Sites.{Site}
use Rattle.encrypt_schema.specs.Commands.Targets.{rows_in}
use Rattle.encrypt_schema.specs.Commands.Visits.{Refusal, or_else, refused_at}
use Rattle.encrypt_schema.specs.Language.Collection.{Collection}
use Rattle.fle_outside.specs.Blocks.{Block}
use Rattle.payload6.specs.Needs.{Need, Id, Name}
use Rattle.fle_demo.specs.States.{IsKeyed, IsReadyUnder, IsWant, waiting}

-- one block was drawn, the first
abbrev head_of : List Block → Block
head_of [] = []
head_of (b ∷ bs) = b

abbrev tail_of : List Block → List Block
tail_of [] = []
tail_of (b ∷ bs) = bs

pub one_drawn : (drawn others rest : List Block) (block : Block) → length drawn ≡ 1 → block ∷ rest ≡ drawn ++ others
    → drawn ≡ block ∷ []
one_drawn [] others rest block n e = absurd (omega (arith, n))
one_drawn (b ∷ []) others rest block n e = ap (λ (x : Block). x ∷ []) (sym (ap head_of e))
one_drawn (b ∷ c ∷ ds) others rest block n e = absurd (omega (arith, n))

pub others_left : (drawn others rest : List Block) (block : Block) → length drawn ≡ 1 → block ∷ rest ≡ drawn ++ others
    → others ≡ rest
others_left [] others rest block n e = absurd (omega (arith, n))
others_left (b ∷ []) others rest block n e = sym (ap tail_of e)
others_left (b ∷ c ∷ ds) others rest block n e = absurd (omega (arith, n))

pub some_same : (a b : List Block) → Some a ≡ Some b → a ≡ b
some_same a b e = ap (λ (o : Option (List Block)). unwrap_or o []) e

-- the values of a command
abbrev pub uses : Option Collection → At → List NeedAt
uses info command = needs_of (rows_in info) command

-- what the keys kept are of a vault with one key
abbrev pub Answers : Type 0
Answers = (needs : List NeedAt) (keys : List KeyDoc) → AnswerAs needs keys (all_fed needs [] keys)

abbrev pub TableAlike : Type 0
TableAlike = (vault kept : List KeyDoc) (ns : List NeedAt) (master : List ℕ) (table : Table)
    → AreFedFrom vault (first_needs ns) kept
    → AreOpened (finder kept master) ns table → AreOpened (finder vault master) ns table

abbrev pub Lacks : Type 0
Lacks = (vault kept : List KeyDoc) (ns : List NeedAt) (master : List ℕ) → AreFedFrom vault (first_needs ns) kept
    → first_keyless (finder kept master) ns ≡ first_keyless (finder vault master) ns

-- what is to be had by ids alone needs ids
had_id : (keys : Keyring) (need : Need) (at : ℕ) (left : Option Refusal)
    → or_else (refused_at at (reason_of (by_ids keys need))) left ≡ None → IsId need
had_id keys (Id id) at left e = tt
had_id keys (Name name) at left e = absurd cc

had_behind : (first left : Option Refusal) → or_else first left ≡ None → left ≡ None
had_behind None left e = e
had_behind (Some refusal) left e = absurd cc

had_ids : (keys : Keyring) (ns : List NeedAt) → first_keyless (by_ids keys) ns ≡ None → AreIds ns
had_ids keys [] e = tt
had_ids keys (n ∷ ns) e = (
  had_id keys n.need n.at (first_keyless (by_ids keys) ns) e,
  had_ids keys ns
      (had_behind (refused_at n.at (reason_of (by_ids keys n.need))) (first_keyless (by_ids keys) ns) e),
)

-- its info is the one under which its keys are to be had
pub same_ids : (keys : Keyring) (w : Waits) (info known : Collection) → w.info ≡ Some info → w.info ≡ Some known
    → IsKeyed keys known w.command → AreIds (uses (Some info) w.command)
same_ids keys w info known is there keyed =
    subst (λ (o : Option Collection). AreIds (uses o w.command)) (sym there ∙ is)
    (had_ids keys (uses (Some known) w.command) keyed.had)

pub ready_under : Answers → TableAlike → (w now : Waits) (key : KeyDoc) (master : List ℕ) (info : Collection)
    (r : Readied) → AreIds (uses (Some info) w.command) → w.kept ≡ [] → now ≡ fed_key w key → w.info ≡ Some info
    → r ≡ readied now r.table → AreOpened (finder now.kept master) (needs_of (rows_in now.info) now.command) r.table
    → IsReadyUnder (ring (key ∷ []) master) info w.command r
ready_under answers opens w now key master info r ids fresh fed_is info_is is opened =
    let command : now.command ≡ w.command = ap (λ (x : Waits). x.command) fed_is in
    let kept_info : now.info ≡ Some info = ap (λ (x : Waits). x.info) fed_is ∙ info_is in
    let ns = uses (Some info) w.command in
    let mine = subst (λ (x : Waits). AreOpened (finder x.kept master) (needs_of (rows_in x.info) x.command) r.table)
    fed_is
    opened in
    let bare = subst (λ (k : List KeyDoc). AreOpened (finder (fed (wanted_of w.info w.command) k key) master)
    (needs_of (rows_in w.info) w.command) r.table) fresh mine in
    let same = subst (λ (i : Option Collection). AreOpened (finder (fed (wanted_of i w.command) [] key) master)
    (needs_of (rows_in i) w.command) r.table) info_is bare in
    record {
      command_is = ap (λ (x : Readied). x.command) is ∙ command;
      info_is = ap (λ (x : Readied). x.info) is ∙ kept_info;
      opened = ids_opened (key ∷ []) master ns r.table ids
          (opens (key ∷ []) (fed (first_needs ns) [] key) ns master r.table (answers (first_needs ns) (key ∷ [])) same);
    }

-- what stops it is want of memory
abbrev Stopped : Option Refusal → ℕ → KeysStop → Type 0
Stopped o size (stops.Refused reason at) = o ≡ Some (record { reason = reason; at = at })
Stopped o size stops.TooLong = (o ≡ None) × (48000000 < size)
Stopped o size stops.Memory = Unit {0}

want_by : (stop : KeysStop) (o : Option Refusal) (size : ℕ) → o ≡ None → size ≤ 48000000 → Stopped o size stop
    → IsWant stop
want_by (stops.Refused reason at) o size none short is = absurd cc
want_by stops.TooLong o size none short is = absurd (omega (arith, short, is.1))
want_by stops.Memory o size none short is = tt

stopped_by : (keys : List KeyDoc) (master : List ℕ) (w : Waits) (stop : KeysStop)
    → StopsWaiting (finder keys master) w stop
    → Stopped (first_keyless (finder keys master) (needs_of (rows_in w.info) w.command)) (sealed_size w.info w.command)
    stop
stopped_by keys master w (stops.Refused reason at) is = is
stopped_by keys master w stops.TooLong is = is
stopped_by keys master w stops.Memory is = tt

pub want_only : Answers → Lacks → (w now : Waits) (key : KeyDoc) (master : List ℕ) (info : Collection) (stop : KeysStop)
    → w.kept ≡ [] → now ≡ fed_key w key → w.info ≡ Some info → IsKeyed (ring (key ∷ []) master) info w.command
    → StopsWaiting (finder now.kept master) now stop → IsWant stop
want_only answers lacks w now key master info stop fresh fed_is info_is keyed is =
    let ns = uses (Some info) w.command in
    let kept = fed (first_needs ns) [] key in
    let mine = subst (λ (x : Waits). StopsWaiting (finder x.kept master) x stop) fed_is is in
    let bare = stopped_by (fed (wanted_of w.info w.command) w.kept key) master (fed_key w key) stop mine in
    let empty = subst (λ (k : List KeyDoc). Stopped (first_keyless (finder (fed (wanted_of w.info w.command) k key)
    master)
    (needs_of (rows_in w.info) w.command)) (sealed_size w.info w.command) stop) fresh bare in
    let same = subst (λ (i : Option Collection). Stopped (first_keyless (finder (fed (wanted_of i w.command) [] key)
    master)
    (needs_of (rows_in i) w.command)) (sealed_size i w.command) stop) info_is empty in
    let none = lacks (key ∷ []) kept ns master (answers (first_needs ns) (key ∷ []))
    ∙ sym (keyless_ids (key ∷ []) master ns (had_ids (ring (key ∷ []) master) ns keyed.had)) ∙ keyed.had in
    want_by stop (first_keyless (finder kept master) ns) (sealed_size (Some info) w.command) none keyed.short same

-- ---- the states one after another

pub ready_waited : (keys : Keyring) (info : Collection) (command : At) (w : Waits) (r : Readied)
    → w ≡ waiting info command
    → IsReadyUnder keys info w.command r → IsReadyUnder keys info command r
ready_waited keys info command w r is ready =
    subst (λ (d : At). IsReadyUnder keys info d r) (ap (λ (x : Waits). x.command) is) ready

-- what depends on the command and its info alone
pub same_under : {A : Type 0} (f : Option Collection → At → A) (keys : Keyring) (info : Collection) (command : At)
    (r : Readied) → IsReadyUnder keys info command r → f r.info r.command ≡ f (Some info) command
same_under f keys info command r ready =
    ap (f r.info) ready.command_is ∙ ap (λ (o : Option Collection). f o command) ready.info_is

abbrev pub Seals : Type 0
Seals = (keys : Finder) (ss : List Site) (table : Table) (blocks : List Block) (d : At)
    → AreOpened keys (map need_at ss) table → sealed (key_in table) ss blocks d ≡ sealed (found_in keys) ss blocks d

pub sealed_under : Seals → (keys : Keyring) (info : Collection) (command : At) (r : Readied) (block : Block) (out : List
    ℕ)
    → IsReadyUnder keys info command r
    → out ≡ doc_bytes (sealed (key_in r.table) (values_of r.info r.command) (block ∷ []) r.command)
    → out ≡ doc_bytes (sealed (found_in (by_ids keys)) (values_of (Some info) command) (block ∷ []) command)
sealed_under seals keys info command r block out ready is =
    is ∙ (same_under (λ (o : Option Collection) (d : At). doc_bytes (sealed (key_in r.table) (values_of o d) (block ∷
    []) d))
    keys info command r ready
    ∙ ap doc_bytes (seals (by_ids keys) (values_of (Some info) command) r.table (block ∷ []) command ready.opened))
