-- The keys that are kept answer each need as all keys do.
use Rattle.std.proofs.Common.{◌≡◌, ◌∙◌, ◌+◌, ◌≤◌, ℕ, Bool, true, false, not, ◌&&◌, ◌||◌, cond, List, [], ◌∷◌, ◌++◌}
use Rattle.std.proofs.Common.{length, Option, Some, None, refl, sym, ap, subst, arith}
use Rattle.std.specs.Prelude.{is_some, if◌then◌else◌}
use Rattle.std.specs.Cmp.Lexicographic.{bytes_decides}
use Rattle.std.proofs.lemmas.Bool.{false≢true}
use Rattle.data_key.specs.declared.key_doc.KeyDoc.{KeyDoc}
use Rattle.payload6.specs.Needs.{Need, Id, Name}
use Rattle.context_machine.specs.Kept.{AnswerAs, AnswerByIds, AreAgreed, AreFedFrom, all_fed, fed, fed_some, is_met}
use Rattle.context_machine.specs.Kept.{is_wanted, key_by, lacking, meets}
use Rattle.context_machine.specs.Needs.{AreIds, IsId, NeedAt, is_needed, is_same}

-- ---- needs that are one

pub same_need : (need other : Need) → is_same need other ≡ true → need ≡ other
same_need (Id id) (Id other) e = ap (λ (x : List ℕ). Id x) ((bytes_decides id other).0 e)
same_need (Id id) (Name other) e = absurd (false≢true e)
same_need (Name name) (Id other) e = absurd (false≢true e)
same_need (Name name) (Name other) e = ap (λ (x : List ℕ). Name x) ((bytes_decides name other).0 e)

pub same_self : (need : Need) → is_same need need ≡ true
same_self (Id id) = (bytes_decides id id).1 refl
same_self (Name name) = (bytes_decides name name).1 refl

or_assoc : (a b c : Bool) → (a || (b || c)) ≡ ((a || b) || c)
or_assoc true b c = refl
or_assoc false b c = refl

or_none : (a : Bool) → (a || false) ≡ a
or_none true = refl
or_none false = refl

pub needed_behind : (asked : List NeedAt) (n : NeedAt) (need : Need)
    → is_needed need (asked ++ (n ∷ [])) ≡ (is_needed need asked || is_same n.need need)
needed_behind [] n need = or_none (is_same n.need need)
needed_behind (m ∷ ms) n need = ap (λ (b : Bool). is_same m.need need || b) (needed_behind ms n need)
    ∙ or_assoc (is_same m.need need) (is_needed need ms) (is_same n.need need)

pub or_either : (a b : Bool) {P : Type 0} → (a || b) ≡ true → (a ≡ true → P) → (b ≡ true → P) → P
or_either true b e p q = p refl
or_either false b e p q = q e

pub or_right : (a b : Bool) → b ≡ true → (a || b) ≡ true
or_right true b e = refl
or_right false b e = e

pub or_left : (a b : Bool) → a ≡ true → (a || b) ≡ true
or_left true b e = refl
or_left false b e = absurd (false≢true e)

-- ---- the first of two keys

abbrev pub or_key : Option KeyDoc → Option KeyDoc → Option KeyDoc
or_key (Some k) later = Some k
or_key None later = later

abbrev pub one_key : Bool → KeyDoc → Option KeyDoc
one_key b k = cond b (Some k) None

or_over : (b : Bool) (x y z : Option KeyDoc) (j : KeyDoc) → y ≡ or_key x z
    → cond b (Some j) y ≡ or_key (cond b (Some j) x) z
or_over true x y z j e = refl
or_over false x y z j e = e

-- a key behind those that are kept answers where none of them does
pub behind_kept : (kept : List KeyDoc) (k : KeyDoc) (need : Need)
    → key_by (kept ++ (k ∷ [])) need ≡ or_key (key_by kept need) (one_key (meets need k) k)
behind_kept [] k need = refl
behind_kept (j ∷ js) k need = or_over (meets need j) (key_by js need) (key_by (js ++ (k ∷ [])) need)
    (one_key (meets need k) k) j (behind_kept js k need)

pub one_some : {A : Type 0} (x y : A) → Some x ≡ Some y → x ≡ y
one_some x y e = cc

pub no_some : {A : Type 0} {P : Type 0} (x : A) → None ≡ Some x → P
no_some x e = absurd cc

found_by : (need : Need) (j k : KeyDoc) (b : Bool) (o : Option KeyDoc) → meets need j ≡ b → cond b (Some j) o ≡ Some k
    → (o ≡ Some k → meets need k ≡ true) → meets need k ≡ true
found_by need j k true o t e later = subst (λ (x : KeyDoc). meets need x ≡ true) (one_some j k e) t
found_by need j k false o t e later = later e

-- a key that is found meets the need
pub found_meets : (need : Need) (keys : List KeyDoc) (k : KeyDoc) → key_by keys need ≡ Some k → meets need k ≡ true
found_meets need [] k e = no_some k e
found_meets need (j ∷ js) k e = found_by need j k (meets need j) (key_by js need) refl e (found_meets need js k)

-- ---- what one key more changes

-- a key meets a need that no kept key meets
abbrev pub is_new : Need → List KeyDoc → KeyDoc → Bool
is_new need kept k = meets need k && not (is_met need kept)

or_parts : (a b : Bool) → (a || b) ≡ false → (a ≡ false) × (b ≡ false)
or_parts true b e = absurd (false≢true (sym e))
or_parts false b e = (refl, e)

unwanted_by : (need : Need) (m : NeedAt) (ms : List NeedAt) (kept : List KeyDoc) (k : KeyDoc) (b : Bool)
    → is_same m.need need ≡ b → (b || is_needed need ms) ≡ true → is_new m.need kept k ≡ false
    → (is_needed need ms ≡ true → is_new need kept k ≡ false) → is_new need kept k ≡ false
unwanted_by need m ms kept k true s h e rest =
    subst (λ (x : Need). is_new x kept k ≡ false) (same_need m.need need s) e
unwanted_by need m ms kept k false s h e rest = rest h

-- a key that isn't wanted meets no need that isn't met
pub unwanted : (need : Need) (needs : List NeedAt) (kept : List KeyDoc) (k : KeyDoc) → is_needed need needs ≡ true
    → is_wanted needs kept k ≡ false → is_new need kept k ≡ false
unwanted need [] kept k h e = absurd (false≢true h)
unwanted need (m ∷ ms) kept k h e =
    let p = or_parts (is_new m.need kept k) (is_wanted ms kept k) e in
    unwanted_by need m ms kept k (is_same m.need need) refl h p.0 (λ g. unwanted need ms kept k g p.1)

kept_as : (o : Option KeyDoc) (b : Bool) (k : KeyDoc) → (b && not (is_some o)) ≡ false → o ≡ or_key o (one_key b k)
kept_as (Some j) b k e = refl
kept_as None true k e = absurd (false≢true (sym e))
kept_as None false k e = refl

fed_by : (need : Need) (needs : List NeedAt) (kept : List KeyDoc) (k : KeyDoc) (w : Bool) → is_wanted needs kept k ≡ w
    → is_needed need needs ≡ true
    → key_by (cond w (kept ++ k ∷ []) kept) need ≡ or_key (key_by kept need) (one_key (meets need k) k)
fed_by need needs kept k true e h = behind_kept kept k need
fed_by need needs kept k false e h = kept_as (key_by kept need) (meets need k) k (unwanted need needs kept k h e)

-- what the keys kept answer a need once a key is handed in
fed_one : (need : Need) (needs : List NeedAt) (kept : List KeyDoc) (k : KeyDoc) → is_needed need needs ≡ true
    → key_by (fed needs kept k) need ≡ or_key (key_by kept need) (one_key (meets need k) k)
fed_one need needs kept k h = fed_by need needs kept k (is_wanted needs kept k) refl h

-- ---- all keys, one after the other

first_three : (o : Option KeyDoc) (b : Bool) (k : KeyDoc) (p : Option KeyDoc)
    → or_key (or_key o (one_key b k)) p ≡ or_key o (cond b (Some k) p)
first_three (Some j) b k p = refl
first_three None true k p = refl
first_three None false k p = refl

first_none : (o : Option KeyDoc) → o ≡ or_key o None
first_none (Some k) = refl
first_none None = refl

fed_all : (need : Need) (needs : List NeedAt) (kept keys : List KeyDoc) → is_needed need needs ≡ true
    → key_by (all_fed needs kept keys) need ≡ or_key (key_by kept need) (key_by keys need)
fed_all need needs kept [] h = first_none (key_by kept need)
fed_all need needs kept (k ∷ ks) h =
    fed_all need needs (fed needs kept k) ks h
    ∙ ap (λ (o : Option KeyDoc). or_key o (key_by ks need)) (fed_one need needs kept k h)
    ∙ first_three (key_by kept need) (meets need k) k (key_by ks need)

-- ---- each key that is kept is the first for a need

both_parts : (a b : Bool) → (a && b) ≡ true → (a ≡ true) × (b ≡ true)
both_parts true b e = (refl, e)
both_parts false b e = absurd (false≢true e)

not_there : (o : Option KeyDoc) → not (is_some o) ≡ true → o ≡ None
not_there None e = refl
not_there (Some k) e = absurd (false≢true e)

-- a key meets one of these needs that no kept key meets
abbrev pub IsNewOne : List NeedAt → List KeyDoc → KeyDoc → Type 0
IsNewOne needs kept k = (need : Need) × (is_needed need needs ≡ true) × (is_new need kept k ≡ true)

wanted_by : (n : NeedAt) (ns : List NeedAt) (kept : List KeyDoc) (k : KeyDoc)
    → (is_new n.need kept k || is_wanted ns kept k) ≡ true
    → (is_wanted ns kept k ≡ true → IsNewOne ns kept k) → IsNewOne (n ∷ ns) kept k
wanted_by n ns kept k e rest =
    or_either (is_new n.need kept k) (is_wanted ns kept k) e
    (λ here. (n.need, or_left (is_same n.need n.need) (is_needed n.need ns) (same_self n.need), here))
    (λ there. let o = rest there in (o.0, or_right (is_same n.need o.0) (is_needed o.0 ns) o.1, o.2))

-- a key that is wanted does
pub wanted_new : (needs : List NeedAt) (kept : List KeyDoc) (k : KeyDoc) → is_wanted needs kept k ≡ true
    → IsNewOne needs kept k
wanted_new [] kept k e = absurd (false≢true e)
wanted_new (n ∷ ns) kept k e = wanted_by n ns kept k e (wanted_new ns kept k)

-- a key that is found among those kept and one more is one of those kept, or that one
pub either_key : {P : Type 0} (o : Option KeyDoc) (b : Bool) (j k : KeyDoc) → or_key o (one_key b j) ≡ Some k
    → (o ≡ Some k → P) → (b ≡ true → j ≡ k → P) → P
either_key (Some i) b j k e p q = p e
either_key None true j k e p q = q refl (one_some j k e)
either_key None false j k e p q = no_some k e

-- a key is what these have for one of the needs
abbrev IsOwn : List NeedAt → List KeyDoc → KeyDoc → Type 0
IsOwn needs kept k = (need : Need) × (is_needed need needs ≡ true) × (key_by kept need ≡ Some k)

-- whatever they answer is
abbrev AllOwn : List NeedAt → List KeyDoc → Type 0
AllOwn needs kept = (need : Need) (k : KeyDoc) → key_by kept need ≡ Some k → IsOwn needs kept k

own_stays : (needs : List NeedAt) (kept : List KeyDoc) (j k : KeyDoc) → IsOwn needs kept k
    → IsOwn needs (kept ++ j ∷ []) k
own_stays needs kept j k own = (
  own.0,
  own.1,
  behind_kept kept j own.0 ∙ ap (λ (o : Option KeyDoc). or_key o (one_key (meets own.0 j) j)) own.2,
)

own_new : (needs : List NeedAt) (kept : List KeyDoc) (j : KeyDoc) → is_wanted needs kept j ≡ true
    → IsOwn needs (kept ++ j ∷ []) j
own_new needs kept j wanted =
    let one = wanted_new needs kept j wanted in
    let parts = both_parts (meets one.0 j) (not (is_met one.0 kept)) one.2 in (
      one.0,
      one.1,
      behind_kept kept j one.0
          ∙ ap (λ (o : Option KeyDoc). or_key o (one_key (meets one.0 j) j)) (not_there (key_by kept one.0) parts.1)
          ∙ ap (λ (b : Bool). one_key b j) parts.0,
    )

one_own : (needs : List NeedAt) (kept : List KeyDoc) (j : KeyDoc) (w : Bool) → is_wanted needs kept j ≡ w
    → AllOwn needs kept → AllOwn needs (cond w (kept ++ j ∷ []) kept)
one_own needs kept j true t all need k e =
    either_key (key_by kept need) (meets need j) j k (sym (behind_kept kept j need) ∙ e)
    (λ here. own_stays needs kept j k (all need k here))
    (λ _ same. subst (IsOwn needs (kept ++ j ∷ [])) same (own_new needs kept j t))
one_own needs kept j false t all need k e = all need k e

all_own : (needs : List NeedAt) (kept keys : List KeyDoc) → AllOwn needs kept → AllOwn needs (all_fed needs kept keys)
all_own needs kept [] all = all
all_own needs kept (k ∷ ks) all =
    all_own needs (fed needs kept k) ks (one_own needs kept k (is_wanted needs kept k) refl all)

-- whichever keys are handed in, those kept answer each need as all of them do
pub kept_answer : (needs : List NeedAt) (keys : List KeyDoc) → AnswerAs needs keys (all_fed needs [] keys)
kept_answer needs keys = record {
  answer = λ need h. fed_all need needs [] keys h;
  others = λ need k e.
      let own = all_own needs [] keys (λ need k e. no_some k e) need k e in
      (own.0, own.1, sym (fed_all own.0 needs [] keys own.1) ∙ own.2);
}

-- ---- needs that are ids

by_id : (need : Need) (needs : List NeedAt) → AreIds needs → is_needed need needs ≡ true → IsId need
by_id need [] ids h = absurd (false≢true h)
by_id need (n ∷ ns) ids h =
    or_either (is_same n.need need) (is_needed need ns) h (λ same. subst IsId (same_need n.need need same) ids.0)
    (by_id need ns ids.1)

id_meets : (need : Need) (id : List ℕ) (k : KeyDoc) → IsId need → meets need k ≡ true → meets (Id id) k ≡ true
    → need ≡ Id id
id_meets (Id own) id k is here there =
    ap (λ (x : List ℕ). Id x) (sym ((bytes_decides k.id own).0 here) ∙ (bytes_decides k.id id).0 there)
id_meets (Name name) id k is here there = absurd is

-- a key that one of them finds has the id of another alone where that is it
other_id : (needs : List NeedAt) (keys : List KeyDoc) (id : List ℕ) (k : KeyDoc) → AreIds needs → IsOwn needs keys k
    → meets (Id id) k ≡ true → is_needed (Id id) needs ≡ true
other_id needs keys id k ids one there =
    subst (λ (x : Need). is_needed x needs ≡ true)
    (id_meets one.0 id k (by_id one.0 needs ids one.1) (found_meets one.0 keys k one.2) there) one.1

answers_by : (needs : List NeedAt) (keys kept : List KeyDoc) (id : List ℕ) (b : Bool) (o : Option KeyDoc)
    → is_needed (Id id) needs ≡ b → key_by kept (Id id) ≡ o → AreIds needs → AnswerAs needs keys kept
    → o ≡ cond b (key_by keys (Id id)) None
answers_by needs keys kept id true o is here ids alike = sym here ∙ alike.answer (Id id) is
answers_by needs keys kept id false None is here ids alike = refl
answers_by needs keys kept id false (Some k) is here ids alike =
    let one = alike.others (Id id) k here in
    absurd (false≢true (sym is ∙ other_id needs keys id k ids one (found_meets (Id id) kept k here)))

-- for any other id there is none
pub ids_answer : (needs : List NeedAt) (keys : List KeyDoc) → AreIds needs
    → AnswerByIds needs keys (all_fed needs [] keys)
ids_answer needs keys ids id =
    answers_by needs keys (all_fed needs [] keys) id (is_needed (Id id) needs)
    (key_by (all_fed needs [] keys) (Id id)) refl refl ids (kept_answer needs keys)

-- ---- the keys of a vault, asked for one after another

-- what the code asks for by ids is agreed on in every vault
pub ids_agree : (vault : List KeyDoc) (needs : List NeedAt) → AreIds needs → AreAgreed vault needs
ids_agree vault needs ids need other k h i e met = agreed need other (by_id need needs ids h)
    (by_id other needs ids i) e met
  where
    agreed : (need other : Need) → IsId need → IsId other → key_by vault need ≡ Some k → meets other k ≡ true
        → key_by vault other ≡ Some k
    agreed need (Id id) is tt e met =
        let same : need ≡ Id id = id_meets need id k is (found_meets need vault k e) met in
        sym (ap (key_by vault) same) ∙ e
    agreed need (Name name) is none e met = absurd none

module _ (vault : List KeyDoc) (needs asked : List NeedAt) (kept : List KeyDoc) (n : NeedAt)
    (agreed : AreAgreed vault (asked ++ n ∷ [])) (are : AreFedFrom vault asked kept) where
  before : (need : Need) → is_needed need asked ≡ true → is_needed need (asked ++ n ∷ []) ≡ true
  before need h = needed_behind asked n need ∙ or_left (is_needed need asked) (is_same n.need need) h

  last : is_needed n.need (asked ++ n ∷ []) ≡ true
  last =
      needed_behind asked n n.need ∙ or_right (is_needed n.need asked) (is_same n.need n.need) (same_self n.need)

  asked_or_last : {P : Type 0} (need : Need) → is_needed need (asked ++ n ∷ []) ≡ true
      → (is_needed need asked ≡ true → P) → (n.need ≡ need → P) → P
  asked_or_last need h p q =
      or_either (is_needed need asked) (is_same n.need need) (sym (needed_behind asked n need) ∙ h) p
      (λ same. q (same_need n.need need same))

  -- what a kept key answers the last need is the vault's
  kept_last : (k : KeyDoc) → key_by kept n.need ≡ Some k → key_by vault n.need ≡ Some k
  kept_last k e =
      let one = are.others n.need k e in
      agreed one.0 n.need k (before one.0 one.1) last one.2 (found_meets n.need kept k e)

  others_more : (need : Need) (k : KeyDoc) → key_by kept need ≡ Some k
      → (other : Need) × (is_needed other (asked ++ n ∷ []) ≡ true) × (key_by vault other ≡ Some k)
  others_more need k e = let one = are.others need k e in (one.0, before one.0 one.1, one.2)

  -- a need that the vault has no key for
  none_last : key_by vault n.need ≡ None → (o : Option KeyDoc) → key_by kept n.need ≡ o → o ≡ None
  none_last none None e = refl
  none_last none (Some k) e = no_some k (sym none ∙ kept_last k e)

  fed_none : key_by vault n.need ≡ None → AreFedFrom vault (asked ++ n ∷ []) kept
  fed_none none = record {
    answer = λ need h. asked_or_last need h (are.answer need)
        (λ same. ap (key_by kept) (sym same) ∙ none_last none (key_by kept n.need) refl ∙ sym none
        ∙ ap (key_by vault) same);
    others = others_more;
  }

  module _ (k : KeyDoc) (found : key_by vault n.need ≡ Some k) where
    settled : (need : Need) (o : Option KeyDoc) (b : Bool) → (o ≡ None → b ≡ true → o ≡ Some k)
        → or_key o (one_key b k) ≡ o
    settled need (Some j) b h = refl
    settled need None true h = no_some k (h refl refl)
    settled need None false h = refl

    -- a need that was asked for before
    stays : (need : Need) → is_needed need asked ≡ true → or_key (key_by vault need) (one_key (meets need k) k)
        ≡ key_by vault need
    stays need h = settled need (key_by vault need) (meets need k)
        (λ _ met. agreed n.need need k last (before need h) found met)

    own : (o : Option KeyDoc) → key_by kept n.need ≡ o → or_key o (one_key (meets n.need k) k) ≡ Some k
    own (Some j) e = sym (kept_last j e) ∙ found
    own None e = ap (λ (b : Bool). one_key b k) (found_meets n.need vault k found)

    answers : (w : Bool) → is_wanted needs kept k ≡ w → is_needed n.need needs ≡ true → (need : Need)
        → is_needed need (asked ++ n ∷ []) ≡ true → key_by (cond w (kept ++ k ∷ []) kept) need ≡ key_by vault need
    answers true t on need h = asked_or_last need h
        (λ i. behind_kept kept k need
        ∙ ap (λ (o : Option KeyDoc). or_key o (one_key (meets need k) k)) (are.answer need i) ∙ stays need i)
        (λ same. ap (key_by (kept ++ k ∷ [])) (sym same) ∙ behind_kept kept k n.need
        ∙ own (key_by kept n.need) refl ∙ sym found ∙ ap (key_by vault) same)
    answers false t on need h = asked_or_last need h (are.answer need)
        (λ same. ap (key_by kept) (sym same)
        ∙ kept_as (key_by kept n.need) (meets n.need k) k (unwanted n.need needs kept k on t)
        ∙ own (key_by kept n.need) refl ∙ sym found ∙ ap (key_by vault) same)

    more : (w : Bool) (need : Need) (j : KeyDoc) → key_by (cond w (kept ++ k ∷ []) kept) need ≡ Some j
        → (other : Need) × (is_needed other (asked ++ n ∷ []) ≡ true) × (key_by vault other ≡ Some j)
    more true need j e =
        either_key (key_by kept need) (meets need k) k j (sym (behind_kept kept k need) ∙ e) (others_more need j)
        (λ _ same. (n.need, last, found ∙ ap (λ (x : KeyDoc). Some x) same))
    more false need j e = others_more need j e

    fed_more : is_needed n.need needs ≡ true → AreFedFrom vault (asked ++ n ∷ []) (fed needs kept k)
    fed_more on = record {
      answer = answers (is_wanted needs kept k) refl on;
      others = more (is_wanted needs kept k);
    }

  next_by : is_needed n.need needs ≡ true → (o : Option KeyDoc) → key_by vault n.need ≡ o
      → AreFedFrom vault (asked ++ n ∷ []) (fed_some needs kept o)
  next_by on None e = fed_none e
  next_by on (Some k) e = fed_more k e on

  -- one need more is asked for
  pub fed_next : is_needed n.need needs ≡ true
      → AreFedFrom vault (asked ++ n ∷ []) (fed_some needs kept (key_by vault n.need))
  fed_next on = next_by on (key_by vault n.need) refl

-- ---- the room for the keys

abbrev missing : Bool → ℕ
missing s = if s then 0 else 1

missing_more : (o : Option KeyDoc) (b : Bool) (k : KeyDoc) → missing (is_some (or_key o (one_key b k))) ≤ missing
    (is_some o)
missing_more (Some j) b k = omega arith
missing_more None true k = omega arith
missing_more None false k = omega arith

missing_now : (o : Option KeyDoc) (b : Bool) (k : KeyDoc) → (b && not (is_some o)) ≡ true
    → missing (is_some (or_key o (one_key b k))) + 1 ≤ missing (is_some o)
missing_now (Some j) true k e = absurd (false≢true e)
missing_now (Some j) false k e = absurd (false≢true e)
missing_now None true k e = omega arith
missing_now None false k e = absurd (false≢true e)

more_met : (need : Need) (kept : List KeyDoc) (k : KeyDoc)
    → missing (is_met need (kept ++ k ∷ [])) ≤ missing (is_met need kept)
more_met need kept k =
    subst (λ (o : Option KeyDoc). missing (is_some o) ≤ missing (is_met need kept)) (sym (behind_kept kept k need))
    (missing_more (key_by kept need) (meets need k) k)

now_met : (need : Need) (kept : List KeyDoc) (k : KeyDoc) → is_new need kept k ≡ true
    → missing (is_met need (kept ++ k ∷ [])) + 1 ≤ missing (is_met need kept)
now_met need kept k e =
    subst (λ (o : Option KeyDoc). missing (is_some o) + 1 ≤ missing (is_met need kept)) (sym (behind_kept kept k need))
    (missing_now (key_by kept need) (meets need k) k e)

lacks_no_more : (kept : List KeyDoc) (k : KeyDoc) (ns : List NeedAt) → lacking (kept ++ (k ∷ [])) ns ≤ lacking kept ns
lacks_no_more kept k [] = omega arith
lacks_no_more kept k (n ∷ ns) = omega (arith, more_met n.need kept k, lacks_no_more kept k ns)

lacks_less_by : (kept : List KeyDoc) (k : KeyDoc) (n : NeedAt) (ns : List NeedAt) (b : Bool) → is_new n.need kept k ≡ b
    → (b || is_wanted ns kept k) ≡ true
    → (is_wanted ns kept k ≡ true → lacking (kept ++ (k ∷ [])) ns + 1 ≤ lacking kept ns)
    → lacking (kept ++ (k ∷ [])) (n ∷ ns) + 1 ≤ lacking kept (n ∷ ns)
lacks_less_by kept k n ns true e h more = omega (arith, now_met n.need kept k e, lacks_no_more kept k ns)
lacks_less_by kept k n ns false e h more = omega (arith, more_met n.need kept k, more h)

-- a key that is wanted leaves one need less without a key
pub lacks_less : (kept : List KeyDoc) (k : KeyDoc) (ns : List NeedAt) → is_wanted ns kept k ≡ true
    → lacking (kept ++ (k ∷ [])) ns + 1 ≤ lacking kept ns
lacks_less kept k [] h = absurd (false≢true h)
lacks_less kept k (n ∷ ns) h = lacks_less_by kept k n ns (is_new n.need kept k) refl h (lacks_less kept k ns)

-- with no key kept, each need lacks one
pub lacks_all : (ns : List NeedAt) → lacking [] ns ≡ length ns
lacks_all [] = refl
lacks_all (n ∷ ns) = omega (arith, lacks_all ns)
