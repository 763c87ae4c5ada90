-- A name whose text stands where one stood before is needed already.
use Rattle.std.proofs.Common.{◌≡◌, ◌∙◌, ℕ, ◌+◌, ◌-◌, ◌==◌, Bool, true, false, cond, List, [], ◌∷◌, ◌++◌, drop}
use Rattle.std.proofs.Common.{take, Option, Some, None, Result, Ok, Err, OnOk, refl, sym, ap, subst}
use Rattle.std.specs.Prelude.{IfSome, option_map, unwrap_or}
use Rattle.std.proofs.lemmas.Bool.{false≢true}
use Rattle.std.proofs.lemmas.Bool.Decides.{Decides-eqb}
use Rattle.bson_codec.specs.Borrowed.{At}
use Rattle.bson_tree.specs.Spelling.{items_bytes}
use Rattle.encrypt_schema.specs.Commands.Visits.{text_in}
use Rattle.encrypt_schema.specs.Language.Policies.{policy_at}
use Rattle.encrypt_schema.specs.Language.Row.{Row}
use Rattle.encrypt_schema.specs.declared.command.marks.Mark.{Mark}
use Rattle.encrypt_schema.specs.declared.command.marks.Span.{Span}
use Rattle.encrypt_schema.specs.declared.schema.policy.KeyRef.{KeyRef}
use Rattle.encrypt_schema.specs.declared.schema.policy.KeyRef.TheVariants as keys
use Rattle.payload6.specs.Needs.{Name, Need, name_text, need_by}
use Rattle.doc_rewrite.specs.Sites.{need_named}
use Rattle.context_machine.specs.declared.name_spans.NameSpans.{NameSpans}
use Rattle.context_machine.specs.NameSpans.{AreNeeded, has_span, name_in}
use Rattle.context_machine.specs.Needs.{NeedAt, is_needed, is_same, put_new}
use Rattle.context_machine.proofs.Kept.{needed_behind, or_left, or_right, same_self}

still_by : (needs : List NeedAt) (n : NeedAt) (need : Need) (b : Bool) → is_needed need needs ≡ true
    → is_needed need (cond b needs (needs ++ n ∷ [])) ≡ true
still_by needs n need true e = e
still_by needs n need false e =
    needed_behind needs n need ∙ or_left (is_needed need needs) (is_same n.need need) e

-- what is needed stays so with a value more
still_needed : (needs : List NeedAt) (n : NeedAt) (need : Need) → is_needed need needs ≡ true
    → is_needed need (put_new needs n) ≡ true
still_needed needs n need e = still_by needs n need (is_needed n.need needs) e

own_by : (needs : List NeedAt) (n : NeedAt) (b : Bool) → is_needed n.need needs ≡ b
    → is_needed n.need (cond b needs (needs ++ n ∷ [])) ≡ true
own_by needs n true e = e
own_by needs n false e =
    needed_behind needs n n.need ∙ or_right (is_needed n.need needs) (is_same n.need n.need) (same_self n.need)

-- and so is what that value needs
own_needed : (needs : List NeedAt) (n : NeedAt) → is_needed n.need (put_new needs n) ≡ true
own_needed needs n = own_by needs n (is_needed n.need needs) refl

-- a value changes nothing whose need is there
put_same : (needs : List NeedAt) (n : NeedAt) → is_needed n.need needs ≡ true → needs ≡ put_new needs n
put_same needs n e = ap (λ (b : Bool). cond b needs (needs ++ n ∷ [])) (sym e)

-- equal places of one command are equal needs
same_place : (d : At) (span other : Span) → span.start ≡ other.start → span.end ≡ other.end
    → name_in d span ≡ name_in d other
same_place d span other start end =
    ap (λ (k : ℕ). Name (take (span.end - k) (drop (k - (d.start + 4)) (items_bytes d.tree)))) start
    ∙ ap (λ (k : ℕ). Name (take (k - other.start) (drop (other.start - (d.start + 4)) (items_bytes d.tree)))) end

-- nothing changes where a text stands that stood before
pub stands_again : (d : At) (needs : List NeedAt) (names : NameSpans) (n : NeedAt) (span : Span)
    → AreNeeded d needs names → n.need ≡ name_in d span → has_span names span ≡ true → needs ≡ put_new needs n
stands_again d needs names n span are is there =
    put_same needs n (subst (λ (need : Need). is_needed need needs ≡ true) (sym is) (are span there))

-- the texts that stood before are needed with a value more
pub needed_still : (d : At) (needs all : List NeedAt) (names : NameSpans) (n : NeedAt) → all ≡ put_new needs n
    → AreNeeded d needs names → AreNeeded d all names
needed_still d needs all names n put are span there =
    subst (λ (ns : List NeedAt). is_needed (name_in d span) ns ≡ true) (sym put)
    (still_needed needs n (name_in d span) (are span there))

-- one text more, that of the last value
pub needed_more : (d : At) (needs all : List NeedAt) (names more : NameSpans) (n : NeedAt) (span : Span)
    → all ≡ put_new needs n → n.need ≡ name_in d span
    → ((other : Span) → has_span more other ≡ cond (span.start == other.start) (span.end == other.end)
    (has_span names other))
    → AreNeeded d needs names → AreNeeded d all more
needed_more d needs all names more n span put is added are other there =
    by (span.start == other.start) (span.end == other.end) refl refl (sym (added other) ∙ there)
  where
    by : (a b : Bool) → span.start == other.start ≡ a → span.end == other.end ≡ b
        → cond a b (has_span names other) ≡ true → is_needed (name_in d other) all ≡ true
    by false b p q e = needed_still d needs all names n put are other e
    by true false p q e = absurd (false≢true e)
    by true true p q e =
        subst (λ (need : Need). is_needed need all ≡ true)
        (is ∙ same_place d span other ((Decides-eqb span.start other.start).0 p)
        ((Decides-eqb span.end other.end).0 q))
        (subst (λ (ns : List NeedAt). is_needed n.need ns ≡ true) (sym put) (own_needed needs n))

-- what follows from what is known where a call succeeds
pub on_ok : {A E P Q : Type 0} (result : Result A E) → (P → Q) → OnOk result P → OnOk result Q
on_ok (Ok a) h p = h p
on_ok (Err e) h p = p

abbrev IsPointer : KeyRef → Type 0
IsPointer (keys.Id id) = ⊥
IsPointer (keys.Pointer names) = Unit {0}

-- the place of a mark's name names the key of its value, where its rule has a pointer
pub pointed : (rows : List Row) (m : Mark) (key : KeyRef) → (policy_at m.policy rows).key ≡ key
    → IsPointer key → (name : Option Span)
    → m.name ≡ name → IfSome name (λ span. (d : At) → need_named rows d m ≡ name_in d span)
pointed rows m key rule is None named = tt
pointed rows m (keys.Pointer n) rule is (Some span) named = λ d.
    ap (λ (key : KeyRef). unwrap_or (need_by key (name_text d m)) (Name [])) rule
    ∙ ap (λ (name : Option Span). unwrap_or (option_map (λ (text : List ℕ). Name text)
    (option_map (text_in (d.start + 4) (items_bytes d.tree)) name)) (Name [])) named
pointed rows m (keys.Id i) rule is (Some span) named = absurd is
