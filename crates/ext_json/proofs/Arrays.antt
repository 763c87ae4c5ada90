-- The members before this one are documents, and what is left gives what all give.
use Rattle.std.proofs.Common.{◌≡◌, ℕ, ◌+◌, ◌≤◌, nat_le, Bool, true, false, cond, List, [], ◌∷◌, ◌++◌, length}
use Rattle.std.proofs.Common.{Option, Some, None, Result, Err, IsUtf8, refl, sym, ap, ◌∙◌, arith, length-append}
use Rattle.std.proofs.lemmas.Bool.{false≢true, le-leb, leb-true}
use Rattle.std.proofs.lemmas.Str.{IsUtf8-from_is_utf8, is_utf8-from_IsUtf8}
use Rattle.std.specs.Str.{is_utf8}
use Rattle.serde_json.specs.Data.{Data, Items as Values, no_items as no_values, item as value_then}
use Rattle.serde_json.specs.Read.{read}
use Rattle.bson_tree.specs.Tree.{Items}
use Rattle.bson_tree.specs.Spelling.{doc_bytes, items_bytes}
use Rattle.bson_codec.specs.Layout.{IsWellFormed, level_limit, longest}
use Rattle.ext_json.specs.declared.fault.JsonFault.{JsonFault}
use Rattle.ext_json.specs.declared.fault.JsonFault.TheVariants as faults
use Rattle.ext_json.specs.Bounds.{is_named, levels_in}
use Rattle.ext_json.specs.Infos.{document_of, is_fit, member_of, members_of, infos_in, json_infos}
use Rattle.ext_json.specs.PutMember.{IsPut}
use Rattle.ext_json.proofs.Spelled.{well_formed_is, both, and_true}

-- ---- the test of a member

chosen : (b : Bool) (is : Items) → b ≡ true → cond b (Some is) None ≡ Some is
chosen true is e = refl
chosen false is e = absurd (false≢true e)

dropped : (b : Bool) (is : Items) → b ≡ false → cond b (Some is) None ≡ None
dropped true is e = absurd (false≢true (sym e))
dropped false is e = refl

untrue : (b : Bool) → (b ≡ true → ⊥) → b ≡ false
untrue true never = absurd (never refl)
untrue false never = refl

pub member_fits : (size : ℕ) (d : Data) (is : Items) → document_of d ≡ Some is → IsWellFormed is
    → size + length (doc_bytes is) ≤ longest → member_of size d ≡ Some is
member_fits size d is stands formed fits =
    let fine = (well_formed_is d is stands).0 formed in
    let levels : nat_le (levels_in is) level_limit ≡ true = le-leb (levels_in is) level_limit fine.levels in
    let room : nat_le (size + length (doc_bytes is)) longest ≡ true =
    le-leb (size + length (doc_bytes is)) longest fits in
    let fit : is_fit size is ≡ true = and_true (is_named is) _ fine.named
    (and_true (nat_le (levels_in is) level_limit) _ levels room) in
    rw stands (chosen (is_fit size is) is fit)

pub member_unformed : (size : ℕ) (d : Data) (is : Items) → document_of d ≡ Some is → (IsWellFormed is → ⊥)
    → member_of size d ≡ None
member_unformed size d is stands never =
    let unfit : is_fit size is ≡ false = untrue (is_fit size is) (λ fit.
    let named = both (is_named is) _ fit in
    let rest = both (nat_le (levels_in is) level_limit) _ named.1 in
    let room : size + length (doc_bytes is) ≤ longest = leb-true (size + length (doc_bytes is)) longest rest.1 in
    never ((well_formed_is d is stands).1 (record {
      named = named.0;
      levels = leb-true (levels_in is) level_limit rest.0;
      short = omega (arith, room);
    }))) in
    rw stands (dropped (is_fit size is) is unfit)

pub put_fits : (before after bytes : List ℕ) (d : Data) (is : Items) → document_of d ≡ Some is → IsWellFormed is
    → bytes ≡ doc_bytes is → length before + length bytes ≤ longest → after ≡ before ++ bytes → IsPut before after d
put_fits before after bytes d is stands formed spelled fits grown =
    let room : length before + length (doc_bytes is) ≤ longest = omega (arith, fits, ap length spelled) in
    record {
      document = is;
      stands = member_fits (length before) d is stands formed room;
      spelled = grown ∙ ap (λ (x : List ℕ). before ++ x) spelled;
      room = omega (arith, fits, ap length grown, length-append before bytes);
    }

-- ---- one member after another

pub goes_on : (all left rest : Values) (k : ℕ) (bytes next : List ℕ) (d : Data) → left ≡ value_then d rest
    → IsPut bytes next d → members_of k bytes left ≡ members_of 1 [] all
    → members_of (k + 1) next rest ≡ members_of 1 [] all
goes_on all left rest k bytes next d cut put so_far =
    let here : members_of k bytes (value_then d rest) ≡ members_of 1 [] all = rw cut at so_far in
    rw put.spelled ((rw put.stands at here))

pub put_size : (bytes next : List ℕ) (d : Data) → IsPut bytes next d → length bytes + 5 ≤ length next
put_size bytes next d put = omega (
  arith,
  ap length put.spelled,
  length-append bytes (doc_bytes put.document),
  length-append (items_bytes put.document) (0 ∷ []),
)

-- ---- the text

text_choice : (b : Bool) (x y : Result (List ℕ) JsonFault) → b ≡ true → cond b x y ≡ x
text_choice true x y e = refl
text_choice false x y e = absurd (false≢true e)

pub text_read : (text : List ℕ) (d : Data) → IsUtf8 text → read text ≡ Some d → json_infos text ≡ infos_in (Some d)
unfolding json_infos
text_read text d utf8 is = text_choice (is_utf8 text) (infos_in (read text)) (Err faults.Syntax)
    (is_utf8-from_IsUtf8 text utf8) ∙ ap infos_in is

syntax_by : (b : Bool) (o : Option Data) → (b ≡ true → o ≡ None)
    → cond b (infos_in o) (Err faults.Syntax) ≡ Err faults.Syntax
syntax_by true o never = ap infos_in (never refl)
syntax_by false o never = refl

pub text_unread : (text : List ℕ) → (IsUtf8 text → read text ≡ None) → json_infos text ≡ Err faults.Syntax
unfolding json_infos
text_unread text never = syntax_by (is_utf8 text) (read text) (λ e. never (IsUtf8-from_is_utf8 text e))
