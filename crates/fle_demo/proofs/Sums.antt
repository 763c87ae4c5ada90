-- What the demo's commands come to, one after another.
use Rattle.std.proofs.Common.{◌≡◌, ◌∙◌, ◌+◌, ℕ, Bool, false, cond, List, [], ◌∷◌, Some, length, drop, take, ap}
use Rattle.std.proofs.Common.{subst}
use Rattle.bson_tree.specs.Spelling.{doc_bytes}
use Rattle.bson_tree.specs.Tree.{Items}
use Rattle.context_machine.specs.Ready.{values_of}
use Rattle.context_machine.specs.Rings.{by_ids, found_in, ring}
use Rattle.data_key.specs.declared.key_doc.KeyDoc.{KeyDoc}
use Rattle.doc_rewrite.specs.Opened.{Keyring}
use Rattle.doc_rewrite.specs.Sealed.{sealed}
use Rattle.doc_rewrite.specs.Sites.{sites_of}
use Rattle.encrypt_schema.specs.Commands.Targets.{rows_in}
use Rattle.encrypt_schema.specs.Commands.Visits.{roles}
use Rattle.encrypt_schema.specs.Language.Collection.{Collection}
use Rattle.encrypt_schema.specs.Language.Row.{Row}
use Rattle.fle_outside.specs.Blocks.{Block}
use Rattle.fle_demo.specs.Sums.{Sums, alone, blocks, counted, demo_key, demo_text, equals, line_of_sums, master}
use Rattle.fle_demo.specs.Sums.{no_sums}
use Rattle.fle_demo.specs.Sums.{sealed_with, summed, sums_of, with_command}
use Rattle.fle_demo.specs.Commands.{command, rules}
use Rattle.fle_demo.specs.Totals.{AreSummed, IsTotal, Reaches, one_more}
use Rattle.fle_demo.specs.Generator.{after_two}
use Rattle.fle_demo.specs.declared.totals.Totals.{Totals}
use Rattle.local_kms.specs.Made.{key_of_blocks}

-- the rules of an info that is no view
pub rows_are : (c : Collection) (rows : List Row) → c.view ≡ false → c.rows ≡ rows → rows_in (Some c) ≡ rows
rows_are c rows viewless is = ap (λ (v : Bool). cond v [] c.rows) viewless ∙ is

-- a command sealed under the rules of its info
pub sealed_is : (keys : Keyring) (info : Collection) (rows : List Row) (block : Block) (c : Items) (out : List ℕ)
    → rows_in (Some info) ≡ rows
    → out ≡ doc_bytes (sealed (found_in (by_ids keys)) (values_of (Some info) (alone c)) (block ∷ []) (alone c))
    → out ≡ sealed_with keys rows block c
unfolding sealed_with
sealed_is keys info rows block c out are is =
    is ∙ ap (λ (rs : List Row). doc_bytes (sealed (found_in (by_ids keys)) (sites_of rs (alone c) (roles rs 0 c))
    (block ∷ [])
    (alone c)))
    are

-- what was counted is what the definition counts
one_is : (keys : Keyring) (bytes plain out made : List ℕ) (same : ℕ) (s : Sums) → bytes ≡ plain → out ≡ made
    → same ≡ equals keys bytes out → one_more (length bytes) out same s ≡ counted keys plain made s
one_is keys bytes plain out made same s is sealed_is equal =
    ap (λ (n : ℕ). one_more (length bytes) out n s) equal
    ∙ (ap (λ (b : List ℕ). counted keys b out s) is ∙ ap (λ (b : List ℕ). counted keys plain b s) sealed_is)

-- one command was counted
pub record IsCounted (keys : Keyring) (rows : List Row) (block : Block) (c : Items) (t now : Totals) : Type 0 where
  pub bytes : List ℕ
  pub out : List ℕ
  pub same : ℕ
  pub spelled : bytes ≡ doc_bytes c
  pub sealed : out ≡ sealed_with keys rows block c
  pub equal : same ≡ equals keys bytes out
  pub added : (s : Sums) → IsTotal t s → IsTotal now (one_more (length bytes) out same s)

-- and the totals with those to come stay all
pub reaches_next : (keys : Keyring) (rows : List Row) (db : List ℕ) (t now : Totals) (i x : ℕ) (block : Block)
    (before rest others : List Block) (all : Sums) → before ≡ block ∷ rest → others ≡ rest
    → IsCounted keys rows block (command db i x) t now → Reaches keys rows db t i x before all
    → Reaches keys rows db now (i + 1) (after_two x) others all
reaches_next keys rows db t now i x block before rest others all first behind is reaches =
    let here = subst (λ (bs : List Block). Reaches keys rows db t i x bs all) first reaches in
    let sums = with_command keys rows block (command db i x) here.sums in
    let one : one_more (length is.bytes) is.out is.same here.sums ≡ sums =
    one_is keys is.bytes (doc_bytes (command db i x)) is.out (sealed_with keys rows block (command db i x)) is.same
    here.sums is.spelled is.sealed is.equal in
    record {
      sums = sums;
      total = subst (λ (s : Sums). IsTotal now s) one (is.added here.sums here.total);
      rest = ap (λ (bs : List Block). summed keys rows db (i + 1) (after_two x) bs sums) behind ∙ here.rest;
    }

-- the same master key, and the same number
pub reaches_under : (key : KeyDoc) (m n : List ℕ) (rows : List Row) (db : List ℕ) (t : Totals) (i x y : ℕ)
    (blocks : List Block) (all : Sums) → m ≡ n → x ≡ y → Reaches (ring (key ∷ []) m) rows db t i x blocks all
    → Reaches (ring (key ∷ []) n) rows db t i y blocks all
reaches_under key m n rows db t i x y blocks all same equal reaches =
    subst (λ (k : List ℕ). Reaches (ring (key ∷ []) k) rows db t i y blocks all) same
    (subst (λ (z : ℕ). Reaches (ring (key ∷ []) m) rows db t i z blocks all) equal reaches)

-- the line is that of the definition
pub text_is : (db : List ℕ) (n : ℕ) (key : KeyDoc) (bs others : List Block) (t : Totals) (text : List ℕ)
    → bs ≡ blocks n → key ≡ key_of_blocks master [] (take 8 bs) → others ≡ drop 8 bs
    → AreSummed master key db n others t → ((s : Sums) → IsTotal t s → text ≡ line_of_sums n s) → text ≡ demo_text db n
unfolding demo_text sums_of demo_key
text_is db n key bs others t text are is left summed_is line =
    let whole : others ≡ drop 8 (blocks n) = left ∙ ap (drop 8) are in
    let same : key ≡ key_of_blocks master [] (take 8 (blocks n)) =
    is ∙ ap (λ (b : List Block). key_of_blocks master [] (take 8 b)) are in
    line (summed (ring (key ∷ []) master) (rules key.id) db 1 n others no_sums) summed_is
    ∙ (ap (λ (b : List Block). line_of_sums n (summed (ring (key ∷ []) master) (rules key.id) db 1 n b no_sums)) whole
    ∙ ap (λ (k : KeyDoc). line_of_sums n (sums_of k db n)) same)
