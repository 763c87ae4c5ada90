-- A value that was sealed, in its place, opens to itself.
use Rattle.std.proofs.Common.{◌≡◌, ℕ, ◌-◌, ◌+◌, ◌≤◌, false, true, List, [], ◌∷◌, length, Option, Some, None, Ok, refl}
use Rattle.std.proofs.Common.{sym, ap}
use Rattle.std.proofs.Common.{◌∙◌, subst, arith}
use Rattle.bson_tree.specs.Tree.{Tree, tag_of}
use Rattle.bson_tree.specs.Spelling.{value_bytes}
use Rattle.bson_codec.specs.Borrowed.{value_tree}
use Rattle.bson_codec.specs.Layout.{IsItems, IsValue}
use Rattle.bson_codec.proofs.Fronts.{value_tree_is}
use Rattle.encrypt_schema.specs.declared.command.reason.Reason.{Reason}
use Rattle.encrypt_schema.specs.declared.schema.policy.Algorithm.{Algorithm}
use Rattle.encrypt_schema.specs.Commands.Pointers.{Targets}
use Rattle.encrypt_schema.specs.Language.Policies.{policy_at}
use Rattle.encrypt_schema.specs.Language.Row.{Row}
use Rattle.payload6.specs.Marking.{binary}
use Rattle.payload6.specs.Needs.{Need}
use Rattle.payload6.specs.Opening.{is_single, IsOriginal}
use Rattle.payload6.specs.Payload.{algorithm_number, payload_iv, IsPayload}
use Rattle.payload6.specs.Verdicts.{id_in, value_in, wrong}
use Rattle.payload6.proofs.PayloadForm.{has-kind, has-length}
use Rattle.payload6.proofs.Verdicts.{opens}
use Rattle.doc_rewrite.specs.Founds.{Place}
use Rattle.doc_rewrite.specs.Keys.{Lookup}
use Rattle.doc_rewrite.specs.Opened.{Keyring, HasAll, first_wrong, is_payload_length, key_or_none, keyless, misshapen}
use Rattle.doc_rewrite.specs.Opened.{opening_refusal, reason_in, spoilt, value_of}
use Rattle.doc_rewrite.specs.SealedTrees.{use_of, IsSealedBy, IsSealedUse}
use Rattle.doc_rewrite.proofs.Finds.{length_is}
use Rattle.doc_rewrite.proofs.GivesBack.{AreRight, IsBack}
use Rattle.doc_rewrite.proofs.Leaves.{kind_opens}
use Rattle.doc_rewrite.proofs.Unsealed.{more}

module _ (ring : Keyring) where
  -- its length is right, its key is had, and nothing is wrong with it
  pub record IsRight (levels : ℕ) (bytes : List ℕ) : Type 0 where
    pub long : is_payload_length (length bytes) ≡ true
    pub keyed : reason_in (ring (id_in bytes)) ≡ None
    pub opens : wrong (key_or_none (ring (id_in bytes))) levels bytes ≡ None

  none_wrong : (judge : Place → Option Reason) (ps : List Place) → AreRight (value_of ring) IsRight ps
      → ((p : Place) → IsRight p.levels p.contents → judge p ≡ None) → first_wrong judge ps ≡ None
  none_wrong judge [] rights h = refl
  none_wrong judge (p ∷ ps) rights h = rw (h p rights.0) (none_wrong judge ps rights.1 h)

  pub nothing_wrong : (ps : List Place) → AreRight (value_of ring) IsRight ps → opening_refusal ring ps ≡ None
  nothing_wrong ps rights =
      let a = none_wrong misshapen ps rights (λ p r. rw r.long refl) in
      let b = none_wrong (keyless ring) ps rights (λ p r. r.keyed) in
      let c = none_wrong (spoilt ring) ps rights (λ p r. r.opens) in
      rw (a, b, c) refl

-- a value of a document, read from its bytes
whole_tree : (levels : ℕ) (t : Tree) → levels ≤ 99 → IsValue (IsItems levels) t
    → value_tree (tag_of t) (value_bytes t) ≡ t
whole_tree levels t low laid =
    let all : 99 ≡ (99 - levels) + levels = omega (arith, low) in
    value_tree_is t (more levels t (99 - levels) 99 all laid)

original : (levels : ℕ) (t : Tree) → is_single (tag_of t) ≡ false → IsValue (IsItems levels) t
    → IsOriginal levels (tag_of t) (value_bytes t)
original levels t sealable laid = record {
  sealable = sealable;
  spelled = record { tree = t; laid = laid; type = refl; parts = refl };
}

-- what stands for a value is a payload of it, under an id and a key that the ring has
pub record IsHad (ring : Keyring) (algorithm : Algorithm) (t u : Tree) : Type 0 where
  pub id : List ℕ
  pub key : List ℕ
  pub had : ring id ≡ Ok key
  pub bytes : List ℕ
  pub payload : IsPayload algorithm id key (tag_of t) (value_bytes t) bytes
  pub whole : u ≡ binary 6 bytes

sealed_had : (keys : Lookup) (ring : Keyring) → HasAll ring keys → (algorithm : Algorithm) (need : Option Need)
    (t u : Tree) → IsSealedBy keys algorithm need t u → IsHad ring algorithm t u
sealed_had keys ring all algorithm None t u s = absurd s
sealed_had keys ring all algorithm (Some need) t u s = record {
  id = s.key.id;
  key = s.key.key;
  had = all need s.key s.found;
  bytes = s.bytes;
  payload = s.payload;
  whole = s.whole;
}

-- what its need leads to is had
pub use_had : (keys : Lookup) (ring : Keyring) → HasAll ring keys → (rows : List Row) (ts : Targets) (i : ℕ)
    (t u : Tree)
    → IsSealedUse keys (use_of rows ts i) t u → IsHad ring (policy_at i rows).algorithm t u
use_had keys ring all rows ts i t u s =
    sealed_had keys ring all (policy_at i rows).algorithm (use_of rows ts i).need t u s

-- what stands for a value that may be sealed opens to it
pub sealed_back : (ring : Keyring) (algorithm : Algorithm) (levels : ℕ) (t u : Tree) → levels ≤ 99
    → IsHad ring algorithm t u → is_single (tag_of t) ≡ false → IsValue (IsItems levels) t
    → IsBack (value_of ring) (IsRight ring) levels t u
sealed_back ring algorithm levels t u low s sealable laid =
    let kind = algorithm_number algorithm in
    let o = opens kind s.id s.key (tag_of t) levels (payload_iv s.bytes) (value_bytes t) s.bytes s.payload.form
    (original levels t sealable laid) in
    let had : ring (id_in s.bytes) ≡ Ok s.key = ap ring o.2 ∙ s.had in
    let key : key_or_none (ring (id_in s.bytes)) ≡ s.key = ap key_or_none had in
    subst (IsBack (value_of ring) (IsRight ring) levels t) (sym s.whole) (record {
      here = kind_opens (binary 6 s.bytes) 6 s.bytes refl refl
          (has-kind algorithm s.id s.key (tag_of t) (value_bytes t) s.bytes s.payload);
      opens = ap (λ (k : List ℕ). value_in k s.bytes) key ∙ o.1 ∙ whole_tree levels t low laid;
      right = record {
        long = length_is (length s.bytes)
            (has-length algorithm s.id s.key (tag_of t) (value_bytes t) s.bytes s.payload);
        keyed = ap reason_in had;
        opens = ap (λ (k : List ℕ). wrong k levels s.bytes) key ∙ o.0;
      };
    })
