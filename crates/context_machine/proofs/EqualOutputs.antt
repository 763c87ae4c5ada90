-- How long a sealed command is, is read from the command's skeleton.
use Rattle.std.proofs.Common.{◌≡◌, ◌∙◌, ℕ, ◌+◌, List, [], length, Option, Some, None, sym, ap, arith}
use Rattle.bson_tree.specs.Spelling.{doc_bytes, items_bytes, value_bytes}
use Rattle.bson_tree.specs.Tree.{Tree, leaf, node, Items, no_items, item, tag_of}
use Rattle.bson_tree.proofs.Sizes.{framed_size}
use Rattle.encrypt_schema.specs.Commands.Skeletons.{Skeleton, hole, plain, branch, Skeletons, no_more, more, skeleton}
use Rattle.encrypt_schema.specs.Commands.Skeletons.{skeleton_in, skeletons}
use Rattle.encrypt_schema.specs.Commands.Pointers.{Targets, pointed}
use Rattle.encrypt_schema.specs.Commands.Stations.{Station, Outside, Store, Compare, station}
use Rattle.encrypt_schema.specs.Commands.Visits.{command_entry, entry}
use Rattle.encrypt_schema.specs.Language.Row.{Row}
use Rattle.encrypt_schema.proofs.Commands.Widths.{items_length}
use Rattle.payload6.specs.Marking.{binary}
use Rattle.encrypt_schema.specs.declared.schema.policy.Algorithm.{Algorithm}
use Rattle.payload6.specs.Needs.{Need}
use Rattle.payload6.specs.Payload.{algorithm_number, payload_iv}
use Rattle.payload6.proofs.PayloadForm.{payload-length}
use Rattle.doc_rewrite.specs.Keys.{Lookup}
use Rattle.doc_rewrite.specs.SealedCommand.{IsSealedCommand}
use Rattle.doc_rewrite.specs.SealedTrees.{AreSealed, IsSealedBy, IsSealedUse, SealedBy, SealedIn, Use, rule_of, use_of}
use Rattle.doc_rewrite.specs.Sites.{sealed_width}
use Rattle.doc_rewrite.proofs.OpensAgain.{stations_of}

-- the length of what is sealed of this skeleton
abbrev mutual
  sealed_in : Skeleton → ℕ
  sealed_in (hole tag width payload) = sealed_width width
  sealed_in (plain tag bytes) = length bytes
  sealed_in (branch tag ks) = sealed_among ks + 5

  sealed_among : Skeletons → ℕ
  sealed_among no_more = 0
  sealed_among (more name k ks) = 2 + length name + sealed_in k + sealed_among ks

module _ (S : Use → Tree → Tree → Type 0) (rows : List Row)
    (long : (usage : Use) (t u : Tree) → S usage t u → length (value_bytes u)
    ≡ sealed_width (length (value_bytes t))) where
  leaf_wide : (s : Station) (ts : Targets) (tag : ℕ) (bytes : List ℕ) (u : Tree)
      → SealedBy S rows ts (rule_of s) (leaf tag bytes) u (u ≡ leaf tag bytes)
      → length (value_bytes u) ≡ sealed_in (skeleton_in rows s (leaf tag bytes))
  leaf_wide (Store i) ts tag bytes u sealed = long (use_of rows ts i) (leaf tag bytes) u sealed
  leaf_wide (Compare i) ts tag bytes u sealed = long (use_of rows ts i) (leaf tag bytes) u sealed
  leaf_wide _ ts tag bytes u sealed = ap (λ (x : Tree). length (value_bytes x)) sealed

  node_wide : (s : Station) (ts : Targets) (at tag : ℕ) (is : Items) (u : Tree)
      → SealedBy S rows ts (rule_of s) (node tag is) u
      ((js : Items) × (u ≡ node tag js) × AreSealed S rows s (pointed rows s ts at is) (at + 4) is js)
      → ((js : Items) → AreSealed S rows s (pointed rows s ts at is) (at + 4) is js → length (items_bytes js)
      ≡ sealed_among (skeletons rows s is))
      → length (value_bytes u) ≡ sealed_in (skeleton_in rows s (node tag is))
  node_wide (Store i) ts at tag is u sealed inside = long (use_of rows ts i) (node tag is) u sealed
  node_wide (Compare i) ts at tag is u sealed inside = long (use_of rows ts i) (node tag is) u sealed
  node_wide _ ts at tag is u sealed inside =
      ap (λ (x : Tree). length (value_bytes x)) sealed.1
      ∙ omega (arith, framed_size (items_bytes sealed.0), inside sealed.0 sealed.2)

  mutual
    wide_in : (s : Station) (ts : Targets) (at : ℕ) (t u : Tree) → SealedIn S rows s ts at t u
        → length (value_bytes u) ≡ sealed_in (skeleton_in rows s t)
    wide_in s ts at (leaf tag bytes) u sealed = leaf_wide s ts tag bytes u sealed
    wide_in s ts at (node tag is) u sealed =
        node_wide s ts at tag is u sealed (λ js are. wide_among s (pointed rows s ts at is) (at + 4) is js are)

    wide_among : (s : Station) (ts : Targets) (at : ℕ) (is js : Items) → AreSealed S rows s ts at is js
        → length (items_bytes js) ≡ sealed_among (skeletons rows s is)
    wide_among s ts at no_items js sealed = ap (λ (xs : Items). length (items_bytes xs)) sealed
    wide_among s ts at (item name t is) js sealed =
        ap (λ (xs : Items). length (items_bytes xs)) sealed.2
        ∙ omega (
          arith,
          items_length name sealed.0 sealed.1,
          wide_in (station rows s (entry name t)) ts (at + (2 + length name)) t sealed.0 sealed.3,
          wide_among s ts (at + (2 + length name) + length (value_bytes t)) is sealed.1 sealed.4,
        )

binary_size : (contents : List ℕ) → length (value_bytes (binary 6 contents)) ≡ length contents + 5
binary_size contents = omega arith

-- a payload is as long as its value asks
payload_by : (keys : Lookup) (algorithm : Algorithm) (need : Option Need) (t u : Tree)
    → IsSealedBy keys algorithm need t u
    → length (value_bytes u) ≡ sealed_width (length (value_bytes t))
payload_by keys algorithm None t u h = absurd h
payload_by keys algorithm (Some need) t u h =
    ap (λ (x : Tree). length (value_bytes x)) h.whole
    ∙ omega (
      arith,
      binary_size h.bytes,
      payload-length (algorithm_number algorithm) h.key.id h.key.key (tag_of t) (payload_iv h.bytes)
          (value_bytes t) h.bytes h.payload.form,
    )

payload_wide : (keys : Lookup) (usage : Use) (t u : Tree) → IsSealedUse keys usage t u
    → length (value_bytes u) ≡ sealed_width (length (value_bytes t))
payload_wide keys usage t u h = payload_by keys usage.policy.algorithm usage.need t u h

sealed_size : (keys : Lookup) (rows : List Row) (c x : Items) → IsSealedCommand keys rows c x
    → length (doc_bytes x) ≡ sealed_among (skeleton rows c) + 5
sealed_size keys rows c x h =
    let s = station rows Outside (command_entry c) in
    omega (
      arith,
      framed_size (items_bytes x),
      wide_among (IsSealedUse keys) rows (payload_wide keys) s (pointed rows s [] 0 c) 4 c x
          (stations_of keys rows c x h),
    )

-- sealed forms of commands with equal skeletons are equally long
pub equal_outputs : (keys others : Lookup) (rows : List Row) (c d x y : Items) → skeleton rows c ≡ skeleton rows d
    → IsSealedCommand keys rows c x → IsSealedCommand others rows d y → length (doc_bytes x) ≡ length (doc_bytes y)
equal_outputs keys others rows c d x y e p q =
    sealed_size keys rows c x p
    ∙ ap (λ (ks : Skeletons). sealed_among ks + 5) e
    ∙ sym (sealed_size others rows d y q)
