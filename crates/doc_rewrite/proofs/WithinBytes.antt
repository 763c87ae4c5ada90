-- The values of a command whose bytes are bytes are bytes.
use Rattle.std.proofs.Common.{◌≡◌, ℕ, ◌+◌, ◌<◌, List, [], ◌∷◌, ◌++◌, length, Option, Some, None, refl, subst}
use Rattle.std.specs.List.{All}
use Rattle.std.proofs.lemmas.List.{take_at, drop_at}
use Rattle.std.proofs.lemmas.List.Elements.{All-take, All-drop, All-tail}
use Rattle.bson_tree.specs.Tree.{Tree, leaf, node, Items, no_items, item, tag_of}
use Rattle.bson_tree.specs.Spelling.{framed, value_bytes, items_bytes}
use Rattle.bson_tree.proofs.PartBytes.{Bytes, front_of, others_of, value_of}
use Rattle.encrypt_schema.specs.Language.Row.{Row}
use Rattle.encrypt_schema.specs.Commands.Pointers.{Targets, pointed}
use Rattle.encrypt_schema.specs.Commands.Stations.{Station, station}
use Rattle.encrypt_schema.specs.Commands.Visits.{entry}
use Rattle.doc_rewrite.specs.SealedTrees.{Use, rule_of, SealedBy, SealedIn, AreSealed}

inside_of : (elements : List ℕ) → Bytes (framed elements) → Bytes elements
inside_of elements h = front_of elements (0 ∷ []) (All-drop (λ b. b < 256) 4 (framed elements) h)

module _ (S : Use → Tree → Tree → Type 0) (rows : List Row) where
  -- related where the value is bytes
  abbrev pub Given : Use → Tree → Tree → Type 0
  Given usage t u = Bytes (value_bytes t) → S usage t u

  leaf_given : (ts : Targets) (tag : ℕ) (bytes : List ℕ) (u : Tree) (o : Option ℕ) → Bytes bytes
      → SealedBy Given rows ts o (leaf tag bytes) u (u ≡ leaf tag bytes)
      → SealedBy S rows ts o (leaf tag bytes) u (u ≡ leaf tag bytes)
  leaf_given ts tag bytes u (Some i) are sealed = sealed are
  leaf_given ts tag bytes u None are sealed = sealed

  node_given : (s : Station) (ts us : Targets) (at tag : ℕ) (is : Items) (u : Tree) (o : Option ℕ)
      → Bytes (value_bytes (node tag is))
      → SealedBy Given rows ts o (node tag is) u ((js : Items) × (u ≡ node tag js) × AreSealed Given rows s us at is js)
      → ((js : Items) → AreSealed Given rows s us at is js → AreSealed S rows s us at is js)
      → SealedBy S rows ts o (node tag is) u ((js : Items) × (u ≡ node tag js) × AreSealed S rows s us at is js)
  node_given s ts us at tag is u (Some i) are sealed inside = sealed are
  node_given s ts us at tag is u None are sealed inside = (sealed.0, sealed.1, inside sealed.0 sealed.2)

  mutual
    value_given : (s : Station) (ts : Targets) (at : ℕ) (t u : Tree) → Bytes (value_bytes t)
        → SealedIn Given rows s ts at t u → SealedIn S rows s ts at t u
    value_given s ts at (leaf tag bytes) u are sealed = leaf_given ts tag bytes u (rule_of s) are sealed
    value_given s ts at (node tag is) u are sealed =
        node_given s ts (pointed rows s ts at is) (at + 4) tag is u (rule_of s) are sealed
        (λ js p. items_given s (pointed rows s ts at is) (at + 4) is js (inside_of (items_bytes is) are) p)

    pub items_given : (s : Station) (ts : Targets) (at : ℕ) (is js : Items) → Bytes (items_bytes is)
        → AreSealed Given rows s ts at is js → AreSealed S rows s ts at is js
    items_given s ts at no_items js are sealed = sealed
    items_given s ts at (item name t is) js are sealed = (
      sealed.0,
      sealed.1,
      sealed.2,
      value_given (station rows s (entry name t)) ts (at + (2 + length name)) t sealed.0 (value_of name t is are)
          sealed.3,
      items_given s ts (at + (2 + length name) + length (value_bytes t)) is sealed.1 (others_of name t is are) sealed.4,
    )
