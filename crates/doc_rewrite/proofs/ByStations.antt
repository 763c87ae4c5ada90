-- A command that is sealed by its marks is sealed by its stations.
use Rattle.std.proofs.Common.{◌≡◌, ℕ, ◌+◌, Bool, true, false, cond, List, [], ◌∷◌, ◌++◌, length, Option, unwrap_or}
use Rattle.std.proofs.Common.{refl, sym, ap, ◌∙◌, subst, arith}
use Rattle.std.proofs.lemmas.Bool.{eq-eqb}
use Rattle.std.proofs.lemmas.List.{append-nil}
use Rattle.std.proofs.lemmas.List.Elements.{All-head}
use Rattle.bson_codec.specs.Borrowed.{At}
use Rattle.doc_rewrite.proofs.Sizes.{other_are}
use Rattle.std.specs.Prelude.{◌==◌}
use Rattle.bson_tree.specs.Tree.{Tree, leaf, node, Items, no_items, item}
use Rattle.bson_tree.specs.Spelling.{framed, value_bytes, items_bytes}
use Rattle.bson_tree.specs.Filled.{fill_tree, fill_items}
use Rattle.encrypt_schema.specs.declared.command.marks.Mark.{Mark}
use Rattle.encrypt_schema.specs.declared.schema.policy.Algorithm.{Algorithm}
use Rattle.encrypt_schema.specs.declared.schema.policy.Algorithm.TheVariants.{Deterministic, Random}
use Rattle.encrypt_schema.specs.Language.Policies.{policy_at}
use Rattle.encrypt_schema.specs.Language.Row.{Row}
use Rattle.encrypt_schema.specs.Commands.Stations.{Station, Outside, Store, Compare, station, has_role}
use Rattle.encrypt_schema.specs.Commands.Pointers.{Targets, is_whole, pointed}
use Rattle.encrypt_schema.specs.Commands.Visits.{entry, command_entry, Visit, visit, mark_at, marks, roles}
use Rattle.encrypt_schema.proofs.Commands.Plans as plans
use Rattle.encrypt_schema.proofs.Commands.Plans.{own, raw, inside, done, next}
use Rattle.encrypt_schema.proofs.Commands.Worlds.{shown_in, shown}
use Rattle.encrypt_schema.proofs.Commands.Apart.{own_marks, roles_shown}
use Rattle.encrypt_schema.proofs.Commands.Taken.{marks_item, takes_among, takes_value}
use Rattle.bson_tree.proofs.Sizes.{framed_size, element_size}
use Rattle.encrypt_schema.proofs.Commands.PointerTexts.{Part, items_part, part_of_part, rest_part, value_part}
use Rattle.payload6.specs.Needs.{Name, need_by}
use Rattle.fle_outside.specs.Blocks.{Block, IsBlock, AreBlocks}
use Rattle.doc_rewrite.specs.Keys.{Lookup}
use Rattle.doc_rewrite.specs.Sealed.{seals, sealed, sealed_value, first_block, other_blocks, any_block}
use Rattle.bson_splice.specs.Splices.{Put, put_at}
use Rattle.bson_splice.specs.Takes as takes
use Rattle.bson_splice.proofs.Behind.{AreBehind}
use Rattle.bson_splice.proofs.Splices.{alike, none_put, passed_in}
use Rattle.doc_rewrite.specs.SealedCommand.{HasNamed, HasRuleKeys}
use Rattle.doc_rewrite.specs.SealedTrees.{Use, use_of, SealedIn, AreSealed}
use Rattle.doc_rewrite.specs.Sites.{site_of, sites_of}
use Rattle.encrypt_schema.proofs.Commands.SpanTexts.{Tells, by_span, command_told, told_inside}

first_are : (algorithm : Algorithm) (blocks : List Block) → IsBlock any_block → AreBlocks blocks
    → IsBlock (first_block algorithm blocks)
first_are Deterministic blocks none are = none
first_are Random [] none are = none
first_are Random (b ∷ blocks) none are = All-head IsBlock b blocks are

-- the elements of a command are a part of themselves
self_part : (at : ℕ) (bytes : List ℕ) → Part at bytes at bytes
self_part at bytes = record {
  front = [];
  behind = [];
  whole = sym (append-nil bytes);
  starts = omega arith;
}

module _ (keys : Lookup) (rows : List Row) (d : At) where
  -- what takes the places of marked values
  abbrev pub puts : List Mark → List Block → List Put
  puts ms blocks = seals keys (sites_of rows d ms) blocks

  -- the offset of the command's first element, and the bytes from there on
  abbrev first : ℕ
  first = d.start + 4

  abbrev bytes_of : List ℕ
  bytes_of = items_bytes d.tree

  behind_puts : (n : ℕ) (ms : List Mark) (blocks : List Block) → plans.AreBehind n ms → AreBehind n (puts ms blocks)
  behind_puts n [] blocks b = tt
  behind_puts n (m ∷ ms) blocks b = (b.0, behind_puts n ms (other_blocks (site_of rows d m).algorithm blocks) b.1)

  record TakenIn (at : ℕ) (t : Tree) (ms rest : List Mark) (blocks : List Block) : Type 0 where
    pub after : List Block
    pub are : AreBlocks after
    pub had : HasRuleKeys keys rows d rest
    pub taken : takes.TakesIn at t (puts ms blocks) (puts rest after)

  record Taken (at : ℕ) (is : Items) (ms rest : List Mark) (blocks : List Block) : Type 0 where
    pub after : List Block
    pub are : AreBlocks after
    pub had : HasRuleKeys keys rows d rest
    pub taken : takes.Takes at is (puts ms blocks) (puts rest after)

  mutual
    taken_in : {at : ℕ} {t : Tree} {ms rest : List Mark} → plans.TakesIn at t ms rest → (blocks : List Block)
        → AreBlocks blocks → HasRuleKeys keys rows d ms → TakenIn at t ms rest blocks
    taken_in (own at t m ms s e) blocks are had = record {
      had = had.1;
      after = other_blocks (site_of rows d m).algorithm blocks;
      are = other_are (site_of rows d m).algorithm blocks are;
      taken = takes.own at t _ _ s e;
    }
    taken_in (raw at tag bytes ms) blocks are had =
        record { after = blocks; are = are; had = had; taken = takes.raw at tag bytes _ }
    taken_in (inside at tag is ms rest t) blocks are had =
        let i = taken t blocks are had in
        record { after = i.after; are = i.are; had = i.had; taken = takes.inside at tag is _ _ i.taken }

    taken : {at : ℕ} {is : Items} {ms rest : List Mark} → plans.Takes at is ms rest → (blocks : List Block)
        → AreBlocks blocks → HasRuleKeys keys rows d ms → Taken at is ms rest blocks
    taken (done at ms) blocks are had = record { after = blocks; are = are; had = had; taken = takes.done at _ }
    taken (next at name t is ms mid rest one ones) blocks are had =
        let front = taken_in one blocks are had in
        let others = taken ones front.after front.are front.had in
        record {
          after = others.after;
          are = others.are;
          had = others.had;
          taken = takes.next at name t is _ _ _ front.taken others.taken;
        }

  -- the use of a rule whose pointer leads to a text
  abbrev use_by : ℕ → Option (List ℕ) → Use
  use_by i text = record { policy = policy_at i rows; need = need_by (policy_at i rows).key text }

  module _ (S : Use → Tree → Tree → Type 0) (none : IsBlock any_block)
      (made : (i start end : ℕ) (text : Option (List ℕ)) (t : Tree) (block : Block)
      → HasNamed keys (need_by (policy_at i rows).key text) → IsBlock block
      → S (use_by i text) t (sealed_value keys (record {
        start = start;
        end = end;
        algorithm = (policy_at i rows).algorithm;
        need = unwrap_or (need_by (policy_at i rows).key text) (Name []);
      }) block t)) where
    -- what its span reads, its target has
    made_by : (i start end : ℕ) (ts us : Targets) (t : Tree) (block : Block) → Tells first bytes_of ts us
        → HasNamed keys (need_by (policy_at i rows).key (by_span first bytes_of i ts)) → IsBlock block
        → S (use_of rows us i) t (sealed_value keys (record {
          start = start;
          end = end;
          algorithm = (policy_at i rows).algorithm;
          need = unwrap_or (need_by (policy_at i rows).key (by_span first bytes_of i ts)) (Name []);
        }) block t)
    made_by i start end ts us t block tells had is =
        subst (λ (x : Option (List ℕ)). S (use_by i x) t (sealed_value keys (record {
          start = start;
          end = end;
          algorithm = (policy_at i rows).algorithm;
          need = unwrap_or (need_by (policy_at i rows).key (by_span first bytes_of i ts)) (Name []);
        }) block t)) (tells i) (made i start end (by_span first bytes_of i ts) t block had is)

    sealed_leaf : (u : Station) (v : Visit) (us : Targets) (from tag : ℕ) (bytes : List ℕ) (more rest : List Mark)
        (blocks : List Block)
        → AreBlocks blocks → Tells first bytes_of v.targets us
        → HasRuleKeys keys rows d ((mark_at u v ++ more) ++ rest)
        → (has_role u ≡ false → AreBehind v.start (puts (more ++ rest) blocks))
        → SealedIn S rows u us from (leaf tag bytes)
        (fill_tree (put_at (puts ((mark_at u v ++ more) ++ rest) blocks)) v.start (leaf tag bytes))
    sealed_leaf (Store i) v us from tag bytes more rest blocks are tells had p =
        let on : (v.start == v.start) ≡ true = eq-eqb v.start v.start refl in
        rw on (made_by i v.start (v.start + v.width) v.targets us (leaf tag bytes)
        (first_block (policy_at i rows).algorithm blocks) tells had.0
        (first_are (policy_at i rows).algorithm blocks none are))
    sealed_leaf (Compare i) v us from tag bytes more rest blocks are tells had p =
        let on : (v.start == v.start) ≡ true = eq-eqb v.start v.start refl in
        rw on (made_by i v.start (v.start + v.width) v.targets us (leaf tag bytes)
        (first_block (policy_at i rows).algorithm blocks) tells had.0
        (first_are (policy_at i rows).algorithm blocks none are))
    sealed_leaf _ v us from tag bytes more rest blocks are tells had p =
        ap (λ (o : Option Tree). unwrap_or o (leaf tag bytes))
        (none_put (puts (more ++ rest) blocks) v.start (leaf tag bytes) (p refl))

    sealed_node : (u : Station) (v : Visit) (us : Targets) (from tag : ℕ) (is : Items) (more rest : List Mark)
        (blocks : List Block)
        → AreBlocks blocks → Tells first bytes_of v.targets us
        → HasRuleKeys keys rows d ((mark_at u v ++ more) ++ rest)
        → (has_role u ≡ false → AreBehind v.start (puts (more ++ rest) blocks))
        → (has_role u ≡ false → HasRuleKeys keys rows d (more ++ rest)
        → AreSealed S rows u (pointed rows u us from is) (from + 4) is
        (fill_items (put_at (puts (more ++ rest) blocks)) (v.start + 4) is))
        → SealedIn S rows u us from (node tag is)
        (fill_tree (put_at (puts ((mark_at u v ++ more) ++ rest) blocks)) v.start (node tag is))
    sealed_node (Store i) v us from tag is more rest blocks are tells had p q =
        let on : (v.start == v.start) ≡ true = eq-eqb v.start v.start refl in
        rw on (made_by i v.start (v.start + v.width) v.targets us (node tag is)
        (first_block (policy_at i rows).algorithm blocks) tells had.0
        (first_are (policy_at i rows).algorithm blocks none are))
    sealed_node (Compare i) v us from tag is more rest blocks are tells had p q =
        let on : (v.start == v.start) ≡ true = eq-eqb v.start v.start refl in
        rw on (made_by i v.start (v.start + v.width) v.targets us (node tag is)
        (first_block (policy_at i rows).algorithm blocks) tells had.0
        (first_are (policy_at i rows).algorithm blocks none are))
    sealed_node _ v us from tag is more rest blocks are tells had p q = (
      fill_items (put_at (puts (more ++ rest) blocks)) (v.start + 4) is,
      ap (λ (o : Option Tree). unwrap_or o (node tag
          (fill_items (put_at (puts (more ++ rest) blocks)) (v.start + 4) is)))
          (none_put (puts (more ++ rest) blocks) v.start (node tag is) (p refl)),
      q refl had,
    )

    -- inside a value without a role all is shown
    shown_node : (u : Station) (ts : Targets) (at tag : ℕ) (is : Items) → has_role u ≡ false
        → marks rows (shown_in rows u ts at (node tag is))
        ≡ marks rows (shown rows u (pointed rows u ts at is) (at + 4) [] is)
    shown_node u ts at tag is h =
        ap (λ (b : Bool). marks rows (cond b [] (shown rows u (pointed rows u ts at is) (at + 4) [] is))) h

    mutual
      value_sealed : (s : Station) (ts us : Targets) (at from : ℕ) (elder : List (List ℕ)) (name : List ℕ) (t : Tree)
          (rest : List Mark)
          (blocks : List Block)
          → Part first bytes_of (at + (2 + length name)) (value_bytes t) → Tells first bytes_of ts us
          → plans.AreBehind (at + (2 + length name) + length (value_bytes t)) rest → AreBlocks blocks
          → HasRuleKeys keys rows d (own_marks rows s ts elder at name t ++ rest)
          → SealedIn S rows (station rows s (entry name t)) us (from + (2 + length name)) t
          (fill_tree (put_at (puts (own_marks rows s ts elder at name t ++ rest) blocks)) (at + (2 + length name)) t)
      value_sealed s ts us at from elder name (leaf tag bytes) rest blocks part tells b are had =
          sealed_leaf (station rows s (entry name (leaf tag bytes)))
          (visit s ts elder at name (leaf tag bytes)) us (from + (2 + length name)) tag bytes [] rest blocks are tells
          had
          (λ h. behind_puts (at + (2 + length name)) rest blocks
          (plans.earlier (at + (2 + length name)) (at + (2 + length name) + length bytes) rest (omega arith) b))
      value_sealed s ts us at from elder name (node tag is) rest blocks part tells b are had =
          let u = station rows s (entry name (node tag is)) in
          let p = at + (2 + length name) in
          let q = from + (2 + length name) in
          let low : plans.AreBehind (p + 4 + length (items_bytes is)) rest =
          plans.earlier (p + 4 + length (items_bytes is)) (p + length (framed (items_bytes is))) rest
          (omega (arith, framed_size (items_bytes is))) b in
          sealed_node u (visit s ts elder at name (node tag is)) us q tag is
          (marks rows (shown_in rows u ts p (node tag is))) rest blocks are tells had
          (λ h. behind_puts p (marks rows (shown_in rows u ts p (node tag is)) ++ rest) blocks
          (subst (λ (ms : List Mark). plans.AreBehind p (ms ++ rest)) (sym (shown_node u ts p tag is h))
          (plans.earlier p (p + 4) (marks rows (shown rows u (pointed rows u ts p is) (p + 4) [] is) ++ rest)
          (omega arith)
          (plans.behind (takes_among rows u (pointed rows u ts p is) (p + 4) [] is rest) low))))
          (λ h all. subst (λ (ms : List Mark). AreSealed S rows u (pointed rows u us q is) (q + 4) is
          (fill_items (put_at (puts (ms ++ rest) blocks)) (p + 4) is)) (sym (shown_node u ts p tag is h))
          (items_sealed u (pointed rows u ts p is) (pointed rows u us q is) (p + 4) (q + 4) [] is rest blocks
          (part_of_part first bytes_of p (value_bytes (node tag is)) (p + 4) (items_bytes is) part
          (items_part p tag is))
          (told_inside rows first bytes_of ts us p q is (is_whole u) part tells) low are
          (subst (λ (ms : List Mark). HasRuleKeys keys rows d (ms ++ rest)) (shown_node u ts p tag is h) all)))

      items_sealed : (s : Station) (ts us : Targets) (at from : ℕ) (elder : List (List ℕ)) (is : Items)
          (rest : List Mark)
          (blocks : List Block)
          → Part first bytes_of at (items_bytes is) → Tells first bytes_of ts us
          → plans.AreBehind (at + length (items_bytes is)) rest → AreBlocks blocks
          → HasRuleKeys keys rows d (marks rows (shown rows s ts at elder is) ++ rest)
          → AreSealed S rows s us from is
          (fill_items (put_at (puts (marks rows (shown rows s ts at elder is) ++ rest) blocks)) at
          is)
      items_sealed s ts us at from elder no_items rest blocks part tells b are had = refl
      items_sealed s ts us at from elder (item name t is) rest blocks part tells b are had =
          let p = at + (2 + length name) in
          let q = p + length (value_bytes t) in
          let q' = from + (2 + length name) + length (value_bytes t) in
          let mid = marks rows (shown rows s ts q (elder ++ name ∷ []) is) ++ rest in
          let all = own_marks rows s ts elder at name t ++ mid in
          let low : plans.AreBehind (q + length (items_bytes is)) rest =
          plans.earlier (q + length (items_bytes is)) (at + length (items_bytes (item name t is))) rest
          (omega (arith, element_size name t is)) b in
          let had' : HasRuleKeys keys rows d all =
          subst (HasRuleKeys keys rows d) (marks_item rows s ts at elder name t is rest) had in
          let first_sealed = value_sealed s ts us at from elder name t mid blocks
          (part_of_part first bytes_of at (items_bytes (item name t is)) p (value_bytes t) part
          (value_part at name t is)) tells
          (plans.behind (takes_among rows s ts q (elder ++ name ∷ []) is rest) low) are had' in
          let i = taken_in (takes_value rows s ts at elder name t mid) blocks are had' in
          let same : fill_items (put_at (puts all blocks)) q is ≡ fill_items (put_at (puts mid i.after)) q is =
          alike (put_at (puts all blocks)) (put_at (puts mid i.after)) q (λ k v h. passed_in i.taken k v h) q is
          (omega arith) in
          let others = subst (AreSealed S rows s us q' is) (sym same)
          (items_sealed s ts us q q' (elder ++ name ∷ []) is rest i.after
          (part_of_part first bytes_of at (items_bytes (item name t is)) q (items_bytes is) part
          (rest_part at name t is)) tells low i.are i.had) in
          subst (λ (ms : List Mark). AreSealed S rows s us from (item name t is)
          (fill_items (put_at (puts ms blocks)) at (item name t is)))
          (sym (marks_item rows s ts at elder name t is rest)) (
            fill_tree (put_at (puts all blocks)) p t,
            fill_items (put_at (puts all blocks)) q is,
            refl,
            first_sealed,
            others,
          )

    -- a command sealed at the sites of its roles
    pub command_sealed : (blocks : List Block) → AreBlocks blocks
        → HasRuleKeys keys rows d (roles rows d.start d.tree)
        → AreSealed S rows (station rows Outside (command_entry d.tree))
        (pointed rows (station rows Outside (command_entry d.tree)) [] 0 d.tree) 4 d.tree
        (sealed keys (sites_of rows d (roles rows d.start d.tree)) blocks d)
    unfolding sealed
    command_sealed blocks are had =
        let c = d.tree in
        let s = station rows Outside (command_entry c) in
        let ts = pointed rows s [] d.start c in
        let us = pointed rows s [] 0 c in
        let same : roles rows d.start c ≡ marks rows (shown rows s ts first [] c) ++ [] =
        roles_shown rows d.start c ∙ sym (append-nil (marks rows (shown rows s ts first [] c))) in
        subst (λ (ms : List Mark). AreSealed S rows s us 4 c (fill_items (put_at (puts ms blocks)) first c)) (sym same)
        (items_sealed s ts us first 4 [] c [] blocks (self_part first bytes_of)
        (command_told rows first bytes_of d.start 0 c) tt are (subst (HasRuleKeys keys rows d) same had))
