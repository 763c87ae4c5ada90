-- With a blank at each protected place a sealed command is what the command is, and that its blank tells.
use Rattle.std.proofs.Common.{◌≡◌, ℕ, zero, suc, ◌+◌, List, [], ◌∷◌, ◌++◌, Option, Some, None, unwrap_or, option_map}
use Rattle.std.proofs.Common.{refl, sym, ap, ap₂, ◌∙◌, arith}
use Rattle.bson_tree.specs.Tree.{Tree, leaf, node, Items, no_items, item}
use Rattle.bson_tree.specs.Filled.{filled_in, filled_from}
use Rattle.encrypt_schema.specs.Commands.Chains.{link, chain_in, chain_from, targets_at}
use Rattle.encrypt_schema.specs.Commands.Skeletons.{Skeleton, hole, plain, branch, Skeletons, no_more, more}
use Rattle.encrypt_schema.specs.Commands.Skeletons.{blank, blank_in, blanks}
use Rattle.encrypt_schema.specs.Commands.Stations.{Station, Outside, Store, Compare, station}
use Rattle.encrypt_schema.specs.Commands.Visits.{entry, command_entry}
use Rattle.encrypt_schema.specs.Language.Row.{Row}
use Rattle.doc_rewrite.specs.Keys.{Lookup}
use Rattle.doc_rewrite.specs.SealedCommand.{IsFilledCommand, IsSealedCommand, SealsAt, rule_at}
use Rattle.doc_rewrite.specs.SealedTrees.{Use, rule_of, use_of}
use Rattle.doc_rewrite.proofs.FromPlaces.{along_onward, command_rule, rule_along}
use Rattle.context_machine.specs.Blanked.{blank_at, blank_value, blanked}

-- ---- what is put in where a blank comes later isn't seen

-- something is put in only where later something is, too
abbrev IsUnder : Option Tree → Option Tree → Type 0
IsUnder u None = u ≡ None
IsUnder u (Some v) = Unit {0}

put_over : (g : List ℕ → Option Tree) (t v : Tree) → g [] ≡ Some v → filled_in g t ≡ v
put_over g (leaf tag bytes) v e = ap (λ (o : Option Tree). unwrap_or o (leaf tag bytes)) e
put_over g (node tag is) v e = ap (λ (o : Option Tree). unwrap_or o (node tag (filled_from g 0 is))) e

over_leaf : (g : List ℕ → Option Tree) (tag : ℕ) (bytes : List ℕ) (u v : Option Tree) → g [] ≡ v → IsUnder u v
    → filled_in g (unwrap_or u (leaf tag bytes)) ≡ filled_in g (leaf tag bytes)
over_leaf g tag bytes u None e under = ap (λ (o : Option Tree). filled_in g (unwrap_or o (leaf tag bytes))) under
over_leaf g tag bytes u (Some v) e under =
    put_over g (unwrap_or u (leaf tag bytes)) v e ∙ sym (put_over g (leaf tag bytes) v e)

over_node : (g : List ℕ → Option Tree) (tag : ℕ) (is js : Items) (u v : Option Tree) → g [] ≡ v → IsUnder u v
    → filled_from g 0 js ≡ filled_from g 0 is
    → filled_in g (unwrap_or u (node tag js)) ≡ filled_in g (node tag is)
over_node g tag is js u None e under inside =
    ap (λ (o : Option Tree). filled_in g (unwrap_or o (node tag js))) under
    ∙ ap (λ (xs : Items). unwrap_or (g []) (node tag xs)) inside
over_node g tag is js u (Some v) e under inside =
    put_over g (unwrap_or u (node tag js)) v e ∙ sym (put_over g (node tag is) v e)

mutual
  over_in : (f g : List ℕ → Option Tree) (t : Tree) → ((place : List ℕ) → IsUnder (f place) (g place))
      → filled_in g (filled_in f t) ≡ filled_in g t
  over_in f g (leaf tag bytes) under = over_leaf g tag bytes (f []) (g []) refl (under [])
  over_in f g (node tag is) under =
      over_node g tag is (filled_from f 0 is) (f []) (g []) refl (under []) (over_from f g 0 is under)

  over_from : (f g : List ℕ → Option Tree) (i : ℕ) (is : Items) → ((place : List ℕ) → IsUnder (f place) (g place))
      → filled_from g i (filled_from f i is) ≡ filled_from g i is
  over_from f g i no_items under = refl
  over_from f g i (item name t is) under =
      ap₂ (λ (x : Tree) (xs : Items). item name x xs)
      (over_in (λ place. f (i ∷ place)) (λ place. g (i ∷ place)) t (λ place. under (i ∷ place)))
      (over_from f g (i + 1) is under)

module _ (S : Use → Tree → Tree → Type 0) where
  under_at : (use_by : ℕ → Use) (rule : Option ℕ) (t u : Option Tree) → SealsAt S (option_map use_by rule) t u
      → IsUnder u (option_map (λ i. blank_value) rule)
  under_at use_by None t u seals = seals
  under_at use_by (Some i) t u seals = tt

  sealed_away : (rows : List Row) (c d : Items) → IsFilledCommand S rows c d → blanked rows c d ≡ blanked rows c c
  sealed_away rows c d h =
      ap (filled_from (blank_at rows c) 0) h.made
      ∙ over_from h.f (blank_at rows c) 0 c
      (λ place. under_at (use_of rows (targets_at rows 0 c place)) (rule_at rows c place) _ (h.f place)
      (h.exactly place))

-- ---- what a blank tells

abbrev mutual
  told_in : Skeleton → Tree
  told_in (hole tag width payload) = blank_value
  told_in (plain tag bytes) = leaf tag bytes
  told_in (branch tag ks) = node tag (told ks)

  told : Skeletons → Items
  told no_more = no_items
  told (more name k ks) = item name (told_in k) (told ks)

abbrev blank_of : Option ℕ → Option Tree
blank_of rule = option_map (λ i. blank_value) rule

module _ (rows : List Row) where
  abbrev Any : Use → Tree → Tree → Type 0
  Any usage t u = Unit {0}

  leaf_told : (s : Station) (tag : ℕ) (bytes : List ℕ) (u : Option Tree) → u ≡ blank_of (rule_of s)
      → unwrap_or u (leaf tag bytes) ≡ told_in (blank_in rows s (leaf tag bytes))
  leaf_told (Store i) tag bytes u e = ap (λ (o : Option Tree). unwrap_or o (leaf tag bytes)) e
  leaf_told (Compare i) tag bytes u e = ap (λ (o : Option Tree). unwrap_or o (leaf tag bytes)) e
  leaf_told _ tag bytes u e = ap (λ (o : Option Tree). unwrap_or o (leaf tag bytes)) e

  node_told : (s : Station) (tag : ℕ) (is js : Items) (u : Option Tree) → u ≡ blank_of (rule_of s)
      → js ≡ told (blanks rows s is)
      → unwrap_or u (node tag js) ≡ told_in (blank_in rows s (node tag is))
  node_told (Store i) tag is js u e inside = ap (λ (o : Option Tree). unwrap_or o (node tag js)) e
  node_told (Compare i) tag is js u e inside = ap (λ (o : Option Tree). unwrap_or o (node tag js)) e
  node_told _ tag is js u e inside =
      ap (λ (o : Option Tree). unwrap_or o (node tag js)) e ∙ ap (node tag) inside

  mutual
    blank_told : (s : Station) (elder : List (List ℕ)) (name : List ℕ) (t : Tree) (f : List ℕ → Option Tree)
        → ((place : List ℕ) → f place ≡ blank_of (rule_along Any rows s (chain_in elder name place t)))
        → filled_in f t ≡ told_in (blank_in rows (station rows s (entry name t)) t)
    blank_told s elder name (leaf tag bytes) f h =
        leaf_told (station rows s (entry name (leaf tag bytes))) tag bytes (f []) (h [])
    blank_told s elder name (node tag is) f h =
        let w = station rows s (entry name (node tag is)) in
        node_told w tag is (filled_from f 0 is) (f []) (h [])
        (blanks_told w [] 0 is f (λ n k place e.
        ap (λ (m : ℕ). f (m ∷ place)) (omega (arith, e)) ∙ h (k ∷ place)
        ∙ ap blank_of (along_onward Any rows s (link elder name (node tag is)) (chain_from [] k place is))))

    blanks_told : (s : Station) (elder : List (List ℕ)) (i : ℕ) (is : Items) (f : List ℕ → Option Tree)
        → ((n k : ℕ) (place : List ℕ) → n ≡ i + k
        → f (n ∷ place) ≡ blank_of (rule_along Any rows s (chain_from elder k place is)))
        → filled_from f i is ≡ told (blanks rows s is)
    blanks_told s elder i no_items f h = refl
    blanks_told s elder i (item name t is) f h =
        ap₂ (λ (x : Tree) (xs : Items). item name x xs)
        (blank_told s elder name t (λ place. f (i ∷ place)) (λ place. h i zero place (omega arith)))
        (blanks_told s (elder ++ name ∷ []) (i + 1) is f (λ n k place e. h n (suc k) place (omega (arith, e))))

  command_told : (c : Items) → blanked rows c c ≡ told (blank rows c)
  command_told c =
      blanks_told (station rows Outside (command_entry c)) [] 0 c (blank_at rows c) (λ n k place e.
      let same : n ≡ k = omega (arith, e) in
      ap (λ (m : ℕ). blank_at rows c (m ∷ place)) same
      ∙ ap blank_of (command_rule Any rows (link [] [] (node 3 c)) (chain_from [] k place c)))

-- sealed forms of commands with equal blanks are equal but for what stands at the protected places
pub equal_sealed : (keys others : Lookup) (rows : List Row) (c d x y : Items) → blank rows c ≡ blank rows d
    → IsSealedCommand keys rows c x → IsSealedCommand others rows d y → blanked rows c x ≡ blanked rows d y
equal_sealed keys others rows c d x y e p q =
    sealed_away _ rows c x p ∙ command_told rows c ∙ ap told e ∙ sym (command_told rows d)
    ∙ sym (sealed_away _ rows d y q)
