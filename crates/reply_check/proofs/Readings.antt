-- What is read of a reply: it is right exactly where nothing is wrong with it.
use Rattle.std.proofs.Common.{◌≡◌, ◌∙◌, ℕ, ◌+◌, Bool, true, false, List, [], ◌∷◌, Option, Some, None, refl, sym, ap}
use Rattle.std.specs.Prelude.{codes}
use Rattle.bson_codec.specs.Borrowed.{At, Elem}
use Rattle.bson_tree.specs.Tree.{Tree, Items, node, tag_of, kids_of}
use Rattle.command_marker.specs.Reply.{flag}
use Rattle.reply_check.specs.declared.wrong.WrongReply.{WrongReply}
use Rattle.reply_check.specs.declared.wrong.WrongReply.TheVariants as wrongs
use Rattle.reply_check.specs.Right.{IsReply, values_of}
use Rattle.reply_check.specs.Same.{is_same_tree}
use Rattle.reply_check.specs.Wrong.{field, first_misshapen, unless, wrong_by}
use Rattle.reply_check.proofs.Shapes.{Found, first_word, head_is, none_misshapen, once, result_word, second_word}
use Rattle.reply_check.proofs.Trees.{own_tree, same_tree}

-- the element that is found
found_is : (tag : ℕ) (ts : List Tree) (t : Tree) (o : Option Elem) → Found tag ts o → ts ≡ t ∷ []
    → (e : Elem) × (o ≡ Some e) × (e.tree ≡ t)
found_is tag ts t None f e = absurd cc
found_is tag ts t (Some x) f e = (x, refl, (head_is x.tree t [] [] (sym f.0 ∙ e)).0)

-- nothing is wrong with a right reply
pub nothing_wrong : (marked ruled : Bool) (same : Items → Bool) (Same : Items → Type 0) (r : At)
    → ((d : Items) → Same d → same d ≡ true) → IsReply marked ruled Same r.tree → wrong_by marked ruled same r ≡ None
unfolding wrong_by
nothing_wrong marked ruled same Same r test right =
    let none = none_misshapen r.tree (flag marked) (flag ruled) (node 3 right.command) right.first refl
    right.second refl right.result refl (r.start + 4) in
    let first = found_is 8 _ (flag marked) _
    ((once 8 (codes "hasEncryptionPlaceholders") first_word [] (r.start + 4) r.tree none).found refl) right.first in
    let second = found_is 8 _ (flag ruled) _
    ((once 8 (codes "schemaRequiresEncryption") second_word [] (r.start + 4) r.tree none).found refl) right.second in
    let result = found_is 3 _ (node 3 right.command) _
    ((once 3 (codes "result") result_word [] (r.start + 4) r.tree none).found refl) right.result in
    let a : is_same_tree first.0.tree (flag marked) ≡ true =
    ap (λ (t : Tree). is_same_tree t (flag marked)) first.2 ∙ own_tree (flag marked) in
    let b : is_same_tree second.0.tree (flag ruled) ≡ true =
    ap (λ (t : Tree). is_same_tree t (flag ruled)) second.2 ∙ own_tree (flag ruled) in
    let c : same (kids_of result.0.tree) ≡ true =
    ap (λ (t : Tree). same (kids_of t)) result.2 ∙ test right.command right.same in
    rw (none, first.1, second.1, result.1, a, b, c) refl

-- so where something is wrong it isn't right
pub isnt_right : (marked ruled : Bool) (same : Items → Bool) (Same : Items → Type 0) (r : At) (w : WrongReply)
    → ((d : Items) → Same d → same d ≡ true) → wrong_by marked ruled same r ≡ Some w
    → IsReply marked ruled Same r.tree → ⊥
isnt_right marked ruled same Same r w test wrong right =
    differ (wrong_by marked ruled same r) wrong (nothing_wrong marked ruled same Same r test right)
  where
    differ : (o : Option WrongReply) → o ≡ Some w → o ≡ None → ⊥
    differ None p q = cc
    differ (Some x) p q = cc

-- ---- what is read of a reply

pub misshapen : (marked ruled : Bool) (same : Items → Bool) (r : At) (at : ℕ)
    → Some at ≡ first_misshapen [] (r.start + 4) r.tree → wrong_by marked ruled same r ≡ Some (wrongs.Shape at)
unfolding wrong_by
misshapen marked ruled same r at e = rw (sym e) refl

module _ (marked ruled : Bool) (same : Items → Bool) (r : At)
    (none : None ≡ first_misshapen [] (r.start + 4) r.tree) where
  pub no_first : None ≡ field (codes "hasEncryptionPlaceholders") (r.start + 4) r.tree
      → wrong_by marked ruled same r ≡ Some (wrongs.Shape 0)
  unfolding wrong_by
  no_first e = rw (sym none, sym e) refl

  module _ (first : Elem) (p : Some first ≡ field (codes "hasEncryptionPlaceholders") (r.start + 4) r.tree) where
    pub no_second : None ≡ field (codes "schemaRequiresEncryption") (r.start + 4) r.tree
        → wrong_by marked ruled same r ≡ Some (wrongs.Shape 0)
    unfolding wrong_by
    no_second e = rw (sym none, sym p, sym e) refl

    module _ (second : Elem) (q : Some second ≡ field (codes "schemaRequiresEncryption") (r.start + 4) r.tree) where
      pub no_result : None ≡ field (codes "result") (r.start + 4) r.tree
          → wrong_by marked ruled same r ≡ Some (wrongs.Shape 0)
      unfolding wrong_by
      no_result e = rw (sym none, sym p, sym q, sym e) refl

      module _ (result : Elem) (s : Some result ≡ field (codes "result") (r.start + 4) r.tree) where
        pub first_differs : (w : WrongReply) → w ≡ wrongs.Differs first.start
            → is_same_tree first.tree (flag marked) ≡ false
            → wrong_by marked ruled same r ≡ Some w
        unfolding wrong_by
        first_differs w is e = rw (sym none, sym p, sym q, sym s, e, is) refl

        pub second_differs : (w : WrongReply) → w ≡ wrongs.Differs second.start
            → is_same_tree first.tree (flag marked) ≡ true
            → is_same_tree second.tree (flag ruled) ≡ false
            → wrong_by marked ruled same r ≡ Some w
        unfolding wrong_by
        second_differs w is d e = rw (sym none, sym p, sym q, sym s, d, e, is) refl

        pub all_read : is_same_tree first.tree (flag marked) ≡ true → is_same_tree second.tree (flag ruled) ≡ true
            → wrong_by marked ruled same r ≡ unless (same (kids_of result.tree)) result
        unfolding wrong_by
        all_read d e = rw (sym none, sym p, sym q, sym s, d, e) refl

-- the values of the words that were found
pub values_first : (r : At) (e : Elem) (b : Bool) → None ≡ first_misshapen [] (r.start + 4) r.tree
    → Some e ≡ field (codes "hasEncryptionPlaceholders") (r.start + 4) r.tree → is_same_tree e.tree (flag b) ≡ true
    → values_of (codes "hasEncryptionPlaceholders") r.tree ≡ flag b ∷ []
values_first r e b none p d =
    let found = (once 8 (codes "hasEncryptionPlaceholders") first_word [] (r.start + 4) r.tree (sym none)).found refl in
    (rw (sym p) at found).0 ∙ ap (λ (t : Tree). t ∷ []) (same_tree e.tree (flag b) d)

pub values_second : (r : At) (e : Elem) (b : Bool) → None ≡ first_misshapen [] (r.start + 4) r.tree
    → Some e ≡ field (codes "schemaRequiresEncryption") (r.start + 4) r.tree → is_same_tree e.tree (flag b) ≡ true
    → values_of (codes "schemaRequiresEncryption") r.tree ≡ flag b ∷ []
values_second r e b none p d =
    let found = (once 8 (codes "schemaRequiresEncryption") second_word [] (r.start + 4) r.tree (sym none)).found refl in
    (rw (sym p) at found).0 ∙ ap (λ (t : Tree). t ∷ []) (same_tree e.tree (flag b) d)

pub values_result : (r : At) (e : Elem) → None ≡ first_misshapen [] (r.start + 4) r.tree
    → Some e ≡ field (codes "result") (r.start + 4) r.tree
    → (values_of (codes "result") r.tree ≡ e.tree ∷ []) × (tag_of e.tree ≡ 3)
values_result r e none p =
    let found = (once 3 (codes "result") result_word [] (r.start + 4) r.tree (sym none)).found refl in
    rw (sym p) at found
