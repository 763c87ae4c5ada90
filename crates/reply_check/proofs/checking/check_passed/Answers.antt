use Rattle.std.proofs.Common.{◌≡◌, ◌∙◌, Bool, false, ℕ, [], ◌∷◌, sym, ap}
use Rattle.bson_tree.specs.Tree.{Items, Tree, node}
use Rattle.reply_check.specs.Same.{is_same}
use Rattle.reply_check.specs.Wrong.{unless}
use Rattle.reply_check.specs.declared.wrong.WrongReply.TheVariants as wrongs
use Rattle.reply_check.proofs.Readings.{isnt_right}
use Rattle.reply_check.proofs.Trees.{items_are, same_items}
use Rattle.reply_check.proofs.checking.check_passed.Goals as goal

pub returns-then-is_same_document-clause-right : goal.returns-then-is_same_document-clause-right
returns-then-is_same_document-clause-right c =
    let read = c.in-Ok.ensures.read in
    record {
      first = read.1;
      second = read.2;
      command = c.in-Some.answer.tree;
      result = read.3 ∙ ap (λ (t : Tree). t ∷ [])
          (c.in-Some.ensures.node ∙ ap (λ (n : ℕ). node n c.in-Some.answer.tree) read.4);
      same = same_items c.in-Some.answer.tree c.args.command.now.tree
          (sym c.is_same_document.ensures.same ∙ c.if-is_same_document.true);
    }

pub returns-else-is_same_document-clause-right : goal.returns-else-is_same_document-clause-right
returns-else-is_same_document-clause-right c =
    let m = c.args.command.now.tree in
    let e = c.in-Ok.element in
    isnt_right false false (λ d. is_same d m) (λ d. d ≡ m) c.args.reply.now (wrongs.Differs e.start)
    (λ d same. items_are d m same)
    (c.in-Ok.ensures.read.0 (λ d. is_same d m)
    ∙ ap (λ (is : Items). unless (is_same is m) e) c.in-Some.ensures.inside
    ∙ ap (λ (b : Bool). unless b e) (sym c.is_same_document.ensures.same ∙ c.if-is_same_document.false))

pub returns-in-Err-clause-right : goal.returns-in-Err-clause-right
returns-in-Err-clause-right c =
    let m = c.args.command.now.tree in
    isnt_right false false (λ d. is_same d m) (λ d. d ≡ m) c.args.reply.now c.in-Err.wrong
    (λ d same. items_are d m same)
    (c.in-Err.ensures.read (λ d. is_same d m))
