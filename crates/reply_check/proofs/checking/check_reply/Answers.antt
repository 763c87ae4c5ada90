use Rattle.std.proofs.Common.{◌≡◌, ◌∙◌, Bool, ℕ, [], ◌∷◌, Ok, Err, Some, length, sym, ap}
use Rattle.std.specs.Prelude.{nat_lt}
use Rattle.bson_tree.specs.Tree.{Items, Tree, node}
use Rattle.encrypt_schema.specs.Commands.Visits.{roles}
use Rattle.command_marker.specs.Marked.{marked}
use Rattle.command_marker.specs.Reply.{is_ruled}
use Rattle.reply_check.specs.Ordered.{ordered}
use Rattle.reply_check.specs.Same.{is_same}
use Rattle.reply_check.specs.Wrong.{unless}
use Rattle.reply_check.specs.declared.wrong.WrongReply.TheVariants as wrongs
use Rattle.reply_check.specs.declared.wrong.WrongReply.{WrongReply}
use Rattle.reply_check.proofs.Flags.{first_is, read_with, second_is}
use Rattle.reply_check.proofs.Readings.{isnt_right}
use Rattle.reply_check.proofs.Trees.{items_are, same_items}
use Rattle.reply_check.proofs.checking.check_reply.Goals as goal

pub returns-then-is_marked-clause-right : goal.returns-then-is_marked-clause-right
returns-then-is_marked-clause-right c =
    let rows = c.args.marked.now.rows in
    let command = c.args.marked.now.command in
    let first = nat_lt 0 (length (roles rows 0 command.tree)) in
    let second = is_ruled rows command.tree in
    let p = first_is rows command c.marks.result.now c.len.result c.len.ensures.count c.marks.ensures.marks in
    let q = second_is c.rows.result.now rows command.tree c.len-2.result c.len-2.ensures.count c.rows.ensures.rows
    c.command.ensures.marked in
    let same = λ (d : Items). is_same (ordered rows command.tree d) (marked rows command.tree) in
    let e = c.in-Ok.found in
    let read = read_with (nat_lt 0 c.len.result) (nat_lt 0 c.len-2.result) first second c.args.reply.now (Ok e) p q
    c.in-Ok.ensures.read in
    record {
      first = read.1;
      second = read.2;
      command = c.in-Some.answer.tree;
      result = read.3 ∙ ap (λ (t : Tree). t ∷ [])
          (c.in-Some.ensures.node ∙ ap (λ (n : ℕ). node n c.in-Some.answer.tree) read.4);
      same = same_items (ordered rows command.tree c.in-Some.answer.tree) (marked rows command.tree)
          (sym c.is_marked.ensures.same ∙ c.if-is_marked.true);
    }

pub returns-then-is_marked-clause-wrong : goal.returns-then-is_marked-clause-wrong
returns-then-is_marked-clause-wrong c =
    let rows = c.args.marked.now.rows in
    let command = c.args.marked.now.command in
    let first = nat_lt 0 (length (roles rows 0 command.tree)) in
    let second = is_ruled rows command.tree in
    let p = first_is rows command c.marks.result.now c.len.result c.len.ensures.count c.marks.ensures.marks in
    let q = second_is c.rows.result.now rows command.tree c.len-2.result c.len-2.ensures.count c.rows.ensures.rows
    c.command.ensures.marked in
    let same = λ (d : Items). is_same (ordered rows command.tree d) (marked rows command.tree) in
    let e = c.in-Ok.found in
    let read = read_with (nat_lt 0 c.len.result) (nat_lt 0 c.len-2.result) first second c.args.reply.now (Ok e) p q
    c.in-Ok.ensures.read in
    let told = read.0 same
    ∙ ap (λ (is : Items). unless (same is) e) c.in-Some.ensures.inside
    ∙ ap (λ (b : Bool). unless b e) (sym c.is_marked.ensures.same ∙ c.if-is_marked.true) in
    told

pub returns-else-is_marked-clause-right : goal.returns-else-is_marked-clause-right
returns-else-is_marked-clause-right c =
    let rows = c.args.marked.now.rows in
    let command = c.args.marked.now.command in
    let first = nat_lt 0 (length (roles rows 0 command.tree)) in
    let second = is_ruled rows command.tree in
    let p = first_is rows command c.marks.result.now c.len.result c.len.ensures.count c.marks.ensures.marks in
    let q = second_is c.rows.result.now rows command.tree c.len-2.result c.len-2.ensures.count c.rows.ensures.rows
    c.command.ensures.marked in
    let same = λ (d : Items). is_same (ordered rows command.tree d) (marked rows command.tree) in
    let e = c.in-Ok.found in
    let read = read_with (nat_lt 0 c.len.result) (nat_lt 0 c.len-2.result) first second c.args.reply.now (Ok e) p q
    c.in-Ok.ensures.read in
    let told = read.0 same
    ∙ ap (λ (is : Items). unless (same is) e) c.in-Some.ensures.inside
    ∙ ap (λ (b : Bool). unless b e) (sym c.is_marked.ensures.same ∙ c.if-is_marked.false) in
    isnt_right first second same (λ d. ordered rows command.tree d ≡ marked rows command.tree) c.args.reply.now
    (wrongs.Differs e.start) (λ d h. items_are (ordered rows command.tree d) (marked rows command.tree) h) told

pub returns-else-is_marked-clause-wrong : goal.returns-else-is_marked-clause-wrong
returns-else-is_marked-clause-wrong c =
    let rows = c.args.marked.now.rows in
    let command = c.args.marked.now.command in
    let first = nat_lt 0 (length (roles rows 0 command.tree)) in
    let second = is_ruled rows command.tree in
    let p = first_is rows command c.marks.result.now c.len.result c.len.ensures.count c.marks.ensures.marks in
    let q = second_is c.rows.result.now rows command.tree c.len-2.result c.len-2.ensures.count c.rows.ensures.rows
    c.command.ensures.marked in
    let same = λ (d : Items). is_same (ordered rows command.tree d) (marked rows command.tree) in
    let e = c.in-Ok.found in
    let read = read_with (nat_lt 0 c.len.result) (nat_lt 0 c.len-2.result) first second c.args.reply.now (Ok e) p q
    c.in-Ok.ensures.read in
    let told = read.0 same
    ∙ ap (λ (is : Items). unless (same is) e) c.in-Some.ensures.inside
    ∙ ap (λ (b : Bool). unless b e) (sym c.is_marked.ensures.same ∙ c.if-is_marked.false) in
    told ∙ ap (λ (w : WrongReply). Some w) (sym c.differs.ensures.differs)

pub returns-in-Err-clause-right : goal.returns-in-Err-clause-right
returns-in-Err-clause-right c =
    let rows = c.args.marked.now.rows in
    let command = c.args.marked.now.command in
    let first = nat_lt 0 (length (roles rows 0 command.tree)) in
    let second = is_ruled rows command.tree in
    let p = first_is rows command c.marks.result.now c.len.result c.len.ensures.count c.marks.ensures.marks in
    let q = second_is c.rows.result.now rows command.tree c.len-2.result c.len-2.ensures.count c.rows.ensures.rows
    c.command.ensures.marked in
    let same = λ (d : Items). is_same (ordered rows command.tree d) (marked rows command.tree) in
    let read = read_with (nat_lt 0 c.len.result) (nat_lt 0 c.len-2.result) first second c.args.reply.now
    (Err c.in-Err.wrong) p q c.in-Err.ensures.read in
    isnt_right first second same (λ d. ordered rows command.tree d ≡ marked rows command.tree) c.args.reply.now
    (c.in-Err.wrong) (λ d h. items_are (ordered rows command.tree d) (marked rows command.tree) h) (read same)

pub returns-in-Err-clause-wrong : goal.returns-in-Err-clause-wrong
returns-in-Err-clause-wrong c =
    let rows = c.args.marked.now.rows in
    let command = c.args.marked.now.command in
    let first = nat_lt 0 (length (roles rows 0 command.tree)) in
    let second = is_ruled rows command.tree in
    let p = first_is rows command c.marks.result.now c.len.result c.len.ensures.count c.marks.ensures.marks in
    let q = second_is c.rows.result.now rows command.tree c.len-2.result c.len-2.ensures.count c.rows.ensures.rows
    c.command.ensures.marked in
    let same = λ (d : Items). is_same (ordered rows command.tree d) (marked rows command.tree) in
    let read = read_with (nat_lt 0 c.len.result) (nat_lt 0 c.len-2.result) first second c.args.reply.now
    (Err c.in-Err.wrong) p q c.in-Err.ensures.read in
    read same
