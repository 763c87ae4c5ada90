use Rattle.std.proofs.Common.{◌∙◌, sym}
use Rattle.payload6.specs.Needs.{need_seen}
use Rattle.reply_check.proofs.Pieces.{first_of_six, second_of_six, third_of_six, fourth_of_six, fifth_of_six}
use Rattle.reply_check.proofs.Pieces.{last_of_six, somehow}
use Rattle.reply_check.proofs.markings.are_fields.Goals as goal

pub returns-then-are_in_order : goal.returns-then-are_in_order
returns-then-are_in_order c = record {
  fields = λ contents is.
      first_of_six _ _ _ _ _ _ (sym c.are_in_order.ensures.order ∙ c.if-are_in_order.true)
      ∙ somehow c.args.algorithm (need_seen c.args.need) c.args.item.now.tree contents c.args.bytes.now is;
}

pub returns-then-are_in_order-2 : goal.returns-then-are_in_order-2
returns-then-are_in_order-2 c = record {
  fields = λ contents is.
      second_of_six _ _ _ _ _ _ (sym c.are_in_order-2.ensures.order ∙ c.if-are_in_order-2.true)
      ∙ somehow c.args.algorithm (need_seen c.args.need) c.args.item.now.tree contents c.args.bytes.now is;
}

pub returns-then-are_in_order-3 : goal.returns-then-are_in_order-3
returns-then-are_in_order-3 c = record {
  fields = λ contents is.
      third_of_six _ _ _ _ _ _ (sym c.are_in_order-3.ensures.order ∙ c.if-are_in_order-3.true)
      ∙ somehow c.args.algorithm (need_seen c.args.need) c.args.item.now.tree contents c.args.bytes.now is;
}

pub returns-then-are_in_order-4 : goal.returns-then-are_in_order-4
returns-then-are_in_order-4 c = record {
  fields = λ contents is.
      fourth_of_six _ _ _ _ _ _ (sym c.are_in_order-4.ensures.order ∙ c.if-are_in_order-4.true)
      ∙ somehow c.args.algorithm (need_seen c.args.need) c.args.item.now.tree contents c.args.bytes.now is;
}

pub returns-then-are_in_order-5 : goal.returns-then-are_in_order-5
returns-then-are_in_order-5 c = record {
  fields = λ contents is.
      fifth_of_six _ _ _ _ _ _ (sym c.are_in_order-5.ensures.order ∙ c.if-are_in_order-5.true)
      ∙ somehow c.args.algorithm (need_seen c.args.need) c.args.item.now.tree contents c.args.bytes.now is;
}

pub returns : goal.returns
returns c = record {
  fields = λ contents is.
      last_of_six _ _ _ _ _ _ _ (sym c.are_in_order.ensures.order ∙ c.if-are_in_order.false)
      (sym c.are_in_order-2.ensures.order ∙ c.if-are_in_order-2.false)
      (sym c.are_in_order-3.ensures.order ∙ c.if-are_in_order-3.false)
      (sym c.are_in_order-4.ensures.order ∙ c.if-are_in_order-4.false)
      (sym c.are_in_order-5.ensures.order ∙ c.if-are_in_order-5.false)
      c.are_in_order-6.ensures.order
      ∙ somehow c.args.algorithm (need_seen c.args.need) c.args.item.now.tree contents c.args.bytes.now is;
}
