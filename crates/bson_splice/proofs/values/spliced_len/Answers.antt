use Rattle.std.proofs.Common.{ap, length, rules}
use Rattle.bson_splice.proofs.Given.{enough, sum_is, over, within}
use Rattle.bson_splice.proofs.values.spliced_len.Goals as goal

pub overflow_add-size : goal.overflow_add-size
overflow_add-size c = search rules

pub overflow_sub-size : goal.overflow_sub-size
overflow_sub-size c =
    enough c.args.values.now c.args.document.now c.requires.stands _ _ _
    (ap length c.bytes.ensures.spelling) c.sizes_of-places.ensures.removed c.sizes_of-places.ensures.given

pub returns-then-size-limit : goal.returns-then-size-limit
returns-then-size-limit c =
    let sum = sum_is c.args.values.now c.args.document.now c.requires.stands _ _ _
    (ap length c.bytes.ensures.spelling) c.sizes_of-places.ensures.removed c.sizes_of-places.ensures.given in
    record { size = over _ _ _ sum c.if-size-limit.true }

pub returns : goal.returns
returns c =
    let sum = sum_is c.args.values.now c.args.document.now c.requires.stands _ _ _
    (ap length c.bytes.ensures.spelling) c.sizes_of-places.ensures.removed c.sizes_of-places.ensures.given in
    record { size = (sum, within _ _ _ sum c.if-size-limit.false) }
