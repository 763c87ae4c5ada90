use Rattle.std.proofs.Common.{◌∙◌, sym}
use Rattle.reply_check.proofs.Readings.{all_read, first_differs, misshapen, no_first, no_result, no_second}
use Rattle.reply_check.proofs.Readings.{second_differs, values_first, values_result, values_second}
use Rattle.reply_check.proofs.checking.read_reply.Goals as goal

pub returns-in-Some : goal.returns-in-Some
returns-in-Some c = record {
  read = λ same. misshapen c.args.marked c.args.ruled same c.args.reply.now c.in-Some.at c.in-Some.ensures.first;
}

pub returns-in_default-first_flag : goal.returns-in_default-first_flag
returns-in_default-first_flag c = record {
  read = λ same. no_first c.args.marked c.args.ruled same c.args.reply.now c.in_default.ensures.first
      c.in_default-first_flag.ensures.field;
}

pub returns-in_default-second_flag : goal.returns-in_default-second_flag
returns-in_default-second_flag c = record {
  read = λ same. no_second c.args.marked c.args.ruled same c.args.reply.now c.in_default.ensures.first
      c.in-Some-first_flag.first c.in-Some-first_flag.ensures.field c.in_default-second_flag.ensures.field;
}

pub returns-in_default-result_of : goal.returns-in_default-result_of
returns-in_default-result_of c = record {
  read = λ same. no_result c.args.marked c.args.ruled same c.args.reply.now c.in_default.ensures.first
      c.in-Some-first_flag.first c.in-Some-first_flag.ensures.field
      c.in-Some-second_flag.second c.in-Some-second_flag.ensures.field c.in_default-result_of.ensures.field;
}

pub returns-then-not-is_flag : goal.returns-then-not-is_flag
returns-then-not-is_flag c = record {
  read = λ same. first_differs c.args.marked c.args.ruled same c.args.reply.now c.in_default.ensures.first
      c.in-Some-first_flag.first c.in-Some-first_flag.ensures.field
      c.in-Some-second_flag.second c.in-Some-second_flag.ensures.field
      c.in-Some-result_of.result c.in-Some-result_of.ensures.field
      c.differs.result c.differs.ensures.differs (sym c.is_flag.ensures.flag ∙ c.if-not-is_flag.true);
}

pub returns-then-not-is_flag-2 : goal.returns-then-not-is_flag-2
returns-then-not-is_flag-2 c = record {
  read = λ same. second_differs c.args.marked c.args.ruled same c.args.reply.now c.in_default.ensures.first
      c.in-Some-first_flag.first c.in-Some-first_flag.ensures.field
      c.in-Some-second_flag.second c.in-Some-second_flag.ensures.field
      c.in-Some-result_of.result c.in-Some-result_of.ensures.field
      c.differs-then-not-is_flag-2.result c.differs-then-not-is_flag-2.ensures.differs
      (sym c.is_flag.ensures.flag ∙ c.if-not-is_flag.false)
      (sym c.is_flag-2.ensures.flag ∙ c.if-not-is_flag-2.true);
}

pub returns : goal.returns
returns c =
    let none = c.in_default.ensures.first in
    let a = sym c.is_flag.ensures.flag ∙ c.if-not-is_flag.false in
    let b = sym c.is_flag-2.ensures.flag ∙ c.if-not-is_flag-2.false in
    let values = values_result c.args.reply.now c.in-Some-result_of.result none c.in-Some-result_of.ensures.field in
    record {
      read = (
        λ same. all_read c.args.marked c.args.ruled same c.args.reply.now none
            c.in-Some-first_flag.first c.in-Some-first_flag.ensures.field
            c.in-Some-second_flag.second c.in-Some-second_flag.ensures.field
            c.in-Some-result_of.result c.in-Some-result_of.ensures.field a b,
        values_first c.args.reply.now c.in-Some-first_flag.first c.args.marked none
            c.in-Some-first_flag.ensures.field a,
        values_second c.args.reply.now c.in-Some-second_flag.second c.args.ruled none
            c.in-Some-second_flag.ensures.field b,
        values.0,
        values.1,
      );
    }
