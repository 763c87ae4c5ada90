use Rattle.reply_check.proofs.Pieces.{name_behind, name_none}
use Rattle.reply_check.proofs.markings.behind_name.Goals as goal

pub returns-in-Some : goal.returns-in-Some
returns-in-Some c = record {
  behind = name_behind c.args.bytes.now c.length_bytes.result c.args.name.now c.in-Some.text.now
      c.behind_both-in-Some.result c.length_bytes.ensures.bytes c.in-Some.ensures.behind
      c.behind_both-in-Some.ensures.behind;
}

pub returns-in-None : goal.returns-in-None
returns-in-None c = record {
  behind = name_none c.args.bytes.now c.length_bytes.result c.args.name.now c.length_bytes.ensures.bytes
      c.in-None.ensures.behind;
}
