-- A refusal is told, and nothing is written.
use Rattle.std.proofs.Common.{◌∙◌, sym, ap}
use Rattle.fle_c.specs.Telling.{answer_out, answer_told}
use Rattle.fle_c.proofs.told.tell.Goals as goal

pub returns-in-Refused : goal.returns-in-Refused
returns-in-Refused c =
    let is = sym c.in-Refused.is in
    let random = c.args.random in
    record {
      shows = record {
        numbers = c.refused.ensures.told random c.args.out.now ∙ ap (answer_told random c.args.out.now) is;
        out = ap (answer_out c.args.out.now) is;
      };
    }
