-- The text is written, and the end that follows is reported.
use Rattle.fle_runner.proofs.help.tell.Goals as goal

pub returns : goal.returns
returns g c =
    let says = rw (c.unread.ensures.unread, c.why_text.ensures.why) at c.report.ensures.says in
    let status = rw (c.unread.ensures.unread, c.why_text.ensures.why) at c.report.ensures.status in
    record {
      text = record {
        wrote = c.write_whole-wrote.result;
        output = rw c.as_bytes.ensures.value at c.write_whole-wrote.ensures.wrote;
        answer = status;
        reported = says.0;
        says = says.1;
      };
    }
