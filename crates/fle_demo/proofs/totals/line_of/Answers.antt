-- The parts are those of the line.
use Rattle.std.proofs.Common.{◌∙◌, ◌++◌, ℕ, List, ap}
use Rattle.std.specs.Prelude.{codes, decimal}
use Rattle.fle_demo.proofs.Lines.{line_parts}
use Rattle.fle_demo.proofs.totals.line_of.Goals as goal

pub returns : goal.returns
returns c = record {
  line = λ s is.
      line_parts c.args.n s c.append.new.out.items c.put_count.new.text.items c.put_count-2.new.text.items
      c.put_count-3.new.text.items c.put_count-4.new.text.items c.put_digest.new.text.items c.append-2.new.out.items
      (c.in_ok-append.ensures.appended ∙ ap (λ (t : List ℕ). t ++ codes "demo: ") c.new-text.ensures.items)
      c.in_ok-put_count.ensures.put
      (c.in_ok-put_count-2.ensures.put
      ∙ ap (λ (n : ℕ). c.put_count.new.text.items ++ (decimal n ++ codes " bytes in, ")) is.given)
      (c.in_ok-put_count-3.ensures.put
      ∙ ap (λ (n : ℕ). c.put_count-2.new.text.items ++ (decimal n ++ codes " bytes out, ")) is.made)
      (c.in_ok-put_count-4.ensures.put
      ∙ ap (λ (n : ℕ). c.put_count-3.new.text.items ++ (decimal n ++ codes " equal, ")) is.equal)
      (c.in_ok-put_digest.ensures.put s.sealed is.digest)
      c.in_ok-append-2.ensures.appended;
}
