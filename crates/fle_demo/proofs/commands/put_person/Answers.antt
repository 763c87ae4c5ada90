-- The parts, with what the two outputs make.
use Rattle.std.proofs.Common.{◌∙◌, ◌++◌, ℕ, List, ap}
use Rattle.std.specs.Int.{to_le_bytes, w32}
use Rattle.fle_demo.specs.Commands.{salary_of, ssn_of, ssn_text}
use Rattle.fle_demo.specs.declared.commands.TheConstants.{FRONT, NUMBER, SALARY}
use Rattle.fle_demo.proofs.Parts.{six_parts}
use Rattle.fle_demo.proofs.commands.put_person.Goals as goal

pub returns : goal.returns
returns c =
    let ssn = c.ssn_text.ensures.text ∙ ap (λ (n : ℕ). ssn_text n) c.ssn_of.ensures.number in
    let salary = c.to_le_bytes.ensures ∙ ap (λ (n : ℕ). to_le_bytes w32 n) c.salary_of.ensures.number in
    record {
      put = six_parts c.args.out.now.items FRONT (ssn_text (ssn_of c.args.first)) SALARY
          (to_le_bytes w32 (salary_of c.args.second)) NUMBER (to_le_bytes w32 c.args.i)
          c.append.new.out.items c.append-2.new.out.items c.append-3.new.out.items c.append-4.new.out.items
          c.append-5.new.out.items c.append-6.new.out.items
          c.in_ok-append.ensures.appended
          (c.in_ok-append-2.ensures.appended ∙ ap (λ (t : List ℕ). c.append.new.out.items ++ t) ssn)
          c.in_ok-append-3.ensures.appended
          (c.in_ok-append-4.ensures.appended ∙ ap (λ (t : List ℕ). c.append-3.new.out.items ++ t) salary)
          c.in_ok-append-5.ensures.appended
          (c.in_ok-append-6.ensures.appended ∙ ap (λ (t : List ℕ). c.append-5.new.out.items ++ t)
          c.to_le_bytes-2.ensures);
    }
