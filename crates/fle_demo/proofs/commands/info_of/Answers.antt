-- The parts are the bytes of the info.
use Rattle.std.proofs.Common.{◌≡◌, ◌∙◌, ◌++◌, ℕ, List, length, ap, sym, rules}
use Rattle.fle_demo.specs.declared.commands.TheConstants.{INFO_BACK, INFO_FRONT, INFO_MIDDLE}
use Rattle.fle_demo.proofs.Bytes.{info_bytes}
use Rattle.fle_demo.proofs.Parts.{five_parts}
use Rattle.fle_demo.proofs.commands.info_of.Goals as goal

pub returns : goal.returns
returns c =
    let id = c.args.id.now in
    let long : length id ≡ 16 = search rules in
    record {
      info = five_parts INFO_FRONT id INFO_MIDDLE id INFO_BACK
          c.append.new.out.items c.append-2.new.out.items c.append-3.new.out.items c.append-4.new.out.items
          c.append-5.new.out.items
          (c.in_ok-append.ensures.appended ∙ ap (λ (t : List ℕ). t ++ INFO_FRONT) c.new-out.ensures.items)
          c.in_ok-append-2.ensures.appended c.in_ok-append-3.ensures.appended c.in_ok-append-4.ensures.appended
          c.in_ok-append-5.ensures.appended
          ∙ sym (info_bytes id long);
    }
