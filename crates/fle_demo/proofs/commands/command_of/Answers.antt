-- The length, the person and the database's name are the bytes of the command.
use Rattle.std.proofs.Common.{◌≡◌, ◌∙◌, ◌+◌, ◌∷◌, ◌++◌, [], ℕ, List, length, ap, ap₂, sym}
use Rattle.std.specs.Int.{to_le_bytes, w32}
use Rattle.fle_demo.specs.Generator.{after_two, next_output}
use Rattle.fle_demo.specs.declared.commands.TheConstants.{DB}
use Rattle.fle_demo.proofs.Bytes.{command_bytes, person_bytes}
use Rattle.fle_demo.proofs.commands.command_of.Goals as goal

pub returns : goal.returns
returns c =
    let db = c.args.db.now in
    let one = c.next_output-first.ensures.next in
    let two : c.next_output-second.result ≡ after_two c.args.x =
    c.next_output-second.ensures.next ∙ ap next_output one in
    let size : c.append.new.out.items ≡ to_le_bytes w32 (length db + 96) =
    c.in_ok-append.ensures.appended ∙ ap₂ (λ (a b : List ℕ). a ++ b) c.new-out.ensures.items c.to_le_bytes.ensures in
    let person : c.put_person.new.out.items ≡ to_le_bytes w32 (length db + 96)
    ++ person_bytes (next_output c.args.x) (after_two c.args.x) c.args.i =
    c.in_ok-put_person.ensures.put ∙ ap₂ (λ (a b : List ℕ). a ++ b) size
    (ap₂ (λ (p q : ℕ). person_bytes p q c.args.i) one two) in
    record {
      command = c.in_ok-put_db.ensures.put
          ∙ ap (λ (t : List ℕ). t
          ++ (DB ++ (to_le_bytes w32 (length db + 1) ++ (db ++ (0 ∷ 0 ∷ []))))) person
          ∙ sym (command_bytes db c.args.i c.args.x);
    }
