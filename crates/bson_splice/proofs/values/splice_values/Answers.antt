use Rattle.std.proofs.Common.{◌≡◌, ◌∙◌, ℕ, sym, length, drop, subst, ◌≤◌}
use Rattle.bson_tree.specs.Spelling.{doc_bytes}
use Rattle.bson_splice.specs.Values.{puts_of}
use Rattle.bson_splice.specs.Whole.{replaced}
use Rattle.bson_splice.proofs.Given.{all_put, stands, room, whole_is}
use Rattle.bson_splice.proofs.values.splice_values.Goals as goal

pub splice-requires-clause-stands : goal.splice-requires-clause-stands
splice-requires-clause-stands c = stands c.args.values.now c.args.document.now c.requires.stands

pub splice-requires-clause-room : goal.splice-requires-clause-room
splice-requires-clause-room c = λ ps f.
    subst (λ (n : ℕ). length (doc_bytes (replaced ps c.args.document.now)) ≤ n) (sym c.requires.room)
    (room c.args.values.now c.args.document.now c.requires.stands ps f)

pub returns : goal.returns
returns c =
    let s = c.in-Ok.ensures.spliced in
    let all : s.puts ≡ puts_of c.args.values.now = all_put (λ v. drop v.next v.all.now) _ _ s.puts s.runs s.done in
    record {
      written = whole_is c.args.values.now c.args.document.now s.puts _ _ all s.written s.size
          (c.in-Ok.ensures.size ∙ c.requires.room);
    }
