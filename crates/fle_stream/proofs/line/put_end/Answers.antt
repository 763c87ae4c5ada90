-- The line that was held is written.
use Rattle.std.proofs.Common.{◌≡◌, ℕ, List, [], ◌++◌, Option, Some, None, refl, ◌∙◌, ap, subst}
use Rattle.fle_outside.specs.Writing.{WritesWhole}
use Rattle.fle_stream.specs.Held.{Held}
use Rattle.fle_stream.specs.Line.{line_of}
use Rattle.fle_stream.proofs.line.put_end.Goals as goal

-- the bytes that are there, or none
abbrev told_or_none : Option (List ℕ) → List ℕ
told_or_none None = []
told_or_none (Some bytes) = bytes

pub returns-in-Ok : goal.returns-in-Ok
returns-in-Ok g c =
    let line = line_of c.args.why.now c.args.number in
    let empty : c.new-line.result.bytes ≡ [] = ap (λ (s : Held). s.bytes) c.new-line.ensures.begins in
    let held : c.put_parts_of_end.new.diag.bytes ≡ c.new-line.result.bytes ++ line =
    ap told_or_none (c.in-Ok.ensures.wrote.puts c.new-line.result.bytes refl) in
    let is : c.bytes.result.now ≡ line =
    c.bytes.ensures.bytes ∙ (held ∙ ap (λ (x : List ℕ). x ++ line) empty) in
    record {
      wrote = subst (λ (x : List ℕ). WritesWhole (g.G.Sink.seen c.args.diag.now) (g.G.Sink.seen c.write_whole.new.out)
          c.write_whole.result x) is c.write_whole.ensures.wrote;
    }
