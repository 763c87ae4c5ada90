-- The parts of code with its scope.
use Rattle.std.proofs.Common.{◌+◌, length, sym, ap, ◌∙◌}
use Rattle.bson_codec.specs.Reading.{string_at}
use Rattle.bson_codec.proofs.Items.{scope_known, scope_cut, ScopeCut}
use Rattle.bson_codec.proofs.item.scope_of.Goals as goal

pub split_at-requires : goal.split_at-requires
split_at-requires c = let k = scope_known c.args.value.now c.requires in k.long

pub unreachable-requires : goal.unreachable-requires
unreachable-requires c =
    let k = scope_known c.args.value.now c.requires in
    c.in_default.not-Ok (length k.code + 5) (c.string_length.ensures.read
    ∙ (ap (string_at 0) c.split_at.ensures.back ∙ k.read))

pub string_text-requires : goal.string_text-requires
string_text-requires c =
    let cut : ScopeCut c.args.value.now c.in-Ok.n =
    scope_cut c.args.value.now c.in-Ok.n c.requires
    (ap (string_at 0) (sym c.split_at.ensures.back) ∙ sym c.in-Ok.ensures.read) in
    rw (c.split_at-2.ensures.front, c.split_at.ensures.back) cut.long

pub returns-clause-scope : goal.returns-clause-scope
returns-clause-scope c =
    let cut : ScopeCut c.args.value.now c.in-Ok.n =
    scope_cut c.args.value.now c.in-Ok.n c.requires
    (ap (string_at 0) (sym c.split_at.ensures.back) ∙ sym c.in-Ok.ensures.read) in
    rw (c.split_at-2.ensures.back, c.split_at.ensures.back) cut.spells

pub returns-clause-parts : goal.returns-clause-parts
returns-clause-parts c =
    let cut : ScopeCut c.args.value.now c.in-Ok.n =
    scope_cut c.args.value.now c.in-Ok.n c.requires
    (ap (string_at 0) (sym c.split_at.ensures.back) ∙ sym c.in-Ok.ensures.read) in
    rw (c.string_text.ensures.text, c.split_at-2.ensures.front, c.split_at-2.ensures.back, c.split_at.ensures.back)
    cut.parts
