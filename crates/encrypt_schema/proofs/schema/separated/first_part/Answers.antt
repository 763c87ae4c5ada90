-- A separator ends the first part, and so does the end of the bytes.
use Rattle.std.proofs.Common.{◌<◌, ◌≤◌, ℕ, List, ◌∷◌, length, take, drop, get_or, sym, ap₂, ◌∙◌, take_all, rules}
use Rattle.std.proofs.lemmas.Bool.{eq-eqb, ne_eqb}
use Rattle.std.proofs.lemmas.List.{drop_all}
use Rattle.encrypt_schema.specs.Language.Separated.{separated}
use Rattle.encrypt_schema.proofs.Language.Separated.{goes_on, ends_there, ends_last}
use Rattle.encrypt_schema.proofs.schema.separated.first_part.Goals as goal

pub returns-then-bytes-i-clause-parts : goal.returns-then-bytes-i-clause-parts
returns-then-bytes-i-clause-parts c =
    let below : c.loop-i.i < length c.args.bytes.now = search rules in
    ends_there c.args.separator c.args.bytes.now c.loop-i.i below (eq-eqb
    (get_or c.args.bytes.now c.loop-i.i 0) c.args.separator c.if-bytes-i.true) c.loop-i.invariant
    ∙ ap₂ (λ (part rest : List ℕ). part ∷ separated c.args.separator rest) (sym c.split_at.ensures.front)
    (sym c.split_at-then-bytes-i.ensures.back)

pub loop-i-preserved : goal.loop-i-preserved
loop-i-preserved c =
    let below : c.loop-i.i < length c.args.bytes.now = search rules in
    goes_on c.args.separator c.args.bytes.now c.loop-i.i below (ne_eqb (get_or c.args.bytes.now c.loop-i.i 0)
    c.args.separator c.if-bytes-i.false) c.loop-i.invariant

pub returns-clause-parts : goal.returns-clause-parts
returns-clause-parts c =
    let past : length c.args.bytes.now ≤ c.loop-i.i = search rules in
    ends_last c.args.separator c.args.bytes.now (take c.loop-i.i c.args.bytes.now) (drop c.loop-i.i c.args.bytes.now)
    (take_all c.loop-i.i c.args.bytes.now past) (drop_all c.loop-i.i c.args.bytes.now past) c.loop-i.invariant
