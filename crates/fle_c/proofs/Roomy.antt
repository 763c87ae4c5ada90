-- Where an output has at most so many bytes, as much room is enough.
use Rattle.std.proofs.Common.{◌≡◌, ◌∙◌, ◌≤◌, ℕ, Bool, false, cond, nat_lt, List, length, sym, ap, arith}
use Rattle.std.proofs.lemmas.Bool.Decides.{nat_tests}
use Rattle.fle_engine.specs.Answers.{HasAtMost}
use Rattle.fle_engine.specs.declared.answer.Answer.{Answer}
use Rattle.fle_engine.specs.declared.answer.Answer.TheVariants as answers
use Rattle.fle_c.specs.Telling.{Shows, done, room_wanted}
use Rattle.fle_c.specs.declared.told.Told.{Told}

-- a status of the answer that is told
status_is : (told wanted : Told) → told ≡ wanted → told.status ≡ 10 → wanted.status ≡ 10
status_is told wanted is ten = sym (ap (λ (t : Told). t.status) is) ∙ ten

pub roomy : (most : ℕ) (answer : Answer) (random : ℕ) (before after : List ℕ) (told : Told) → HasAtMost most answer
    → most ≤ length before → Shows random answer before after told → told.status ≡ 10 → ⊥
roomy most (answers.Made output) random before after told short enough shows ten =
    let fits : nat_lt (length before) (length output.items) ≡ false = grind (arith, nat_tests) in
    let is : told ≡ done (length output.items) random =
    shows.numbers ∙ ap (λ (b : Bool). cond b (room_wanted (length output.items) random)
    (done (length output.items) random)) fits in
    omega (arith, status_is told _ is ten)
roomy most (answers.Refused r) random before after told short enough shows ten =
    omega (arith, status_is told _ shows.numbers ten)
roomy most answers.TooLong random before after told short enough shows ten =
    omega (arith, status_is told _ shows.numbers ten)
roomy most (answers.Undrawn wanted) random before after told short enough shows ten =
    omega (arith, status_is told _ shows.numbers ten)
roomy most answers.Memory random before after told short enough shows ten =
    omega (arith, status_is told _ shows.numbers ten)
