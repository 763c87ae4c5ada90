use Rattle.std.proofs.Common.{◌≡◌, ◌∙◌, ℕ, List, codes, true, false, sym, ap}
use Rattle.encrypt_schema.specs.Language.Names.{named}
use Rattle.command_marker.specs.Commands.{first_name}
use Rattle.command_marker.proofs.CommandVisits.{count_is, distinct_is, indexing_is, modify_is}
use Rattle.command_marker.proofs.contents.library_name.Goals as goal

pub returns-then-is_count : goal.returns-then-is_count
returns-then-is_count c =
    let command = c.args.command.now.tree in
    let count : named (first_name command) (codes "count") ≡ true =
    ap (λ (n : List ℕ). named n (codes "count")) (sym c.first_name-name.ensures.name) ∙ sym c.is_count.ensures
    ∙ c.if-is_count.true in
    record { name = count_is command c.requires.library count }

pub returns-then-is_find_and_modify : goal.returns-then-is_find_and_modify
returns-then-is_find_and_modify c =
    let command = c.args.command.now.tree in
    let modify : named (first_name command) (codes "findAndModify") ≡ true =
    ap (λ (n : List ℕ). named n (codes "findAndModify")) (sym c.first_name-name.ensures.name)
    ∙ sym c.is_find_and_modify.ensures ∙ c.if-is_find_and_modify.true in
    record { name = modify_is command c.requires.library modify }

pub returns-then-is_distinct : goal.returns-then-is_distinct
returns-then-is_distinct c =
    let command = c.args.command.now.tree in
    let distinct : named (first_name command) (codes "distinct") ≡ true =
    ap (λ (n : List ℕ). named n (codes "distinct")) (sym c.first_name-name.ensures.name) ∙ sym c.is_distinct.ensures
    ∙ c.if-is_distinct.true in
    record { name = distinct_is command c.requires.library distinct }

pub returns : goal.returns
returns c =
    let command = c.args.command.now.tree in
    let count : named (first_name command) (codes "count") ≡ false =
    ap (λ (n : List ℕ). named n (codes "count")) (sym c.first_name-name.ensures.name) ∙ sym c.is_count.ensures
    ∙ c.if-is_count.false in
    let modify : named (first_name command) (codes "findAndModify") ≡ false =
    ap (λ (n : List ℕ). named n (codes "findAndModify")) (sym c.first_name-name.ensures.name)
    ∙ sym c.is_find_and_modify.ensures ∙ c.if-is_find_and_modify.false in
    let distinct : named (first_name command) (codes "distinct") ≡ false =
    ap (λ (n : List ℕ). named n (codes "distinct")) (sym c.first_name-name.ensures.name) ∙ sym c.is_distinct.ensures
    ∙ c.if-is_distinct.false in
    record { name = indexing_is command c.requires.library count modify distinct }
