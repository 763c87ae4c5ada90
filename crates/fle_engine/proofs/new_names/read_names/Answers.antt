-- The names that are said are such as a new key can have, or not.
use Rattle.std.proofs.Common.{◌≡◌, false, map, rules, true}
use Rattle.std.specs.Prelude.{string_bytes}
use Rattle.fle_words.specs.Words.{are_names}
use Rattle.fle_engine.proofs.NewTexts.{names_accepted, names_refused, names_stopped}
use Rattle.fle_engine.proofs.new_names.read_names.Goals as goal

pub returns-then-are_names-clause-read : goal.returns-then-are_names-clause-read
returns-then-are_names-clause-read c =
    let are : are_names (map string_bytes c.in-Ok.texts.items) ≡ true = search rules in
    names_accepted c.args.document.now.tree (map string_bytes c.in-Ok.texts.items) c.in-Ok.ensures.read are

pub returns-else-are_names-clause-read : goal.returns-else-are_names-clause-read
returns-else-are_names-clause-read c =
    let arent : are_names (map string_bytes c.in-Ok.texts.items) ≡ false = search rules in
    names_refused c.args.document.now.tree (map string_bytes c.in-Ok.texts.items) c.in-Ok.ensures.read arent

pub returns-in-Err-clause-read : goal.returns-in-Err-clause-read
returns-in-Err-clause-read c = names_stopped c.args.document.now.tree c.in-Err.stop c.in-Err.ensures.read
