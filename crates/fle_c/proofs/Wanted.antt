-- The random bytes that are told with the filter of a command's keys.
use Rattle.std.proofs.Common.{◌≡◌, ◌*◌, ◌≤◌, ◌<◌, ◌^◌, ℕ, List, length, Result, Ok, Err, ap, arith}
use Rattle.bson_tree.specs.Spelling.{doc_bytes}
use Rattle.bson_tree.specs.Tree.{Items}
use Rattle.fle_client.specs.Clients.{AsksKeysAs}
use Rattle.fle_client.specs.CommandSets.{draws_by}
use Rattle.fle_client.specs.Known.{infos_of}
use Rattle.fle_client.specs.declared.client.Client.{Client}
use Rattle.fle_client.specs.declared.client.NoAnswer.{NoAnswer}
use Rattle.fle_engine.specs.Asked.{TellsDraws}
use Rattle.fle_engine.specs.declared.answer.Answer.{Answer}
use Rattle.fle_engine.specs.declared.answer.Answer.TheVariants as answers
use Rattle.fle_engine.specs.declared.asking.Asked.{Asked}
use Rattle.fle_outside.specs.Seen.{EntropySeen}
use Rattle.fle_c.specs.Calls.{AreAskedFew}
use Rattle.fle_c.proofs.Wants.{few_by_set}

-- they aren't many
few_asked : (n : ℕ) (c : Items) (bytes : List ℕ) (answer : Answer) (drawn : ℕ) → 2 * n ≤ length (doc_bytes c)
    → length bytes ≤ 16777216 → bytes ≡ doc_bytes c → TellsDraws n answer drawn → 16 * drawn < 2 ^ 64
few_asked n c bytes (answers.Made output) drawn few low spelled tells =
    omega (arith, tells, few, low, ap length spelled)
few_asked n c bytes (answers.Refused r) drawn few low spelled tells = omega (arith, tells)
few_asked n c bytes answers.TooLong drawn few low spelled tells = omega (arith, tells)
few_asked n c bytes (answers.Undrawn wanted) drawn few low spelled tells = absurd tells
few_asked n c bytes answers.Memory drawn few low spelled tells = omega (arith, tells)

pub asked_few : (client : Client) (db : List ℕ) (c : Items) (bytes : List ℕ) (seen : EntropySeen)
    (asked : Result Asked NoAnswer) → length bytes ≤ 16777216 → bytes ≡ doc_bytes c
    → AsksKeysAs client db c seen asked → AreAskedFew asked
asked_few client db c bytes seen (Ok asked) low spelled is =
    few_asked (draws_by client.commands (infos_of client.rules db) c) c bytes asked.answer asked.draws
    (few_by_set client.commands (infos_of client.rules db) c) low spelled is.2
asked_few client db c bytes seen (Err why) low spelled is = tt
