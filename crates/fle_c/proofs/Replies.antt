-- How many random bytes are told with a client's reply to a command that it seals.
use Rattle.std.proofs.Common.{◌≡◌, ℕ, List, length, Result, Ok, Err, sym, subst}
use Rattle.std.specs.Prelude.{IfOk}
use Rattle.bson_tree.specs.Spelling.{doc_bytes}
use Rattle.bson_tree.specs.Tree.{Items}
use Rattle.context_machine.specs.Rings.{finder}
use Rattle.encrypt_schema.specs.Language.Collection.{Collection}
use Rattle.fle_client.specs.Clients.{SealsBy, ruling_by}
use Rattle.fle_client.specs.CommandSets.{seal_by}
use Rattle.fle_client.specs.Known.{foreign, infos_of}
use Rattle.fle_client.specs.declared.client.NoAnswer.{NoAnswer}
use Rattle.fle_client.specs.declared.client.NoAnswer.TheVariants as unanswered
use Rattle.fle_client.specs.declared.commands.CommandSet.{CommandSet}
use Rattle.fle_client.specs.declared.keys.Keys.{Keys}
use Rattle.fle_client.specs.declared.keys.Keys.TheVariants as held
use Rattle.fle_client.specs.declared.rules.Rules.{Rules}
use Rattle.fle_engine.specs.Rulings.{Ruling}
use Rattle.fle_engine.specs.declared.answer.Answer.{Answer}
use Rattle.fle_engine.specs.declared.opener.Opener.{Opener}
use Rattle.fle_outside.specs.Seen.{EntropySeen}
use Rattle.fle_c.specs.Blocks.{handed_seen}
use Rattle.fle_c.specs.Calls.{ShowsReply, random_by}
use Rattle.fle_c.specs.Telling.{AreCounted, reply_random}
use Rattle.fle_c.specs.declared.told.Told.{Told}
use Rattle.fle_c.proofs.Randoms.{AreFew, counted, few_refusal, made_few, shown}
use Rattle.fle_c.proofs.Wants.{made_by}

-- what a command comes to that is sealed under keys with their master key
abbrev sealed_by : CommandSet → Rules → Opener → List ℕ → Items → Ruling
sealed_by set rules o db c =
    ruling_by rules db (λ (infos : List Collection). seal_by set (finder o.keys o.cache.master) infos db c)

-- it draws few blocks
few_by : (set : CommandSet) (rules : Rules) (o : Opener) (db : List ℕ) (c : Items) (bytes : List ℕ)
    → bytes ≡ doc_bytes c → AreFew (sealed_by set rules o db c)
few_by set rules o db c bytes spelled =
    let keys = finder o.keys o.cache.master in
    let infos = infos_of rules db in
    let v = seal_by set keys infos db c in
    few_refusal (foreign rules db) v (made_few (length bytes) v (made_by set keys infos db c bytes spelled))

pub reply_counted : (set : CommandSet) (rules : Rules) (keys : Keys) (db : List ℕ) (c : Items) (bytes : List ℕ)
    (from left : EntropySeen) (reply : Result Answer NoAnswer) → bytes ≡ doc_bytes c
    → SealsBy set rules keys db c from left reply → IfOk reply AreCounted
reply_counted set rules (held.Mastered o) db c bytes from left (Ok answer) spelled is =
    counted (sealed_by set rules o db c) c from left answer (few_by set rules o db c bytes spelled) is.1
reply_counted set rules (held.Mastered o) db c bytes from left (Err why) spelled is = tt
reply_counted set rules (held.Unmastered vault) db c bytes from left reply spelled is =
    subst (λ (r : Result Answer NoAnswer). IfOk r AreCounted) (sym is.0) tt

pub reply_shown : (set : CommandSet) (rules : Rules) (keys : Keys) (db : List ℕ) (c : Items) (blocks left : List ℕ)
    (faults : ℕ) (reply : Result Answer NoAnswer) (before after : List ℕ) (told : Told)
    → SealsBy set rules keys db c (handed_seen blocks 0) (handed_seen left faults) reply
    → ShowsReply (reply_random reply (length blocks) (length left)) reply before after told
    → ShowsReply (random_by set rules keys db c) reply before after told
reply_shown set rules (held.Mastered o) db c blocks left faults (Ok answer) before after told is shows =
    shown (sealed_by set rules o db c) c blocks left faults answer before after told is.1 shows
reply_shown set rules (held.Mastered o) db c blocks left faults (Err why) before after told is shows = shows
reply_shown set rules (held.Unmastered vault) db c blocks left faults reply before after told is shows =
    let random : Result Answer NoAnswer → ℕ = λ r. reply_random r (length blocks) (length left) in
    subst (λ (r : Result Answer NoAnswer). ShowsReply 0 r before after told) (sym is.0)
    (subst (λ (r : Result Answer NoAnswer). ShowsReply (random r) r before after told) is.0 shows)
