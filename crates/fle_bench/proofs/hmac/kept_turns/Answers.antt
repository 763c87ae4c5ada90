use Rattle.std.proofs.Common.{◌∙◌, ◌++◌, List, ℕ, ap, drop, rules}
use Rattle.hmac_sha512.specs.Hmac.{hmac}
use Rattle.fle_bench.specs.Turns.{last}
use Rattle.fle_bench.proofs.Turns.{first-fed, repeated-next}
use Rattle.fle_bench.proofs.hmac.kept_turns.Goals as goal

pub loop-turn-init : goal.loop-turn-init
loop-turn-init c = record { fed = first-fed _ c.args.first 16 (search rules); mac = search rules }

pub loop-turn-preserved : goal.loop-turn-preserved
loop-turn-preserved c =
    let mac = repeated-next (λ (b : List ℕ). hmac c.args.key.now (last 16 b ++ drop 16 c.args.text.now)) c.args.first _
    c.loop-turn._turn
    (rw c.loop-turn.invariant.fed at c.mac_once-mac.ensures _ c.new-keyed.ensures.keyed) in
    record { fed = c.last_block-block.ensures.last ∙ ap (last 16) mac; mac = λ _. mac }
