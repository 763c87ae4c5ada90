-- The need is behind those before.
use Rattle.std.proofs.Common.{◌≡◌, ◌∙◌, ◌++◌, ◌∷◌, [], ap, map, rules}
use Rattle.std.proofs.lemmas.List.{map-append}
use Rattle.context_machine.specs.Needs.{need_at_seen}
use Rattle.context_machine.proofs.Unmet.{put_false, put_true}
use Rattle.context_machine.proofs.vault_keys.put_unless.Goals as goal

pub returns-then-met : goal.returns-then-met
returns-then-met c = record { put = put_true c.args.met (map need_at_seen c.args.needs.now.items) _ c.if-met.true }

pub returns : goal.returns
returns c =
    let put : c.push.new.self.items ≡ c.args.needs.now.items ++ c.args.n ∷ [] = search rules in
    record {
      put = put_false c.args.met (map need_at_seen c.args.needs.now.items) (map need_at_seen c.push.new.self.items) _
          (ap (map need_at_seen) put ∙ map-append need_at_seen c.args.needs.now.items (c.args.n ∷ [])) c.if-met.false;
    }
