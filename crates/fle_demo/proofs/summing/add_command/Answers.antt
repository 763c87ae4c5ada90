-- No state refuses the command, and it is counted as the definition counts it.
use Rattle.std.proofs.Common.{◌≡◌, ◌∙◌, ◌+◌, ◌-◌, ◌∷◌, [], ℕ, List, Some, ap, subst, sym}
use Rattle.bson_codec.specs.Borrowed.{At}
use Rattle.bson_tree.specs.Spelling.{doc_bytes}
use Rattle.context_machine.specs.Ready.{values_of}
use Rattle.context_machine.specs.Rings.{by_ids, found_in, ring}
use Rattle.doc_rewrite.specs.Sealed.{sealed}
use Rattle.doc_rewrite.specs.Sites.{draws_of}
use Rattle.fle_demo.specs.Sums.{alone, equals}
use Rattle.fle_demo.specs.Commands.{command, rules}
use Rattle.fle_demo.specs.States.{IsAccepted, IsKeyed, bit}
use Rattle.fle_demo.specs.Generator.{after_two, block_behind, blocks_behind}
use Rattle.fle_demo.proofs.Blocks.{one_fewer, some_block}
use Rattle.fle_demo.proofs.Sums.{IsCounted, reaches_next, rows_are, sealed_is}
use Rattle.fle_demo.proofs.summing.add_command.Goals as goal

pub seal_command-requires-clause-accepted : goal.seal_command-requires-clause-accepted
seal_command-requires-clause-accepted g c =
    let db = c.args.db.now in
    let info = c.args.info.now in
    let laid = c.commands_are_accepted.ensures.spelled db (c.args.i + 1) c.args.x c.requires.short in
    let here : c.read.result ≡ alone (command db (c.args.i + 1) c.args.x) =
    c.read.ensures.document (command db (c.args.i + 1) c.args.x) laid
    (c.deref.ensures.value ∙ c.in_ok-command.ensures.command) in
    subst (λ (d : At). IsAccepted db info d) (sym here)
    (c.commands_are_accepted.ensures.accepted c.args.key.now.id db (c.args.i + 1) c.args.x info c.requires.known.long
    c.requires.known.states)

pub seal_command-requires-clause-keyed : goal.seal_command-requires-clause-keyed
seal_command-requires-clause-keyed g c =
    let db = c.args.db.now in
    let info = c.args.info.now in
    let laid = c.commands_are_accepted.ensures.spelled db (c.args.i + 1) c.args.x c.requires.short in
    let here : c.read.result ≡ alone (command db (c.args.i + 1) c.args.x) =
    c.read.ensures.document (command db (c.args.i + 1) c.args.x) laid
    (c.deref.ensures.value ∙ c.in_ok-command.ensures.command) in
    subst (λ (d : At). IsKeyed (ring (c.args.key.now ∷ []) c.args.cache.now.master) info d) (sym here)
    (c.commands_are_keyed.ensures.keyed c.args.key.now c.args.cache.now.master c.requires.known.plain db (c.args.i + 1)
    c.args.x info c.requires.known.long c.requires.short c.requires.known.states c.requires.known.opens)

pub seal_command-requires-clause-one : goal.seal_command-requires-clause-one
seal_command-requires-clause-one g c =
    let db = c.args.db.now in
    let info = c.args.info.now in
    let laid = c.commands_are_accepted.ensures.spelled db (c.args.i + 1) c.args.x c.requires.short in
    let here : c.read.result ≡ alone (command db (c.args.i + 1) c.args.x) =
    c.read.ensures.document (command db (c.args.i + 1) c.args.x) laid
    (c.deref.ensures.value ∙ c.in_ok-command.ensures.command) in
    ap (λ (d : At). draws_of (values_of (Some info) d)) here
    ∙ c.commands_are_keyed.ensures.one_block c.args.key.now.id db (c.args.i + 1) c.args.x info c.requires.known.long
    c.requires.known.states

pub returns-clause-left : goal.returns-clause-left
returns-clause-left g c =
    let left = c.args.blocks.now.left in
    let x = c.args.blocks.now.x in
    one_fewer left x c.seal_command.new.blocks.left c.seal_command.new.blocks.x c.requires.some
    (c.in_ok-sealed.ensures.left (block_behind x) (blocks_behind (left - 1) (after_two x))
    (some_block left x c.requires.some))

pub returns-clause-within : goal.returns-clause-within
returns-clause-within g c = c.add.ensures.within c.args.i c.requires.within

pub returns-clause-reached : goal.returns-clause-reached
returns-clause-reached g c = λ all reaches.
    let db = c.args.db.now in
    let info = c.args.info.now in
    let key = c.args.key.now in
    let known = c.requires.known in
    let keys = ring (key ∷ []) c.args.cache.now.master in
    let rows = rules key.id in
    let left = c.args.blocks.now.left in
    let x = c.args.blocks.now.x in
    let block = block_behind x in
    let rest = blocks_behind (left - 1) (after_two x) in
    let first : blocks_behind left x ≡ block ∷ rest = some_block left x c.requires.some in
    let laid = c.commands_are_accepted.ensures.spelled db (c.args.i + 1) c.args.x c.requires.short in
    let here : c.read.result ≡ alone (command db (c.args.i + 1) c.args.x) =
    c.read.ensures.document (command db (c.args.i + 1) c.args.x) laid
    (c.deref.ensures.value ∙ c.in_ok-command.ensures.command) in
    let accepted = c.commands_are_accepted.ensures.accepted key.id db (c.args.i + 1) c.args.x info known.long
    known.states in
    let made : c.in_ok-sealed.sealed.items ≡ doc_bytes (sealed (found_in (by_ids keys))
    (values_of (Some info) (alone (command db (c.args.i + 1) c.args.x))) (block ∷ [])
    (alone (command db (c.args.i + 1) c.args.x))) =
    c.in_ok-sealed.ensures.sealed block rest first
    ∙ ap (λ (d : At). doc_bytes (sealed (found_in (by_ids keys)) (values_of (Some info) d) (block ∷ []) d)) here in
    let counted : IsCounted keys rows block (command db (c.args.i + 1) c.args.x) c.args.totals.now c.add.new.self =
    record {
      bytes = c.deref-4.result.now;
      out = c.deref-5.result.now;
      same = bit c.in_ok-same.same;
      spelled = c.deref-4.ensures.value ∙ c.in_ok-command.ensures.command;
      sealed = c.deref-5.ensures.value
          ∙ sealed_is keys info rows block (command db (c.args.i + 1) c.args.x) c.in_ok-sealed.sealed.items
          (rows_are info rows accepted.viewless (c.info_is_read.ensures.rows key.id info known.long known.states)) made;
      equal = c.in_ok-same.ensures.equal
          ∙ (ap (λ (m : List ℕ). equals (ring (key ∷ []) m) c.deref-3.result.now c.deref-2.result.now)
          c.in_ok-sealed.ensures.master
          ∙ (ap (λ (b : List ℕ). equals keys b c.deref-2.result.now) (c.deref-3.ensures.value
          ∙ sym c.deref-4.ensures.value)
          ∙ ap (λ (b : List ℕ). equals keys c.deref-4.result.now b) (c.deref-2.ensures.value
          ∙ sym c.deref-5.ensures.value)));
      added = c.add.ensures.total;
    } in
    reaches_next keys rows db c.args.totals.now c.add.new.self (c.args.i + 1) c.args.x block (blocks_behind left x) rest
    (blocks_behind c.seal_command.new.blocks.left c.seal_command.new.blocks.x) all first
    (c.in_ok-sealed.ensures.left block rest first) counted reaches
