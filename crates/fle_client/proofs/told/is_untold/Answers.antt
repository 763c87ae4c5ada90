-- A command is untold where its info is asked for and isn't found.
use Rattle.std.proofs.Common.{◌≡◌, not, refl, rules}
use Rattle.std.specs.Prelude.{is_some}
use Rattle.encrypt_schema.specs.Language.Collection.{collection_of}
use Rattle.fle_client.proofs.Tellings.{asked_untold}
use Rattle.fle_client.proofs.told.is_untold.Goals as goal

pub returns-in-Ok-Ask : goal.returns-in-Ok-Ask
returns-in-Ok-Ask c =
    let begun = rw c.in-Ok-Ask.field-0-is at c.in-Ok-Ask.ensures.begun in
    let infos = c.args.infos.now in
    let name = c.collection.result.now in
    let lacks : is_some (collection_of infos name) ≡ not c.is_none.result = search rules in
    record {
      untold = asked_untold c.args.commands infos c.args.db.now c.args.command.now c.in-Ok-Ask.state name
          (collection_of infos name) c.is_none.result c.requires.whole begun c.collection.ensures.collection refl lacks;
    }
