-- What putting an info among those of its database answers says what becomes of all that is known.
use Rattle.encrypt_schema.specs.Language.Putting.{put_info}
use Rattle.fle_client.specs.Told.{told_of}
use Rattle.fle_client.proofs.Tellings.{told_put}
use Rattle.fle_client.proofs.client.Client.put_info.Goals as goal

pub returns-in-Told-clause-put : goal.returns-in-Told-clause-put
returns-in-Told-clause-put c =
    let before = c.in-Told.told in
    let now = c.put_told.new.told in
    let db = c.args.db.now in
    let info = c.args.info.now.tree in
    rw c.in-Told.is
    (told_put before now db info c.unput.result
    (c.unput.ensures.unput (told_of before db) (told_of now db) (put_info (told_of before db) info)
    c.put_told.ensures.put)
    c.put_told.ensures.others)
