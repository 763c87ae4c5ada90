-- What becomes of the info is told.
use Rattle.bson_codec.specs.declared.fault.BsonFault.{BsonFault}
use Rattle.encrypt_schema.specs.declared.schema.faults.InfoKind.TheVariants as infos
use Rattle.fle_files.specs.Numbers.{infos_number}
use Rattle.fle_c.specs.Calls.{document_limit}
use Rattle.fle_c.specs.Filling.{PutsInfoInto, document_told}
use Rattle.fle_c.proofs.Judged.{sized}
use Rattle.fle_c.proofs.filling.put_info.Goals as goal

pub returns-in-Ok : goal.returns-in-Ok
returns-in-Ok c =
    let before = c.args.client.now in
    let after = c.put_info-put.new.self in
    let told = c.tell_info.result in
    record {
      put = sized document_limit (λ (_ : BsonFault). document_told 2 (infos_number infos.Bson))
          (PutsInfoInto c.args.db.now before after told) c.args.info.now before after told c.in-Ok.info.tree
          c.if-info-gt-DOCUMENT_LIMIT.false c.in-Ok.ensures.exact
          (record {
            put = c.put_info-put.result;
            rules = c.put_info-put.ensures.put;
            commands = c.put_info-put.ensures.commands;
            keys = c.put_info-put.ensures.keys;
            numbers = c.tell_info.ensures.told;
          });
    }
