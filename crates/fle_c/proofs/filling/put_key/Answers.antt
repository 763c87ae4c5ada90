-- What becomes of the key is told.
use Rattle.bson_codec.specs.declared.fault.BsonFault.{BsonFault}
use Rattle.fle_files.specs.Numbers.{vault_number}
use Rattle.key_vault.specs.declared.faults.VaultKind.TheVariants as vaults
use Rattle.fle_c.specs.Calls.{document_limit}
use Rattle.fle_c.specs.Filling.{PutsKeyInto, document_told}
use Rattle.fle_c.proofs.Judged.{sized}
use Rattle.fle_c.proofs.filling.put_key.Goals as goal

pub returns-in-Ok : goal.returns-in-Ok
returns-in-Ok c =
    let before = c.args.client.now in
    let after = c.put_key-put.new.self in
    let told = c.tell_put.result in
    record {
      put = sized document_limit (λ (_ : BsonFault). document_told 1 (vault_number vaults.Bson))
          (PutsKeyInto before after told) c.args.key.now before after told c.in-Ok.key.tree
          c.if-key-gt-DOCUMENT_LIMIT.false c.in-Ok.ensures.exact
          (record {
            put = c.put_key-put.result;
            keys = c.put_key-put.ensures.put;
            master = c.put_key-put.ensures.master;
            rules = c.put_key-put.ensures.rules;
            commands = c.put_key-put.ensures.commands;
            numbers = c.tell_put.ensures.told;
          });
    }
