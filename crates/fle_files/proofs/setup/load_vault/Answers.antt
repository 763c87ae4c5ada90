-- The file is loaded and read, or it is at fault.
use Rattle.std.proofs.Common.{◌∙◌, ap}
use Rattle.fle_outside.specs.Files.{file_of}
use Rattle.key_vault.specs.Loading.{vault}
use Rattle.fle_files.specs.Limits.{file_limit}
use Rattle.fle_files.specs.Setup.{vault_or}
use Rattle.fle_files.proofs.Loaded.{leads_load, vault_fail}
use Rattle.fle_files.proofs.setup.load_vault.Goals as goal

pub returns-in-Err-clause-leads : goal.returns-in-Err-clause-leads
returns-in-Err-clause-leads g c = λ all has.
    leads_load c.args.number file_limit (file_of all c.args.name.now) c.in-Err.why
    (λ next bytes. vault_or c.args.number next (vault bytes)) (c.in-Err.ensures.load all has)

pub returns-in-Ok-load-clause-leads : goal.returns-in-Ok-load-clause-leads
returns-in-Ok-load-clause-leads g c = λ all has next.
    let read = rw c.deref.ensures.value at c.in-Ok-load.ensures.loaded in
    c.in-Ok.ensures.load all has (λ bytes. vault_or c.args.number next (vault bytes))
    ∙ ap (vault_or c.args.number next) read

pub returns-clause-leads : goal.returns-clause-leads
returns-clause-leads g c = λ all has.
    let read = rw c.deref.ensures.value at c.in-Err-load.ensures.loaded in
    rw c.why_vault.ensures.why
    (vault_fail c.args.number (file_of all c.args.name.now) c.in-Ok.bytes.items c.in-Err-load.fault
    (c.in-Ok.ensures.load all has) read)
