-- The file is loaded and read, or it is at fault.
use Rattle.std.proofs.Common.{◌∙◌, ap, sym}
use Rattle.fle_outside.specs.Files.{file_of}
use Rattle.local_kms.specs.Master.{master_in}
use Rattle.fle_files.specs.Limits.{master_limit}
use Rattle.fle_files.specs.Setup.{master_or}
use Rattle.fle_files.proofs.Loaded.{leads_load, master_fail}
use Rattle.fle_files.proofs.setup.load_master.Goals as goal

pub returns-in-Err-clause-leads : goal.returns-in-Err-clause-leads
returns-in-Err-clause-leads g c = λ all has.
    leads_load c.args.number master_limit (file_of all c.args.name.now) c.in-Err.why
    (λ next bytes. master_or c.args.number next (master_in bytes)) (c.in-Err.ensures.load all has)

pub returns-in-Ok-read_master-clause-leads : goal.returns-in-Ok-read_master-clause-leads
returns-in-Ok-read_master-clause-leads g c = λ all has next.
    let read = rw c.deref.ensures.value at c.in-Ok-read_master.ensures.read in
    c.in-Ok.ensures.load all has (λ bytes. master_or c.args.number next (master_in bytes))
    ∙ ap (master_or c.args.number next) (sym read)

pub returns-clause-leads : goal.returns-clause-leads
returns-clause-leads g c = λ all has.
    let read = rw c.deref.ensures.value at c.in-Err-read_master.ensures.read in
    rw c.why_master.ensures.why
    (master_fail c.args.number (file_of all c.args.name.now) c.in-Ok.bytes.items c.in-Err-read_master.fault
    (c.in-Ok.ensures.load all has) (sym read))

pub returns-in-Ok-read_master-clause-asked : goal.returns-in-Ok-read_master-clause-asked
returns-in-Ok-read_master-clause-asked g c = c.in-Ok.ensures.asked
