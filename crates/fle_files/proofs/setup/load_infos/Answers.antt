-- The file is loaded and read, or it is at fault.
use Rattle.std.proofs.Common.{◌∙◌, List, ℕ, Err, ap, subst}
use Rattle.fle_outside.specs.Files.{file_of}
use Rattle.fle_files.specs.Infos.{ReadsAs, infos_read}
use Rattle.fle_files.specs.Limits.{file_limit}
use Rattle.fle_files.specs.Setup.{infos_or}
use Rattle.fle_files.proofs.Loaded.{infos_fail, leads_load}
use Rattle.fle_files.proofs.setup.load_infos.Goals as goal

pub returns-in-Err-clause-leads : goal.returns-in-Err-clause-leads
returns-in-Err-clause-leads g c = λ all has.
    leads_load c.args.number file_limit (file_of all c.args.name.now) c.in-Err.why
    (λ next bytes. infos_or c.args.number next (infos_read bytes)) (c.in-Err.ensures.load all has)

pub returns-in-Ok-read_infos-clause-leads : goal.returns-in-Ok-read_infos-clause-leads
returns-in-Ok-read_infos-clause-leads g c = λ all has next.
    let read = rw c.deref.ensures.value at c.in-Ok-read_infos.ensures.read in
    c.in-Ok.ensures.load all has (λ bytes. infos_or c.args.number next (infos_read bytes))
    ∙ ap (infos_or c.args.number next) read

pub returns-clause-leads : goal.returns-clause-leads
returns-clause-leads g c = λ all has.
    let read = subst (λ (bytes : List ℕ). ReadsAs (infos_read bytes) (Err c.in-Err-read_infos.fault))
    c.deref.ensures.value c.in-Err-read_infos.ensures.read in
    rw c.why_infos.ensures.why
    (infos_fail c.args.number (file_of all c.args.name.now) c.in-Ok.bytes.items c.in-Err-read_infos.fault
    (c.in-Ok.ensures.load all has) read)
