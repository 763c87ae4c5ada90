-- The bytes are no more than a file may have, so they are read.
use Rattle.std.proofs.Common.{Err, arith}
use Rattle.fle_files.specs.Infos.{infos_read}
use Rattle.fle_engine.proofs.Loads.{infos_within}
use Rattle.fle_engine.proofs.loading.load_infos.Goals as goal

pub returns-in-Err : goal.returns-in-Err
returns-in-Err c =
    let bytes = c.args.bytes.now in
    record {
      reads = infos_within bytes (Err c.fault_of_infos.result) (omega (arith, c.if-bytes-gt-FILE_LIMIT.false))
          (c.fault_of_infos.ensures.reads (infos_read bytes) c.in-Err.ensures.read);
    }
