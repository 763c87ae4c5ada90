-- The name is looked at, and then one file after another.
use Rattle.std.proofs.Common.{◌∙◌}
use Rattle.std.proofs.lemmas.Result.{err_from_is_err_and}
use Rattle.fle_engine.proofs.Loads.{all_there, no_infos, no_keys, no_master, same_parts, unnamed}
use Rattle.fle_engine.proofs.engine.Engine.new.Goals as goal

pub returns-in_err-check_database : goal.returns-in_err-check_database
returns-in_err-check_database c =
    let p = err_from_is_err_and c.from_residual.result c.from_residual.ensures.1 in
    let told = c.in_err-check_database.ensures.unnamed in
    record {
      made = rw (p.1, p.2, told.1)
          (unnamed c.args.db.now c.args.keys.now c.args.infos.now c.args.master.now told.0);
    }

pub returns-in_err-keys : goal.returns-in_err-keys
returns-in_err-keys c =
    let p = err_from_is_err_and c.from_residual-in_err-keys.result c.from_residual-in_err-keys.ensures.1 in
    record {
      made = rw (p.1, p.2)
          (no_keys c.args.db.now c.args.keys.now c.args.infos.now c.args.master.now c.in_err-keys.field-0.0
          c.in_ok-check_database.ensures.named c.in_err-keys.ensures.reads);
    }

pub returns-in_err-infos : goal.returns-in_err-infos
returns-in_err-infos c =
    let p = err_from_is_err_and c.from_residual-in_err-infos.result c.from_residual-in_err-infos.ensures.1 in
    record {
      made = rw (p.1, p.2)
          (no_infos c.args.db.now c.args.keys.now c.args.infos.now c.args.master.now c.in_ok-keys.keys
          c.in_err-infos.field-0.0 c.in_ok-check_database.ensures.named c.in_ok-keys.ensures.reads
          c.in_err-infos.ensures.reads);
    }

pub returns-in_err-master : goal.returns-in_err-master
returns-in_err-master c =
    let p = err_from_is_err_and c.from_residual-in_err-master.result c.from_residual-in_err-master.ensures.1 in
    record {
      made = rw (p.1, p.2)
          (no_master c.args.db.now c.args.keys.now c.args.infos.now c.args.master.now c.in_ok-keys.keys
          c.in_ok-infos.infos c.in_err-master.field-0.0 c.in_ok-check_database.ensures.named
          c.in_ok-keys.ensures.reads c.in_ok-infos.ensures.reads c.in_err-master.ensures.reads);
    }

pub returns : goal.returns
returns c =
    let engine = c.in_ok-engine.engine in
    record {
      made = (
        c.in_ok-engine.ensures.rules.0,
        all_there c.args.db.now c.args.keys.now c.args.infos.now c.args.master.now c.in_ok-keys.keys
            c.in_ok-infos.infos c.in_ok-master.master c.in_ok-check_database.ensures.named c.in_ok-keys.ensures.reads
            c.in_ok-infos.ensures.reads c.in_ok-master.ensures.reads
            ∙ same_parts c.in_ok-keys.keys engine.opener.keys c.in_ok-infos.infos engine.marker.infos
            c.in_ok-master.master engine.opener.cache.master c.in_ok-engine.ensures.secrets.0
            c.in_ok-engine.ensures.rules.1 c.in_ok-engine.ensures.secrets.1,
      );
    }
