-- The file is read by what it is.
use Rattle.std.proofs.Common.{sym, ◌∙◌}
use Rattle.fle_files.proofs.InfosRead.{read_as_json, read_as_bson}
use Rattle.fle_files.proofs.infos.read_infos.Goals as goal

pub returns-then-is_json : goal.returns-then-is_json
returns-then-is_json c = record {
  read = read_as_json c.args.bytes.now c.read_json.result
      (sym c.is_json.ensures.json ∙ c.if-is_json.true) c.read_json.ensures.read;
}

pub returns-else-is_json : goal.returns-else-is_json
returns-else-is_json c = record {
  read = read_as_bson c.args.bytes.now c.read_bson.result
      (sym c.is_json.ensures.json ∙ c.if-is_json.false) c.read_bson.ensures.read;
}
