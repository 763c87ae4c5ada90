use Rattle.std.proofs.Common.{◌≡◌, ◌≤◌, ◌++◌, drop}
use Rattle.bson_tree.specs.Spelling.{items_bytes}
use Rattle.data_key.specs.Written.{numbered, size_of}
use Rattle.data_key.proofs.writing.put_texts.Given as goal

abbrev pub invariant-loop-name : goal.invariant-loop-name
invariant-loop-name l = record {
  number : l.i ≡ l.name-index;
  small : size_of (drop l.name-index l.names) ≤ 16000000;
  put : l.out.items ++ items_bytes (numbered l.name-index (drop l.name-index l.names))
      ≡ l.fn.out.items ++ items_bytes (numbered 0 l.names);
}
