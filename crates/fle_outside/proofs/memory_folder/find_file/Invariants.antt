-- No file so far has the name, so the look-up is that among the rest.
use Rattle.std.proofs.Common.{◌≡◌, drop, map}
use Rattle.fle_outside.specs.Memory.{entry}
use Rattle.fle_outside.specs.Files.{file_of}
use Rattle.fle_outside.proofs.memory_folder.find_file.Given as goal

abbrev pub invariant-loop-file : goal.invariant-loop-file
invariant-loop-file l = file_of (map entry (drop l.file-index l.entries)) l.name ≡ file_of (map entry l.entries) l.name
