-- How many bytes a named file may have.
use Rattle.std.specs.Prelude.{ℕ}

-- a file of collection infos, and a vault, has at most 64 MiB
abbrev pub file_limit : ℕ
file_limit = 67108864

-- a master key's file has at most 129 bytes
abbrev pub master_limit : ℕ
master_limit = 129
