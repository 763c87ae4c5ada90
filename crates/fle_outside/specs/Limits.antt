-- How much is written at once.
use Rattle.std.specs.Prelude.{ℕ}

-- an output document has at most 48,000,000 bytes: a reply, a sealed or an opened command
abbrev pub output_limit : ℕ
output_limit = 48000000
