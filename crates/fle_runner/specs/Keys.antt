-- `keys KEYS`: a line of text for each key of a vault.
use Rattle.std.specs.Prelude.{ℕ, Option, List, [], ◌∷◌, ◌++◌, length, codes, decimal}
use Rattle.uuid.specs.Text.{hyphenated_text, lower}
use Rattle.data_key.specs.declared.key_doc.KeyDoc.{KeyDoc}
use Rattle.data_key.specs.declared.key_doc.Provider.{Provider}
use Rattle.data_key.specs.declared.key_doc.Provider.TheVariants as providers
use Rattle.fle_files.specs.Setup.{with_vault}
use Rattle.fle_runner.specs.Verdicts.{plain_plan}
use Rattle.fle_stream.specs.Task.{Task, makes}
use Rattle.fle_stream.specs.declared.why.Why.{Why}
use Rattle.fle_stream.specs.declared.why.Why.TheVariants as whys
use Rattle.fle_stream.specs.declared.why.Finish.TheVariants as finishes
use Rattle.fle_stream.specs.declared.why.Cut.TheVariants as cuts

-- MongoDB Client Side Encryption, "masterKey": who holds the master key
abbrev pub provider_word : Provider → List ℕ
provider_word providers.Local = codes "local"
provider_word providers.Other = codes "other"

-- RFC 4122, section 3: the id in lower-case hyphenated form; behind it who holds the master key, and the number of
-- alternate names
abbrev pub key_line : KeyDoc → List ℕ
key_line key = hyphenated_text lower key.id ++
    (codes " " ++ (provider_word key.provider ++ (codes " " ++ (decimal (length key.names) ++ codes "\n"))))

-- a line for each key, in order
abbrev pub key_lines : List KeyDoc → List ℕ
key_lines [] = []
key_lines (key ∷ keys) = key_line key ++ key_lines keys

-- the lines of the keys of the vault, the first file of the words
abbrev pub keys_task : Option (List ℕ) → Task
keys_task file = with_vault 1 file (λ keys. makes (plain_plan (key_lines keys)))

-- the ends that `keys` can make
abbrev pub IsOfKeys : Why → Type 0
IsOfKeys (whys.Finished finishes.Done) = Unit {0}
IsOfKeys (whys.Finished (finishes.Setup file fault document)) = Unit {0}
IsOfKeys (whys.Finished finish) = ⊥
IsOfKeys (whys.Cut cuts.Input) = ⊥
IsOfKeys (whys.Cut cuts.Entropy) = ⊥
IsOfKeys (whys.Cut cut) = Unit {0}

-- the ends that writing a text can make: the keys of a vault, or the line of the demo
abbrev pub IsOfText : Why → Type 0
IsOfText (whys.Finished finishes.Done) = Unit {0}
IsOfText (whys.Cut cuts.Output) = Unit {0}
IsOfText (whys.Cut cuts.Memory) = Unit {0}
IsOfText _ = ⊥
