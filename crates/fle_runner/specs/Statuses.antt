-- How a verb ends, by what its words ask for: its statuses, and what it did with the input, the files and the blocks.
use Rattle.std.specs.Prelude.{◌≡◌, ◌≤◌, ◌⊎◌, Option, Some, None}
use Rattle.fle_outside.specs.Counts.{Rose}
use Rattle.fle_outside.specs.Seen.{EntropySeen, FolderSeen, SourceSeen}
use Rattle.fle_runner.specs.Keygen.{DrawsEight}
use Rattle.fle_words.specs.Words.{DrawsNoBlock, Form, mark, show, keys, keygen, encrypt, encrypt_with, decrypt}
use Rattle.fle_words.specs.Words.{demo, rewrap}
use Rattle.fle_stream.specs.declared.status.Status.{Status}
use Rattle.fle_stream.specs.declared.status.Status.TheVariants as statuses

-- the verb reads no input
abbrev pub ReadsNoInput : Option Form → Type 0
ReadsNoInput (Some (keys vault)) = Unit {0}
ReadsNoInput (Some (keygen master names)) = Unit {0}
ReadsNoInput (Some (demo db n)) = Unit {0}
ReadsNoInput (Some (rewrap from to vault)) = Unit {0}
ReadsNoInput form = ⊥

-- the words name no file
abbrev pub ReadsNoFile : Option Form → Type 0
ReadsNoFile None = Unit {0}
ReadsNoFile (Some show) = Unit {0}
ReadsNoFile (Some (demo db n)) = Unit {0}
ReadsNoFile form = ⊥

-- the words ask for a new key
abbrev pub AsksKey : Option Form → Type 0
AsksKey (Some (keygen master names)) = Unit {0}
AsksKey form = ⊥

-- the words ask for the text of documents
abbrev pub AsksText : Option Form → Type 0
AsksText (Some show) = Unit {0}
AsksText form = ⊥

-- the words ask for a vault under another master key
abbrev pub AsksRewrap : Option Form → Type 0
AsksRewrap (Some (rewrap from to vault)) = Unit {0}
AsksRewrap form = ⊥

-- a status with which `rewrap` has written nothing: any but 0 and 6
abbrev pub IsUnwritten : Status → Type 0
IsUnwritten statuses.Done = ⊥
IsUnwritten statuses.WriteFault = ⊥
IsUnwritten status = Unit {0}

-- a status with which it has drawn no block: any but these and 7
abbrev pub IsUndrawn : Status → Type 0
IsUndrawn statuses.EntropyFault = ⊥
IsUndrawn status = IsUnwritten status

-- `keys` draws no block: 0, 4, 5, 6 or 8
abbrev pub IsStatusOfKeys : Status → Type 0
IsStatusOfKeys statuses.Done = Unit {0}
IsStatusOfKeys statuses.Setup = Unit {0}
IsStatusOfKeys statuses.ReadFault = Unit {0}
IsStatusOfKeys statuses.WriteFault = Unit {0}
IsStatusOfKeys statuses.Memory = Unit {0}
IsStatusOfKeys status = ⊥

-- `keygen`: 0 or 4 to 8
abbrev pub IsStatusOfKeygen : Status → Type 0
IsStatusOfKeygen statuses.EntropyFault = Unit {0}
IsStatusOfKeygen status = IsStatusOfKeys status

-- `rewrap`: 0, 1 or 4 to 8
abbrev pub IsStatusOfRewrap : Status → Type 0
IsStatusOfRewrap statuses.Refused = Unit {0}
IsStatusOfRewrap status = IsStatusOfKeygen status

-- `demo` reads no file either: 0, 6 or 8
abbrev pub IsStatusOfDemo : Status → Type 0
IsStatusOfDemo statuses.Done = Unit {0}
IsStatusOfDemo statuses.WriteFault = Unit {0}
IsStatusOfDemo statuses.Memory = Unit {0}
IsStatusOfDemo status = ⊥

-- `show` reads no file and draws no block: 0, 1, 3, 5, 6, 8 or 9
abbrev pub IsStatusOfShow : Status → Type 0
IsStatusOfShow statuses.Words = ⊥
IsStatusOfShow statuses.Setup = ⊥
IsStatusOfShow statuses.EntropyFault = ⊥
IsStatusOfShow status = Unit {0}

-- `mark` and `decrypt` read files and draw no block: any but 2 and 7
abbrev pub IsStatusOfUndrawn : Status → Type 0
IsStatusOfUndrawn statuses.Words = ⊥
IsStatusOfUndrawn statuses.EntropyFault = ⊥
IsStatusOfUndrawn status = Unit {0}

-- `encrypt` and `encrypt-with`: any but 2
abbrev pub IsStatusOfEncrypt : Status → Type 0
IsStatusOfEncrypt statuses.Words = ⊥
IsStatusOfEncrypt status = Unit {0}

-- a run of these words may end with this status, as far as the verb decides it
abbrev pub MayEnd : Option Form → Status → Type 0
MayEnd (Some (mark db schemas)) status = IsStatusOfUndrawn status
MayEnd (Some show) status = IsStatusOfShow status
MayEnd (Some (keys vault)) status = IsStatusOfKeys status
MayEnd (Some (keygen master names)) status = IsStatusOfKeygen status
MayEnd (Some (encrypt db vault schemas master)) status = IsStatusOfEncrypt status
MayEnd (Some (encrypt_with db vault schemas master)) status = IsStatusOfEncrypt status
MayEnd (Some (decrypt vault master)) status = IsStatusOfUndrawn status
MayEnd (Some (demo db n)) status = IsStatusOfDemo status
MayEnd (Some (rewrap from to vault)) status = IsStatusOfRewrap status
MayEnd form status = Unit {0}

-- a run of these words ended so, with these objects before and after it
pub record EndsByVerb {S F O N : Type 0} (form : Option Form) (status : Status) (reads : S → SourceSeen)
    (input input_after : S) (shows : F → FolderSeen) (files files_after : F) (out out_after : O)
    (seen : N → EntropySeen) (entropy entropy_after : N) : Type 0 where
  -- the verbs without random blocks never end with 7
  pub undrawn : DrawsNoBlock form → status ≡ statuses.EntropyFault → ⊥
  -- and make no call on the source of blocks
  pub no_block : DrawsNoBlock form → entropy_after ≡ entropy
  -- `keys` ends with 0, 4, 5, 6 or 8, `keygen` with these or 7, `rewrap` with these, 7 or 1, `demo` with 0, 6 or 8,
  -- `show` with none of 2, 4 and 7, `mark` and `decrypt` with neither 2 nor 7, `encrypt` and `encrypt-with` not with 2
  pub allowed : MayEnd form status
  -- `show`, `demo` and words without a form make no call on the files
  pub no_file : ReadsNoFile form → files_after ≡ files
  -- `keys`, `keygen`, `rewrap` and `demo` make no call on the input
  pub no_input : ReadsNoInput form → input_after ≡ input
  -- so with 5 a named file failed
  pub by_folder : ReadsNoInput form → status ≡ statuses.ReadFault → Rose (shows files).faults (shows files_after).faults
  -- and with 5 of `show` the input failed
  pub by_source : AsksText form → status ≡ statuses.ReadFault → Rose (reads input).faults (reads input_after).faults
  -- `keygen` doesn't end with 7 where eight blocks are assured, told or not
  pub eight_assured : AsksKey form → 8 ≤ (seen entropy).assured → status ≡ statuses.EntropyFault → ⊥
  -- where `keygen` wants memory, it has drawn no block or the eight of a key
  pub none_or_eight : AsksKey form → status ≡ statuses.Memory
      → (entropy_after ≡ entropy) ⊎ DrawsEight (seen entropy) (seen entropy_after)
  -- `rewrap` makes no call on the output but with 0 and 6
  pub rewrap_unwritten : AsksRewrap form → IsUnwritten status → out_after ≡ out
  -- and none on the source of blocks but with 0, 6 and 7
  pub rewrap_undrawn : AsksRewrap form → IsUndrawn status → entropy_after ≡ entropy
