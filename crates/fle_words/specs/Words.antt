-- The forms of the words after the program's name.
use Rattle.std.specs.Prelude.{ℕ, ◌+◌, ◌≤◌, Bool, true, not, ◌==◌, ◌||◌, ◌&&◌, map, string_bytes, Option, Some, None}
use Rattle.std.specs.Prelude.{List, [], ◌∷◌, length, codes, decimal, nat_eq, nat_le, nat_lt, if◌then◌else◌}
use Rattle.data_key.specs.Written.{size_of}
use Rattle.std.specs.Cmp.Lexicographic.{pointwise}
use Rattle.std.specs.Str.Parse.{digits_value}
use Rattle.fle_words.specs.declared.words.Asked.{Asked}
use Rattle.fle_words.specs.declared.words.Asked.TheVariants as asked

-- a verb with its words
pub data Form : Type 0 where
  mark : List ℕ → List ℕ → Form
  show : Form
  keys : List ℕ → Form
  keygen : List ℕ → List (List ℕ) → Form
  encrypt : List ℕ → List ℕ → List ℕ → List ℕ → Form
  encrypt_with : List ℕ → List ℕ → List ℕ → List ℕ → Form
  decrypt : List ℕ → List ℕ → Form
  demo : List ℕ → ℕ → Form
  rewrap : List ℕ → List ℕ → List ℕ → Form

-- `mark DB SCHEMAS`: DB has 1 to 63 bytes, SCHEMAS isn't empty
abbrev pub mark_form : List ℕ → List ℕ → Option Form
mark_form db schemas = if (length db == 0 || nat_lt 63 (length db) || length schemas == 0) then None else Some
    (mark db schemas)

-- `encrypt DB KEYS SCHEMAS MASTER`: DB has 1 to 63 bytes, KEYS, SCHEMAS and MASTER aren't empty
abbrev pub encrypt_form : List ℕ → List ℕ → List ℕ → List ℕ → Option Form
encrypt_form db vault schemas master =
    if (length db == 0 || nat_lt 63 (length db) || length vault == 0 || length schemas == 0 || length master == 0)
    then None else Some (encrypt db vault schemas master)

-- `encrypt-with DB KEYS SCHEMAS MASTER`: the same
abbrev pub encrypt_with_form : List ℕ → List ℕ → List ℕ → List ℕ → Option Form
encrypt_with_form db vault schemas master =
    if (length db == 0 || nat_lt 63 (length db) || length vault == 0 || length schemas == 0 || length master == 0)
    then None else Some (encrypt_with db vault schemas master)

-- `decrypt KEYS MASTER`: neither is empty
abbrev pub decrypt_form : List ℕ → List ℕ → Option Form
decrypt_form vault master = if (length vault == 0 || length master == 0) then None else Some (decrypt vault master)

-- whether a word is this verb
abbrev pub is_verb : List ℕ → List ℕ → Bool
is_verb word verb = pointwise nat_eq word verb

-- `keys KEYS`: KEYS isn't empty
abbrev pub keys_form : List ℕ → Option Form
keys_form vault = if length vault == 0 then None else Some (keys vault)

-- so many of the names are this one
abbrev pub times : List ℕ → List (List ℕ) → ℕ
times name [] = 0
times name (other ∷ others) = if is_verb name other then times name others + 1 else times name others

-- each of these names isn't empty, and stands once among all
abbrev pub each_once : List (List ℕ) → List (List ℕ) → Bool
each_once all [] = true
each_once all (name ∷ names) = (not (length name == 0) && (times name all == 1)) && each_once all names

-- NAMEs: distinct, none empty, at most 1,000, with at most 15,999,840 bytes together
abbrev pub are_names : List (List ℕ) → Bool
are_names names = (not (nat_lt 1000 (length names)) && not (nat_lt 15999840 (size_of names))) && each_once names names

-- `keygen MASTER NAME*`: MASTER isn't empty
abbrev pub keygen_form : List ℕ → List (List ℕ) → Option Form
keygen_form master names = if (length master == 0 || not (are_names names)) then None else Some (keygen master names)

-- the number is 1 to 100000, and the word is how it is printed: in decimal digits, with no sign and no leading zero
abbrev pub is_count : List ℕ → ℕ → Bool
is_count word n = is_verb word (decimal n) && (nat_le 1 n && nat_le n 100000)

-- the number N of a word
unfoldable pub count_in : List ℕ → Option ℕ
count_in word = if is_count word (digits_value 10 word) then Some (digits_value 10 word) else None

-- so many commands of a database, where there is a number
abbrev pub counted_form : List ℕ → Option ℕ → Option Form
counted_form db None = None
counted_form db (Some n) = Some (demo db n)

-- `demo DB N`: DB has 1 to 63 bytes, N is a number
abbrev pub demo_form : List ℕ → List ℕ → Option Form
demo_form db count = if (length db == 0 || nat_lt 63 (length db)) then None else counted_form db (count_in count)

-- `rewrap OLD NEW KEYS`: OLD, NEW and KEYS aren't empty
abbrev pub rewrap_form : List ℕ → List ℕ → List ℕ → Option Form
rewrap_form from to vault =
    if (length from == 0 || length to == 0 || length vault == 0) then None else Some (rewrap from to vault)

-- the words behind `mark`: a database and a file of collection infos
abbrev pub mark_words : List (List ℕ) → Option Form
mark_words (db ∷ schemas ∷ []) = mark_form db schemas
mark_words _ = None

-- the word behind `keys`: a vault
abbrev pub keys_words : List (List ℕ) → Option Form
keys_words (vault ∷ []) = keys_form vault
keys_words _ = None

-- the words behind `keygen`: a master key's file, and names
abbrev pub keygen_words : List (List ℕ) → Option Form
keygen_words [] = None
keygen_words (master ∷ names) = keygen_form master names

-- no words behind `show`
abbrev pub show_words : List (List ℕ) → Option Form
show_words [] = Some show
show_words _ = None

-- the words behind `encrypt`: a database, a vault, a file of collection infos and a master key's file
abbrev pub encrypt_words : List (List ℕ) → Option Form
encrypt_words (db ∷ vault ∷ schemas ∷ master ∷ []) = encrypt_form db vault schemas master
encrypt_words _ = None

-- the words behind `encrypt-with`: a database, a vault, a file of collection infos and a master key's file
abbrev pub encrypt_with_words : List (List ℕ) → Option Form
encrypt_with_words (db ∷ vault ∷ schemas ∷ master ∷ []) = encrypt_with_form db vault schemas master
encrypt_with_words _ = None

-- the words behind `decrypt`: a vault and a master key's file
abbrev pub decrypt_words : List (List ℕ) → Option Form
decrypt_words (vault ∷ master ∷ []) = decrypt_form vault master
decrypt_words _ = None

-- the words behind `demo`: a database and a number of commands
abbrev pub demo_words : List (List ℕ) → Option Form
demo_words (db ∷ count ∷ []) = demo_form db count
demo_words _ = None

-- the words behind `rewrap`: the files of the old master key and of the new one, and a vault
abbrev pub rewrap_words : List (List ℕ) → Option Form
rewrap_words (from ∷ to ∷ vault ∷ []) = rewrap_form from to vault
rewrap_words _ = None

-- the form of a verb and the words behind it
abbrev pub verb_form : List ℕ → List (List ℕ) → Option Form
verb_form verb words =
    if is_verb verb (codes "mark") then mark_words words
    else (if is_verb verb (codes "show") then show_words words
    else (if is_verb verb (codes "keys") then keys_words words
    else (if is_verb verb (codes "keygen") then keygen_words words
    else (if is_verb verb (codes "encrypt") then encrypt_words words
    else (if is_verb verb (codes "encrypt-with") then encrypt_with_words words
    else (if is_verb verb (codes "decrypt") then decrypt_words words
    else (if is_verb verb (codes "demo") then demo_words words
    else (if is_verb verb (codes "rewrap") then rewrap_words words else None))))))))

-- the form that all words have behind the program's name, where they have one
abbrev pub form_of : List (List ℕ) → Option Form
form_of [] = None
form_of (verb ∷ words) = verb_form verb words

-- what the words ask for, as the program keeps it
abbrev pub asked_form : Asked → Option Form
asked_form asked.Nothing = None
asked_form (asked.Mark db schemas) = Some (mark db.now schemas.now)
asked_form asked.Show = Some show
asked_form (asked.Keys vault) = Some (keys vault.now)
asked_form (asked.Keygen master names) = Some (keygen master.now (map string_bytes names.now))
asked_form (asked.Encrypt db vault schemas master) = Some (encrypt db.now vault.now schemas.now master.now)
asked_form (asked.EncryptWith db vault schemas master) = Some (encrypt_with db.now vault.now schemas.now master.now)
asked_form (asked.Decrypt vault master) = Some (decrypt vault.now master.now)
asked_form (asked.Demo db n) = Some (demo db.now n)
asked_form (asked.Rewrap from to vault) = Some (rewrap from.now to.now vault.now)

-- the names of a new key are few and small enough for its document, and the demo's commands few and short
abbrev pub AreFew : Asked → Type 0
AreFew asked.Nothing = Unit {0}
AreFew (asked.Mark db schemas) = Unit {0}
AreFew asked.Show = Unit {0}
AreFew (asked.Keys vault) = Unit {0}
AreFew (asked.Encrypt db vault schemas master) = Unit {0}
AreFew (asked.EncryptWith db vault schemas master) = Unit {0}
AreFew (asked.Decrypt vault master) = Unit {0}
AreFew (asked.Keygen master names) = (length names.now ≤ 1000) × (size_of (map string_bytes names.now) ≤ 15999840)
AreFew (asked.Demo db n) = (length db.now ≤ 63) × (n ≤ 100000)
AreFew (asked.Rewrap from to vault) = Unit {0}

-- a run of these words draws no random block
abbrev pub DrawsNoBlock : Option Form → Type 0
DrawsNoBlock None = Unit {0}
DrawsNoBlock (Some (mark db schemas)) = Unit {0}
DrawsNoBlock (Some show) = Unit {0}
DrawsNoBlock (Some (keys vault)) = Unit {0}
DrawsNoBlock (Some (keygen master names)) = ⊥
DrawsNoBlock (Some (encrypt db vault schemas master)) = ⊥
DrawsNoBlock (Some (encrypt_with db vault schemas master)) = ⊥
DrawsNoBlock (Some (decrypt vault master)) = Unit {0}
DrawsNoBlock (Some (demo db n)) = Unit {0}
DrawsNoBlock (Some (rewrap from to vault)) = ⊥
