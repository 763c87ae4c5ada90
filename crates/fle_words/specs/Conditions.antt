-- The words of `encrypt`, `encrypt-with`, `decrypt` and `rewrap`, and what is asked of each word.
use Rattle.std.specs.Prelude.{◌≡◌, ℕ, ◌<◌, ◌≤◌, List, [], ◌∷◌, codes, length}

-- the words are `encrypt DB KEYS SCHEMAS MASTER`: DB has 1 to 63 bytes, and the others aren't empty
abbrev pub AreEncrypt : List (List ℕ) → List ℕ → List ℕ → List ℕ → List ℕ → Type 0
AreEncrypt words db keys schemas master =
    (words ≡ codes "encrypt" ∷ db ∷ keys ∷ schemas ∷ master ∷ [])
    × (0 < length db) × (length db ≤ 63) × (0 < length keys) × (0 < length schemas) × (0 < length master)

-- the words are `decrypt KEYS MASTER`, neither of which is empty
abbrev pub AreDecrypt : List (List ℕ) → List ℕ → List ℕ → Type 0
AreDecrypt words keys master =
    (words ≡ codes "decrypt" ∷ keys ∷ master ∷ []) × (0 < length keys) × (0 < length master)

-- the words are `encrypt-with DB KEYS SCHEMAS MASTER`, with the conditions of `encrypt`
abbrev pub AreEncryptWith : List (List ℕ) → List ℕ → List ℕ → List ℕ → List ℕ → Type 0
AreEncryptWith words db keys schemas master =
    (words ≡ codes "encrypt-with" ∷ db ∷ keys ∷ schemas ∷ master ∷ [])
    × (0 < length db) × (length db ≤ 63) × (0 < length keys) × (0 < length schemas) × (0 < length master)

-- the words are `rewrap OLD NEW KEYS`, none of which is empty
abbrev pub AreRewrap : List (List ℕ) → List ℕ → List ℕ → List ℕ → Type 0
AreRewrap words from to keys =
    (words ≡ codes "rewrap" ∷ from ∷ to ∷ keys ∷ []) × (0 < length from) × (0 < length to) × (0 < length keys)
