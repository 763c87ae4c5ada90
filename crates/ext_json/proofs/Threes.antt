-- Base64 (RFC 4648, section 4), cut behind a number of threes.
use Rattle.std.proofs.Common.{◌≡◌, ℕ, ◌%◌, ◌≤◌, List, ◌++◌, length, take, drop, sym, ◌∙◌, ap, length-take-le}
use Rattle.std.proofs.Common.{take-append-drop}
use Rattle.base64.specs.Engines.{standard}
use Rattle.base64.specs.GeneralPurpose.{encode_of}
use Rattle.base64.proofs.EngineFacts.{encode_of-append}

pub base_cut : (n : ℕ) (xs : List ℕ) → n % 3 ≡ 0 → n ≤ length xs
    → encode_of standard xs ≡ encode_of standard (take n xs) ++ encode_of standard (drop n xs)
base_cut n xs threes within =
    let front : length (take n xs) % 3 ≡ 0 = rw (length-take-le n xs within) threes in
    ap (encode_of standard) (sym (take-append-drop n xs)) ∙ encode_of-append standard (take n xs) (drop n xs) front
