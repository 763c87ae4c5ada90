-- The bytes of the demo's documents.
use Rattle.std.proofs.Common.{◌≡◌, ◌∙◌, ◌+◌, ℕ, List, [], ◌∷◌, ◌++◌, length, refl, sym, ap, subst, arith, append_assoc}
use Rattle.std.proofs.Common.{length-append}
use Rattle.std.proofs.lemmas.List.{append-nil}
use Rattle.std.specs.Int.{to_le_bytes, w32}
use Rattle.aes_block.specs.Steps.{cell, state}
use Rattle.aes_block.proofs.Entries.{sixteen}
use Rattle.bson_tree.specs.Spelling.{doc_bytes, items_bytes}
use Rattle.fle_demo.specs.Commands.{command, info, salary_of, ssn_of, ssn_text}
use Rattle.fle_demo.specs.Generator.{after_two, next_output}
use Rattle.fle_demo.specs.declared.commands.TheConstants.{DB, FRONT, INFO_BACK, INFO_FRONT, INFO_MIDDLE, NUMBER}
use Rattle.fle_demo.specs.declared.commands.TheConstants.{SALARY}

-- the info with an id of 16 bytes
info_state : (f : ℕ → ℕ → ℕ)
    → doc_bytes (info (state f)) ≡ INFO_FRONT ++ (state f ++ (INFO_MIDDLE ++ (state f ++ INFO_BACK)))
unfolding info
info_state f = refl

pub info_bytes : (id : List ℕ) → length id ≡ 16
    → doc_bytes (info id) ≡ INFO_FRONT ++ (id ++ (INFO_MIDDLE ++ (id ++ INFO_BACK)))
info_bytes id long =
    subst (λ (x : List ℕ). doc_bytes (info x) ≡ INFO_FRONT ++ (x ++ (INFO_MIDDLE ++ (x ++ INFO_BACK))))
    (sym (sixteen id long)) (info_state (cell id))

pub info_size : (id : List ℕ) → length id ≡ 16 → length (doc_bytes (info id)) ≡ 382
info_size id long =
    omega (
      arith,
      long,
      ap length (info_bytes id long),
      length-append id (INFO_MIDDLE ++ (id ++ INFO_BACK)),
      length-append id INFO_BACK,
    )

-- what stands in a command before the text of `$db`, behind the length
abbrev pub front : ℕ → ℕ → ℕ → List ℕ
front n i x = FRONT ++ (ssn_text (ssn_of (next_output x))
    ++ (SALARY ++ (to_le_bytes w32 (salary_of (after_two x))
    ++ (NUMBER ++ (to_le_bytes w32 i ++ (DB ++ to_le_bytes w32 (n + 1)))))))

-- what two outputs make of a person, in a command
abbrev pub person_bytes : ℕ → ℕ → ℕ → List ℕ
person_bytes first second i =
    FRONT ++ (ssn_text (ssn_of first) ++ (SALARY ++ (to_le_bytes w32 (salary_of second)
    ++ (NUMBER ++ to_le_bytes w32 i))))

pub elements_are : (db : List ℕ) (i x : ℕ) → items_bytes (command db i x) ≡ front (length db) i x ++ (db ++ 0 ∷ [])
unfolding command
elements_are db i x = ap (λ (t : List ℕ). front (length db) i x ++ t) (append-nil (db ++ 0 ∷ []))

elements_size : (db : List ℕ) (i x : ℕ) → length (items_bytes (command db i x)) ≡ length db + 91
elements_size db i x =
    omega (
      arith,
      ap length (elements_are db i x),
      length-append (front (length db) i x) (db ++ 0 ∷ []),
      length-append db (0 ∷ []),
    )

pub command_size : (db : List ℕ) (i x : ℕ) → length (doc_bytes (command db i x)) ≡ length db + 96
command_size db i x =
    omega (arith, elements_size db i x, length-append (items_bytes (command db i x)) (0 ∷ []))

pub command_bytes : (db : List ℕ) (i x : ℕ)
    → doc_bytes (command db i x) ≡ to_le_bytes w32 (length db + 96) ++ (front (length db) i x ++ (db ++ (0 ∷ 0 ∷ [])))
command_bytes db i x =
    let size : length (items_bytes (command db i x)) + 5 ≡ length db + 96 = omega (arith, elements_size db i x) in
    ap (λ (n : ℕ). to_le_bytes w32 n ++ (items_bytes (command db i x) ++ 0 ∷ [])) size
    ∙ ap (λ (t : List ℕ). to_le_bytes w32 (length db + 96) ++ (t ++ 0 ∷ [])) (elements_are db i x)
    ∙ ap (λ (t : List ℕ). to_le_bytes w32 (length db + 96) ++ (front (length db) i x ++ t))
    (append_assoc db (0 ∷ []) (0 ∷ []))
