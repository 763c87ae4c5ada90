-- Names that a folder was asked for, one call after another.
use Rattle.std.proofs.Common.{◌≡◌, ◌∙◌, ℕ, Option, Some, None, List, [], ◌∷◌, ◌++◌, sym, ap}
use Rattle.std.proofs.Common.{append_assoc}
use Rattle.std.specs.Prelude.{unwrap_or, slice_index_or}
use Rattle.std.specs.List.{Contains}
use Rattle.std.proofs.lemmas.List.Elements.{All-append, All-nil, All-cons}
use Rattle.fle_outside.specs.Files.{FileAsked}
use Rattle.fle_outside.specs.Seen.{AsksOnly, FolderSeen}

-- no call was made
pub asks_none : (names : List (List ℕ)) {before after : FolderSeen} → after.asked ≡ before.asked
    → AsksOnly names before after
asks_none names same = record { among = λ earlier is. ([], same ∙ is, All-nil (Contains names)) }

some_is : (a b : List (List ℕ)) → Some a ≡ Some b → a ≡ b
some_is a b e = ap (λ (o : Option (List (List ℕ))). unwrap_or o []) e

one : (before after : Option (List (List ℕ))) (name : List ℕ) → FileAsked before after name
    → (earlier : List (List ℕ)) → before ≡ Some earlier → after ≡ Some ((name ∷ []) ++ earlier)
one None after name asked earlier is = absurd cc
one (Some names) after name asked earlier is =
    asked ∙ ap (λ (xs : List (List ℕ)). Some (name ∷ xs)) (some_is names earlier is)

-- one call was made, for one of these names
pub asks_one : (names : List (List ℕ)) (name : List ℕ) {before after : FolderSeen}
    → FileAsked before.asked after.asked name → Contains names name → AsksOnly names before after
asks_one names name {before} {after} asked within = record {
  among = λ earlier is. (
    name ∷ [],
    one before.asked after.asked name asked earlier is,
    All-cons (Contains names) name [] within (All-nil (Contains names)),
  );
}

-- what was asked in two stretches
pub asks_then : (names : List (List ℕ)) {a b c : FolderSeen} → AsksOnly names a b → AsksOnly names b c
    → AsksOnly names a c
asks_then names first second = record {
  among = λ earlier is.
      let f = first.among earlier is in
      let s = second.among (f.0 ++ earlier) f.1 in (
        s.0 ++ f.0,
        s.1 ∙ ap (λ (xs : List (List ℕ)). Some xs) (sym (append_assoc s.0 f.0 earlier)),
        All-append (Contains names) s.0 f.0 s.2 f.2,
      );
}

-- what is among some names is among more
pub asks_more : (names more : List (List ℕ)) → ((name : List ℕ) → Contains names name → Contains more name)
    → {before after : FolderSeen} → AsksOnly names before after → AsksOnly more before after
asks_more names more wider asks = record {
  among = λ earlier is.
      let a = asks.among earlier is in
      (a.0, a.1, λ k d lt. wider (slice_index_or a.0 k d) (a.2 k d lt));
}
