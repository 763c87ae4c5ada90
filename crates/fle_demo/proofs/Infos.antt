-- The demo's info is read from its bytes, alone, and found by its name.
use Rattle.std.proofs.Common.{◌≡◌, ◌∙◌, ◌<◌, ℕ, Bool, true, cond, List, [], ◌∷◌, length, drop, Option, Some, None}
use Rattle.std.proofs.Common.{Result, Ok}
use Rattle.std.proofs.Common.{refl, sym, ap, arith}
use Rattle.std.proofs.Math.Seq.{drop-length}
use Rattle.std.proofs.lemmas.List.{append-nil}
use Rattle.std.specs.Prelude.{codes}
use Rattle.std.specs.Cmp.Lexicographic.{bytes_decides}
use Rattle.bson_codec.specs.Reading.{front_document}
use Rattle.bson_codec.specs.declared.fault.BsonFault.{BsonFault}
use Rattle.bson_codec.proofs.Grammar.{front_read}
use Rattle.bson_tree.specs.Spelling.{doc_bytes}
use Rattle.bson_tree.specs.Tree.{Items}
use Rattle.encrypt_schema.specs.Language.Collection.{Collection, collection_of}
use Rattle.encrypt_schema.specs.Language.Collections.{and_others, collection_in, collections, collections_from}
use Rattle.encrypt_schema.specs.Language.Collections.{in_front}
use Rattle.encrypt_schema.specs.Language.Collections.{with_rest}
use Rattle.encrypt_schema.specs.Language.Names.{named}
use Rattle.encrypt_schema.specs.declared.schema.faults.InfoKind.{InfoKind}
use Rattle.fle_demo.specs.Commands.{info}
use Rattle.fle_demo.specs.Totals.{IsAlone}
use Rattle.fle_demo.proofs.Bytes.{info_size}
use Rattle.fle_demo.proofs.Laid.{info_laid}
use Rattle.fle_demo.proofs.Verdicts.{demo_collection, info_read}

-- a file of one info
pub one_read : (bytes : List ℕ) (is : Items) (c : Collection) → 0 < length bytes
    → front_document bytes ≡ Ok (is, length bytes) → collection_in [] is ≡ Ok c → collections bytes ≡ Ok (c ∷ [])
unfolding collections
one_read [] is c some front states = absurd (omega (arith, some))
one_read (b ∷ bs) is c some front states =
    ap (λ (r : Result (Items × ℕ) BsonFault). and_others (collections_from (length bs)) [] (in_front [] (b ∷ bs) r))
    front
    ∙ (ap (λ (r : Result Collection InfoKind). and_others (collections_from (length bs)) []
    (with_rest [] (drop (length (b ∷ bs)) (b ∷ bs)) r)) states
    ∙ ap (λ (rest : List ℕ). collections_from (length bs) (c ∷ []) rest) (drop-length (b ∷ bs)))

-- a name is itself
same_name : (name : List ℕ) → named name name ≡ true
unfolding named
same_name name = (bytes_decides name name).1 refl

pub found_alone : (infos : List Collection) (c : Collection) → infos ≡ c ∷ [] → c.name ≡ codes "demo"
    → collection_of infos (codes "demo") ≡ Some c
found_alone infos c is name =
    ap (λ (cs : List Collection). collection_of cs (codes "demo")) is
    ∙ (ap (λ (n : List ℕ). cond (named n (codes "demo")) (Some c) None) name
    ∙ ap (λ (b : Bool). cond b (Some c) None) (same_name (codes "demo")))

-- the bytes of the info are those of the collection alone
pub alone_read : (id : List ℕ) → length id ≡ 16
    → (infos : List Collection) × (collections (doc_bytes (info id)) ≡ Ok infos) × IsAlone id infos
alone_read id long =
    let bytes = doc_bytes (info id) in (
      demo_collection id ∷ [],
      one_read bytes (info id) (demo_collection id) (omega (arith, info_size id long))
          (front_read bytes [] (info id) (info_laid id long) (sym (append-nil bytes))) (info_read id long),
      record { collection = demo_collection id; states = info_read id long; only = refl; named = refl },
    )

-- the only info is found by its name
abbrev first_name : List Collection → List ℕ
first_name [] = []
first_name (c ∷ cs) = c.name

pub only_found : (id : List ℕ) (infos : List Collection) → IsAlone id infos → (c : Collection) → infos ≡ c ∷ []
    → collection_of infos (codes "demo") ≡ Some c
only_found id infos alone c is = found_alone infos c is (ap first_name (sym is ∙ alone.only) ∙ alone.named)

pub not_none : (o : Option Collection) (c : Collection) → o ≡ None → o ≡ Some c → ⊥
not_none o c none some = cc
