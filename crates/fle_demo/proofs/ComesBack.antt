-- Every command of the demo opens to itself.
use Rattle.std.proofs.Common.{◌≡◌, ◌∙◌, ◌<◌, ◌≤◌, ◌+◌, ◌*◌, ◌/◌, ◌^◌, ℕ, zero, suc, Bool, true, false, cond}
use Rattle.std.proofs.Common.{nat_lt, Some, None}
use Rattle.std.proofs.Common.{List, [], ◌∷◌, ◌++◌, length, take, drop, Result, Ok, refl, sym, ap, subst, arith}
use Rattle.std.proofs.lemmas.Bool.{false≢true}
use Rattle.std.proofs.lemmas.Bool.Decides.{nat_tests}
use Rattle.std.proofs.lemmas.List.{length-drop, length-set, length-take-le}
use Rattle.std.proofs.lemmas.List.Elements.{All-append, All-cons, All-drop, All-from_recursion, All-get_or, All-head}
use Rattle.std.proofs.lemmas.List.Elements.{All-nil, All-tail, All-take}
use Rattle.std.specs.List.{All}
use Rattle.std.specs.Cmp.Lexicographic.{bytes_decides}
use Rattle.std.specs.Int.{to_le_bytes, w32, w64}
use Rattle.bson_codec.specs.Reading.{document}
use Rattle.bson_codec.specs.declared.fault.BsonFault.{BsonFault}
use Rattle.bson_codec.proofs.Documents.{document_again}
use Rattle.bson_tree.specs.Spelling.{doc_bytes, items_bytes}
use Rattle.bson_tree.specs.Tree.{Items}
use Rattle.context_machine.specs.Rings.{by_ids, found_in, key_if, reasoned, ring, with_own}
use Rattle.context_machine.proofs.FoundKeys.{ids_found, ids_long}
use Rattle.doc_rewrite.specs.Founds.{is_sealed}
use Rattle.doc_rewrite.specs.Keys.{Found, Lookup}
use Rattle.doc_rewrite.specs.Opened.{Keyring, opened}
use Rattle.payload6.specs.Needs.{Id as ById}
use Rattle.doc_rewrite.specs.Plans.{AreLong}
use Rattle.doc_rewrite.specs.PayloadFree.{IsPayloadFree}
use Rattle.doc_rewrite.specs.Sealed.{sealed}
use Rattle.doc_rewrite.specs.SealedCommand.{HasRuleKeys}
use Rattle.doc_rewrite.specs.SealedTrees.{IsSealedByStations, IsSealedUse}
use Rattle.doc_rewrite.specs.Sites.{grown, sites_of}
use Rattle.doc_rewrite.proofs.FromPlaces.{by_stations}
use Rattle.doc_rewrite.proofs.Growth.{sealed_long}
use Rattle.doc_rewrite.proofs.Names.{ids_named}
use Rattle.doc_rewrite.proofs.OpensAgain.{opens_again, spelled_again}
use Rattle.doc_rewrite.proofs.SealedAsStated.{as_stated}
use Rattle.doc_rewrite.proofs.Stands.{marks_stand}
use Rattle.encrypt_schema.specs.Commands.Stations.{is_passed}
use Rattle.encrypt_schema.specs.Commands.Visits.{Refusal, content_verdict, is_payload, roles}
use Rattle.encrypt_schema.specs.Language.Names.{named}
use Rattle.encrypt_schema.specs.Language.Policies.{policy_at}
use Rattle.encrypt_schema.specs.Language.Row.{Row}
use Rattle.encrypt_schema.specs.Paths.Classes.{class}
use Rattle.encrypt_schema.specs.declared.command.reason.Reason.{Reason}
use Rattle.fle_outside.specs.Blocks.{AreBlocks, Block, IsBlock}
use Rattle.fle_demo.specs.Commands.{command, salary_of, ssn_of, ssn_text}
use Rattle.fle_aead.proofs.SealedForm.{sealed-length}
use Rattle.local_kms.specs.Made.{block_at, id_of, key_of_blocks, material_of, six_blocks}
use Rattle.uuid.specs.Parts.{with_variant}
use Rattle.uuid.specs.declared.Variant.TheVariants as variants
use Rattle.fle_demo.specs.Generator.{after_two, block_behind, blocks_behind, next_output}
use Rattle.fle_demo.specs.Sums.{Sums, alone, blocks, demo_key, equal_by, equal_to, equals, master, no_sums, sealed_with}
use Rattle.fle_demo.specs.Sums.{summed, sums_of, with_command}
use Rattle.fle_demo.specs.declared.commands.TheConstants.{DB, FRONT, NUMBER, SALARY}
use Rattle.fle_demo.proofs.Blocks.{blocks_count}
use Rattle.fle_demo.proofs.Bytes.{command_size, elements_are, front}
use Rattle.fle_demo.proofs.Keys.{AreSeeds, made_key, seeds_are}
use Rattle.fle_demo.proofs.Laid.{command_laid}
use Rattle.fle_demo.proofs.Verdicts.{content_none, laid, rules_are, sites_are, two_rules}

-- ---- bytes

abbrev Bytes : List ℕ → Type 0
Bytes bs = All (λ b. b < 256) bs

-- bytes that are written out
abbrev are_small : List ℕ → Bool
are_small [] = true
are_small (b ∷ bs) = cond (nat_lt b 256) (are_small bs) (nat_lt b 256)

two_tests : (b : ℕ) (t : Bool) (bs : List ℕ) → nat_lt b 256 ≡ t → cond t (are_small bs) t ≡ true
    → (b < 256) × (are_small bs ≡ true)
two_tests b true bs is e = (grind (arith, nat_tests), e)
two_tests b false bs is e = absurd (false≢true e)

small : (bs : List ℕ) → are_small bs ≡ true → Bytes bs
small [] e = All-nil (λ b. b < 256)
small (b ∷ bs) e =
    let both = two_tests b (nat_lt b 256) bs refl e in
    All-cons (λ x. x < 256) b bs both.0 (small bs both.1)

joined : (xs ys : List ℕ) → Bytes xs → Bytes ys → Bytes (xs ++ ys)
joined xs ys first second = All-append (λ b. b < 256) xs ys first second

number_bytes : (n : ℕ) → Bytes (to_le_bytes w32 n)
number_bytes n =
    All-from_recursion (λ b. b < 256) (to_le_bytes w32 n) (
      omega arith,
      (omega arith, (omega arith, (omega arith, tt))),
    )

text_bytes : (n : ℕ) → Bytes (ssn_text n)
text_bytes n =
    All-from_recursion (λ b. b < 256) (ssn_text n) (
      omega arith,
      (
        omega arith,
        (
          omega arith,
          (
            omega arith,
            (
              omega arith,
              (omega arith, (omega arith, (omega arith, (omega arith, (omega arith, (omega arith, tt)))))),
            ),
          ),
        ),
      ),
    )

command_bytes : (db : List ℕ) (i x : ℕ) → Bytes db → Bytes (items_bytes (command db i x))
command_bytes db i x bytes =
    let number = to_le_bytes w32 i in
    let salary = to_le_bytes w32 (salary_of (after_two x)) in
    let ssn = ssn_text (ssn_of (next_output x)) in
    let size = to_le_bytes w32 (length db + 1) in
    let last = joined DB size (small DB refl) (number_bytes (length db + 1)) in
    let numbers = joined number (DB ++ size) (number_bytes i) last in
    let named = joined NUMBER (number ++ (DB ++ size)) (small NUMBER refl) numbers in
    let behind = NUMBER ++ (number ++ (DB ++ size)) in
    let salaries = joined salary behind (number_bytes (salary_of (after_two x))) named in
    let paid = joined SALARY (salary ++ behind) (small SALARY refl) salaries in
    let texts = joined ssn (SALARY ++ (salary ++ behind)) (text_bytes (ssn_of (next_output x))) paid in
    let whole = joined FRONT (ssn ++ (SALARY ++ (salary ++ behind))) (small FRONT refl) texts in
    let end = joined db (0 ∷ []) bytes (small (0 ∷ []) refl) in
    subst Bytes (sym (elements_are db i x)) (joined (front (length db) i x) (db ++ 0 ∷ []) whole end)

-- ---- one command

-- what isn't protected is no payload
free : (id db ssn salary number : List ℕ) → IsPayloadFree (two_rules id) (laid db ssn salary number)
unfolding named policy_at class is_passed is_sealed is_payload
free id db ssn salary number = (refl, (((tt, (tt, (refl, tt))), tt), (refl, tt)))

command_free : (id db : List ℕ) (i x : ℕ) → IsPayloadFree (two_rules id) (command db i x)
unfolding command
command_free id db i x = free id db _ _ _

-- nothing of it is refused
command_content : (id db : List ℕ) (i x : ℕ) → content_verdict (two_rules id) 0 (command db i x) ≡ None
unfolding command
command_content id db i x = content_none id db _ _ _

-- the keys of its rules are there
had : (keys : Lookup) (id plain db : List ℕ) (i x : ℕ) → length id ≡ 16
    → keys (ById id) ≡ Some (record { id = id; key = plain })
    → HasRuleKeys keys (two_rules id) (alone (command db i x)) (roles (two_rules id) 0 (command db i x))
unfolding named policy_at class is_passed command
had keys id plain db i x long is =
    let key : Found = record { id = id; key = plain } in
    ((key, is, long), ((key, is, long), tt))

-- the sealed form of a command
abbrev sealed_form : Keyring → List ℕ → Block → Items → Items
sealed_form keys id block c =
    sealed (found_in (by_ids keys)) (sites_of (two_rules id) (alone c) (roles (two_rules id) 0 c)) (block ∷ [])
    (alone c)

module _ (keys : Keyring) (id plain : List ℕ) (long : length id ≡ 16) (opens : keys id ≡ Ok plain)
    (db : List ℕ) (short : length db ≤ 63) (bytes : Bytes db) (i x : ℕ) (block : Block) (is_block : IsBlock block) where
  abbrev given : Items
  given = command db i x

  one : AreBlocks (block ∷ [])
  one = All-cons IsBlock block [] is_block (All-nil IsBlock)

  stations : IsSealedByStations (found_in (by_ids keys)) (two_rules id) given (sealed_form keys id block given)
  stations =
      by_stations (IsSealedUse (found_in (by_ids keys))) (two_rules id) given
      (sealed_form keys id block given)
      (as_stated (found_in (by_ids keys)) (two_rules id) (alone given) (block ∷ []) (command_bytes db i x bytes) one
      (had (found_in (by_ids keys)) id plain db i x long
      (ap (λ (k : Result (List ℕ) Reason). key_if (with_own id k)) opens)))

  sealed_size : length (doc_bytes (sealed_form keys id block given)) < 2 ^ 31
  sealed_size =
      let ss = sites_of (two_rules id) (alone given) (roles (two_rules id) 0 given) in
      let sites = sites_are id db i x in
      let ids : AreLong ss = subst AreLong (sym sites) (long, (long, tt)) in
      let named = ids_named (two_rules id) (alone given) (refl, (refl, tt)) in
      let stands = (marks_stand (two_rules id) (alone given) named).places in
      let size = sealed_long ss (alone given) stands _ refl ids (found_in (by_ids keys)) (block ∷ []) (ids_long keys)
      one
      in
      omega (arith, size, short, command_size db i x, ap grown sites)

  back : opened keys (alone (sealed_form keys id block given)) ≡ Ok given
  back = opens_again (found_in (by_ids keys)) (two_rules id) keys (alone given)
      (alone (sealed_form keys id block given))
      (command_laid db i x short) (command_content id db i x) (command_free id db i x) (ids_found keys) stations

  read : document (doc_bytes (sealed_form keys id block given)) ≡ Ok (sealed_form keys id block given)
  read =
      document_again (doc_bytes (sealed_form keys id block given)) (sealed_form keys id block given)
      (spelled_again (found_in (by_ids keys)) (two_rules id) given (sealed_form keys id block given)
      (command_laid db i x short) stations sealed_size) refl

  pub one_equal : equals keys (doc_bytes given) (sealed_with keys (two_rules id) block given) ≡ 1
  unfolding equals sealed_with
  one_equal =
      ap (λ (r : Result Items BsonFault). equal_by keys (doc_bytes given) r) read
      ∙ (ap (λ (r : Result Items Refusal). equal_to (doc_bytes given) r) back
      ∙ ap (λ (b : Bool). cond b 1 0) ((bytes_decides (doc_bytes given) (doc_bytes given)).1 refl))

-- ---- all commands

module _ (keys : Keyring) (id plain : List ℕ) (long : length id ≡ 16) (opens : keys id ≡ Ok plain)
    (db : List ℕ) (short : length db ≤ 63) (bytes : Bytes db) where
  pub all_equal : (i x : ℕ) (blocks : List Block) (s : Sums) → AreBlocks blocks
      → (summed keys (two_rules id) db i x blocks s).equal ≡ s.equal + length blocks
  all_equal i x [] s are = omega arith
  all_equal i x (block ∷ blocks) s are =
      let one = one_equal keys id plain long opens db short bytes i x block (All-head IsBlock block blocks are) in
      let c = command db i x in
      omega (
        arith,
        one,
        all_equal (i + 1) (after_two x) blocks (with_command keys (two_rules id) block c s)
            (All-tail IsBlock block blocks are),
      )

-- ---- the key that is made first

-- eight bytes of a number of 64 bits
eight_bytes : (n : ℕ) → Bytes (to_le_bytes w64 n)
eight_bytes n =
    All-from_recursion (λ b. b < 256) (to_le_bytes w64 n) (
      omega arith,
      (
        omega arith,
        (omega arith, (omega arith, (omega arith, (omega arith, (omega arith, (omega arith, tt)))))),
      ),
    )

block_is : (x : ℕ) → IsBlock (block_behind x)
block_is x = record {
  len = refl;
  bytes = joined (to_le_bytes w64 (next_output x)) (to_le_bytes w64 (after_two x)) (eight_bytes (next_output x))
      (eight_bytes (after_two x));
}

blocks_are : (n x : ℕ) → AreBlocks (blocks_behind n x)
blocks_are zero x = All-nil IsBlock
blocks_are (suc n) x = All-cons IsBlock (block_behind x) (blocks_behind n (after_two x)) (block_is x)
    (blocks_are n (after_two x))

id_long : (block : Block) → length block ≡ 16 → length (id_of block) ≡ 16
id_long block long =
    length-set (with_variant block variants.RFC4122) 6 _ ∙ (length-set block 8 _ ∙ long)

material_long : (key iv : List ℕ) → AreSeeds key iv → length (material_of master iv key) ≡ 160
material_long key iv seeds =
    sealed-length master [] iv key (material_of master iv key) (record {
      iv_block = record { len = seeds.iv_block.len; bytes = seeds.iv_block.bytes };
      plain = seeds.bytes;
      form = refl;
    })
    ∙ ap (λ (n : ℕ). 48 + 16 * (n / 16 + 1)) seeds.long

pub every : (db : List ℕ) (n : ℕ) → length db ≤ 63 → Bytes db → (sums_of (demo_key n) db n).equal ≡ n
unfolding sums_of demo_key
every db n short bytes =
    let all = blocks n in
    let first = take 8 all in
    let key = key_of_blocks master [] first in
    let count : length all ≡ 8 + n = blocks_count (8 + n) (n + 4294967296) in
    let eight : length first ≡ 8 = length-take-le 8 all (omega (arith, count)) in
    let are = blocks_are (8 + n) (n + 4294967296) in
    let firsts = All-take IsBlock 8 all are in
    let seeds = seeds_are first eight firsts in
    let id : length key.id ≡ 16 =
    id_long (block_at 0 first) (All-get_or IsBlock first 0 [] (omega (arith, eight)) firsts).len in
    let plain = six_blocks 1 first in
    let opens = made_key master first key eight firsts refl (material_long plain (block_at 7 first) seeds) in
    let keys = ring (key ∷ []) master in
    ap (λ (rs : List Row). (summed keys rs db 1 n (drop 8 all) no_sums).equal) (rules_are key.id id)
    ∙ all_equal keys key.id plain id (ap reasoned opens) db short bytes 1 n (drop 8 all) no_sums
    (All-drop IsBlock 8 all are)
    ∙ omega (arith, length-drop 8 all, count)
