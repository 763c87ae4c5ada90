-- The number of a key by its id and by its names, in a list that grows.
use Rattle.std.proofs.Common.{◌≡◌, ◌∙◌, ℕ, zero, suc, ◌+◌, Bool, true, false, cond, not, ◌||◌, ◌&&◌, List, [], ◌∷◌}
use Rattle.std.proofs.Common.{◌++◌, length, Option, Some, None, Result, Ok, Err, bytes_eq, refl, sym, ap, subst}
use Rattle.std.proofs.Common.{arith, length-append}
use Rattle.std.proofs.Common.{get_or}
use Rattle.std.proofs.lemmas.Bool.{false≢true}
use Rattle.std.proofs.lemmas.List.{append_assoc}
use Rattle.std.specs.Cmp.Lexicographic.{bytes_decides}
use Rattle.std.specs.Prelude.{slice_get, is_some}
use Rattle.bson_tree.specs.NameNumbers.{or_number}
use Rattle.bson_tree.proofs.NameNumbers.{or_number_if}
use Rattle.data_key.specs.declared.key_doc.KeyDoc.{KeyDoc}
use Rattle.key_vault.specs.Keys.{first_key, has_id, has_name, is_among, place_from}
use Rattle.key_vault.specs.Loading.{are_new, is_id_known, is_name_known, judged, kind_by}
use Rattle.key_vault.specs.declared.faults.VaultKind.{VaultKind}
use Rattle.key_vault.specs.declared.faults.VaultKind.TheVariants as kinds
use Rattle.key_vault.specs.declared.numbers.Numbers.{Numbers}
use Rattle.key_vault.specs.Numbers.{AreOf, has_number, number_of}
use Rattle.key_vault.proofs.Maps.{pushed, pushed_of}

pub place_behind : (n : ℕ) (test : KeyDoc → Bool) (ks : List KeyDoc) (k : KeyDoc)
    → place_from n test (ks ++ k ∷ []) ≡ or_number (place_from n test ks) (test k) (n + length ks)
place_behind n test [] k = let e : n ≡ n + length {A = KeyDoc} [] =
    omega arith in ap (λ (m : ℕ). cond (test k) (Some m) None) e
place_behind n test (d ∷ ks) k =
    let e : n + 1 + length ks ≡ n + length (d ∷ ks) = omega arith in
    ap (λ (o : Option ℕ). cond (test d) (Some n) o) (place_behind (n + 1) test ks k)
    ∙ or_number_if (test d) n (place_from (n + 1) test ks) (test k) (n + 1 + length ks) (n + length (d ∷ ks)) e

none_first : (b : Bool) (d : KeyDoc) (n : ℕ) (o : Option KeyDoc) (p : Option ℕ) → is_some (cond b (Some d) o) ≡ false
    → (is_some o ≡ false → p ≡ None) → cond b (Some n) p ≡ None
none_first true d n o p e h = absurd (false≢true (sym e))
none_first false d n o p e h = h e

-- where no key passes, none has a number
no_place : (n : ℕ) (test : KeyDoc → Bool) (ks : List KeyDoc) → is_some (first_key test ks) ≡ false
    → place_from n test ks ≡ None
no_place n test [] e = refl
no_place n test (d ∷ ks) e = none_first (test d) d n (first_key test ks) (place_from (n + 1) test ks) e
    (no_place (n + 1) test ks)

at_test : (b : Bool) (o : Option ℕ) (n : ℕ) → (b ≡ true → o ≡ None) → cond b (Some n) o ≡ or_number o b n
at_test true o n h = ap (λ (x : Option ℕ). cond true (Some n) x) (h refl)
    ∙ sym (ap (λ (x : Option ℕ). or_number x true n) (h refl))
at_test false None n h = refl
at_test false (Some m) n h = refl

-- the numbers of keys that pass a test, with one more key of which it isn't told before
added : (test : KeyDoc → Bool) (ks : List KeyDoc) (k : KeyDoc) (number : ℕ) (old : Option ℕ)
    → old ≡ place_from 0 test ks
    → (test k ≡ true → place_from 0 test ks ≡ None) → number ≡ length ks
    → cond (test k) (Some number) old ≡ place_from 0 test (ks ++ k ∷ [])
added test ks k number old known free count =
    let size : number ≡ 0 + length ks = omega (arith, count) in
    ap (λ (o : Option ℕ). cond (test k) (Some number) o) known
    ∙ at_test (test k) (place_from 0 test ks) number free
    ∙ ap (or_number (place_from 0 test ks) (test k)) size
    ∙ sym (place_behind 0 test ks k)

-- the numbers by id, with one more key of a new id
pub id_added : (ks : List KeyDoc) (k : KeyDoc) (all : List KeyDoc) (old new : Numbers) (number : ℕ)
    → ((id : List ℕ) → number_of all new id ≡ cond (bytes_eq k.id id) (Some number) (number_of all old id))
    → ((id : List ℕ) → number_of all old id ≡ place_from 0 (has_id id) ks) → is_id_known ks k.id ≡ false
    → number ≡ length ks
    → (id : List ℕ) → number_of all new id ≡ place_from 0 (has_id id) (ks ++ k ∷ [])
id_added ks k all old new number put known free count id =
    put id ∙ added (has_id id) ks k number (number_of all old id) (known id)
    (λ same. subst (λ q. place_from 0 (has_id q) ks ≡ None) ((bytes_decides k.id id).0 same)
    (no_place 0 (has_id k.id) ks free)) count

-- names that are new are known of no key before
not_known : (a b c : Bool) → (not (a || b) && c) ≡ true → (b ≡ false) × (c ≡ true)
not_known true b c e = absurd (false≢true e)
not_known false true c e = absurd (false≢true e)
not_known false false c e = (refl, e)

among_first : (same : Bool) (rest : Bool) (P : Type 0) → (same || rest) ≡ true → (same ≡ true → P) → (rest ≡ true → P)
    → P
among_first true rest P e h t = h refl
among_first false rest P e h t = t e

pub new_unknown : (known : List ℕ → Bool) (before names : List (List ℕ)) → are_new known before names ≡ true
    → (name : List ℕ) → is_among name names ≡ true
    → known name ≡ false
new_unknown known before [] new name there = absurd (false≢true there)
new_unknown known before (x ∷ names) new name there =
    let parts = not_known (is_among x before) (known x) (are_new known (x ∷ before) names) new in
    among_first (bytes_eq name x) (is_among name names) (known name ≡ false) there
    (λ same. subst (λ q. known q ≡ false) (sym ((bytes_decides name x).0 same)) parts.0)
    (new_unknown known (x ∷ before) names parts.1 name)

-- the numbers by name, with one more key of new names
pub names_added : (ks : List KeyDoc) (k : KeyDoc) (all : List KeyDoc) (old new : Numbers) (number : ℕ)
    → ((name : List ℕ) → number_of all new name ≡ cond (is_among name k.names) (Some number) (number_of all old name))
    → ((name : List ℕ) → number_of all old name ≡ place_from 0 (has_name name) ks)
    → are_new (is_name_known ks) [] k.names ≡ true → number ≡ length ks
    → (name : List ℕ) → number_of all new name ≡ place_from 0 (has_name name) (ks ++ k ∷ [])
names_added ks k all old new number put known free count name =
    put name ∙ added (has_name name) ks k number (number_of all old name) (known name)
    (λ there. no_place 0 (has_name name) ks (new_unknown (is_name_known ks) [] k.names free name there)) count

-- a key has a number where there is one
some_by : (b : Bool) (k : KeyDoc) (n : ℕ) (o : Option KeyDoc) (p : Option ℕ) → is_some p ≡ is_some o
    → is_some (cond b (Some n) p) ≡ is_some (cond b (Some k) o)
some_by true k n o p e = refl
some_by false k n o p e = e

pub is_placed : (n : ℕ) (test : KeyDoc → Bool) (ks : List KeyDoc)
    → is_some (place_from n test ks) ≡ is_some (first_key test ks)
is_placed n test [] = refl
is_placed n test (k ∷ ks) =
    some_by (test k) k n (first_key test ks) (place_from (n + 1) test ks) (is_placed (n + 1) test ks)

new_alike : (f g : List ℕ → Bool) → ((name : List ℕ) → f name ≡ g name) → (before names : List (List ℕ))
    → are_new f before names ≡ are_new g before names
new_alike f g same before [] = refl
new_alike f g same before (name ∷ names) =
    ap (λ (b : Bool). not (is_among name before || b) && are_new f (name ∷ before) names) (same name)
    ∙ ap (λ (b : Bool). not (is_among name before || g name) && b) (new_alike f g same (name ∷ before) names)

-- what is wrong with a key by the numbers is what is wrong with it by the keys
pub kind_alike : (ks : List KeyDoc) (k : KeyDoc) (all : List KeyDoc) (ids names : Numbers)
    → ((id : List ℕ) → number_of all ids id ≡ place_from 0 (has_id id) ks)
    → ((name : List ℕ) → number_of all names name ≡ place_from 0 (has_name name) ks)
    → kind_by (has_number all ids k.id) (are_new (has_number all names) [] k.names)
    ≡ kind_by (is_id_known ks k.id) (are_new (is_name_known ks) [] k.names)
kind_alike ks k all ids names known_ids known_names =
    ap (λ (b : Bool). kind_by b (are_new (has_number all names) [] k.names))
    (ap is_some (known_ids k.id) ∙ is_placed 0 (has_id k.id) ks)
    ∙ ap (kind_by (is_id_known ks k.id)) (new_alike (has_number all names) (is_name_known ks)
    (λ name. ap is_some (known_names name) ∙ is_placed 0 (has_name name) ks) [] k.names)

-- the last key of all
pub last_is : (ks : List KeyDoc) (k x : KeyDoc) (n : ℕ) → n ≡ length ks → x ≡ get_or (ks ++ k ∷ []) n x → x ≡ k
last_is [] k x zero e is = is
last_is [] k x (suc n) e is = absurd (omega (arith, e))
last_is (d ∷ ks) k x zero e is = absurd (omega (arith, e))
last_is (d ∷ ks) k x (suc n) e is = last_is ks k x n (omega (arith, e)) is

-- the numbers by a test of keys, where one more key is there that has none yet
still : (ks : List KeyDoc) (k : KeyDoc) (all : List KeyDoc) (n : Numbers) (test : List ℕ → KeyDoc → Bool)
    → all ≡ ks ++ k ∷ [] → AreOf ks n → ((text : List ℕ) → number_of ks n text ≡ place_from 0 (test text) ks)
    → (text : List ℕ) → number_of all n text ≡ place_from 0 (test text) ks
still ks k all n test is are known text =
    ap (λ (ds : List KeyDoc). number_of ds n text) is ∙ (pushed ks k n are text ∙ known text)

-- what the numbers tell of a key is what the keys before tell of it
pub kind_told : (ks : List KeyDoc) (k x : KeyDoc) (all : List KeyDoc) (ids names : Numbers) (kind : Option VaultKind)
    → all ≡ ks ++ k ∷ [] → x ≡ k → AreOf ks ids → AreOf ks names
    → ((id : List ℕ) → number_of ks ids id ≡ place_from 0 (has_id id) ks)
    → ((name : List ℕ) → number_of ks names name ≡ place_from 0 (has_name name) ks)
    → kind ≡ kind_by (has_number all ids x.id) (are_new (has_number all names) [] x.names)
    → kind ≡ kind_by (is_id_known ks k.id) (are_new (is_name_known ks) [] k.names)
kind_told ks k x all ids names kind is same of_ids of_names known_ids known_names told =
    told
    ∙ (ap (λ (d : KeyDoc). kind_by (has_number all ids d.id) (are_new (has_number all names) [] d.names)) same
    ∙ kind_alike ks k all ids names (still ks k all ids has_id is of_ids known_ids)
    (still ks k all names has_name is of_names known_names))

-- the numbers of ids after a key was numbered
pub ids_told : (ks : List KeyDoc) (k x : KeyDoc) (all : List KeyDoc) (old new : Numbers) (number : ℕ)
    → all ≡ ks ++ k ∷ [] → x ≡ k → AreOf ks old
    → ((id : List ℕ) → number_of ks old id ≡ place_from 0 (has_id id) ks) → is_id_known ks k.id ≡ false
    → number ≡ length ks
    → ((id : List ℕ) → number_of all new id ≡ cond (bytes_eq x.id id) (Some number) (number_of all old id))
    → (id : List ℕ) → number_of (ks ++ k ∷ []) new id ≡ place_from 0 (has_id id) (ks ++ k ∷ [])
ids_told ks k x all old new number is same are known free count put id =
    ap (λ (ds : List KeyDoc). number_of ds new id) (sym is)
    ∙ id_added ks k all old new number
    (λ other. put other
    ∙ ap (λ (d : KeyDoc). cond (bytes_eq d.id other) (Some number) (number_of all old other)) same)
    (still ks k all old has_id is are known) free count id

-- and those of names
pub names_told : (ks : List KeyDoc) (k x : KeyDoc) (all : List KeyDoc) (old new : Numbers) (number : ℕ)
    → all ≡ ks ++ k ∷ [] → x ≡ k → AreOf ks old
    → ((name : List ℕ) → number_of ks old name ≡ place_from 0 (has_name name) ks)
    → are_new (is_name_known ks) [] k.names ≡ true
    → number ≡ length ks
    → ((name : List ℕ) → number_of all new name ≡ cond (is_among name x.names) (Some number) (number_of all old name))
    → (name : List ℕ) → number_of (ks ++ k ∷ []) new name ≡ place_from 0 (has_name name) (ks ++ k ∷ [])
names_told ks k x all old new number is same are known free count put name =
    ap (λ (ds : List KeyDoc). number_of ds new name) (sym is)
    ∙ names_added ks k all old new number
    (λ other. put other
    ∙ ap (λ (d : KeyDoc). cond (is_among other d.names) (Some number) (number_of all old other)) same)
    (still ks k all old has_name is are known) free count name

-- their places are of the keys with the new one
pub of_told : (ks : List KeyDoc) (k : KeyDoc) (all : List KeyDoc) (old new : Numbers) → all ≡ ks ++ k ∷ []
    → AreOf ks old → (AreOf all old → AreOf all new) → AreOf (ks ++ k ∷ []) new
of_told ks k all old new is are more =
    subst (λ (ds : List KeyDoc). AreOf ds new) is
    (more (subst (λ (ds : List KeyDoc). AreOf ds old) (sym is) (pushed_of ks k old are)))

-- nothing is wrong with a key whose id and names are new
pub is_new : (id_known names_new : Bool) → None ≡ kind_by id_known names_new
    → (id_known ≡ false) × (names_new ≡ true)
is_new true names_new e = absurd cc
is_new false true e = (refl, refl)
is_new false false e = absurd cc

-- the answer of this fault
abbrev err_of : Option VaultKind → Result KeyDoc VaultKind
err_of None = Err kinds.IdTwice
err_of (Some kind) = Err kind

accepted_by : (id_known names_new : Bool) (k : KeyDoc) → None ≡ kind_by id_known names_new
    → cond id_known (Err kinds.IdTwice) (cond names_new (Ok k) (Err kinds.NameTwice)) ≡ Ok k
accepted_by true names_new k e = absurd cc
accepted_by false true k e = refl
accepted_by false false k e = absurd cc

refused_by : (id_known names_new : Bool) (k : KeyDoc) (kind : VaultKind) → Some kind ≡ kind_by id_known names_new
    → cond id_known (Err kinds.IdTwice) (cond names_new (Ok k) (Err kinds.NameTwice)) ≡ Err kind
refused_by true names_new k kind e = ap (λ (o : Option VaultKind). err_of o) (sym e)
refused_by false true k kind e = absurd cc
refused_by false false k kind e = ap (λ (o : Option VaultKind). err_of o) (sym e)

-- so a key is accepted
pub accepted : (ks : List KeyDoc) (k : KeyDoc)
    → None ≡ kind_by (is_id_known ks k.id) (are_new (is_name_known ks) [] k.names)
    → judged ks (Ok k) ≡ Ok k
accepted ks k = accepted_by (is_id_known ks k.id) (are_new (is_name_known ks) [] k.names) k

-- or refused
pub refused : (ks : List KeyDoc) (k : KeyDoc) (kind : VaultKind)
    → Some kind ≡ kind_by (is_id_known ks k.id) (are_new (is_name_known ks) [] k.names)
    → judged ks (Ok k) ≡ Err kind
refused ks k kind = refused_by (is_id_known ks k.id) (are_new (is_name_known ks) [] k.names) k kind

seam : (front : List KeyDoc) (c : KeyDoc) (cs : List KeyDoc) (n : ℕ) → n ≡ length front
    → slice_get (front ++ c ∷ cs) n ≡ Some c
seam [] c cs zero e = refl
seam [] c cs (suc n) e = absurd (omega (arith, e))
seam (d ∷ front) c cs zero e = absurd (omega (arith, e))
seam (d ∷ front) c cs (suc n) e = seam front c cs n (omega (arith, e))

-- the number of a name is that of its first key
abbrev Found : List KeyDoc → Option KeyDoc → Option ℕ → Type 0
Found all first None = first ≡ None
Found all first (Some n) = slice_get all n ≡ first

found_by : (b : Bool) (all : List KeyDoc) (d : KeyDoc) (n : ℕ) (first : Option KeyDoc) (number : Option ℕ)
    → slice_get all n ≡ Some d → Found all first number → Found all (cond b (Some d) first) (cond b (Some n) number)
found_by true all d n first number here others = here
found_by false all d n first number here others = others

found_behind : (front cs : List KeyDoc) (test : KeyDoc → Bool)
    → Found (front ++ cs) (first_key test cs) (place_from (length front) test cs)
found_behind front [] test = refl
found_behind front (d ∷ cs) test =
    let all : (front ++ d ∷ []) ++ cs ≡ front ++ d ∷ cs = append_assoc front (d ∷ []) cs in
    let next : length (front ++ d ∷ []) ≡ length front + 1 = omega (arith, length-append front (d ∷ [])) in
    let others : Found (front ++ d ∷ cs) (first_key test cs) (place_from (length front + 1) test cs)
    = subst (λ (ds : List KeyDoc). Found ds (first_key test cs) (place_from (length front + 1) test cs)) all
    (subst (λ (n : ℕ). Found ((front ++ d ∷ []) ++ cs) (first_key test cs) (place_from n test cs)) next
    (found_behind (front ++ d ∷ []) cs test)) in
    found_by (test d) (front ++ d ∷ cs) d (length front) (first_key test cs) (place_from (length front + 1) test cs)
    (seam front d cs (length front) refl) others

-- the key of the number that a name has
pub found_at : (cs : List KeyDoc) (test : KeyDoc → Bool) (n : ℕ) → place_from 0 test cs ≡ Some n
    → slice_get cs n ≡ first_key test cs
found_at cs test n e = subst (Found cs (first_key test cs)) e (found_behind [] cs test)

-- no key has a name without a number
pub found_none : (cs : List KeyDoc) (test : KeyDoc → Bool) → place_from 0 test cs ≡ None → first_key test cs ≡ None
found_none cs test e = subst (Found cs (first_key test cs)) e (found_behind [] cs test)
