-- What is told of each database, where the infos of one are put; a command whose info is asked for.
use Rattle.std.proofs.Common.{◌≡◌, ◌∙◌, ℕ, Bool, true, false, not, ◌&&◌, cond, List, [], Option, Some, Ok, Err, Vec}
use Rattle.std.proofs.Common.{Global, Result, is_eq, nat_cmp, refl, sym, ap, subst}
use Rattle.std.specs.Prelude.{bytes_eq, is_none, is_some, unwrap_or}
use Rattle.std.specs.BTreeMap.{UpdatesBy, get_by}
use Rattle.std.specs.Cmp.{eq_by_cmp_equiv}
use Rattle.std.specs.Cmp.Lexicographic.{bytes_decides, slice_cmp, nat_list_cmp_total, nat_list_eq_equiv}
use Rattle.std.proofs.lemmas.Map.Text.{is_eq-slice_cmp}
use Rattle.bson_codec.specs.Borrowed.{At}
use Rattle.bson_tree.specs.Tree.{Items}
use Rattle.bson_tree.proofs.NameNumbers.{other_entries}
use Rattle.command_marker.specs.Commands.{collection_in, passes}
use Rattle.context_machine.specs.States.{Asks}
use Rattle.context_machine.specs.declared.begun.Begun.TheVariants as begins
use Rattle.encrypt_schema.specs.Commands.Visits.{Refusal}
use Rattle.encrypt_schema.specs.Language.Collection.{Collection, collection_of}
use Rattle.encrypt_schema.specs.Language.Putting.{forgotten, put_info}
use Rattle.fle_client.specs.CommandSets.{BeginsBy, target_by}
use Rattle.fle_client.specs.Filling.{PutsInfo, SameInfos, UnputIs}
use Rattle.fle_client.specs.Told.{OthersStay, Told, asks_info, is_untold, told_of}
use Rattle.fle_client.specs.declared.commands.CommandSet.{CommandSet}
use Rattle.fle_client.specs.declared.filling.InfoUnput.{InfoUnput}
use Rattle.fle_client.specs.declared.filling.InfoUnput.TheVariants as unput
use Rattle.fle_client.specs.declared.rules.Rules.TheVariants as kinds

-- ---- the infos of one database

-- those of one database are put, and all others stay
abbrev Updates : List ℕ → Told → Told → Option (List Collection) → Type 0
Updates db m n w = UpdatesBy (λ x y. slice_cmp nat_cmp x.items y.items) (λ k. slice_cmp nat_cmp db k.items) m n w

-- none where nothing was told
abbrev or_none : Option (List Collection) → List Collection
or_none infos = unwrap_or infos []

apart : (bs cs ks : List ℕ) → bytes_eq bs cs ≡ false → is_eq (slice_cmp nat_cmp bs ks) ≡ true
    → is_eq (slice_cmp nat_cmp cs ks) ≡ false
apart bs cs ks n y =
    is_eq-slice_cmp cs ks
    ∙ (nat_list_eq_equiv.symm cs ks
    ∙ (sym (nat_list_eq_equiv.congr bs ks cs (sym (is_eq-slice_cmp bs ks) ∙ y)) ∙ n))

pub others_stay : (db : List ℕ) (m n : Told) (w : Option (List Collection)) → Updates db m n w → OthersStay db m n
others_stay db m n w updates other e =
    ap or_none
    (other_entries _ _ _ _ updates.3 _
    (λ x y. (eq_by_cmp_equiv nat_list_cmp_total).congr other x.items y.items)
    (λ k. apart db other k.items e))

-- the same of a name of its own bytes
pub others_of_name : (db : List ℕ) (name : Vec ℕ Global) (m n : Told) (w : Option (List Collection))
    → name.items ≡ db → Updates name.items m n w → OthersStay db m n
others_of_name db name m n w is updates =
    subst (λ (bs : List ℕ). OthersStay bs m n) is (others_stay name.items m n w updates)

forgets_by : (db name : List ℕ) (m n : Told) (old new : List Collection)
    → Some old ≡ get_by (λ k. slice_cmp nat_cmp db k.items) m → new ≡ forgotten name old → Updates db m n (Some new)
    → (other : List ℕ) (b : Bool) → bytes_eq db other ≡ b
    → told_of n other ≡ cond b (forgotten name (told_of m other)) (told_of m other)
forgets_by db name m n old new there is updates other true e =
    subst (λ (bs : List ℕ). told_of n bs ≡ forgotten name (told_of m bs)) ((bytes_decides db other).0 e)
    (ap or_none updates.1 ∙ (is ∙ ap (λ (o : Option (List Collection)). forgotten name (or_none o)) there))
forgets_by db name m n old new there is updates other false e = others_stay db m n (Some new) updates other e

-- an info is forgotten in one database
pub forgets_one : (db name : List ℕ) (m n : Told) (old new : List Collection)
    → Some old ≡ get_by (λ k. slice_cmp nat_cmp db k.items) m → new ≡ forgotten name old → Updates db m n (Some new)
    → (other : List ℕ)
    → told_of n other ≡ cond (bytes_eq db other) (forgotten name (told_of m other)) (told_of m other)
forgets_one db name m n old new there is updates other =
    forgets_by db name m n old new there is updates other (bytes_eq db other) refl

-- ---- an info that is put

stays_by : (m n : Told) (db : List ℕ) → told_of n db ≡ told_of m db → OthersStay db m n → (other : List ℕ) (b : Bool)
    → bytes_eq db other ≡ b → told_of n other ≡ told_of m other
stays_by m n db same others other true e =
    subst (λ (bs : List ℕ). told_of n bs ≡ told_of m bs) ((bytes_decides db other).0 e) same
stays_by m n db same others other false e = others other e

-- where the infos of one database stay, all do
all_stay : (m n : Told) (db : List ℕ) → told_of n db ≡ told_of m db → OthersStay db m n
    → SameInfos (kinds.Told m) (kinds.Told n)
all_stay m n db same others = record {
  own = refl;
  infos = λ other. stays_by m n db same others other (bytes_eq db other) refl;
}

pub told_put : (m n : Told) (db : List ℕ) (info : Items) (r : Result Unit InfoUnput)
    → UnputIs (told_of m db) (told_of n db) (put_info (told_of m db) info) r → OthersStay db m n
    → PutsInfo (kinds.Told m) (kinds.Told n) db info r
told_put m n db info (Ok u) put others = record {
  there = refl;
  own = refl;
  put = put;
  others = others;
}
told_put m n db info (Err unput.WrongDb) put others = absurd put
told_put m n db info (Err (unput.Bad kind)) put others = (refl, put.0, all_stay m n db put.1 others)
told_put m n db info (Err unput.Memory) put others = all_stay m n db put others

-- ---- a command

asks_by : (set : CommandSet) (db : List ℕ) (d : At) (asks : Asks) → d.start ≡ 0
    → BeginsBy set (record { db = db; command = d }) (Ok (begins.Ask asks)) → asks_info set db d.tree ≡ true
asks_by set db d asks whole begun =
    ap (λ (o : Option Refusal). is_none o && not (passes d.tree))
    (ap (λ (n : ℕ). target_by set db n d.tree) (sym whole) ∙ begun.1)
    ∙ ap not begun.2

-- one whose info is asked for is untold where its info isn't found
pub asked_untold : (set : CommandSet) (infos : List Collection) (db : List ℕ) (d : At) (asks : Asks) (name : List ℕ)
    (found : Option Collection) (none : Bool) → d.start ≡ 0
    → BeginsBy set (record { db = db; command = d }) (Ok (begins.Ask asks)) → name ≡ collection_in asks.command.tree
    → found ≡ collection_of infos name → is_some found ≡ not none → none ≡ is_untold set infos db d.tree
asked_untold set infos db d asks name found none whole begun same found_there is =
    let lacks : is_none (collection_of infos (collection_in d.tree)) ≡ none =
    ap (λ (n : List ℕ). is_none (collection_of infos n))
    (sym (same ∙ ap (λ (a : Asks). collection_in a.command.tree) begun.0))
    ∙ (ap is_none (sym found_there) ∙ (ap not is ∙ not_twice none)) in
    sym
    (ap (λ (b : Bool). b && is_none (collection_of infos (collection_in d.tree))) (asks_by set db d asks whole begun)
    ∙ lacks)
  where
    not_twice : (b : Bool) → not (not b) ≡ b
    not_twice true = refl
    not_twice false = refl
