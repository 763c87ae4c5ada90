-- No text comes to want of memory.
use Rattle.std.proofs.Common.{◌≡◌, ℕ, ◌+◌, Bool, true, false, cond, Option, Some, None, Result, Err, List, [], ◌++◌}
use Rattle.std.proofs.Common.{length}
use Rattle.std.specs.Str.{is_utf8}
use Rattle.serde_json.specs.Data.{Data, null, boolean, number, string, array, object, Items as Values}
use Rattle.serde_json.specs.Data.{no_items as no_values, item as value_then}
use Rattle.serde_json.specs.Read.{read}
use Rattle.bson_tree.specs.Tree.{Items}
use Rattle.bson_tree.specs.Spelling.{doc_bytes}
use Rattle.ext_json.specs.Infos.{infos_in, json_infos, member_of, member_then, members_of}
use Rattle.ext_json.specs.declared.fault.JsonFault.{JsonFault}
use Rattle.ext_json.specs.declared.fault.JsonFault.TheVariants as faults

then_never : (k : ℕ) (next : Items → Result (List ℕ) JsonFault) (o : Option Items)
    → ((is : Items) → next is ≡ Err faults.Memory → ⊥)
    → member_then (faults.Form k) next o ≡ Err faults.Memory → ⊥
then_never k next None never e = cc
then_never k next (Some is) never e = never is e

members_never : (k : ℕ) (bytes : List ℕ) (ds : Values) → members_of k bytes ds ≡ Err faults.Memory → ⊥
members_never k bytes no_values e = cc
members_never k bytes (value_then d ds) e =
    then_never k (λ is. members_of (k + 1) (bytes ++ doc_bytes is) ds) (member_of (length bytes) d)
    (λ is. members_never (k + 1) (bytes ++ doc_bytes is) ds) e

infos_never : (o : Option Data) → infos_in o ≡ Err faults.Memory → ⊥
infos_never None e = cc
infos_never (Some null) e = cc
infos_never (Some (boolean b)) e = cc
infos_never (Some (number n)) e = cc
infos_never (Some (string s)) e = cc
infos_never (Some (array ds)) e = members_never 1 [] ds e
infos_never (Some (object ms)) e = cc

text_never : (b : Bool) (o : Option Data) → cond b (infos_in o) (Err faults.Syntax) ≡ Err faults.Memory → ⊥
text_never true o e = infos_never o e
text_never false o e = cc

pub json_never : (text : List ℕ) → json_infos text ≡ Err faults.Memory → ⊥
unfolding json_infos
json_never text e = text_never (is_utf8 text) (read text) e
