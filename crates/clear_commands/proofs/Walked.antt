-- The fields of a command that are left to be judged, and the whole of it.
use Rattle.std.proofs.Common.{◌≡◌, ◌∙◌, ℕ, ◌+◌, true, List, ◌∷◌, [], ◌++◌, length, Option, Some, None, sym, ap}
use Rattle.std.specs.Prelude.{is_some}
use Rattle.bson_tree.specs.Tree.{Tree, Items, item}
use Rattle.bson_tree.specs.Spelling.{value_bytes}
use Rattle.bson_codec.specs.Borrowed.{At, Elem}
use Rattle.bson_codec.specs.Elements.{TakesElement}
use Rattle.encrypt_schema.specs.Commands.Visits.{Refusal, or_else}
use Rattle.clear_commands.specs.declared.command.ClearCommand.{ClearCommand}
use Rattle.clear_commands.specs.ClearFields.{clear_kind}
use Rattle.clear_commands.specs.ClearNames.{clear_command, is_clear}
use Rattle.clear_commands.specs.ClearVerdicts.{clear_verdict, field_refusal, fields_refusal, verdict_by}

-- what is refused first: the next field, or one behind it
next_refusal : (command : ClearCommand) (own : List ℕ) (elder : List (List ℕ)) (here rest : At) (e : Elem)
    → TakesElement here (Some e) rest
    → fields_refusal command own elder here.start here.tree
    ≡ or_else (field_refusal (clear_kind command own e.name) elder e.start e.name e.tree)
    (fields_refusal command own (elder ++ e.name ∷ []) rest.start rest.tree)
next_refusal command own elder here rest e taken =
    let p : here.start + (2 + length e.name) ≡ e.start = sym taken.1 in
    let q : e.start + length (value_bytes e.tree) ≡ rest.start = sym taken.2 in
    let more : List (List ℕ) = elder ++ e.name ∷ [] in
    ap (fields_refusal command own elder here.start) taken.0
    ∙ ap (λ (n : ℕ). or_else (field_refusal (clear_kind command own e.name) elder n e.name e.tree)
    (fields_refusal command own more (n + length (value_bytes e.tree)) rest.tree)) p
    ∙ ap (λ (n : ℕ). or_else (field_refusal (clear_kind command own e.name) elder e.start e.name e.tree)
    (fields_refusal command own more n rest.tree)) q

-- the next field is not refused
pub left_refusal : (command : ClearCommand) (own : List ℕ) (elder : List (List ℕ)) (here rest : At) (e : Elem)
    → TakesElement here (Some e) rest
    → field_refusal (clear_kind command own e.name) elder e.start e.name e.tree ≡ None
    → fields_refusal command own (elder ++ e.name ∷ []) rest.start rest.tree
    ≡ fields_refusal command own elder here.start here.tree
left_refusal command own elder here rest e taken none =
    let behind = fields_refusal command own (elder ++ e.name ∷ []) rest.start rest.tree in
    sym (next_refusal command own elder here rest e taken ∙ ap (λ (r : Option Refusal). or_else r behind) none)

-- a command whose first field has the name of a clear one
clear_by : (at : ℕ) (c : Items) (name : List ℕ) (t : Tree) (is : Items) (command : ClearCommand)
    → c ≡ item name t is → clear_command name ≡ Some command
    → (is_clear c ≡ true) × (clear_verdict at c ≡ fields_refusal command name [] (at + 4) c)
unfolding clear_verdict
clear_by at c name t is command e named = rw e (
  ap is_some named,
  ap (λ (o : Option ClearCommand). verdict_by o name at (item name t is)) named,
)

-- what its fields are refused for is the verdict on it
pub clear_told : (c here rest : At) (first : Elem) (own : List ℕ) (command : ClearCommand) (refusal : Option Refusal)
    → here ≡ record { tree = c.tree; start = c.start + 4 } → TakesElement here (Some first) rest → own ≡ first.name
    → Some command ≡ clear_command own → fields_refusal command own [] (c.start + 4) c.tree ≡ refusal
    → (is_clear c.tree ≡ true) × (clear_verdict c.start c.tree ≡ refusal)
clear_told c here rest first own command refusal items taken name named told =
    let whole = sym (ap (λ (a : At). a.tree) items) ∙ taken.0 in
    let known = sym (named ∙ ap clear_command name) in
    let by = clear_by c.start c.tree first.name first.tree rest.tree command whole known in
    (by.0, by.1 ∙ ap (λ (n : List ℕ). fields_refusal command n [] (c.start + 4) c.tree) (sym name) ∙ told)
