-- A document that is looked into is at a path above protected fields, for which the cursor stands.
use Rattle.std.proofs.Common.{◌≡◌, Bool, true, false, cond, List, ℕ, [], ◌∷◌, ◌++◌, sym, subst, ◌∙◌}
use Rattle.std.proofs.Common.{Result, Ok, Err, IfOk}
use Rattle.encrypt_schema.specs.declared.command.reason.Reason.{Reason}
use Rattle.encrypt_schema.specs.declared.command.walking.Next.{Next}
use Rattle.encrypt_schema.specs.declared.command.walking.Next.TheVariants as nexts
use Rattle.encrypt_schema.specs.declared.path.cursor.Cursor.{Cursor}
use Rattle.encrypt_schema.specs.Commands.Stations.{is_document}
use Rattle.encrypt_schema.specs.Commands.Visits.{entry}
use Rattle.encrypt_schema.specs.Language.Row.{Row}
use Rattle.encrypt_schema.specs.Views.Cursors.{Stands, StandsForPath, path_of}
use Rattle.encrypt_schema.specs.Views.Walking.{StandsNext}
use Rattle.encrypt_schema.proofs.Paths.Steps.{above_stands}
use Rattle.update_rules.specs.declared.place.UpdatePlace.{UpdatePlace}
use Rattle.update_rules.specs.declared.place.UpdatePlace.TheVariants as places
use Rattle.update_rules.specs.UpdatePlaces.{UpdateStands}
use Rattle.update_rules.proofs.documents.judge_document.Goals as goal

above_next : (rows : List Row) (at : Cursor) (document : Bool) (r : Result (Next UpdatePlace) Reason)
    → StandsForPath rows at
    → IfOk r (λ next. next ≡ cond document (nexts.Inside (places.Document at)) nexts.Passed)
    → IfOk r (StandsNext UpdateStands rows)
above_next rows at true (Ok next) s e = subst (StandsNext UpdateStands rows) (sym e) s
above_next rows at false (Ok next) s e = subst (StandsNext UpdateStands rows) (sym e) tt
above_next rows at document (Err reason) s e = tt

pub returns-in-Above-clause-stands : goal.returns-in-Above-clause-stands
returns-in-Above-clause-stands c =
    let rows = c.args.rows.now in
    let next = c.step-next.result in
    let path : List (List ℕ) = path_of rows c.args.at ++ c.name.result.now ∷ [] in
    let stands : Stands rows next path = c.step-next.ensures.steps (path_of rows c.args.at) c.requires.cursor in
    above_next rows next (is_document (entry c.args.item.now.name c.args.item.now.tree)) c.judge_above.result
    (above_stands rows next path stands (sym (c.class.ensures.class path stands) ∙ c.in-Above.is))
    c.judge_above.ensures.next
