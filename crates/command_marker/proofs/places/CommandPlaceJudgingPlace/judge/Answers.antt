-- Each place is judged by the function of its station.
use Rattle.std.proofs.Common.{◌≡◌, Ok, Err, None, Some, Result, List, ℕ, IfOk, IfErr, sym, subst, take}
use Rattle.encrypt_schema.specs.declared.command.reason.Reason.{Reason}
use Rattle.encrypt_schema.specs.declared.command.walking.Next.{Next}
use Rattle.encrypt_schema.specs.Language.Row.{Row}
use Rattle.encrypt_schema.specs.Commands.Offences.{ruled_offence}
use Rattle.encrypt_schema.specs.Commands.Stations.{Entry, station}
use Rattle.encrypt_schema.specs.Commands.Visits.{entry, names_of}
use Rattle.encrypt_schema.specs.Views.Walking.{StandsNext, station_next}
use Rattle.encrypt_schema.specs.declared.command.walking.Next.TheVariants as nexts
use Rattle.command_marker.specs.declared.places.CommandPlace.{CommandPlace}
use Rattle.command_marker.specs.Places.{CommandStands, Judges, command_station}
use Rattle.command_marker.proofs.Judged.{bounds_judged, index_keys_judged, keys_judged, own_judged}
use Rattle.command_marker.proofs.places.CommandPlaceJudgingPlace.judge.Goals as goal

-- what the judge of a place answers, in four clauses
record Clauses (place : CommandPlace) (rows : List Row) (elder : List (List ℕ)) (e : Entry)
    (result : Result (Next CommandPlace) Reason) : Type 0 where
  station : IfOk result (λ next. station_next command_station rows next ≡ station rows (command_station place rows) e)
  stands : IfOk result (StandsNext CommandStands rows)
  clean : IfOk result (λ _. None ≡ ruled_offence rows (command_station place rows) elder e)
  refused : IfErr result (λ reason. Some reason ≡ ruled_offence rows (command_station place rows) elder e)

clauses : (place : CommandPlace) (rows : List Row) (elder : List (List ℕ)) (e : Entry)
    (result : Result (Next CommandPlace) Reason)
    → Judges rows (command_station place rows) elder e result → Clauses place rows elder e result
clauses place rows elder e (Ok next) h = record { station = h.0; stands = h.1; clean = h.2; refused = tt }
clauses place rows elder e (Err reason) h = record { station = tt; stands = tt; clean = tt; refused = h }

judged_at : (self place : CommandPlace) (rows : List Row) (elder : List (List ℕ)) (e : Entry)
    (result : Result (Next CommandPlace) Reason) → self ≡ place
    → Judges rows (command_station place rows) elder e result → Clauses self rows elder e result
judged_at self place rows elder e result is h =
    clauses self rows elder e result (subst (λ (p : CommandPlace). Judges rows (command_station p rows) elder e result)
    (sym is) h)

pub returns-in-Command : goal.returns-in-Command
returns-in-Command c =
    let rows = c.args.rows.now in
    let elder = take c.args.k (names_of c.args.document.now.tree) in
    let e = entry c.args.item.now.name c.args.item.now.tree in
    let told = judged_at c.args.self _ rows elder e c.judge_command.result c.in-Command.is
    (c.judge_command.ensures.judged rows) in
    record { station = told.station; stands = told.stands; clean = told.clean; refused = told.refused }

pub returns-in-Inserts : goal.returns-in-Inserts
returns-in-Inserts c =
    let rows = c.args.rows.now in
    let elder = take c.args.k (names_of c.args.document.now.tree) in
    let e = entry c.args.item.now.name c.args.item.now.tree in
    let told = judged_at c.args.self _ rows elder e c.judge_inserts.result c.in-Inserts.is
    (c.judge_inserts.ensures.judged elder) in
    record { station = told.station; stands = told.stands; clean = told.clean; refused = told.refused }

pub returns-in-Updates : goal.returns-in-Updates
returns-in-Updates c =
    let rows = c.args.rows.now in
    let elder = take c.args.k (names_of c.args.document.now.tree) in
    let e = entry c.args.item.now.name c.args.item.now.tree in
    let told = judged_at c.args.self _ rows elder e c.judge_updates.result c.in-Updates.is
    (c.judge_updates.ensures.judged rows elder) in
    record { station = told.station; stands = told.stands; clean = told.clean; refused = told.refused }

pub returns-in-Deletes : goal.returns-in-Deletes
returns-in-Deletes c =
    let rows = c.args.rows.now in
    let elder = take c.args.k (names_of c.args.document.now.tree) in
    let e = entry c.args.item.now.name c.args.item.now.tree in
    let told = judged_at c.args.self _ rows elder e c.judge_deletes.result c.in-Deletes.is
    (c.judge_deletes.ensures.judged rows elder) in
    record { station = told.station; stands = told.stands; clean = told.clean; refused = told.refused }

pub returns-in-UpdateItem : goal.returns-in-UpdateItem
returns-in-UpdateItem c =
    let rows = c.args.rows.now in
    let elder = take c.args.k (names_of c.args.document.now.tree) in
    let e = entry c.args.item.now.name c.args.item.now.tree in
    let told = judged_at c.args.self _ rows elder e c.judge_update_item.result c.in-UpdateItem.is
    (c.judge_update_item.ensures.judged) in
    record { station = told.station; stands = told.stands; clean = told.clean; refused = told.refused }

pub returns-in-DeleteItem : goal.returns-in-DeleteItem
returns-in-DeleteItem c =
    let rows = c.args.rows.now in
    let elder = take c.args.k (names_of c.args.document.now.tree) in
    let e = entry c.args.item.now.name c.args.item.now.tree in
    let told = judged_at c.args.self _ rows elder e c.judge_delete_item.result c.in-DeleteItem.is
    (c.judge_delete_item.ensures.judged rows) in
    record { station = told.station; stands = told.stands; clean = told.clean; refused = told.refused }

pub returns-in-Projection : goal.returns-in-Projection
returns-in-Projection c =
    let rows = c.args.rows.now in
    let elder = take c.args.k (names_of c.args.document.now.tree) in
    let e = entry c.args.item.now.name c.args.item.now.tree in
    let told = judged_at c.args.self _ rows elder e c.judge_projection.result c.in-Projection.is
    (c.judge_projection.ensures.judged rows elder) in
    record { station = told.station; stands = told.stands; clean = told.clean; refused = told.refused }

pub returns-in-Filter : goal.returns-in-Filter
returns-in-Filter c =
    let rows = c.args.rows.now in
    let elder = take c.args.k (names_of c.args.document.now.tree) in
    let e = entry c.args.item.now.name c.args.item.now.tree in
    let told = judged_at c.args.self _ rows elder e c.judge_in_filter.result c.in-Filter.is
    (c.judge_in_filter.ensures.judged) in
    record { station = told.station; stands = told.stands; clean = told.clean; refused = told.refused }

pub returns-in-Update : goal.returns-in-Update
returns-in-Update c =
    let rows = c.args.rows.now in
    let elder = take c.args.k (names_of c.args.document.now.tree) in
    let e = entry c.args.item.now.name c.args.item.now.tree in
    let told = judged_at c.args.self _ rows elder e c.judge_in_update.result c.in-Update.is
    (c.judge_in_update.ensures.judged) in
    record { station = told.station; stands = told.stands; clean = told.clean; refused = told.refused }

pub returns-in-Fields : goal.returns-in-Fields
returns-in-Fields c =
    let rows = c.args.rows.now in
    let elder = take c.args.k (names_of c.args.document.now.tree) in
    let e = entry c.args.item.now.name c.args.item.now.tree in
    let told = judged_at c.args.self _ rows elder e c.judge_listed.result c.in-Fields.is
    (c.judge_listed.ensures.judged) in
    record { station = told.station; stands = told.stands; clean = told.clean; refused = told.refused }

pub returns-in-Chosen : goal.returns-in-Chosen
returns-in-Chosen c =
    let rows = c.args.rows.now in
    let elder = take c.args.k (names_of c.args.document.now.tree) in
    let e = entry c.args.item.now.name c.args.item.now.tree in
    let told = judged_at c.args.self _ rows elder e c.judge_chosen.result c.in-Chosen.is
    (c.judge_chosen.ensures.judged rows elder) in
    record { station = told.station; stands = told.stands; clean = told.clean; refused = told.refused }

pub returns-in-Bounds : goal.returns-in-Bounds
returns-in-Bounds c =
    let rows = c.args.rows.now in
    let elder = take c.args.k (names_of c.args.document.now.tree) in
    let e = entry c.args.item.now.name c.args.item.now.tree in
    let told = judged_at c.args.self _ rows elder e (Ok nexts.Passed) c.in-Bounds.is (bounds_judged rows elder e) in
    record { station = told.station; stands = told.stands; clean = told.clean; refused = told.refused }

pub returns-in-Keys : goal.returns-in-Keys
returns-in-Keys c =
    let rows = c.args.rows.now in
    let elder = take c.args.k (names_of c.args.document.now.tree) in
    let e = entry c.args.item.now.name c.args.item.now.tree in
    let told = judged_at c.args.self _ rows elder e (Ok nexts.Passed) c.in-Keys.is (keys_judged rows elder e) in
    record { station = told.station; stands = told.stands; clean = told.clean; refused = told.refused }

pub returns-in-IndexKeys : goal.returns-in-IndexKeys
returns-in-IndexKeys c =
    let rows = c.args.rows.now in
    let elder = take c.args.k (names_of c.args.document.now.tree) in
    let e = entry c.args.item.now.name c.args.item.now.tree in
    let told = judged_at c.args.self _ rows elder e (Ok nexts.Passed) c.in-IndexKeys.is
    (index_keys_judged rows elder e) in
    record { station = told.station; stands = told.stands; clean = told.clean; refused = told.refused }

pub returns-in-Indexes : goal.returns-in-Indexes
returns-in-Indexes c =
    let rows = c.args.rows.now in
    let elder = take c.args.k (names_of c.args.document.now.tree) in
    let e = entry c.args.item.now.name c.args.item.now.tree in
    let told = judged_at c.args.self _ rows elder e c.judge_indexes.result c.in-Indexes.is
    (c.judge_indexes.ensures.judged rows elder) in
    record { station = told.station; stands = told.stands; clean = told.clean; refused = told.refused }

pub returns-in-Own : goal.returns-in-Own
returns-in-Own c =
    let rows = c.args.rows.now in
    let elder = take c.args.k (names_of c.args.document.now.tree) in
    let e = entry c.args.item.now.name c.args.item.now.tree in
    let told = judged_at c.args.self _ rows elder e (Ok nexts.Passed) c.in-Own.is
    (own_judged rows c.in-Own._own elder e) in
    record { station = told.station; stands = told.stands; clean = told.clean; refused = told.refused }
