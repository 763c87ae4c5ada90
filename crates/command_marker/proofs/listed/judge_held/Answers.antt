-- Each listed field is judged by what it holds.
use Rattle.std.proofs.Common.{◌==◌, ◌||◌, Result, Err, refl, sym, subst}
use Rattle.bson_tree.specs.Tree.{tag_of}
use Rattle.encrypt_schema.specs.declared.command.listed.FieldKind.TheVariants as kinds
use Rattle.encrypt_schema.specs.declared.command.reason.Reason.{Reason}
use Rattle.encrypt_schema.specs.declared.command.reason.Reason.TheVariants.{BadField, FieldNotAllowed}
use Rattle.encrypt_schema.specs.declared.command.walking.Next.{Next}
use Rattle.encrypt_schema.specs.Commands.Stations.{Filter, IndexKeys, Indexes, Keys, Own}
use Rattle.encrypt_schema.specs.Commands.Visits.{entry}
use Rattle.filter_rules.specs.declared.places.FilterPlace.TheVariants as filters
use Rattle.command_marker.specs.declared.places.CommandPlace.{CommandPlace}
use Rattle.command_marker.specs.declared.places.CommandPlace.TheVariants as places
use Rattle.command_marker.specs.Places.{Holds}
use Rattle.command_marker.proofs.Held.{held_as, held_hint, held_inside, held_word}
use Rattle.command_marker.proofs.listed.judge_held.Goals as goal

pub returns-in-Filter : goal.returns-in-Filter
returns-in-Filter c =
    let rows = c.args.rows.now in
    let t = c.args.item.now.tree in
    let e = entry c.args.item.now.name t in
    record {
      judged = held_as rows c.args.kind kinds.Filter e
          c.inside_document.result c.in-Filter.is
          (subst (λ (r : Result (Next CommandPlace) Reason). Holds rows kinds.Filter e r)
          (sym c.inside_document.ensures)
          (held_inside rows Filter (places.Filter filters.Filter) BadField (tag_of t == 3) refl tt));
    }

pub returns-in-Update : goal.returns-in-Update
returns-in-Update c =
    let rows = c.args.rows.now in
    let t = c.args.item.now.tree in
    let e = entry c.args.item.now.name t in
    record {
      judged = held_as rows c.args.kind kinds.Update e
          c.judge_update.result c.in-Update.is
          c.judge_update.ensures.judged;
    }

pub returns-in-Keys : goal.returns-in-Keys
returns-in-Keys c =
    let rows = c.args.rows.now in
    let t = c.args.item.now.tree in
    let e = entry c.args.item.now.name t in
    record {
      judged = held_as rows c.args.kind kinds.Keys e
          c.inside_document-in-Keys.result c.in-Keys.is
          (subst (λ (r : Result (Next CommandPlace) Reason). Holds rows kinds.Keys e r)
          (sym c.inside_document-in-Keys.ensures)
          (held_inside rows Keys places.Keys BadField (tag_of t == 3) refl tt));
    }

pub returns-in-IndexKeys : goal.returns-in-IndexKeys
returns-in-IndexKeys c =
    let rows = c.args.rows.now in
    let t = c.args.item.now.tree in
    let e = entry c.args.item.now.name t in
    record {
      judged = held_as rows c.args.kind kinds.IndexKeys e
          c.inside_document-in-IndexKeys.result c.in-IndexKeys.is
          (subst (λ (r : Result (Next CommandPlace) Reason). Holds rows kinds.IndexKeys e r)
          (sym c.inside_document-in-IndexKeys.ensures)
          (held_inside rows IndexKeys places.IndexKeys BadField (tag_of t == 3) refl tt));
    }

pub returns-in-Hint : goal.returns-in-Hint
returns-in-Hint c =
    let rows = c.args.rows.now in
    let t = c.args.item.now.tree in
    let e = entry c.args.item.now.name t in
    record {
      judged = held_as rows c.args.kind kinds.Hint e
          c.judge_hint.result c.in-Hint.is
          (subst (λ (r : Result (Next CommandPlace) Reason). Holds rows kinds.Hint e r)
          (sym c.judge_hint.ensures)
          (held_hint rows (tag_of t == 3) (tag_of t == 2)));
    }

pub returns-in-Path : goal.returns-in-Path
returns-in-Path c =
    let rows = c.args.rows.now in
    let t = c.args.item.now.tree in
    let e = entry c.args.item.now.name t in
    record {
      judged = held_as rows c.args.kind kinds.Path e c.judge_path.result c.in-Path.is c.judge_path.ensures.judged;
    }

pub returns-in-Indexes : goal.returns-in-Indexes
returns-in-Indexes c =
    let rows = c.args.rows.now in
    let t = c.args.item.now.tree in
    let e = entry c.args.item.now.name t in
    record {
      judged = held_as rows c.args.kind kinds.Indexes e
          c.inside_indexes.result c.in-Indexes.is
          (subst (λ (r : Result (Next CommandPlace) Reason). Holds rows kinds.Indexes e r)
          (sym c.inside_indexes.ensures)
          (held_inside rows Indexes places.Indexes BadField (tag_of t == 4) refl tt));
    }

pub returns-in-Own : goal.returns-in-Own
returns-in-Own c =
    let rows = c.args.rows.now in
    let t = c.args.item.now.tree in
    let e = entry c.args.item.now.name t in
    record {
      judged = held_as rows c.args.kind (kinds.Own c.in-Own.own) e
          c.inside_document-in-Own.result c.in-Own.is
          (subst (λ (r : Result (Next CommandPlace) Reason). Holds rows (kinds.Own c.in-Own.own) e r)
          (sym c.inside_document-in-Own.ensures)
          (held_inside rows (Own c.in-Own.own) (places.Own c.in-Own.own) FieldNotAllowed (tag_of t == 3) refl tt));
    }

pub returns-in-Word : goal.returns-in-Word
returns-in-Word c =
    let rows = c.args.rows.now in
    let t = c.args.item.now.tree in
    let e = entry c.args.item.now.name t in
    record {
      judged = held_as rows c.args.kind kinds.Word e
          c.judge_word.result c.in-Word.is
          (subst (λ (r : Result (Next CommandPlace) Reason). Holds rows kinds.Word e r)
          (sym c.judge_word.ensures)
          (held_word rows ((tag_of t == 3) || (tag_of t == 4))));
    }

pub returns-in-Unlisted : goal.returns-in-Unlisted
returns-in-Unlisted c =
    let rows = c.args.rows.now in
    let t = c.args.item.now.tree in
    let e = entry c.args.item.now.name t in
    record { judged = held_as rows c.args.kind kinds.Unlisted e (Err FieldNotAllowed) c.in-Unlisted.is refl }
