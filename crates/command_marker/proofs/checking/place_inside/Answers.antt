use Rattle.std.proofs.Common.{Option, sym, subst, take}
use Rattle.encrypt_schema.specs.Commands.Visits.{entry, names_of}
use Rattle.command_marker.specs.Checked.{LeadsTo}
use Rattle.command_marker.specs.Places.{command_station}
use Rattle.command_marker.specs.declared.places.CommandPlace.{CommandPlace}
use Rattle.command_marker.proofs.Checked.{led, led_nowhere}
use Rattle.command_marker.proofs.checking.place_inside.Goals as goal

pub returns-in-Ok : goal.returns-in-Ok
returns-in-Ok c =
    let rows = c.args.rows.now in
    let s = command_station c.args.at rows in
    let elder = take c.args.k (names_of c.args.document.now.tree) in
    let e = entry c.args.item.now.name c.args.item.now.tree in
    record {
      leads = subst (λ (o : Option CommandPlace). LeadsTo rows s elder e o) (sym c.inner_of.ensures.inner)
          (led rows s elder e c.in-Ok.next c.in-Ok.ensures.station c.in-Ok.ensures.stands);
    }

pub returns-in-Err : goal.returns-in-Err
returns-in-Err c =
    let rows = c.args.rows.now in
    let s = command_station c.args.at rows in
    let elder = take c.args.k (names_of c.args.document.now.tree) in
    let e = entry c.args.item.now.name c.args.item.now.tree in
    record { leads = led_nowhere rows s elder e c.in-Err._reason c.in-Err.ensures.refused }
