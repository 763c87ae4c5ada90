-- One piece after another into a sink.
use Rattle.std.proofs.Common.{Result, Ok, Err, List, ℕ, [], ◌++◌, refl, sym, append-nil}
use Rattle.fle_outside.specs.Seen.{SinkSeen}
use Rattle.fle_outside.specs.Writing.{WritesWhole}
use Rattle.fle_outside.specs.declared.answers.Failed.{Failed}
use Rattle.fle_outside.proofs.PartWay.{part_begin, part_put, part_put_stop, part_end}

-- nothing is written
pub put_nothing : (before : SinkSeen) → WritesWhole before before (Ok tt) []
put_nothing before = part_end (part_begin before [])

-- a piece and what follows it
pub put_then : {before now new : SinkSeen} {first second : List ℕ} {u : Unit {0}} (result : Result (Unit {0}) Failed)
    → WritesWhole before now (Ok u) first
    → WritesWhole now new result second
    → WritesWhole before new result (first ++ second)
put_then {before} {now} {new} {first} {second} (Ok _) a b =
    let way = part_put {left = first ++ second} {rest = second} (part_begin before (first ++ second)) refl a in
    let way2 = part_put {left = second} {part = second} {rest = []} way (sym (append-nil second)) b in
    part_end way2
put_then {before} {now} {new} {first} {second} (Err f) a b =
    let way = part_put {left = first ++ second} {rest = second} (part_begin before (first ++ second)) refl a in
    part_put_stop {left = second} {part = second} [] way (sym (append-nil second)) b

-- a piece that is not written whole
pub put_stops : {before now : SinkSeen} {first : List ℕ} {f : Failed} (second : List ℕ)
    → WritesWhole before now (Err f) first
    → WritesWhole before now (Err f) (first ++ second)
put_stops {before} {now} {first} second a =
    part_put_stop {left = first ++ second} {part = first} second (part_begin before (first ++ second)) refl a
