use Rattle.std.proofs.Common.{◌≡◌, ◌∙◌, ap, ◌∷◌, [], refl, length, rules, arith}
use Rattle.std.proofs.lemmas.Int.{to_z-of_z}
use Rattle.std.specs.Int.{cast_unsigned, w32, w64}
use Rattle.data_key.proofs.Joined.{fields_room, document_written}
use Rattle.data_key.proofs.ReadBack.{reads_back}
use Rattle.data_key.proofs.writing.write_key.Goals as goal

pub close-requires-clause-small : goal.close-requires-clause-small
close-requires-clause-small c =
    let long : length c.args.key.now.id ≡ 16 = search rules in
    let four : length c.open.new.out.items ≡ 4 = search rules in
    let room =
    fields_room c.args.key.now c.cast_unsigned-created.result c.cast_unsigned-updated.result c.cast_unsigned.result
    c.open.new.out.items
    c.put_fields.new.out.items long c.requires.few c.requires.small four c.in_ok-put_fields.ensures.fields in
    omega (arith, room)

pub returns-clause-written : goal.returns-clause-written
returns-clause-written c =
    let four : c.open.new.out.items ≡ 0 ∷ (0 ∷ (0 ∷ (0 ∷ []))) = search rules in
    document_written c.args.key.now c.cast_unsigned-created.result c.cast_unsigned-updated.result c.cast_unsigned.result
    (cast_unsigned w64 c.args.created_ms) (cast_unsigned w64 c.args.updated_ms)
    (cast_unsigned w32 c.args.status) c.open.new.out.items
    c.put_fields.new.out.items c.close.new.out.items four c.in_ok-put_fields.ensures.fields c.in_ok-close.ensures.closed
    (c.cast_unsigned-created.ensures ∙ ap (cast_unsigned w64) (to_z-of_z w64 c.args.created_ms c.ranges.created_ms))
    (c.cast_unsigned-updated.ensures ∙ ap (cast_unsigned w64) (to_z-of_z w64 c.args.updated_ms c.ranges.updated_ms))
    (c.cast_unsigned.ensures ∙ ap (cast_unsigned w32) (to_z-of_z w32 c.args.status c.ranges.status))

pub returns-clause-again : goal.returns-clause-again
returns-clause-again c =
    let long : length c.args.key.now.id ≡ 16 = search rules in
    let four : c.open.new.out.items ≡ 0 ∷ (0 ∷ (0 ∷ (0 ∷ []))) = search rules in
    reads_back c.args.key.now c.cast_unsigned-created.result c.cast_unsigned-updated.result c.cast_unsigned.result
    c.close.new.out.items long c.requires
    (document_written c.args.key.now c.cast_unsigned-created.result c.cast_unsigned-updated.result
    c.cast_unsigned.result
    c.cast_unsigned-created.result c.cast_unsigned-updated.result c.cast_unsigned.result c.open.new.out.items
    c.put_fields.new.out.items c.close.new.out.items four c.in_ok-put_fields.ensures.fields c.in_ok-close.ensures.closed
    refl refl refl)
