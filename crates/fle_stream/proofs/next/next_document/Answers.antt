-- What the length says comes first.
use Rattle.std.proofs.Common.{ℕ, ◌<◌, List, drop, refl, ap, ◌∙◌, subst, arith}
use Rattle.std.specs.Int.{from_le_bytes, w32}
use Rattle.bson_codec.specs.Reading.{signed_below}
use Rattle.fle_stream.specs.Streams.{faulty, over, stated}
use Rattle.fle_stream.specs.Next.{NextIs}
use Rattle.fle_stream.proofs.Streams.{none_left, low_length, over_limit, stated_low, stated_ok}
use Rattle.fle_stream.proofs.Bodies.{head_read, failed_head, ended_head, ended_by, all_read}
use Rattle.fle_stream.proofs.next.next_document.Goals as goal

pub returns-in-Err-clause-next : goal.returns-in-Err-clause-next
returns-in-Err-clause-next g c = λ other told is.
    let read = head_read told c.fill_piece.new.piece _
    (from_le_bytes w32 c.fill_piece.new.piece) c.fill_piece.auto.piece refl (c.in-Whole.ensures.bytes told is) in
    let says = stated_low (from_le_bytes w32 c.fill_piece.new.piece) c.in-Err.fault c.in-Err.ensures.stated in (
      faulty 4 c.in-Err.fault,
      rw says.fault (low_length c.args.limit other told read.four (ap (λ
          (m : ℕ). signed_below m 5) read.says ∙ says.below)),
      refl,
      read.left,
    )

pub returns-in-Ok-clause-next : goal.returns-in-Ok-clause-next
returns-in-Ok-clause-next g c = λ other told is.
    let read = head_read told c.fill_piece.new.piece _
    (from_le_bytes w32 c.fill_piece.new.piece) c.fill_piece.auto.piece refl (c.in-Whole.ensures.bytes told is) in
    let says = stated_ok (from_le_bytes w32 c.fill_piece.new.piece) c.in-Ok.size c.in-Ok.ensures.stated in
    let above : c.args.limit < stated told = omega (arith, read.says, says.same, c.if-limit-size.true) in (
      over,
      over_limit c.args.limit other told read.four (ap (λ
          (m : ℕ). signed_below m 5) read.says ∙ says.plain) above,
      refl,
      read.left,
    )

pub returns-in-Failed-clause-next : goal.returns-in-Failed-clause-next
returns-in-Failed-clause-next g c = λ other told is. failed_head c.args.limit other told c.fill_piece.new.piece _
    c.fill_piece.auto.piece
    (c.in-Failed.ensures.bytes told is)

pub returns-in-Ended-eq0-clause-next : goal.returns-in-Ended-eq0-clause-next
returns-in-Ended-eq0-clause-next g c = λ other told is.
    let takes = c.in-Ended-eq0.ensures.bytes told is in (
      none_left c.args.limit other told (omega (arith, takes.0, c.in-Ended-eq0)),
      all_read told _ 0 (omega (arith, takes.0, c.in-Ended-eq0)) takes.2,
    )

pub returns-in-Ended-clause-next : goal.returns-in-Ended-clause-next
returns-in-Ended-clause-next g c = λ other told is.
    let ended = ended_by c.args.limit other told _ c.in-Ended.n c.short.result c.short.ensures.short
    (ended_head c.args.limit other told c.fill_piece.new.piece _ c.in-Ended.n (c.in-Ended.ensures.bytes told is)
    (omega arith)
    (omega (arith, c.in-Ended.ensures.within, c.fill_piece.auto.piece))) in
    (faulty ended.0 c.short.result, ended.1, refl, ended.2)

pub returns-in-Ok-2-clause-next : goal.returns-in-Ok-2-clause-next
returns-in-Ok-2-clause-next g c = λ other told is.
    let read = head_read told c.fill_piece.new.piece _
    (from_le_bytes w32 c.fill_piece.new.piece) c.fill_piece.auto.piece refl (c.in-Whole.ensures.bytes told is) in
    subst (λ (x : List ℕ). NextIs c.args.limit other x
    (g.S.Source.seen c.next_body.new.source).told c.next_body.result) read.is
    (c.next_body.ensures.next other (drop 4 told) read.left)
