-- What stands behind the length: read, ended, or failed on the way.
use Rattle.std.proofs.Common.{◌≡◌, length, ◌++◌, arith, refl}
use Rattle.fle_stream.specs.Streams.{faulty}
use Rattle.std.proofs.lemmas.List.{take_at}
use Rattle.fle_stream.proofs.Bodies.{size_of_head, unread_body, failed_body, ended_body, ended_by, framed}
use Rattle.fle_stream.proofs.next.next_body.Goals as goal

pub returns-in-Err-clause-next : goal.returns-in-Err-clause-next
returns-in-Err-clause-next g c = λ other told is.
    let size = size_of_head c.args.limit c.args.head.now told c.args.size c.requires.four c.requires.says
    c.requires.least c.requires.most c.requires.small in
    rw is (unread_body c.args.limit other c.args.head.now told c.args.size c.requires.four size)

pub returns-in-Failed-clause-next : goal.returns-in-Failed-clause-next
returns-in-Failed-clause-next g c = λ other told is.
    let size = size_of_head c.args.limit c.args.head.now told c.args.size c.requires.four c.requires.says
    c.requires.least c.requires.most c.requires.small in
    let long : length c.fill_document.new.document ≡ c.args.size =
    omega (arith, c.fill_document.auto.document, c.deref_mut.ensures.len, c.in-Ok.ensures.len) in
    failed_body c.args.limit other (c.args.head.now ++ told) c.fill_document.new.document _ c.args.size size long
    (c.in-Failed.ensures.bytes told is)

pub returns-in-Ended-clause-next : goal.returns-in-Ended-clause-next
returns-in-Ended-clause-next g c = λ other told is.
    let size = size_of_head c.args.limit c.args.head.now told c.args.size c.requires.four c.requires.says
    c.requires.least c.requires.most c.requires.small in
    let long : length c.fill_document.new.document ≡ c.args.size =
    omega (arith, c.fill_document.auto.document, c.deref_mut.ensures.len, c.in-Ok.ensures.len) in
    let ended = ended_by c.args.limit other (c.args.head.now ++ told) _ c.in-Ended.n c.short.result
    c.short.ensures.short
    (ended_body c.args.limit other
    (c.args.head.now ++ told) c.fill_document.new.document _ c.args.size c.in-Ended.n size
    (c.in-Ended.ensures.bytes told is) (omega (arith, long, c.in-Ended.ensures.within))) in
    (faulty ended.0 c.short.result, ended.1, refl, ended.2)

pub returns-in-Whole-clause-next : goal.returns-in-Whole-clause-next
returns-in-Whole-clause-next g c = λ other told is.
    let size = size_of_head c.args.limit c.args.head.now told c.args.size c.requires.four c.requires.says
    c.requires.least c.requires.most c.requires.small in
    let long : length c.fill_document.new.document ≡ c.args.size =
    omega (arith, c.fill_document.auto.document, c.deref_mut.ensures.len, c.in-Ok.ensures.len) in
    let of_vec : length c.fill_document.new.document ≡ c.in-Ok.bytes.len =
    omega (arith, c.fill_document.auto.document, c.deref_mut.ensures.len) in
    framed c.args.limit other (c.args.head.now ++ told) c.fill_document.new.document _ _ c.args.size size long
    (c.in-Whole.ensures.bytes told is) (take_at c.fill_document.new.document _ _ of_vec)
