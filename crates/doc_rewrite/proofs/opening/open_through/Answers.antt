use Rattle.std.proofs.Common.{◌≡◌, ◌∙◌, ◌+◌, ◌*◌, ◌≤◌, ap, refl, arith, length}
use Rattle.std.proofs.lemmas.List.{length-map}
use Rattle.bson_tree.specs.Spelling.{doc_bytes}
use Rattle.doc_rewrite.specs.Finding.{found_at}
use Rattle.doc_rewrite.specs.Founds.{payloads_of}
use Rattle.doc_rewrite.specs.Keys.{key_by_id}
use Rattle.doc_rewrite.specs.Opened.{ring_of}
use Rattle.doc_rewrite.specs.Opening.{document_opened, spared}
use Rattle.doc_rewrite.proofs.Wholes.{found_keyed, opens_all, opens_none, opens_short}
use Rattle.doc_rewrite.proofs.opening.open_through.Goals as goal

pub returns-then-len-eq0-clause-opened : goal.returns-then-len-eq0-clause-opened
returns-then-len-eq0-clause-opened g c =
    let keyed = found_keyed (key_by_id c.args.keys.now.ids) c.args.document.now c.args.found.now c.requires.found
    c.requires.keyed in
    let none : length c.args.found.now ≡ 0 = omega (arith, c.len.ensures.count, c.if-len-eq0.true) in
    let size : c.put.result ≡ length (doc_bytes c.args.document.now.tree) =
    omega (arith, c.put.ensures.end, ap length c.bytes-bytes.ensures.spelling) in
    opens_none (ring_of (key_by_id c.args.keys.now.ids)) c.args.document.now c.requires.found.shaped keyed
    c.args.found.now
    c.put.new.out c.put.result c.requires.found.all none
    (c.put.ensures.put ∙ c.bytes-bytes.ensures.spelling) size

pub open_document-requires-clause-keyed : goal.open_document-requires-clause-keyed
open_document-requires-clause-keyed g c = found_keyed
    (key_by_id c.args.keys.now.ids) c.args.document.now c.args.found.now c.requires.found c.requires.keyed

pub returns-clause-opened : goal.returns-clause-opened
returns-clause-opened g c =
    let keyed = found_keyed (key_by_id c.args.keys.now.ids) c.args.document.now c.args.found.now c.requires.found
    c.requires.keyed in
    let size : length (doc_bytes c.args.document.now.tree)
    ≤ length c.open_document.new.out + spared * length (payloads_of c.args.document.now) =
    omega (
      arith,
      c.open_document.ensures.size,
      c.split_at_mut-front.ensures.front_len,
      c.room.ensures.room,
      ap length c.requires.found.all,
      length-map (payloads_of c.args.document.now) found_at,
    ) in
    opens_all (ring_of (key_by_id c.args.keys.now.ids)) c.args.document.now c.requires.found.shaped keyed
    c.split_at_mut-front.result.0.now c.open_document.new.out c.split_at_mut-front.result.1.now _
    c.open_document.result size refl c.open_document.ensures.opened

pub returns-then-len-eq0-clause-short : goal.returns-then-len-eq0-clause-short
returns-then-len-eq0-clause-short g c = omega (arith, c.put.ensures.end, ap length c.bytes-bytes.ensures.spelling)

pub returns-clause-short : goal.returns-clause-short
returns-clause-short g c =
    let keys = ring_of (key_by_id c.args.keys.now.ids) in
    opens_short keys (payloads_of c.args.document.now) (document_opened keys c.args.document.now)
    c.split_at_mut-front.result.0.now c.open_document.new.out (length (doc_bytes c.args.document.now.tree))
    c.open_document.result c.open_document.ensures.opened
