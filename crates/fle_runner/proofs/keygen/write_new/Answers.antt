-- The document is written, or there is no memory for it.
use Rattle.std.proofs.Common.{◌∙◌, length, ap, refl, arith}
use Rattle.bson_tree.specs.Spelling.{doc_bytes}
use Rattle.data_key.specs.declared.key_doc.KeyDoc.{KeyDoc}
use Rattle.data_key.specs.Written.{key_fields}
use Rattle.fle_runner.specs.Keygen.{keygen_plan}
use Rattle.fle_stream.proofs.Acts.{acts_makes}
use Rattle.fle_stream.proofs.Outputs.{did_unkept}
use Rattle.local_kms.specs.Document.{document_size}
use Rattle.fle_stream.proofs.Turned.{memory_not_entropy, memory_not_folder, memory_not_output}
use Rattle.fle_runner.proofs.keygen.write_new.Goals as goal

pub returns-in-Ok-clause-run : goal.returns-in-Ok-clause-run
returns-in-Ok-clause-run g c = λ master names blocks input files before after eight is draws.
    let document = c.deref.ensures.value ∙ (c.in-Ok.ensures.document
    ∙ ap (λ (k : KeyDoc). doc_bytes (key_fields k c.args.time c.args.time 0)) is) in
    let size = ap length c.deref.ensures.value ∙ (c.in-Ok.ensures.size
    ∙ ap (λ (k : KeyDoc). document_size k.names c.args.time) is) in
    c.write_made.ensures.run (keygen_plan names c.args.time master) blocks input files before after eight document size
    draws

pub returns-in-Err-clause-run : goal.returns-in-Err-clause-run
returns-in-Err-clause-run g c = λ master names blocks input files before after eight is draws.
    let plan = keygen_plan names c.args.time master in
    rw c.unread.ensures.unread
    (acts_makes plan refl tt memory_not_folder
    (λ told left has. did_unkept plan blocks told left before after _ (omega (arith, eight)) draws has)
    (λ at. absurd (memory_not_output at)) (λ _. memory_not_output) (λ at. absurd (memory_not_entropy at))
    (λ _. memory_not_entropy))
