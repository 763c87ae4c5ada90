-- A stream whose documents each come to an output is read back whole.
use Rattle.std.proofs.Common.{◌≡◌, ℕ, ◌+◌, ◌^◌, ◌<◌, ◌≤◌, List, [], ◌∷◌, ◌++◌, length, take, drop, refl, sym, ap}
use Rattle.std.proofs.Common.{◌∙◌, arith, length-append, Result}
use Rattle.std.specs.Int.{to_le_bytes, w32}
use Rattle.std.proofs.Math.Seq.{take-append_seam, drop-append_seam}
use Rattle.std.proofs.lemmas.Nat.{from_le_bytes-to_le_bytes_4}
use Rattle.bson_tree.specs.Spelling.{doc_bytes, items_bytes}
use Rattle.bson_tree.specs.Tree.{Items}
use Rattle.bson_tree.proofs.Sizes.{framed_size}
use Rattle.bson_codec.specs.Layout.{IsDoc}
use Rattle.bson_codec.specs.declared.fault.BsonFault.{BsonFault}
use Rattle.bson_codec.proofs.Documents.{document_again}
use Rattle.fle_stream.specs.Outcome.{Outcome, judged, outcome, preceded}
use Rattle.fle_stream.specs.Plan.{Output, Verdict, written}
use Rattle.fle_stream.specs.Streams.{doc, document_limit, documents, nothing, spelled, stated}
use Rattle.fle_stream.specs.Task.{each, outcome_of}
use Rattle.fle_stream.specs.declared.why.Finish.TheVariants as finishes
use Rattle.fle_stream.proofs.Judgings.{outcome_doc, outcome_end}
use Rattle.fle_stream.proofs.Streams.{IsSize, none_left, whole_body}
use Rattle.fle_runner.specs.ReadBack.{ComesTo, outputs_back, read_whole, stream}
use Rattle.fle_runner.specs.Verdicts.{plain_plan}

-- a stated length is read as it was written
stated_is : (elements more : List ℕ) → length elements + 5 < 2 ^ 32
    → stated ((to_le_bytes w32 (length elements + 5) ++ (elements ++ 0 ∷ [])) ++ more) ≡ length elements + 5
unfolding stated
stated_is elements more fits = from_le_bytes-to_le_bytes_4 (length elements + 5) fits

doc_size : (d : Items) → length (doc_bytes d) ≡ length (items_bytes d) + 5
doc_size d = framed_size (items_bytes d)

-- a document that stands in front of a stream is its first
pub begins_with : (d : Items) (more : List ℕ) → IsDoc d → length (doc_bytes d) ≤ 2 ^ 24
    → documents (doc_bytes d ++ more) ≡ doc (length (doc_bytes d)) d (documents more)
begins_with d more is small =
    let bytes = doc_bytes d ++ more in
    let n = length (doc_bytes d) in
    let long : length bytes ≡ n + length more = length-append (doc_bytes d) more in
    let size : IsSize document_limit bytes n = record {
      says = stated_is (items_bytes d) more (omega (arith, small, doc_size d)) ∙ sym (doc_size d);
      least = omega (arith, doc_size d);
      most = small;
      four = omega (arith, long, doc_size d);
      signed = omega (arith, small);
    } in
    let front : take n bytes ≡ doc_bytes d = take-append_seam (doc_bytes d) more in
    let behind : drop n bytes ≡ more = drop-append_seam (doc_bytes d) more in
    whole_body document_limit document_limit bytes n size (omega (arith, long))
    ∙ (ap (λ (r : Result Items BsonFault). spelled documents n bytes r) (document_again (take n bytes) d is front)
    ∙ ap (λ (xs : List ℕ). doc n d (documents xs)) behind)

-- the same from any document on
abbrev read_from : ℕ → ℕ → List Items → List Items → Outcome
read_from number last cs ds =
    record { finish = finishes.Done; number = last; outputs = outputs_back cs ds; used = length (stream ds) }

reads_from : (v : Items → Verdict) (number last taken : ℕ) (cs ds : List Items) → ComesTo v cs ds
    → taken + length (stream ds) < 2 ^ 40 → last ≡ number + length ds
    → outcome v number taken (documents (stream ds)) ≡ read_from number last cs ds
reads_from v number last taken [] [] comes few is =
    ap (outcome v number taken) (none_left document_limit document_limit [] refl)
    ∙ (outcome_end v number taken nothing (omega (arith, few))
    ∙ ap (λ (n : ℕ). read_from n n [] []) (omega (arith, is)))
reads_from v number last taken [] (d ∷ ds) comes few is = absurd comes
reads_from v number last taken (c ∷ cs) [] comes few is = absurd comes
reads_from v number last taken (c ∷ cs) (d ∷ ds) comes few is =
    let n = length (doc_bytes d) in
    let long : length (stream (d ∷ ds)) ≡ n + length (stream ds) = length-append (doc_bytes d) (stream ds) in
    let first : Output = record { read = n; documents = 1; plan = plain_plan (doc_bytes c) } in
    let rest = outcome v (number + 1) (taken + n) (documents (stream ds)) in
    ap (outcome v number taken) (begins_with d (stream ds) comes.0 comes.1)
    ∙ (outcome_doc v number taken n d (documents (stream ds)) (omega (arith, few))
    ∙ (ap (λ (w : Verdict). judged w number 1 n rest) comes.2
    ∙ (ap (preceded (first ∷ []) n)
    (reads_from v (number + 1) last (taken + n) cs ds comes.3 (omega (arith, few, long)) (omega (arith, is)))
    ∙ ap (λ (used : ℕ). record {
      finish = finishes.Done;
      number = last;
      outputs = first ∷ outputs_back cs ds;
      used = used;
    }) (sym long))))

pub reads_back : (v : Items → Verdict) (cs ds : List Items) → ComesTo v cs ds → length (stream ds) < 2 ^ 40
    → outcome_of (each v) (stream ds) ≡ read_whole cs ds
reads_back v cs ds comes few = reads_from v 1 (1 + length ds) 0 cs ds comes (omega (arith, few)) refl

-- what is written is the list
pub writes_back : (v : Items → Verdict) (cs ds : List Items) → ComesTo v cs ds
    → written (read_whole cs ds).outputs [] ≡ stream cs
writes_back v [] [] comes = refl
writes_back v [] (d ∷ ds) comes = refl
writes_back v (c ∷ cs) [] comes = absurd comes
writes_back v (c ∷ cs) (d ∷ ds) comes =
    ap (λ (bytes : List ℕ). doc_bytes c ++ bytes) (writes_back v cs ds comes.3)
