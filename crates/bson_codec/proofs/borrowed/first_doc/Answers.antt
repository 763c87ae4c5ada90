-- What checking the front says, said by reading and by the grammar.
use Rattle.std.proofs.Common.{◌≡◌, ℕ, ◌+◌, ◌<◌, ◌^◌, ◌++◌, List, length, take, Ok, arith, sym, refl, ap, subst, ◌∙◌}
use Rattle.std.proofs.lemmas.List.{length-take}
use Rattle.bson_tree.specs.Spelling.{doc_bytes}
use Rattle.bson_codec.specs.Layout.{IsDoc}
use Rattle.bson_codec.specs.Reading.{front_document}
use Rattle.bson_codec.specs.Borrowed.{doc_of, SpellsDoc}
use Rattle.bson_codec.proofs.Steps.{made}
use Rattle.bson_codec.proofs.Grammar.{front_read}
use Rattle.bson_codec.proofs.Views.{front_known, front_spells, front_refused}
use Rattle.bson_codec.proofs.borrowed.first_doc.Goals as goal

pub invariant_of-document : goal.invariant_of-document
invariant_of-document c =
    let k = front_known c.args.bytes.now c.in-Ok.n (λ i. omega (arith, c.type_inv.bytes i))
    (sym c.in-Ok.ensures.read) in
    subst (λ (x : List ℕ). (0 + length x < 2 ^ 31) × SpellsDoc x) (sym c.split_at.ensures.front)
    (omega (arith, c.requires, length-take c.in-Ok.n c.args.bytes.now), front_spells c.args.bytes.now c.in-Ok.n k)

pub returns-in-Ok-clause-found : goal.returns-in-Ok-clause-found
returns-in-Ok-clause-found c =
    let k = front_known c.args.bytes.now c.in-Ok.n (λ i. omega (arith, c.type_inv.bytes i))
    (sym c.in-Ok.ensures.read) in
    let parts : c.args.bytes.now ≡ doc_bytes (doc_of (take c.in-Ok.n c.args.bytes.now)) ++ c.split_at.result.1.now =
    k.parts ∙ ap (λ (x : List ℕ). doc_bytes (doc_of (take c.in-Ok.n c.args.bytes.now)) ++ x)
    (sym c.split_at.ensures.back) in
    let both = subst (λ (x : List ℕ). IsDoc (doc_of x)
    × (c.args.bytes.now ≡ doc_bytes (doc_of x) ++ c.split_at.result.1.now)) (sym c.split_at.ensures.front)
    (k.doc, parts) in
    (both.0, both.1, refl)

pub returns-in-Ok-clause-exact : goal.returns-in-Ok-clause-exact
returns-in-Ok-clause-exact c =
    let k = front_known c.args.bytes.now c.in-Ok.n (λ i. omega (arith, c.type_inv.bytes i))
    (sym c.in-Ok.ensures.read) in
    let sized : front_document c.args.bytes.now ≡ Ok
    (doc_of (take c.in-Ok.n c.args.bytes.now), length (doc_bytes (doc_of (take c.in-Ok.n c.args.bytes.now)))) =
    k.read ∙ ap (λ (m : ℕ). made (doc_of (take c.in-Ok.n c.args.bytes.now), m)) (sym k.size) in
    subst (λ (x : List ℕ). front_document c.args.bytes.now ≡ Ok (doc_of x, length (doc_bytes (doc_of x))))
    (sym c.split_at.ensures.front) sized

pub returns-in-Ok-clause-only : goal.returns-in-Ok-clause-only
returns-in-Ok-clause-only c =
    let k = front_known c.args.bytes.now c.in-Ok.n (λ i. omega (arith, c.type_inv.bytes i))
    (sym c.in-Ok.ensures.read) in
    let sized : front_document c.args.bytes.now ≡ Ok
    (doc_of (take c.in-Ok.n c.args.bytes.now), length (doc_bytes (doc_of (take c.in-Ok.n c.args.bytes.now)))) =
    k.read ∙ ap (λ (m : ℕ). made (doc_of (take c.in-Ok.n c.args.bytes.now), m)) (sym k.size) in
    let seen = subst (λ (x : List ℕ). front_document c.args.bytes.now ≡ Ok (doc_of x, length (doc_bytes (doc_of x))))
    (sym c.split_at.ensures.front) sized in
    λ is rest doc parts. sym (front_read c.args.bytes.now rest is doc parts) ∙ seen

pub returns-in-Err-clause-only : goal.returns-in-Err-clause-only
returns-in-Err-clause-only c = λ is rest doc parts. sym (front_read c.args.bytes.now rest is doc parts)
    ∙ front_refused c.args.bytes.now c.in-Err.fault (sym c.in-Err.ensures.read)
