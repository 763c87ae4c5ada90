use Rattle.std.proofs.Common.{◌∙◌, ap, sym, subst, length, Err}
use Rattle.payload6.specs.Payload.{IsPayloadLength}
use Rattle.doc_rewrite.proofs.Leaves.{contents_are, kind_of_parts, kind_opens, kindless, other_subtype, other_type}
use Rattle.doc_rewrite.proofs.leaf.leaf_of.Goals as goal

pub returns-in-None : goal.returns-in-None
returns-in-None c = record { is = other_type c.args.item.now.tree _ _ c.requires.raw (sym c.in-None.ensures.kind) }

pub returns-then-subtype-ne-ENCRYPTED : goal.returns-then-subtype-ne-ENCRYPTED
returns-then-subtype-ne-ENCRYPTED c =
    record {
      is = other_subtype c.args.item.now.tree c.in-Some.binary.0 c.in-Some.binary.1.now
          c.in-Some.ensures.contents c.if-subtype-ne-ENCRYPTED.true;
    }

pub returns-in-Ok : goal.returns-in-Ok
returns-in-Ok c =
    let p = c.in-Ok.payload in
    let t = c.args.item.now.tree in
    let b = c.in-Some.binary.1.now in
    let kind = kind_of_parts p.kind p.tag p.key_id p.head.now b p.sealed.now p.known p.front c.in-Ok.ensures.joined in
    record {
      is = (
        kind_opens t c.in-Some.binary.0 b c.in-Some.ensures.contents c.if-subtype-ne-ENCRYPTED.false kind,
        contents_are t c.in-Some.binary.0 b c.in-Some.ensures.contents ∙ sym c.in-Ok.ensures.joined,
      );
    }

pub returns-in-Err-Kind : goal.returns-in-Err-Kind
returns-in-Err-Kind c =
    record {
      is = kindless c.args.item.now.tree c.in-Some.binary.0 c.in-Some.binary.1.now c.in-Some.ensures.contents
          (c.in-Err-Kind.ensures.kind.0 (ap Err c.in-Err-Kind.field-0-is));
    }

pub returns-in-Err-Short : goal.returns-in-Err-Short
returns-in-Err-Short c =
    let t = c.args.item.now.tree in
    let b = c.in-Some.binary.1.now in
    let short = c.in-Err-Short.ensures.short.0 (ap Err c.in-Err-Short.field-0-is) in
    let same = contents_are t c.in-Some.binary.0 b c.in-Some.ensures.contents in
    record {
      is = (
        kind_opens t c.in-Some.binary.0 b c.in-Some.ensures.contents c.if-subtype-ne-ENCRYPTED.false short.0,
        λ long. short.1 (subst (λ x. IsPayloadLength (length x)) same long),
      );
    }
