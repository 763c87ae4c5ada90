use Rattle.std.proofs.Common.{◌≡◌, ◌∙◌, ℕ, List, true, false, take, ap, sym}
use Rattle.encrypt_schema.specs.declared.command.listed.FieldKind.{FieldKind}
use Rattle.encrypt_schema.specs.Language.Names.{is_among}
use Rattle.encrypt_schema.specs.Commands.More.{other_wrong}
use Rattle.encrypt_schema.specs.Commands.Offences.{least}
use Rattle.encrypt_schema.specs.Commands.Visits.{entry, names_of}
use Rattle.command_marker.specs.Places.{holder_kind, holder_reads}
use Rattle.command_marker.proofs.BeyondTests.{of_again, of_kind, of_read}
use Rattle.command_marker.proofs.beyond_fields.field_beyond.Goals as goal

pub returns-then-is_read : goal.returns-then-is_read
returns-then-is_read c =
    let name = c.args.item.now.name in
    let reads = holder_reads c.args.holder in
    let read : is_among name reads ≡ true = ap (λ (n : List ℕ). is_among n reads) (sym c.name-name.ensures.name)
    ∙ sym c.is_read.ensures.read ∙ c.if-is_read.true in
    record {
      beyond = of_read reads (holder_kind c.args.holder name) (take c.args.k (names_of c.args.document.now.tree))
          (entry name c.args.item.now.tree) read;
    }

pub returns-then-stands_again : goal.returns-then-stands_again
returns-then-stands_again c =
    let name = c.args.item.now.name in
    let reads = holder_reads c.args.holder in
    let read : is_among name reads ≡ false = ap (λ (n : List ℕ). is_among n reads) (sym c.name-name.ensures.name)
    ∙ sym c.is_read.ensures.read ∙ c.if-is_read.false in
    record {
      beyond = of_again reads (holder_kind c.args.holder name) (take c.args.k (names_of c.args.document.now.tree))
          (entry name c.args.item.now.tree) read (sym c.stands_again.ensures.again ∙ c.if-stands_again.true);
    }

pub returns : goal.returns
returns c =
    let name = c.args.item.now.name in
    let e = entry name c.args.item.now.tree in
    let reads = holder_reads c.args.holder in
    let read : is_among name reads ≡ false = ap (λ (n : List ℕ). is_among n reads) (sym c.name-name.ensures.name)
    ∙ sym c.is_read.ensures.read ∙ c.if-is_read.false in
    let kind = c.other_kind.ensures.kind ∙ ap (holder_kind c.args.holder) c.name-name.ensures.name in
    record {
      beyond = c.other_wrong.ensures.wrong ∙ ap (λ (k : FieldKind). least (other_wrong k e)) kind
          ∙ of_kind reads (holder_kind c.args.holder name) (take c.args.k (names_of c.args.document.now.tree)) e read
          (sym c.stands_again.ensures.again ∙ c.if-stands_again.false);
    }
