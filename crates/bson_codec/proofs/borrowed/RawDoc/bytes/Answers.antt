-- The bytes spell the document that they are seen as.
use Rattle.std.proofs.Common.{◌≡◌, ◌+◌, ◌<◌, ◌^◌, length, subst}
use Rattle.bson_tree.specs.Spelling.{doc_bytes}
use Rattle.bson_codec.specs.Borrowed.{At}
use Rattle.bson_codec.specs.Layout.{IsDoc}
use Rattle.bson_codec.proofs.Views.{spells_itself, spelled_doc}
use Rattle.bson_codec.proofs.borrowed.RawDoc.bytes.Goals as goal

pub returns : goal.returns
returns c = record {
  spelling = subst (λ (a : At). c.self.inside.bytes.now ≡ doc_bytes a.tree) c.self.view_is
      (spells_itself c.self.inside.bytes.now c.self.invariant.1);
  document = subst (λ (a : At). IsDoc a.tree) c.self.view_is (spelled_doc c.self.inside.bytes.now c.self.invariant.1);
  room = subst (λ (a : At). a.start + length c.self.inside.bytes.now < 2 ^ 31) c.self.view_is c.self.invariant.0;
}
