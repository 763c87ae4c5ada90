-- What is known of a document before its values are sealed
use Rattle.std.specs.Prelude.{◌≡◌, ◌<◌, ◌≤◌, ◌+◌, ◌-◌, ℕ, false, List, [], ◌∷◌, length, is_some, IfSome}
use Rattle.bson_tree.specs.Spelling.{doc_bytes, items_bytes}
use Rattle.bson_codec.specs.Borrowed.{At}
use Rattle.bson_splice.specs.Whole.{StandsAt}
use Rattle.encrypt_schema.specs.declared.command.marks.Mark.{Mark}
use Rattle.encrypt_schema.specs.declared.command.marks.Span.{Span}
use Rattle.encrypt_schema.specs.Commands.Offences.{is_pointer}
use Rattle.encrypt_schema.specs.Commands.Visits.{text_in}
use Rattle.encrypt_schema.specs.Language.Policies.{policy_at}
use Rattle.encrypt_schema.specs.Language.Row.{Row}
use Rattle.fle_outside.specs.Blocks.{AreBlocks, Block}
use Rattle.fle_outside.specs.Limits.{output_limit}
use Rattle.doc_rewrite.specs.Keys.{GivesLongIds, IsLong, Lookup}
use Rattle.doc_rewrite.specs.Sealed.{sealed}
use Rattle.doc_rewrite.specs.Sites.{Site, sites_of, spans_of}

-- the values that are to be sealed, the marks and the rules that they were read from, and how many bytes the sealed
-- document has
pub record Planned : Type 0 where
  pub sites : List Site
  pub marks : List Mark
  pub rows : List Row
  pub size : ℕ

-- the most bytes of a sealed document
abbrev pub longest_sealed : ℕ
longest_sealed = output_limit

-- marks of rules that are there
abbrev pub AreRuled : ℕ → List Mark → Type 0
AreRuled n [] = Unit {0}
AreRuled n (m ∷ ms) = (m.policy < n) × AreRuled n ms

-- the ids among what names the keys have 16 bytes
abbrev pub AreLong : List Site → Type 0
AreLong [] = Unit {0}
AreLong (s ∷ ss) = IsLong s.need × AreLong ss

-- a span lies in a document: it begins among the elements, and each of its bytes stands there
abbrev pub LiesIn : At → Span → Type 0
LiesIn d span =
    (d.start + 4 ≤ span.start)
    × (length (text_in (d.start + 4) (items_bytes d.tree) span) ≡ span.end - span.start)

-- a mark has a name exactly where its rule's key is a pointer, and that lies in the document
abbrev pub IsNamed : List Row → At → Mark → Type 0
IsNamed rows d m =
    (is_some m.name ≡ is_pointer (policy_at m.policy rows).key) × IfSome m.name (λ span. LiesIn d span)

-- each of these marks does
abbrev pub AreNamed : List Row → At → List Mark → Type 0
AreNamed rows d [] = Unit {0}
AreNamed rows d (m ∷ ms) = IsNamed rows d m × AreNamed rows d ms

-- the key of each rule is an id
abbrev pub AreById : List Row → Type 0
AreById [] = Unit {0}
AreById (row ∷ rows) = (is_pointer row.policy.key ≡ false) × AreById rows

-- what is asked of marks: in reading order and none twice, each at a value of the document, from its first to its
-- last byte, none inside another, each under a rule that is there, and with a name in the document exactly where the
-- rule's key is a pointer
pub record AreMarksOf (rows : List Row) (ms : List Mark) (d : At) : Type 0 where
  pub places : StandsAt (spans_of (sites_of rows d ms)) d
  pub ruled : AreRuled (length rows) ms
  pub named : AreNamed rows d ms

-- the length of the document, sealed at these sites under any keys with ids of 16 bytes and any blocks
abbrev pub IsSealedSize : List Site → At → ℕ → Type 0
IsSealedSize ss d size =
    (keys : Lookup) (blocks : List Block)
    → GivesLongIds keys → AreBlocks blocks → length (doc_bytes (sealed keys ss blocks d)) ≡ size

-- a plan that stands for a document: its sites are values of the document, and what names their keys is what its marks
-- lead to in this document, whichever it was made of; its size is that of the sealed document
pub record StandsFor (plan : Planned) (d : At) : Type 0 where
  pub places : StandsAt (spans_of plan.sites) d
  pub own : plan.sites ≡ sites_of plan.rows d plan.marks
  pub size : IsSealedSize plan.sites d plan.size

-- sealed at these sites, the document is above the limit
abbrev pub IsTooLong : List Site → At → Type 0
IsTooLong ss d = (n : ℕ) × IsSealedSize ss d n × (longest_sealed < n)
