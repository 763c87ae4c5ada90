-- Values of a document that are to be sealed: where each stands, by which algorithm, under which key
use Rattle.std.specs.Prelude.{ℕ, ◌+◌, ◌*◌, ◌/◌, ◌-◌, List, [], ◌∷◌, length, map, unwrap_or}
use Rattle.bson_codec.specs.Borrowed.{At}
use Rattle.bson_tree.specs.Spelling.{value_bytes}
use Rattle.bson_tree.specs.Tree.{Items}
use Rattle.bson_splice.specs.Spans.{Span}
use Rattle.encrypt_schema.specs.declared.command.marks.Mark.{Mark}
use Rattle.encrypt_schema.specs.declared.schema.policy.Algorithm.{Algorithm}
use Rattle.encrypt_schema.specs.declared.schema.policy.Algorithm.TheVariants.{Deterministic, Random}
use Rattle.encrypt_schema.specs.Language.Policies.{policy_at}
use Rattle.encrypt_schema.specs.Language.Row.{Row}
use Rattle.payload6.specs.Needs.{Need, Name, need_of, need_seen}
use Rattle.doc_rewrite.specs.declared.site.Site.{Site as HeldSite}

-- a document by itself, whose offsets are from 0
abbrev pub at_front : Items → At
at_front c = record { start = 0; tree = c }

-- a value that is to be sealed: where it begins, where it ends, how it is sealed, and what names its key
pub record Site : Type 0 where
  pub start : ℕ
  pub end : ℕ
  pub algorithm : Algorithm
  pub need : Need

-- what the code holds
abbrev pub site_seen : HeldSite → Site
site_seen s = record { start = s.start; end = s.end; algorithm = s.algorithm; need = need_seen s.need }

-- what names the key of a mark's value in a document; where nothing does, a name of no byte: no mark that stands in a
-- document is such a one
abbrev pub need_named : List Row → At → Mark → Need
need_named rows d m = unwrap_or (need_of rows d m) (Name [])

-- the site of a mark of a document: its value's place, with what its rule says
abbrev pub site_of : List Row → At → Mark → Site
site_of rows d m = record {
  start = m.start;
  end = m.end;
  algorithm = (policy_at m.policy rows).algorithm;
  need = need_named rows d m;
}

-- the sites of marks, in their order
abbrev pub sites_of : List Row → At → List Mark → List Site
sites_of rows d ms = map (site_of rows d) ms

-- the bytes of a binary with the payload of a value of n bytes: length, subtype, and the payload, whose plain text is
-- padded to blocks of 16
abbrev pub sealed_width : ℕ → ℕ
sealed_width n = 71 + 16 * (n / 16 + 1)

-- the place of a site, and how many bytes take it
abbrev pub span_of : Site → Span
span_of s = record { start = s.start; end = s.end; most = λ t. sealed_width (length (value_bytes t)) }

-- the places of sites
abbrev pub spans_of : List Site → List Span
spans_of ss = map span_of ss

-- how many bytes more sealed values have than the values
abbrev pub grown : List Site → ℕ
grown [] = 0
grown (s ∷ ss) = (sealed_width (s.end - s.start) - (s.end - s.start)) + grown ss

-- how many random blocks are drawn for a value: one where it is sealed by the random algorithm
abbrev pub draw : Algorithm → ℕ
draw Deterministic = 0
draw Random = 1

-- those of all sites
abbrev pub draws_of : List Site → ℕ
draws_of [] = 0
draws_of (s ∷ ss) = draw s.algorithm + draws_of ss
