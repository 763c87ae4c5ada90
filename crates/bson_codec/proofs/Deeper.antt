-- What is spelled with some levels of nesting is spelled with one more.
use Rattle.std.proofs.Common.{◌-◌, ℕ, zero, suc, List, Option, Some, None}
use Rattle.bson_tree.specs.Tree.{Tree, Items, leaf, node, no_items, item}
use Rattle.bson_codec.specs.declared.table.ValueLayout.{ValueLayout}
use Rattle.bson_codec.specs.declared.table.ValueLayout.TheVariants as values
use Rattle.bson_codec.specs.declared.table.RawLayout.{RawLayout}
use Rattle.bson_codec.specs.declared.table.RawLayout.TheVariants as raws
use Rattle.bson_codec.specs.Table.{layout_of}
use Rattle.bson_codec.specs.Layout.{IsRaw, IsInside, HasLayout, AreElements, IsItems, IsDoc, level_limit}

module _ (D E : Items → Type 0) (more : (is : Items) → D is → E is) where
  raw_more : (layout : RawLayout) (bytes : List ℕ) → IsRaw D layout bytes → IsRaw E layout bytes
  raw_more (raws.Fixed width) bytes h = h
  raw_more raws.Bool bytes h = h
  raw_more raws.Text bytes h = h
  raw_more raws.Binary bytes h = h
  raw_more raws.Regex bytes h = h
  raw_more raws.Pointer bytes h = h
  raw_more raws.Scope bytes h = record {
    code = h.code;
    scope = h.scope;
    inside = more h.scope h.inside;
    fits = h.fits;
    parts = h.parts;
  }

  value_more : (o : Option ValueLayout) (t : Tree) → HasLayout D o t → HasLayout E o t
  value_more None t h = h
  value_more (Some values.Document) (leaf tag bytes) h = h
  value_more (Some values.Document) (node tag is) h = record { inside = more is h.inside; fits = h.fits }
  value_more (Some (values.Raw layout)) (leaf tag bytes) h = raw_more layout bytes h
  value_more (Some (values.Raw layout)) (node tag is) h = h

  pub elements_more : (is : Items) → AreElements D is → AreElements E is
  elements_more no_items h = tt
  elements_more (item name t is) h = (h.0, value_more (layout_of _) t h.1, elements_more is h.2)

pub items_more : (levels : ℕ) (is : Items) → IsItems levels is → IsItems (suc levels) is
items_more zero is h = absurd h
items_more (suc levels) is h = elements_more (IsItems levels) (IsItems (suc levels)) (items_more levels) is h

-- a document inside another one is a document
pub inside_is_doc : (is : Items) → IsInside (IsItems (level_limit - 1)) is → IsDoc is
inside_is_doc is h = record { inside = items_more (level_limit - 1) is h.inside; fits = h.fits }
