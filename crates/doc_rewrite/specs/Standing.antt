-- Sites that stand at values of a document, one after the other
use Rattle.std.specs.Prelude.{◌+◌, List, [], map}
use Rattle.bson_codec.specs.Borrowed.{At, Elem}
use Rattle.bson_splice.specs.Splices.{Put}
use Rattle.bson_splice.specs.Takes.{Takes, TakesIn}
use Rattle.bson_tree.specs.Tree.{leaf}
use Rattle.doc_rewrite.specs.Sites.{Site}

-- empty values in their places
abbrev pub empty_of : Site → Put
empty_of s = record { start = s.start; end = s.end; value = λ t. leaf 0 [] }

-- one at each site
abbrev pub empties : List Site → List Put
empties ss = map empty_of ss

-- an element takes the first of these sites, and leaves the others
abbrev pub ElementTakes : Elem → List Site → List Site → Type 0
ElementTakes e ss left = TakesIn e.start e.tree (empties ss) (empties left)

-- a document takes the first of these sites, and leaves the others
abbrev pub DocumentTakes : At → List Site → List Site → Type 0
DocumentTakes d ss left = Takes (d.start + 4) d.tree (empties ss) (empties left)
