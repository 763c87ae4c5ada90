-- A sealed command opens to the command, and has a spelling.
use Rattle.std.proofs.Common.{◌≡◌, ℕ, ◌+◌, ◌<◌, ◌^◌, List, [], length, Option, Some, None, Ok, sym, ap, subst, arith}
use Rattle.bson_tree.specs.Tree.{Tree, Items}
use Rattle.bson_tree.specs.Spelling.{items_bytes, doc_bytes, value_bytes}
use Rattle.bson_tree.proofs.Sizes.{framed_size}
use Rattle.bson_codec.specs.Borrowed.{At}
use Rattle.bson_codec.specs.Layout.{IsDoc, IsValue}
use Rattle.encrypt_schema.specs.Commands.Stations.{Outside, station}
use Rattle.encrypt_schema.specs.Commands.Visits.{command_entry, command_visit, content_of, content_verdict}
use Rattle.encrypt_schema.specs.Commands.Visits.{refused_at}
use Rattle.encrypt_schema.specs.Commands.Pointers.{pointed}
use Rattle.encrypt_schema.specs.declared.schema.policy.Algorithm.{Algorithm}
use Rattle.encrypt_schema.specs.Language.Policies.{policy_at}
use Rattle.encrypt_schema.specs.Language.Row.{Row}
use Rattle.encrypt_schema.proofs.Commands.Ruled.{station_ruled}
use Rattle.payload6.specs.Marking.{binary}
use Rattle.payload6.specs.Needs.{Need}
use Rattle.doc_rewrite.specs.Keys.{Lookup}
use Rattle.doc_rewrite.specs.Opened.{Keyring, HasAll, opened, value_of}
use Rattle.doc_rewrite.specs.Founds.{payloads_of}
use Rattle.doc_rewrite.specs.PayloadFree.{IsPayloadFree}
use Rattle.doc_rewrite.specs.SealedCommand.{IsSealedCommand}
use Rattle.doc_rewrite.specs.SealedTrees.{use_of, IsSealedBy, IsSealedByStations, IsSealedUse}
use Rattle.doc_rewrite.proofs.Covered.{covered_items}
use Rattle.doc_rewrite.proofs.FromPlaces.{by_stations}
use Rattle.doc_rewrite.proofs.GivesBack.{back_items}
use Rattle.doc_rewrite.proofs.LaidOut.{binary_laid, laid_items}
use Rattle.doc_rewrite.proofs.RightPayloads.{IsHad, IsRight, nothing_wrong, sealed_back, use_had}
use Rattle.doc_rewrite.proofs.Sealable.{Sealable, fine_items, later_none}

-- a binary of subtype 06
record IsBinary (u : Tree) : Type 0 where
  pub bytes : List ℕ
  pub whole : u ≡ binary 6 bytes

is_binary : (keys : Lookup) (algorithm : Algorithm) (need : Option Need) (t u : Tree)
    → IsSealedBy keys algorithm need t u → IsBinary u
is_binary keys algorithm None t u s = absurd s
is_binary keys algorithm (Some need) t u s = record { bytes = s.bytes; whole = s.whole }

module _ (keys : Lookup) (rows : List Row) where
  pub stations_of : (c d : Items) → IsSealedCommand keys rows c d → IsSealedByStations keys rows c d
  stations_of c d sealed = by_stations (IsSealedUse keys) rows c d sealed

  pub opens_again : (ring : Keyring) (c d : At) → IsDoc c.tree → content_verdict rows c.start c.tree ≡ None
      → IsPayloadFree rows c.tree → HasAll ring keys → IsSealedByStations keys rows c.tree d.tree
      → opened ring d ≡ Ok c.tree
  unfolding opened
  opens_again ring c d doc none free all sealed =
      let R : ℕ → Tree → Tree → Type 0 = λ i t u. IsHad ring (policy_at i rows).algorithm t u in
      let s = station rows Outside (command_entry c.tree) in
      let had = covered_items (IsSealedUse keys) R rows (λ ts i t u h. use_had keys ring all rows ts i t u h) s
      (pointed rows s [] 0 c.tree) 4 c.tree d.tree sealed in
      let own = refused_at 0 (content_of rows (command_visit c.tree)) in
      let fine = fine_items R rows s (pointed rows s [] c.start c.tree) (c.start + 4) [] c.tree d.tree
      (station_ruled rows Outside (command_entry c.tree) tt) (later_none own _ none) had in
      let b = back_items (value_of ring) (IsRight ring) (Sealable R rows) rows
      (λ levels i t u low h laid. sealed_back ring (policy_at i rows).algorithm levels t u low h.0 h.1 laid) 99 s
      (d.start + 4) c.tree d.tree (omega arith) fine free doc.inside in
      let right = nothing_wrong ring (payloads_of d) b.right in
      rw right (ap Ok b.filled)

  abbrev Binary : ℕ → Tree → Tree → Type 0
  Binary i t u = IsBinary u

  laid_value : (D : Items → Type 0) (i : ℕ) (t u : Tree) → Binary i t u → length (value_bytes u) < 2 ^ 31 → IsValue D u
  laid_value D i t u h fits =
      subst (IsValue D) (sym h.whole)
      (binary_laid D h.bytes (omega (arith, subst (λ (x : Tree). length (value_bytes x) < 2 ^ 31) h.whole fits)))

  pub spelled_again : (c d : Items) → IsDoc c → IsSealedByStations keys rows c d → length (doc_bytes d) < 2 ^ 31
      → IsDoc d
  spelled_again c d doc sealed fits =
      let s = station rows Outside (command_entry c) in
      let binaries = covered_items (IsSealedUse keys) Binary rows
      (λ ts i t u h. is_binary keys (policy_at i rows).algorithm (use_of rows ts i).need t u h) s
      (pointed rows s [] 0 c) 4 c d sealed in
      record {
        inside = laid_items Binary rows laid_value 99 s c d binaries doc.inside
            (omega (arith, fits, framed_size (items_bytes d)));
        fits = fits;
      }
