use Rattle.std.proofs.Common.{◌≡◌, ◌∙◌, List, rules, sym, ap}
use Rattle.std.specs.Prelude.{option_map, slice_get}
use Rattle.doc_rewrite.specs.declared.named_keys.NamedEntry.{NamedEntry}
use Rattle.doc_rewrite.specs.Keys.{found_by}
use Rattle.doc_rewrite.proofs.Entries.{found_at, found_none}
use Rattle.doc_rewrite.proofs.named_keys.NamedKeys.find.Goals as goal

pub returns-in-Some : goal.returns-in-Some
returns-in-Some c =
    let same : c.deref.result.now ≡ c.self.inside.entries.items = search rules in
    rw (sym c.self.view_is) record {
      found = ap (option_map found_by) c.entry_at.ensures.entry
          ∙ ap (λ (es : List NamedEntry). option_map found_by (slice_get es c.in-Some.number)) same
          ∙ found_at c.args.name.now _ c.in-Some.number
          (sym (c.self.invariant.0 c.args.name.now) ∙ sym c.in-Some.ensures.number);
      long = c.self.invariant.1;
    }

pub returns-in-None : goal.returns-in-None
returns-in-None c = rw (sym c.self.view_is) record {
  found = sym (found_none c.args.name.now _ (sym (c.self.invariant.0 c.args.name.now) ∙ sym c.in-None.ensures.number));
  long = c.self.invariant.1;
}
