-- Payloads that an object is told of, element by element.
use Rattle.std.proofs.Common.{◌≡◌, ◌∙◌, ℕ, ◌+◌, ◌≤◌, Result, Some, Ok, Err, List, [], ◌∷◌, ◌++◌, map}
use Rattle.std.proofs.Common.{refl, sym, ap, subst, arith, append_assoc, append-nil, length-append}
use Rattle.std.proofs.lemmas.List.{map-append}
use Rattle.bson_tree.specs.Tree.{Items, no_items}
use Rattle.bson_codec.specs.Borrowed.{At, Elem}
use Rattle.bson_codec.specs.Elements.{TakesElement}
use Rattle.doc_rewrite.specs.declared.found.FoundAt.{FoundAt}
use Rattle.doc_rewrite.specs.declared.finding.FindFault.{FindFault}
use Rattle.doc_rewrite.specs.Finding.{FailsAs, FindsAll, FindsAs, Tells, found_at}
use Rattle.doc_rewrite.specs.Founds.{Place, founds, founds_in}
use Rattle.doc_rewrite.specs.Opened.{first_wrong, misshapen}
use Rattle.doc_rewrite.proofs.Held.{held_in}
use Rattle.doc_rewrite.proofs.Walks.{before_wrong, behind_right, founds_parts}

module _ {S : Type 0} (step : S → S → FoundAt → Type 0) where
  -- these, and then those
  tells_then : (a b c : S) (fs gs : List FoundAt) → Tells step a b fs → Tells step b c gs → Tells step a c (fs ++ gs)
  tells_then a b c [] gs first second = subst (λ (s : S). Tells step s c gs) (sym first) second
  tells_then a b c (f ∷ fs) gs first second = (first.0, first.1, tells_then first.0 b c fs gs first.2 second)

  -- some elements are passed, and these are left
  pub record Passing (levels : ℕ) (all here : At) (n m : ℕ) (before after : S) : Type 0 where
    pub places : List Place
    pub parts : founds levels (all.start + 4) all.tree ≡ places ++ founds levels here.start here.tree
    pub found : FindsAll step places n before after m
    pub few : m ≤ here.start

module _ {S : Type 0} (step : S → S → FoundAt → Type 0) (levels : ℕ) (all : At) (n : ℕ) (before : S) where
  pub begins : (here : At) → here ≡ record { tree = all.tree; start = all.start + 4 } → n ≤ all.start
      → Passing step levels all here n n before before
  begins here e few = record {
    places = [];
    parts = ap (λ (h : At). founds levels h.start h.tree) (sym e);
    found = record { told = refl; shaped = refl; count = omega arith };
    few = omega (arith, few, ap (λ (h : At). h.start) e);
  }

  module _ (here rest : At) (e : Elem) (taken : TakesElement here (Some e) rest) (m : ℕ) (mid : S)
      (o : Passing step levels all here n m before mid) where
    pub few_next : m ≤ e.start
    few_next = omega (arith, o.few, taken.1)

    pub passes_next : (k : ℕ) (after : S) → FindsAll step (founds_in levels e.start e.tree) m mid after k
        → Passing step levels all rest n k before after
    passes_next k after s =
        let ps = founds_in levels e.start e.tree in
        let qs = founds levels rest.start rest.tree in
        record {
          places = o.places ++ ps;
          parts = o.parts ∙ ap (λ (x : List Place). o.places ++ x) (founds_parts levels here rest e taken)
              ∙ sym (append_assoc o.places ps qs);
          found = record {
            told = subst (Tells step before after) (sym (map-append found_at o.places ps))
                (tells_then step before mid after (map found_at o.places) (map found_at ps) o.found.told s.told);
            shaped = behind_right misshapen o.places ps o.found.shaped ∙ s.shaped;
            count = omega (arith, o.found.count, s.count, length-append o.places ps);
          };
          few = omega (arith, few_next, s.count, taken.2, held_in levels e.start e.tree s.shaped);
        }

    fails : (fault : FindFault) → FailsAs (founds_in levels e.start e.tree) fault
        → FailsAs (founds levels (all.start + 4) all.tree) fault
    fails fault s =
        ap (first_wrong misshapen) o.parts
        ∙ behind_right misshapen o.places (founds levels here.start here.tree) o.found.shaped
        ∙ ap (first_wrong misshapen) (founds_parts levels here rest e taken)
        ∙ before_wrong misshapen (founds_in levels e.start e.tree) (founds levels rest.start rest.tree) _ s

    pub halts : (after : S) (r : Result ℕ FindFault) → ((behind : ℕ) → r ≡ Ok behind → ⊥)
        → FindsAs step (founds_in levels e.start e.tree) m mid after r
        → FindsAs step (founds levels (all.start + 4) all.tree) n before after r
    halts after (Ok behind) never told = absurd (never behind refl)
    halts after (Err fault) never told = fails fault told

  pub finds_all : (here : At) (m : ℕ) (after : S) → here.tree ≡ no_items
      → Passing step levels all here n m before after
      → FindsAll step (founds levels (all.start + 4) all.tree) n before after m
  finds_all here m after none o =
      let same : founds levels (all.start + 4) all.tree ≡ o.places =
      o.parts ∙ ap (λ (is : Items). o.places ++ founds levels here.start is) none ∙ append-nil o.places in
      subst (λ (ps : List Place). FindsAll step ps n before after m) (sym same) o.found
