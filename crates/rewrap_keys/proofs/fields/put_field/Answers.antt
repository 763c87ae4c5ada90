use Rattle.std.proofs.Common.{rules, ◌≡◌, ◌++◌, ◌∷◌, [], true, take, subst, List, ℕ}
use Rattle.std.specs.Prelude.{bytes_eq, codes}
use Rattle.rewrap_keys.proofs.Filled.{material_put}
use Rattle.rewrap_keys.proofs.fields.put_field.Goals as goal

pub returns-then-eq-clause-written : goal.returns-then-eq-clause-written
returns-then-eq-clause-written c =
    let is : bytes_eq c.args.field.now.name (codes "keyMaterial") ≡ true = search rules in
    let before : take c.put_name-named.result c.put_name-named.new.out
    ≡ take c.args.at c.args.out.now ++ (5 ∷ (c.args.field.now.name ++ 0 ∷ [])) =
    subst (λ (name : List ℕ). take c.put_name-named.result c.put_name-named.new.out
    ≡ take c.args.at c.args.out.now ++ (5 ∷ (name ++ 0 ∷ []))) c.name-then-eq.ensures.name
    c.put_name-named.ensures.named in
    material_put c.args.material.now c.args.field.now.name _ _ _ c.args.time c.args.field.now.tree is before
    c.put_material.ensures.written
