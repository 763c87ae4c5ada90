-- The element at hand goes from what is left to those before.
use Rattle.data_key.proofs.Together.{behind, whole_seen}
use Rattle.data_key.proofs.elements.key_elements.Goals as goal

pub loop-item-preserved : goal.loop-item-preserved
loop-item-preserved c =
    let step = c.in-Some.ensures.steps.0 in
    let before = c.loop-item.invariant in
    record {
      id = behind _ _ _ c.in-Some.item _ _ _ c.put_element.ensures.id step before.id;
      names = behind _ _ _ c.in-Some.item _ _ _ c.put_element.ensures.names step before.names;
      material = behind _ _ _ c.in-Some.item _ _ _ c.put_element.ensures.material step before.material;
      master_key = behind _ _ _ c.in-Some.item _ _ _ c.put_element.ensures.master_key step before.master_key;
    }

pub returns : goal.returns
returns c =
    let none = c.in-None.ensures.steps.0 in
    let all = c.loop-item.invariant in
    record {
      id = whole_seen _ _ _ _ none all.id;
      names = whole_seen _ _ _ _ none all.names;
      material = whole_seen _ _ _ _ none all.material;
      master_key = whole_seen _ _ _ _ none all.master_key;
    }
