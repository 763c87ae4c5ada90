use Rattle.doc_rewrite.proofs.FreePlaces.{from_places}
use Rattle.doc_rewrite.proofs.OpensAgain.{opens_again, stations_of}
use Rattle.context_machine.specs.Rings.{by_ids, finder, found_in, ring}
use Rattle.context_machine.proofs.ByIds.{sealed_by_ids}
use Rattle.context_machine.proofs.FoundKeys.{all_found, ids_found}
use Rattle.context_machine.proofs.laws.inverse.opening_undoes_sealing.Goals as goal

pub returns : goal.returns
returns c = record {
  opens = λ vault master rows a d distinct doc none free h.
      let keys = found_in (finder vault master) in
      opens_again keys rows (ring vault master) a d doc none (from_places rows a.tree free)
      (all_found vault master distinct) (stations_of keys rows a.tree d.tree h);
  opens_by_ids = λ vault master rows a d ids doc none free h.
      let keys = found_in (by_ids (ring vault master)) in
      opens_again keys rows (ring vault master) a d doc none (from_places rows a.tree free)
      (ids_found (ring vault master))
      (stations_of keys rows a.tree d.tree (sealed_by_ids vault master rows ids a.tree d.tree h));
}
