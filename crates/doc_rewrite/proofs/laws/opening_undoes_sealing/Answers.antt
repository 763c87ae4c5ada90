use Rattle.encrypt_schema.specs.Commands.Visits.{roles}
use Rattle.doc_rewrite.specs.Sealed.{sealed}
use Rattle.doc_rewrite.specs.Sites.{sites_of}
use Rattle.doc_rewrite.proofs.FreePlaces.{from_places}
use Rattle.doc_rewrite.proofs.OpensAgain.{opens_again, stations_of}
use Rattle.doc_rewrite.proofs.SealedAsStated.{as_stated}
use Rattle.doc_rewrite.proofs.laws.opening_undoes_sealing.Goals as goal

pub returns : goal.returns
returns c = record {
  opens = λ keys ring rows a d doc none free all h.
      opens_again keys rows ring a d doc none free all (stations_of keys rows a.tree d.tree h);
  stations = λ keys ring rows a d doc none free all h. opens_again keys rows ring a d doc none free all h;
  places = λ keys ring rows a d doc none free all h.
      let apart = from_places rows a.tree free in
      opens_again keys rows ring a d doc none apart all (stations_of keys rows a.tree d.tree h);
  sealed = λ keys ring rows a blocks doc none free all bytes are had.
      let js = sealed keys (sites_of rows a (roles rows a.start a.tree)) blocks a in
      opens_again keys rows ring a (record { tree = js; start = a.start }) doc none free all
      (stations_of keys rows a.tree js (as_stated keys rows a blocks bytes are had));
}
