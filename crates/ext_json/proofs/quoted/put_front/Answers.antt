use Rattle.ext_json.proofs.Escapes.{alone}
use Rattle.ext_json.proofs.quoted.put_front.Goals as goal

pub returns-then-front-eq1 : goal.returns-then-front-eq1
returns-then-front-eq1 g c = rw (alone c.args.front.now 0 c.if-front-eq1.true) c.put_escape.ensures
