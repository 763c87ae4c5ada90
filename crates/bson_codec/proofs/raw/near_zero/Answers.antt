-- The first 00 of the first 32 bytes, where there is one.
use Rattle.bson_codec.proofs.NearZeros.{near_found, near_inside}
use Rattle.bson_codec.proofs.raw.near_zero.Goals as goal

pub returns-clause-found : goal.returns-clause-found
returns-clause-found c = near_found c.args.bytes.now 32 c.memchr.result c.memchr.ensures

pub returns-clause-inside : goal.returns-clause-inside
returns-clause-inside c = near_inside c.args.bytes.now 32 c.memchr.result c.memchr.ensures
