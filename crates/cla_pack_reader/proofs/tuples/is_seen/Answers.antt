use Rattle.std.proofs.Common.{rules}
use Rattle.cla_pack_reader.proofs.HashLaws.{seen_among}
use Rattle.cla_pack_reader.proofs.tuples.is_seen.Goals as goal

pub returns : goal.returns
returns g c =
    seen_among g.N.Hash.hash_input g.N.PartialEq.eq g.met.N.Hash.respects_eq g.N.Number.value g.met.N.Number.equality
    c.args.values.now c.args.tuple.now c.args.seen.now c.args.hash c.requires.hashed c.requires.hash c.has.result
    (λ yes. let here = c.has.ensures.found yes in (here.0, here.1, here.2, search rules))
    (λ no k there is. let test = c.has.ensures.absent no k there is in search rules)
