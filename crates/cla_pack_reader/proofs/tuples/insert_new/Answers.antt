use Rattle.cla_pack_reader.proofs.HashLaws.{hashed_more}
use Rattle.cla_pack_reader.proofs.tuples.insert_new.Goals as goal

pub returns-clause-hashed : goal.returns-clause-hashed
returns-clause-hashed g c =
    λ new. hashed_more g.N.Hash.hash_input c.args.values.now c.args.tuple.now c.args.seen.now _ c.tuple_hash-hash.result
    c.requires.hashed c.tuple_hash-hash.ensures c.in_ok-push.ensures.pushed
