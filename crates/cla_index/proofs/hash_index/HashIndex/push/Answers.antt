use Rattle.std.proofs.Common.{rules, ◌≡◌, length, List, ℕ, ap, arith}
use Rattle.std.proofs.lemmas.List.{length-map}
use Rattle.cla_index.specs.Chains.{hashes_of}
use Rattle.cla_index.proofs.ChainLaws.{chain_pushed}
use Rattle.cla_index.proofs.hash_index.HashIndex.push.Goals as goal

pub invariant_of-self-2 : goal.invariant_of-self-2
invariant_of-self-2 c =
    let same : hashes_of c.make_room.new.links.items ≡ c.args.self.now = search rules in
    chain_pushed c.make_room.new.latest.items c.make_room.new.links.items c.push.new.self.items c.args.hash
    c.bucket-bucket.result c.index-earlier.result.now c.len-2.result c.make_room.ensures.index
    (omega (
      arith,
      c.requires.few,
      ap (λ (hs : List ℕ). length hs) same,
      length-map c.make_room.new.links.items (λ l. l.hash),
    ))
    (search rules) (search rules) (search rules) c.index-earlier.ensures c.in_ok-push.ensures.items (search rules)
