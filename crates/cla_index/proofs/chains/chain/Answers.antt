use Rattle.std.proofs.Common.{rules, ◌+◌, length, ◌∙◌, refl}
use Rattle.std.proofs.Math.Seq.{map-set_same}
use Rattle.std.proofs.lemmas.List.{length-set}
use Rattle.cla_index.proofs.ChainLaws.{chain_set}
use Rattle.cla_index.proofs.chains.chain.Goals as goal

pub loop-k-preserved : goal.loop-k-preserved
loop-k-preserved c =
    record {
      buckets = length-set c.loop-k.latest c.bucket-bucket.result (c.loop-k.k + 1) ∙ c.loop-k.invariant.buckets;
      hashes = map-set_same (λ l. l.hash) c.loop-k.links c.loop-k.k _ _ refl ∙ c.loop-k.invariant.hashes;
      chained = chain_set (length c.args.latest.now) c.loop-k.k c.loop-k.latest c.loop-k.links _ c.bucket-bucket.result
          c.loop-k.invariant.chained (search rules) (search rules) (search rules) c.loop-k.invariant.buckets refl;
    }
