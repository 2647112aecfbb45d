use Rattle.std.proofs.Common.{◌<◌, sym, ap, ◌∙◌, subst, arith}
use Rattle.std.proofs.lemmas.List.{get_or_read}
use Rattle.cla_layout.specs.Groups.{occurrences_of}
use Rattle.cla_layout.proofs.Listings.{rows_of_count}
use Rattle.cla_grouping.specs.Tuples.{TuplesOf}
use Rattle.cla_stats.proofs.tuples.Tuples.occurrences.Goals as goal

pub returns : goal.returns
returns c =
    let k = c.args.k in
    let coded = c.self.inside.coded in
    let occurrences = c.self.inside.counts.occurrences.items in
    let are = c.self.invariant.1.occurring in
    let below : k < coded.distinct = subst (λ (t : TuplesOf). k < t.distinct) (sym c.self.view_is) c.requires in
    get_or_read occurrences k c.index.result.now (omega (arith, below, are.a_count_each)) c.index.ensures 0
    ∙ are.count k below ∙ rows_of_count coded.codes.items k
    ∙ ap (λ (t : TuplesOf). occurrences_of t.codes k) c.self.view_is
