use Rattle.std.proofs.Common.{length, map}
use Rattle.cla_layout.proofs.Tuples.{tuples_count}
use Rattle.cla_group.proofs.GroupsMade.{group_valued}
use Rattle.cla_codes.proofs.codes.CodesOwned.with_values.Goals as goal

pub invariant_of-result-clause-is : goal.invariant_of-result-clause-is
invariant_of-result-clause-is g c =
    let p = c.args.self.now in
    let are = rw c.with_values.ensures.value at c.with_values.ensures.are in
    let count = tuples_count p.dictionary.width (length p.dictionary.tuples) (map g.N.Number.value c.args.values.items)
    in
    rw (c.in_ok-clone.ensures.cases, c.with_values.ensures.value) (group_valued _ _ _ _ _ p.is are count)
