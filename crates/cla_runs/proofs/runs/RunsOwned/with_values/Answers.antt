use Rattle.std.proofs.Common.{◌∙◌, length, map, sym}
use Rattle.cla_layout.proofs.Tuples.{tuples_count}
use Rattle.cla_group.proofs.GroupsMade.{group_valued}
use Rattle.cla_runs.proofs.runs.RunsOwned.with_values.Goals as goal

pub invariant_of-result : goal.invariant_of-result
invariant_of-result g c =
    let p = c.args.self.now in
    let are = rw c.with_values-dictionary.ensures.value at c.with_values-dictionary.ensures.are in
    let count = tuples_count p.dictionary.width (length p.dictionary.tuples) (map g.N.Number.value c.args.values.items)
    in
    rw (c.in_ok-rows.ensures.cases, c.with_values-dictionary.ensures.value) (record {
      is = group_valued _ _ _ _ _ p.is are count;
      all = p.all ∙ sym count;
    })
