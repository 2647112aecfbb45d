use Rattle.std.proofs.Common.{◌≡◌, ◌∙◌, ap, arith}
use Rattle.cla_grouping.specs.Grouping.{groups_to}
use Rattle.cla_cocode.proofs.layouts.kept_groups.Goals as goal

pub returns-clause-columns : goal.returns-clause-columns
returns-clause-columns g c =
    let is = c.loop-first.invariant in
    let all : c.loop-first.first
    ≡ c.args.m.now.cols = omega (arith, c.loop-first-test.false, c.cols-cols.ensures, is.within) in
    is.columns ∙ ap (groups_to c.args.m.now) all
