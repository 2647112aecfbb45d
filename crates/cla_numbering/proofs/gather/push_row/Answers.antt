use Rattle.std.proofs.Common.{◌≡◌, ◌-◌, ◌∙◌, length, refl, subst, arith}
use Rattle.std.proofs.lemmas.List.{length-set}
use Rattle.cla_numbering.specs.Columns.{AreGathered}
use Rattle.cla_numbering.proofs.GatherLemmas.{taken_to, gathered-next, gathered-before, gathered-behind}
use Rattle.cla_numbering.proofs.gather.push_row.Goals as goal

pub loop-j-init : goal.loop-j-init
loop-j-init g c =
    let value = g.N.Number.value in
    let m = c.args.m.now in
    let first = c.args.first in
    let columns = c.args.columns.now.items in
    let none : 0 ≡ first - first = omega arith in
    record {
      count = refl;
      entries = subst (λ k. AreGathered value m first (taken_to k c.args.i) columns) none
          (gathered-before value m first c.args.i columns c.requires.before);
    }

pub loop-j-preserved : goal.loop-j-preserved
loop-j-preserved g c =
    let j = c.loop-j.j in
    let first = c.args.first in
    let columns = c.loop-j.columns.items in
    let count = c.loop-j.invariant.count in
    record {
      count = length-set columns (j - first) c.push.new.self ∙ count;
      entries = gathered-next g.N.Number.value c.args.m.now first c.args.i j columns c.index_mut.result.now
          c.push.new.self c.entry.result (omega (arith, c.loop-j.auto.j))
          (omega (arith, c.loop-j-test.true, count, c.requires.columns, c.loop-j.auto.j)) c.index_mut.ensures.value
          c.in_ok-push.ensures.items c.entry.ensures c.loop-j.invariant.entries;
    }

pub returns-clause-entries : goal.returns-clause-entries
returns-clause-entries g c =
    gathered-behind g.N.Number.value c.args.m.now c.args.first c.args.i
    (c.loop-j.j - c.args.first) c.loop-j.columns.items
    (omega (arith, c.loop-j-test.false, c.loop-j.invariant.count, c.requires.columns, c.loop-j.auto.j-end))
    c.loop-j.invariant.entries
