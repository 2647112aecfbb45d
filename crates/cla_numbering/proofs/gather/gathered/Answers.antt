use Rattle.cla_numbering.proofs.GatherLemmas.{gathered-none}
use Rattle.cla_numbering.proofs.gather.gathered.Goals as goal

pub loop-i-init : goal.loop-i-init
loop-i-init g c = record {
  count = c.in_ok-columns.ensures.count;
  entries =
      gathered-none g.N.Number.value c.args.m.now c.args.first c.in_ok-columns.columns.items
      c.in_ok-columns.ensures.none;
}
