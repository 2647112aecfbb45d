use Rattle.std.proofs.Common.{◌≡◌, ◌-◌, length}
use Rattle.cla_numbering.specs.Columns.{AreGathered}
use Rattle.cla_numbering.proofs.gather.gathered.Given as goal

-- the entries of the rows so far are there
abbrev pub invariant-loop-i : goal.invariant-loop-i
invariant-loop-i g l = record {
  count : length l.columns.items ≡ l.past - l.first;
  entries : AreGathered g.N.Number.value l.m l.first (λ _. l.i) l.columns.items;
}
