use Rattle.std.proofs.Common.{map}
use Rattle.cla_layout.specs.Groups.{AreGathered}
use Rattle.cla_group.proofs.group.Group.gather.Given as goal

-- each place is the sum over the rows before i
abbrev pub invariant-loop-i : goal.invariant-loop-i
invariant-loop-i g l =
    record { so_far : AreGathered (g.Self.Group.codes l.self) (map g.N.Number.value l.rows) l.i l.into }
