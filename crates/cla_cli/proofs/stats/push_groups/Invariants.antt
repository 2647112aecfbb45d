use Rattle.std.proofs.Common.{◌≡◌, ◌++◌, drop}
use Rattle.cla_cli.specs.Stats.{group_lines}
use Rattle.cla_cli.proofs.stats.push_groups.Given as goal

-- the lines of the groups that are left end the text
abbrev pub invariant-loop-before : goal.invariant-loop-before
invariant-loop-before l = l.fn.text ++ group_lines 0 l.groups ≡ l.text ++ group_lines l.before (drop l.before l.groups)
