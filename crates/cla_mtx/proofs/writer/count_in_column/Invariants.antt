use Rattle.std.proofs.Common.{◌≡◌, ◌≤◌}
use Rattle.cla_mtx.specs.Texts.{count_in_column}
use Rattle.cla_mtx.proofs.writer.count_in_column.Given as goal

-- the entries before row i
abbrev pub invariant-loop-i : goal.invariant-loop-i
invariant-loop-i g l = record { counted : l.count ≡ count_in_column l.m l.j l.i; few : l.count ≤ l.i }
