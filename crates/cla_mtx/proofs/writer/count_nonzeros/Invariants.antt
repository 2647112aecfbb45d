use Rattle.std.proofs.Common.{◌≡◌, ◌≤◌, ◌*◌, ◌^◌, pos}
use Rattle.cla_mtx.specs.Texts.{count_in_columns}
use Rattle.cla_mtx.proofs.writer.count_nonzeros.Given as goal

-- the columns before column j
abbrev pub invariant-loop-j : goal.invariant-loop-j
invariant-loop-j g l = record {
  counted : l.count ≡ pos (count_in_columns l.m l.j);
  few : count_in_columns l.m l.j ≤ l.j * 2 ^ 32;
}
