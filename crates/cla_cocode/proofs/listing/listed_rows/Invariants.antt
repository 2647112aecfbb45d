use Rattle.std.proofs.Common.{◌≡◌}
use Rattle.cla_layout.specs.Listed.{rows_where}
use Rattle.cla_grouping.specs.Sizes.{is_listed}
use Rattle.cla_cocode.proofs.listing.listed_rows.Given as goal

-- the rows so far that are listed
abbrev pub invariant-loop-i : goal.invariant-loop-i
invariant-loop-i l = record {
  rows : l.rows.items ≡ rows_where (is_listed l.zero l.codes) l.i;
}
