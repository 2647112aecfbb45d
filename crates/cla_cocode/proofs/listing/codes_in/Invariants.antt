use Rattle.std.proofs.Common.{◌≡◌, ◌++◌, map, drop}
use Rattle.cla_layout.specs.Groups.{code_of}
use Rattle.cla_cocode.proofs.listing.codes_in.Given as goal

-- the codes so far and those of the rows that are left are all codes
abbrev pub invariant-loop-row : goal.invariant-loop-row
invariant-loop-row l = record {
  codes : l.found.items ++ map (code_of l.codes) (drop l.row-index l.rows) ≡ map (code_of l.codes) l.rows;
}
