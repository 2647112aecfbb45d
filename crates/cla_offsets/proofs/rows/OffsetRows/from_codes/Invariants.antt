use Rattle.cla_offsets.specs.Segments.{AreLists}
use Rattle.cla_offsets.proofs.rows.OffsetRows.from_codes.Given as goal

-- the lists of the first s segments
abbrev pub invariant-loop-s : goal.invariant-loop-s
invariant-loop-s l =
    record { lists : AreLists l.s (record { codes = l.codes; tuples = l.tuples; rest = l.rest }) l.lists }
