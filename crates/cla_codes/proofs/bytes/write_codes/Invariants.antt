use Rattle.cla_codes.specs.Bytes.{AreWritten}
use Rattle.cla_codes.proofs.bytes.write_codes.Given as goal

-- the first i codes are written
abbrev pub invariant-loop-i : goal.invariant-loop-i
invariant-loop-i g l = record { written : AreWritten g.row.W l.i l.codes l.bytes.items }
