use Rattle.cla_codes.proofs.CodeBytes.{kept_bytes}
use Rattle.cla_codes.proofs.byte_codes.ByteCodes.from_bytes.Goals as goal

pub invariant_of-result : goal.invariant_of-result
invariant_of-result g c =
    kept_bytes g.row.W c.args.tuples c.args.rows c.args.bytes.items _ _ c.requires.fits c.requires.few c.requires.size
    c.requires.below (rw c.deref.ensures.value at c.in_ok-occurrences.ensures)
