use Rattle.cla_group.proofs.GroupsMade.{rows_kept}
use Rattle.cla_group.proofs.kept_rows.keep_rows.Goals as goal

pub returns : goal.returns
returns g c =
    rows_kept g.N.Number.BITS _ _ _ _ _ (rw c.len.ensures.count at c.in_ok-codes.ensures)
    (rw c.deref.ensures.value at c.in_ok-dictionary.ensures)
