use Rattle.std.proofs.Common.{◌≤◌, length}
use Rattle.cla_layout.proofs.Counting.{rows_count}
use Rattle.cla_plain.proofs.PlainGroups.{plain_group, rows_cut, rows_numbered}
use Rattle.cla_plain.proofs.plain.PlainOwned.slice_rows.Goals as goal

pub invariant_of-result : goal.invariant_of-result
invariant_of-result g c = record { is = plain_group _ _ _ c.in_ok-slice.ensures.are }

pub returns-clause-rows : goal.returns-clause-rows
returns-clause-rows g c =
    let p = c.args.self.now in
    let within : c.args.b ≤ length p.dictionary.tuples =
    rw (rows_count (length p.dictionary.tuples)) at c.requires.within in
    rw c.in_ok-slice.ensures.value (rows_cut p.dictionary.width c.args.a c.args.b p.dictionary.tuples c.requires.some
    within)

pub returns-clause-numbered : goal.returns-clause-numbered
returns-clause-numbered g c = rows_numbered (length c.in_ok-slice.field-0.tuples)
