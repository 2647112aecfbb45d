use Rattle.std.proofs.Common.{arith}
use Rattle.std.proofs.lemmas.Bool.{lt-ltb, le-ltb}
use Rattle.cla_layout.proofs.Columns.{column_found, column_missing}
use Rattle.cla_coded.proofs.entry.value_in.Goals as goal

pub returns-in-Ok : goal.returns-in-Ok
returns-in-Ok g c =
    let columns = c.args.part.now.columns.items in
    let found = column_found columns c.args.j c.in-Ok.place c.requires.part.rising
    (rw c.deref.ensures.value at c.in-Ok.ensures.position) in
    (lt-ltb _ _ (omega (arith, found.0, found.1)), rw (found.1, ← c.code_at.ensures) c.value.ensures)

pub returns-in-Err : goal.returns-in-Err
returns-in-Err g c =
    let columns = c.args.part.now.columns.items in
    let missing = column_missing columns c.args.j c.in-Err.field-0 c.requires.part.rising
    (rw c.deref.ensures.value at c.in-Err.ensures.position) in
    le-ltb _ _ (omega (arith, missing))
