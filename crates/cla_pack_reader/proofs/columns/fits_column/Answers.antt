use Rattle.std.proofs.Common.{◌<◌, length, sym, ◌∙◌, arith}
use Rattle.std.proofs.lemmas.Bool.{ltb-false}
use Rattle.cla_pack_reader.proofs.ColumnLaws.{column_first}
use Rattle.cla_pack_reader.proofs.columns.fits_column.Goals as goal

pub returns-clause-exact : goal.returns-clause-exact
returns-clause-exact c taken so_far marks started next =
    let cols = length c.args.marks.now in
    let lt : c.args.column < cols = omega (arith, c.if-column-len.false, c.len.ensures) in
    column_first cols taken so_far c.args.column c.args.next lt
    (sym (marks c.args.column lt) ∙ sym c.has.ensures ∙ c.if-has.false)
    (omega (arith, ltb-false 0 (length so_far) (sym started ∙ c.if-started.false))) next
