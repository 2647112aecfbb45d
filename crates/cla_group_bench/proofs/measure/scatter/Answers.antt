use Rattle.std.proofs.Common.{◌<◌, length, arith}
use Rattle.cla_layout.specs.Groups.{code_of, IsGroup}
use Rattle.cla_coded.specs.AnyGroups.{any_columns, any_codes, any_dictionary, any_law}
use Rattle.cla_group_bench.proofs.measure.scatter.Goals as goal

pub scatter-requires-clause-fits : goal.scatter-requires-clause-fits
scatter-requires-clause-fits g c = λ i there.
    let group = c.args.group.now in
    let is : IsGroup 47 (any_columns group) (any_codes group) (any_dictionary group) = any_law group in
    let here = rw c.deref_mut.ensures.value at there in
    let row : i < length (any_codes group) = omega (arith, here, c.in_ok-into.ensures.count, c.rows.ensures) in
    let k = code_of (any_codes group) i in
    let tuple : k < c.tuples.result = omega (arith, is.in_tuples i row, c.tuples.ensures) in
    rw (c.deref_mut.ensures.value, c.deref.ensures.value, c.in_ok-into.ensures.zeros i)
    (c.in_ok-parts.ensures.fits k tuple)
