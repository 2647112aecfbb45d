use Rattle.std.proofs.Common.{◌≡◌, ◌/◌, ◌≤◌, ◌<◌, ◌^◌, length, map, refl, arith, rules}
use Rattle.std.specs.Prelude.{vec_len}
use Rattle.cla_layout.proofs.Coded.{tuples_few, codes_few}
use Rattle.cla_layout.proofs.Tuples.{tuples_count}
use Rattle.cla_coded.proofs.AnyRows.{two_bytes, four_bytes, codes_from}
use Rattle.cla_coded.proofs.any_group.from_codes_of_rows.Goals as goal

pub from_codes-requires-else-tuples-le-TWO_BYTES : goal.from_codes-requires-else-tuples-le-TWO_BYTES
from_codes-requires-else-tuples-le-TWO_BYTES g c = (
  omega arith,
  (
    c.requires,
    record { width = refl; few = omega (arith, tuples_few _ _ _ _ c.requires, codes_few _ _ _ _ c.requires) },
  ),
)

pub returns-in_ok-from_codes-2 : goal.returns-in_ok-from_codes-2
returns-in_ok-from_codes-2 g c =
    let whole : vec_len c.args.values ≡ length c.args.values.items = search rules in
    let n = length c.args.values.items / c.args.width in
    let count = tuples_count c.args.width n (map g.N.Number.value c.args.values.items) in
    let many : 2 ^ 8 < n = rw (c.len.ensures, whole) at c.if-tuples-le-ONE_BYTE.false in
    let few : n ≤ 2 ^ 16 = rw (c.len.ensures, whole) at c.if-tuples-le-TWO_BYTES.true in
    let made = c.in_ok-from_codes-2.ensures in
    codes_from 2 _ _ _ _ _ _ (rw count (two_bytes n many few)) made.columns made.codes made.dictionary

pub returns-in_ok-from_codes-3 : goal.returns-in_ok-from_codes-3
returns-in_ok-from_codes-3 g c =
    let whole : vec_len c.args.values ≡ length c.args.values.items = search rules in
    let n = length c.args.values.items / c.args.width in
    let count = tuples_count c.args.width n (map g.N.Number.value c.args.values.items) in
    let many : 2 ^ 16 < n = rw (c.len.ensures, whole) at c.if-tuples-le-TWO_BYTES.false in
    let made = c.in_ok-from_codes-3.ensures in
    codes_from 4 _ _ _ _ _ _ (rw count (four_bytes n many)) made.columns made.codes made.dictionary
