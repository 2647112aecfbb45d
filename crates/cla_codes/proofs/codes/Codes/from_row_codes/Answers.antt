use Rattle.std.proofs.Common.{◌≡◌, ◌/◌, length, map, arith, refl, ◌∙◌}
use Rattle.cla_layout.proofs.Tuples.{tuples_count}
use Rattle.cla_layout.proofs.Coded.{codes_few}
use Rattle.cla_codes.proofs.codes.Codes.from_row_codes.Goals as goal

pub of_values-dictionary-requires : goal.of_values-dictionary-requires
of_values-dictionary-requires g c = (c.args.codes.codes, c.requires.codes)

pub from_row_codes-requires : goal.from_row_codes-requires
from_row_codes-requires g c =
    let values = c.args.values.items in
    let n = length values / c.args.width in
    let count = tuples_count c.args.width n (map g.N.Number.value values) in
    let is : c.len.result ≡ n = c.len.ensures.count ∙ rw (c.of_values-dictionary.ensures.value, count) (refl) in
    let few = codes_few _ _ _ _ c.requires.codes in
    (omega arith, (c.requires.bytes, (rw is c.requires.codes.in_tuples, (few, rw is c.requires.fits))))

pub of_rows-requires : goal.of_rows-requires
of_rows-requires g c =
    let values = c.args.values.items in
    let group = c.of_values-dictionary.ensures.group c.args.codes.codes c.requires.codes in
    let count = tuples_count c.args.width (length values / c.args.width) (map g.N.Number.value values) in (
      omega arith,
      (
        omega arith,
        (rw c.in_ok-rows.ensures group, rw (c.of_values-dictionary.ensures.value, count) c.requires.fits),
      ),
    )
