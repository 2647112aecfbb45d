use Rattle.std.proofs.Common.{◌/◌, length, map, arith}
use Rattle.cla_layout.proofs.Tuples.{tuples_count}
use Rattle.cla_codes.proofs.codes.Codes.from_codes.Goals as goal

pub of_values-requires : goal.of_values-requires
of_values-requires g c = (c.args.codes.now, c.requires.codes)

pub of_codes-requires : goal.of_codes-requires
of_codes-requires g c =
    let values = c.args.values.items in
    let group = c.of_values.ensures.group c.args.codes.now c.requires.codes in
    let count = tuples_count c.args.width (length values / c.args.width) (map g.N.Number.value values) in
    (omega arith, (group, rw (c.of_values.ensures.value, count) c.requires.fits))
