use Rattle.std.proofs.Common.{rules, ◌≡◌, ◌/◌, length, arith}
use Rattle.cla_layout.specs.Tuples.{AreCodes}
use Rattle.cla_group_bench.proofs.input.group_of.Goals as goal

pub from_codes-requires : goal.from_codes-requires
from_codes-requires c =
    let values = c.in_ok-values.values.items in
    let count : length values / 1 ≡ length values = omega arith in
    let same : length values ≡ c.in_ok-tuples.tuples = search rules in
    let are : AreCodes 1 c.in_ok-tuples.tuples c.args.codes.now c.in_ok-tuples.tuples = search rules in
    rw (count, same) are
