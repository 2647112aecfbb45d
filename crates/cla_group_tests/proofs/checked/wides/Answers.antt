use Rattle.std.proofs.Common.{◌≤◌, arith}
use Rattle.std.specs.Int.RustNames.{unsigned_abs}
use Rattle.std.proofs.lemmas.List.{length_push}
use Rattle.cla_num.specs.Bits.{value_bound}
use Rattle.cla_num.proofs.Sizes.{value_size}
use Rattle.cla_group_tests.proofs.Smalls.{small_push}
use Rattle.cla_group_tests.proofs.checked.wides.Goals as goal

pub loop-v-preserved : goal.loop-v-preserved
loop-v-preserved c =
    let made = c.loop-v.made.items in
    let number = c.in_ok-ok_or.field-0 in
    let size : unsigned_abs c.wide.result ≤ value_bound =
    rw c.wide.ensures
    (value_size 47 number.value (record { least = omega arith; most = omega arith }) number.in_range) in
    record {
      count = rw c.in_ok-push.ensures.items (omega (arith, length_push made c.wide.result, c.loop-v.invariant.count));
      small = rw c.in_ok-push.ensures.items (small_push made c.wide.result c.loop-v.invariant.small size);
    }
