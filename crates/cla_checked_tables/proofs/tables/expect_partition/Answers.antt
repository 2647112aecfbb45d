use Rattle.std.proofs.Common.{refl, arith}
use Rattle.cla_checked_tables.proofs.ListedColumns.{none_past}
use Rattle.cla_checked_tables.proofs.tables.expect_partition.Goals as goal

pub returns : goal.returns
returns c =
    let below = c.if-not-are_within.ensures refl in
    let ones = rw c.deref.ensures.value at (c.if-not-are_within-2.ensures refl) in
    let counts = c.in_ok-counts.ensures in
    record {
      once = λ j there. (let one = ones j (omega (arith, there, counts.a_count_each)) in
          omega (arith, one.0, one.1, counts.count j there));
      no_other = none_past c.args.columns.now c.args.cols (λ i there. (below i there).1);
    }
