use Rattle.std.proofs.Common.{refl, arith}
use Rattle.std.proofs.lemmas.Nat.{div-add-mod'}
use Rattle.cla_checked_tables.proofs.tables.expect_codes.Goals as goal

pub returns : goal.returns
returns c =
    let below = c.if-not-are_within.ensures refl in
    let some = rw c.deref.ensures.value at (c.if-not-are_within-2.ensures refl) in
    let counts = c.in_ok-counts.ensures in
    record {
      a_row = omega arith;
      a_column = omega arith;
      few_cells = omega arith;
      whole = omega (arith, div-add-mod' c.args.values c.args.width);
      in_tuples = λ i there. (below i there).1;
      used = λ k there. (let one = some k (omega (arith, there, counts.a_count_each)) in
          omega (arith, one.0, counts.count k there));
    }
