use Rattle.std.proofs.Common.{rules, ◌<◌, arith}
use Rattle.cla_layout.specs.Groups.{code_of}
use Rattle.cla_group_bench.proofs.input.are_codes.Goals as goal

pub returns : goal.returns
returns c = λ are.
    let counted = c.in_ok-counts.ensures in
    record {
      a_row = search rules;
      a_column = omega arith;
      few_cells = search rules;
      whole = omega arith;
      in_tuples = search rules;
      used = λ k there.
          let some : 0 < code_of c.in_ok-counts.field-0.counts.items k = search rules in
          rw (counted.count k there) at some;
    }
