use Rattle.std.proofs.Common.{◌<◌, ◌∙◌, length, length-set, arith}
use Rattle.std.proofs.lemmas.List.{take-set-le}
use Rattle.cla_layout.specs.Groups.{code_of}
use Rattle.cla_offsets.proofs.ListedKeys.{listed_yes, listed_no, take_more}
use Rattle.cla_offsets.proofs.listed.listed_rows.Goals.{then-codes-i, else-codes-i}
use Rattle.cla_offsets.proofs.listed.listed_rows.Goals as goal

pub loop-i-preserved : goal.loop-i-preserved
loop-i-preserved c =
    let codes = c.args.codes.now in
    let i = c.loop-i.i in
    let count = c.loop-i.count in
    let rows = c.loop-i.rows.items in
    let keys = c.loop-i.keys.items in
    let so_far = c.loop-i.invariant in
    let a_row : count < length rows = omega (arith, so_far.within, so_far.a_row_each, c.loop-i-test.true) in
    let a_key : count < length keys = omega (arith, so_far.within, so_far.a_key_each, c.loop-i-test.true) in
    elim c.if-codes-i.branch [
      | then-codes-i w ↦ record {
        within = omega (arith, w.count-is, so_far.within);
        a_row_each = length-set rows count i ∙ so_far.a_row_each;
        a_key_each = length-set keys count (code_of codes i) ∙ so_far.a_key_each;
        listed = rw (w.count-is, take_more rows count i a_row, take_more keys count (code_of codes i) a_key)
            (listed_yes i codes c.args.rest _ _ so_far.listed w.if-codes-i.true);
      }
      | else-codes-i w ↦ record {
        within = omega (arith, w.count-is, so_far.within);
        a_row_each = length-set rows count i ∙ so_far.a_row_each;
        a_key_each = length-set keys count (code_of codes i) ∙ so_far.a_key_each;
        listed = rw (
          w.count-is,
          take-set-le count rows count i (omega arith),
          take-set-le count keys count (code_of codes
              i) (omega arith),
        ) (listed_no i codes c.args.rest _ _ so_far.listed w.if-codes-i.false);
      }
    ]
