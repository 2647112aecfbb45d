use Rattle.std.proofs.Common.{◌≡◌, ◌-◌, ◌<◌, true, length, ap, ◌∙◌, arith}
use Rattle.std.proofs.lemmas.List.{length-set}
use Rattle.cla_numbering.specs.Columns.{place_in}
use Rattle.cla_numbering.proofs.TogetherLemmas.{column-few, column-next}
use Rattle.cla_numbering.proofs.together.number_row.Goals as goal

pub number_entry-requires : goal.number_entry-requires
number_entry-requires g c =
    let j = c.loop-j.j in
    let columns = c.loop-j.columns.items in
    let there : j - c.args.first < length columns =
    omega (arith, c.loop-j-test.true, c.loop-j.invariant.count, c.requires.columns, c.loop-j.auto.j) in
    let few = column-few c.args.m.now c.args.first c.args.i j columns c.index_mut-column.result.now there
    c.index_mut-column.ensures.value c.loop-j.invariant.rows in
    record { few = omega (arith, few, c.requires.row, c.requires.few) }

pub loop-j-preserved : goal.loop-j-preserved
loop-j-preserved g c =
    let j = c.loop-j.j in
    let columns = c.loop-j.columns.items in
    let count = c.loop-j.invariant.count in
    let done : c.in_ok-number_entry.field-0 ≡ true = grind (arith, c.if-not-branch.false) in
    record {
      count = length-set columns (j - c.args.first) c.number_entry.new.column ∙ count;
      rows = column-next c.args.m.now c.args.first c.args.i j c.place_of.result columns c.index_mut-column.result.now
          c.number_entry.new.column (omega (arith, c.loop-j.auto.j))
          (omega (arith, c.loop-j-test.true, count, c.requires.columns, c.loop-j.auto.j))
          c.index_mut-column.ensures.value (λ places is. c.in_ok-number_entry.ensures places is done)
          (c.place_of.ensures ∙ ap place_in c.entry.ensures) c.loop-j.invariant.rows;
    }
