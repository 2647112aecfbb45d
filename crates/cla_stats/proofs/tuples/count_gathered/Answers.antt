use Rattle.std.proofs.Common.{◌≡◌, ◌+◌, map, length, sym, ap, ◌∙◌, subst, arith}
use Rattle.std.proofs.lemmas.List.{length_push}
use Rattle.cla_grouping.specs.Tuples.{AreTuples}
use Rattle.cla_numbering.specs.Columns.{AreGathered}
use Rattle.cla_stats.proofs.Columns.{entries-count, shaped, column-are, each-more, next-entries, after-entries}
use Rattle.cla_stats.proofs.tuples.count_gathered.Goals as goal

pub code_entries-requires : goal.code_entries-requires
code_entries-requires g c =
    let value = g.N.Number.value in
    let m = c.args.m.now in
    let at = c.args.first + length c.loop-items.each.items in
    let entries =
    next-entries value m at _ _ c.in-Some.items c.in-Some.ensures.steps.0 c.loop-items.invariant.entries in
    let rows = entries-count value m at c.in-Some.items.items entries in
    record { few = omega (arith, ap length c.deref.ensures.value, rows, c.loop-items.invariant.few) }

pub counted-requires : goal.counted-requires
counted-requires g c =
    let value = g.N.Number.value in
    let m = c.args.m.now in
    let at = c.args.first + length c.loop-items.each.items in
    let entries =
    next-entries value m at _ _ c.in-Some.items c.in-Some.ensures.steps.0 c.loop-items.invariant.entries in
    let same = c.in_ok-code_entries.ensures m at (ap (map value) c.deref.ensures.value ∙ entries) in
    let shape = shaped value m c.cells.result.now c.cells.ensures.cells c.cells.ensures.shape in
    subst AreTuples (sym same) (column-are m at shape)

pub loop-items-preserved : goal.loop-items-preserved
loop-items-preserved g c =
    let value = g.N.Number.value in
    let m = c.args.m.now in
    let each = c.loop-items.each.items in
    let at = c.args.first + length each in
    let next = c.in-Some.ensures.steps.0 in
    let are = c.loop-items.invariant.entries in
    let entries = next-entries value m at _ _ c.in-Some.items next are in
    let same = c.in_ok-code_entries.ensures m at (ap (map value) c.deref.ensures.value ∙ entries) in
    let push = c.in_ok-push.ensures.items in
    let one = ap length push ∙ length_push each c.in_ok-counted.field-0 in
    let step : at + 1 ≡ c.args.first + length c.push.new.self.items = omega (arith, one) in
    record {
      tuples = each-more m c.args.first each c.push.new.self.items c.in_ok-counted.field-0
          c.loop-items.invariant.tuples push
          (c.in_ok-counted.ensures ∙ same);
      left = omega (arith, one, ap length next, c.loop-items.invariant.left);
      entries = subst (λ n. AreGathered value m n (λ _. m.rows) c.next.new.self.rest.items) step
          (after-entries value m at _ _ c.in-Some.items next are);
      few = c.loop-items.invariant.few;
    }
