use Rattle.std.proofs.Common.{◌≡◌, ◌+◌, ◌∷◌, [], length, sym, ap, ◌∙◌, subst, arith}
use Rattle.std.proofs.lemmas.List.{length_push}
use Rattle.cla_grouping.specs.Tuples.{AreTuples, tuples_in}
use Rattle.cla_numbering.specs.Together.{AreNumberedTo}
use Rattle.cla_stats.specs.Coded.{tuples_seen}
use Rattle.cla_stats.proofs.Columns.{shaped, column-are, each-more}
use Rattle.cla_stats.proofs.NumberedColumns.{numbered-tuples, next-numbered, after-numbered}
use Rattle.cla_stats.proofs.tuples.count_numbered.Goals as goal

pub counted-requires : goal.counted-requires
counted-requires g c =
    let m = c.args.m.now in
    let at = c.args.first + length c.loop-column.each.items in
    let column = c.in-Some.column in
    let is = next-numbered m at _ _ column c.in-Some.ensures.steps.0 c.loop-column.invariant.numbered in
    let same : tuples_seen c.code_numbered.result ≡ tuples_in m (at ∷ []) = c.code_numbered.ensures
    ∙ numbered-tuples _ g.N.Number.value c.requires.bits g.met.N.Number.in_range m at c.cells.result.now
    c.cells.ensures.cells column is c.loop-column.invariant.few in
    let shape = shaped g.N.Number.value m c.cells.result.now c.cells.ensures.cells c.cells.ensures.shape in
    subst AreTuples (sym same) (column-are m at shape)

pub loop-column-preserved : goal.loop-column-preserved
loop-column-preserved g c =
    let m = c.args.m.now in
    let each = c.loop-column.each.items in
    let at = c.args.first + length each in
    let column = c.in-Some.column in
    let next = c.in-Some.ensures.steps.0 in
    let are = c.loop-column.invariant.numbered in
    let is = next-numbered m at _ _ column next are in
    let same : tuples_seen c.code_numbered.result ≡ tuples_in m (at ∷ []) = c.code_numbered.ensures
    ∙ numbered-tuples _ g.N.Number.value c.requires.bits g.met.N.Number.in_range m at c.cells.result.now
    c.cells.ensures.cells column is c.loop-column.invariant.few in
    let push = c.in_ok-push.ensures.items in
    let one = ap length push ∙ length_push each c.in_ok-counted.field-0 in
    let step : at + 1 ≡ c.args.first + length c.push.new.self.items = omega (arith, one) in
    record {
      tuples = each-more m c.args.first each c.push.new.self.items c.in_ok-counted.field-0
          c.loop-column.invariant.tuples
          push (c.in_ok-counted.ensures ∙ same);
      left = omega (arith, one, ap length next, c.loop-column.invariant.left);
      numbered = subst (λ n. AreNumberedTo m n (λ _. m.rows) c.next.new.self.rest.items) step
          (after-numbered m at _ _ column next are);
      few = c.loop-column.invariant.few;
    }
