use Rattle.std.proofs.Common.{◌≡◌, ◌≤◌, ℤ, pos, length, ap, sym, ◌∙◌, arith, Some}
use Rattle.std.proofs.lemmas.List.{get_or_default, take_all}
use Rattle.cla_num.specs.declared.fault.What.TheVariants.{Range}
use Rattle.cla_num.specs.Fault.{fault_at}
use Rattle.cla_layout.specs.Groups.{at}
use Rattle.cla_agg.proofs.Answered.{all_numbers, first_out, kept_ranged, not_true}
use Rattle.cla_agg.proofs.numbers.numbers_of.Goals as goal

pub returns-in-None : goal.returns-in-None
returns-in-None g c =
    let cells = c.args.cells.now in
    let p = c.loop-place.place in
    let here : c.index-cells-place.result ≡ at cells p =
    c.index-cells-place.is ∙ get_or_default cells p c.index-cells-place.result (pos 0) c.loop-place-test.true in
    first_out g.N.Number.BITS c.args.rows c.args.cols cells p c.requires.shape c.loop-place-test.true
    (kept_ranged g.N.Number.BITS g.N.Number.value g.met.N.Number.in_range c.loop-place.numbers.items cells p
    (omega (arith, c.loop-place-test.true)) c.loop-place.invariant)
    (λ ranged. not_true (c.in-None.ensures.cause.1 (rw here ranged)))
    ∙ ap (λ (v : ℤ). Some (fault_at c.args.cols p (Range v))) (sym here)

pub returns : goal.returns
returns g c =
    let cells = c.args.cells.now in
    let all : length cells ≤ c.loop-place.place = omega (arith, c.loop-place-test.false) in
    let kept = c.loop-place.invariant ∙ take_all c.loop-place.place cells all in
    let end : c.loop-place.place ≡ length cells = omega (arith, all, c.loop-place.auto.place-end) in (
      kept,
      all_numbers g.N.Number.BITS c.args.rows c.args.cols cells c.requires.shape
          (λ q there. kept_ranged g.N.Number.BITS g.N.Number.value g.met.N.Number.in_range c.loop-place.numbers.items
          cells c.loop-place.place
          (omega (arith, end)) c.loop-place.invariant q (omega (arith, there, end))),
    )
