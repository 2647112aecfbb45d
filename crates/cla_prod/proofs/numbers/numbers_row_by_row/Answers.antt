use Rattle.std.proofs.Common.{◌≡◌, ◌<◌, ◌+◌, ◌*◌, ◌/◌, ◌%◌, ℕ, pos, length, map, ap, subst, sym, ◌∙◌, arith}
use Rattle.std.proofs.lemmas.List.{get_or_default, map-set, length-map}
use Rattle.std.proofs.lemmas.Nat.{div-add-mod'}
use Rattle.std.proofs.Math.Nat.{div-lt_iff_lt-mul}
use Rattle.cla_layout.specs.Groups.{at}
use Rattle.cla_prod.specs.declared.numbers.Order.TheVariants.{Rows}
use Rattle.cla_prod.specs.Lines.{cell_at, AreNumbers}
use Rattle.cla_prod.proofs.Firsts.{AreInRange, all_in_range, all_numbers, first_out, found_at, numbers_in_range}
use Rattle.cla_prod.proofs.Firsts.{not_true}
use Rattle.cla_prod.proofs.LinesWritten.{item_step}
use Rattle.cla_prod.proofs.numbers.numbers_row_by_row.Goals as goal

pub returns-in_default : goal.returns-in_default
returns-in_default g c =
    let bits = g.N.Number.BITS in
    let cells = c.args.cells.now in
    let rows = c.args.rows in
    let cols = c.args.cols in
    let p = c.loop-p.p in
    let exact = cell_at Rows rows cols cells in
    let whole : p / cols * cols + p % cols ≡ p = div-add-mod' p cols in
    let here : c.index-cells-p.result ≡ exact (p / cols) (p % cols) =
    c.index-cells-p.is
    ∙ get_or_default cells p c.index-cells-p.result (pos 0) c.loop-p-test.true ∙ ap (at cells) (sym whole) in
    let before = numbers_in_range bits g.N.Number.value g.met.N.Number.in_range cols exact p c.loop-p.numbers
    (omega (arith, c.loop-p-test.true, c.loop-p.auto.numbers, c.requires.numbers, c.requires.shape.count))
    c.loop-p.invariant in
    first_out bits rows cols exact (p / cols) (p % cols) c.requires.shape.a_col
    ((div-lt_iff_lt-mul c.requires.shape.a_col).1 (omega (arith, c.loop-p-test.true, c.requires.shape.count)))
    (omega (arith, c.requires.shape.a_col))
    (subst (AreInRange bits cols exact) (sym whole) before)
    (λ ranged. not_true (c.in_default.ensures.cause.1 (rw here ranged)))
    ∙ ap (found_at (p / cols) (p % cols)) (sym here)

pub loop-p-preserved : goal.loop-p-preserved
loop-p-preserved g c =
    let value = g.N.Number.value in
    let cells = c.args.cells.now in
    let cols = c.args.cols in
    let p = c.loop-p.p in
    let exact = cell_at Rows c.args.rows cols cells in
    let is : value c.in-Some.number ≡ exact (p / cols) (p % cols) =
    c.in-Some.ensures.value
    ∙ c.index-cells-p.is
    ∙ get_or_default cells p c.index-cells-p.result (pos 0) c.loop-p-test.true
    ∙ ap (at cells) (sym (div-add-mod' p cols)) in
    let there : p < length (map value c.loop-p.numbers) = omega (
      arith,
      length-map c.loop-p.numbers value,
      c.loop-p-test.true,
      c.loop-p.auto.numbers,
      c.requires.numbers,
      c.requires.shape.count,
    ) in
    rw (map-set value c.loop-p.numbers p c.in-Some.number)
    (λ q lt. item_step p (λ r. exact (r / cols) (r % cols)) (map value c.loop-p.numbers) (value c.in-Some.number) there
    is c.loop-p.invariant q (omega (arith, lt)))

pub returns : goal.returns
returns g c =
    let bits = g.N.Number.BITS in
    let value = g.N.Number.value in
    let rows = c.args.rows in
    let cols = c.args.cols in
    let exact = cell_at Rows rows cols c.args.cells.now in
    let end : c.loop-p.p ≡ rows * cols = omega
    (arith, c.loop-p-test.false, c.loop-p.auto.p-end, c.requires.shape.count) in
    let are : AreNumbers value cols exact (rows * cols) c.loop-p.numbers = subst
    (λ (n : ℕ). AreNumbers value cols exact n c.loop-p.numbers) end c.loop-p.invariant in
    let count : length (map value c.loop-p.numbers) ≡ rows * cols = length-map c.loop-p.numbers value
    ∙ c.loop-p.auto.numbers ∙ c.requires.numbers in (
      all_numbers value rows cols exact c.loop-p.numbers count are,
      all_in_range bits rows cols exact c.requires.shape.a_col
          (numbers_in_range bits value g.met.N.Number.in_range cols exact (rows * cols) c.loop-p.numbers
          (omega (arith, c.loop-p.auto.numbers, c.requires.numbers)) are),
    )
