use Rattle.std.proofs.Common.{◌≡◌, ◌<◌, ◌≤◌, ◌+◌, ◌*◌, ◌/◌, ◌%◌, ℕ, pos, length, map, ap, subst, sym, ◌∙◌, arith}
use Rattle.std.proofs.lemmas.List.{get_or_default, map-set, length-map}
use Rattle.std.proofs.lemmas.Nat.{div-mul-add, mod-mul-add}
use Rattle.cla_spec.proofs.Entries.{cell_within}
use Rattle.cla_layout.specs.Groups.{at}
use Rattle.cla_prod.specs.Lines.{cell_at, AreNumbers}
use Rattle.cla_prod.proofs.Firsts.{first_out, found_at, numbers_in_range, not_true}
use Rattle.cla_prod.proofs.LinesWritten.{item_step}
use Rattle.cla_prod.proofs.numbers.numbers_of_row.Goals as goal

pub returns-in_default : goal.returns-in_default
returns-in_default g c =
    let bits = g.N.Number.BITS in
    let cells = c.args.cells.now in
    let rows = c.args.rows in
    let cols = c.args.cols in
    let i = c.args.i in
    let j = c.loop-j.j in
    let exact = cell_at c.args.order rows cols cells in
    let here : c.index-cells-place.result ≡ exact i j =
    c.index-cells-place.is
    ∙ get_or_default cells c.place.result c.index-cells-place.result (pos 0)
    (omega (arith, c.place.ensures.within, c.requires.shape.count))
    ∙ ap (at cells) c.place.ensures.place in
    let within : i * cols + j ≤ length c.loop-j.numbers =
    (let there = cell_within rows cols i j c.requires.row c.loop-j-test.true in omega
    (arith, there, c.loop-j.auto.numbers, c.requires.numbers)) in
    first_out bits rows cols exact i j c.requires.shape.a_col c.requires.row c.loop-j-test.true
    (numbers_in_range bits g.N.Number.value g.met.N.Number.in_range cols exact (i * cols + j) c.loop-j.numbers within
    c.loop-j.invariant)
    (λ ranged. not_true (c.in_default.ensures.cause.1 (rw here ranged)))
    ∙ ap (found_at i j) (sym here)

pub loop-j-preserved : goal.loop-j-preserved
loop-j-preserved g c =
    let value = g.N.Number.value in
    let cells = c.args.cells.now in
    let rows = c.args.rows in
    let cols = c.args.cols in
    let i = c.args.i in
    let j = c.loop-j.j in
    let p = i * cols + j in
    let exact = cell_at c.args.order rows cols cells in
    let here : c.index-cells-place.result ≡ exact i j =
    c.index-cells-place.is
    ∙ get_or_default cells c.place.result c.index-cells-place.result (pos 0)
    (omega (arith, c.place.ensures.within, c.requires.shape.count))
    ∙ ap (at cells) c.place.ensures.place in
    let there : p < length (map value c.loop-j.numbers) =
    (let within = cell_within rows cols i j c.requires.row c.loop-j-test.true in omega
    (arith, within, length-map c.loop-j.numbers value, c.loop-j.auto.numbers, c.requires.numbers)) in
    let is : value c.in-Some.number ≡ exact (p / cols) (p % cols) =
    c.in-Some.ensures.value ∙ here
    ∙ ap (λ (r : ℕ). exact r j) (sym (div-mul-add i cols j c.loop-j-test.true))
    ∙ ap (exact (p / cols)) (sym (mod-mul-add i cols j c.loop-j-test.true)) in
    rw (c.place-in-loop-j.ensures.place, map-set value c.loop-j.numbers p c.in-Some.number)
    (λ q lt. item_step p (λ r. exact (r / cols) (r % cols)) (map value c.loop-j.numbers) (value c.in-Some.number) there
    is c.loop-j.invariant q (omega (arith, lt)))

pub returns : goal.returns
returns g c =
    let cols = c.args.cols in
    let exact = cell_at c.args.order c.args.rows cols c.args.cells.now in
    let end : c.loop-j.j ≡ cols = omega (arith, c.loop-j-test.false, c.loop-j.auto.j-end) in
    let all : c.args.i * cols + c.loop-j.j ≡ (c.args.i + 1) * cols = omega (arith, end) in
    subst (λ (n : ℕ). AreNumbers g.N.Number.value cols exact n c.loop-j.numbers) all c.loop-j.invariant
