use Rattle.std.proofs.Common.{◌≡◌, ◌<◌, ◌+◌, ◌-◌, ◌*◌, ℕ, length, take, drop, subst, sym, ◌∙◌, arith}
use Rattle.std.proofs.lemmas.Bool.{eqb-true, eqb-false}
use Rattle.cla_layout.specs.Layouts.{IsWhole}
use Rattle.cla_coded.specs.Parts.{parts_of}
use Rattle.cla_prod.specs.Lines.{base_for, copied_in, line_item, lines_in}
use Rattle.cla_prod.proofs.LinesRead.{IsColumn, line_length, line_size, items_are, copied_line, kept_items, lines_long}
use Rattle.cla_prod.proofs.lines.times_line_of.Goals as goal

pub times_line-requires-clause-whole : goal.times_line-requires-clause-whole
times_line-requires-clause-whole g c =
    let bits = g.N.Number.BITS in
    let lines = c.args.lines in
    let parts = parts_of g.G.Group.codes g.G.Group.dictionary c.args.parts.now in
    let cells = c.cells-cells.result.now in
    let l = c.args.l in
    let n = (l + 1) * lines.inner - l * lines.inner in
    let long = lines_long bits parts lines c.args.m.now (lines.count * lines.outer) (length cells) c.requires.lines
    c.cells-cells.ensures.shape.count in
    let read = line_length l lines.count lines.inner n cells c.requires.line long (line_size l lines.inner) in
    subst (λ (k : ℕ). IsWhole bits (base_for lines.turned k (length (take n (drop (l * lines.inner) cells))) parts))
    (sym c.requires.product) (subst (λ (k : ℕ). IsWhole bits (base_for lines.turned lines.outer k parts))
    (sym read) c.requires.lines.whole)

pub returns-then-is_empty-clause-product : goal.returns-then-is_empty-clause-product
returns-then-is_empty-clause-product g c i lt =
    let bits = g.N.Number.BITS in
    let value = g.N.Number.value in
    let lines = c.args.lines in
    let m = c.args.m.now in
    let parts = parts_of g.G.Group.codes g.G.Group.dictionary c.args.parts.now in
    let cells = c.cells-cells.result.now in
    let l = c.args.l in
    let n = (l + 1) * lines.inner - l * lines.inner in
    let long = lines_long bits parts lines m (lines.count * lines.outer) (length cells) c.requires.lines
    c.cells-cells.ensures.shape.count in
    let read = line_length l lines.count lines.inner n cells c.requires.line long (line_size l lines.inner) in
    let none : copied_in lines.order m ≡ 0 =
    sym c.requires.column ∙ eqb-true _ _ (sym c.is_empty.ensures ∙ c.if-is_empty.true) in
    let there : l < lines_in lines.order m = omega (arith, c.requires.line, c.requires.lines.count) in
    c.times_line.ensures.product i (rw c.requires.product lt)
    ∙ items_are value parts lines (line_item lines.order m l) (take n (drop (l * lines.inner) cells)) i read
    (λ k item. kept_items value lines.order m cells l n lines.inner k c.cells-cells.ensures.cells
    c.cells-cells.ensures.shape.a_row
    none there c.requires.lines.inner (omega (arith, item, line_size l lines.inner)))

pub returns-else-is_empty-clause-product : goal.returns-else-is_empty-clause-product
returns-else-is_empty-clause-product g c i lt =
    let value = g.N.Number.value in
    let lines = c.args.lines in
    let m = c.args.m.now in
    let parts = parts_of g.G.Group.codes g.G.Group.dictionary c.args.parts.now in
    let l = c.args.l in
    let filled : length c.args.column.now ≡ 0 → ⊥ = eqb-false _ _ (sym c.is_empty.ensures ∙ c.if-is_empty.false) in
    let some : 0 < copied_in lines.order m = subst (λ (k : ℕ). 0 < k) c.requires.column (grind (arith, filled)) in
    let is : IsColumn lines.order m = copied_line lines.order m some in
    let column = c.copy_column.new.column in
    let read : length column ≡ lines.inner =
    c.copy_column.auto.column ∙ c.requires.column ∙ is.long ∙ sym is.inner ∙ sym c.requires.lines.inner in
    c.times_line-else-is_empty.ensures.product i (rw c.requires.product lt)
    ∙ items_are value parts lines (line_item lines.order m l) column i read
    (λ k item. c.copy_column.ensures k (omega (arith, item, c.requires.lines.inner, is.inner)) ∙ sym (is.items l k))
