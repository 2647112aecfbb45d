use Rattle.std.proofs.Common.{◌≡◌, ◌<◌, ◌≤◌, ◌*◌, ◌++◌, List, None, length, map, take, drop, ap, subst, sym, ◌∙◌, arith}
use Rattle.std.proofs.Math.Nat.{mul-le-mul}
use Rattle.std.proofs.lemmas.List.{take_at}
use Rattle.cla_spec.specs.Matrix.{row_by_row}
use Rattle.cla_num.specs.Fault.{fault_of, exactly}
use Rattle.cla_coded.specs.Parts.{parts_of}
use Rattle.cla_prod.specs.Lines.{cell_at, line_times}
use Rattle.cla_prod.proofs.Answered.{lines_shape, numbers_named, fault_named}
use Rattle.cla_prod.proofs.LinesRead.{some_items, some_lines}
use Rattle.cla_prod.proofs.LinesWritten.{AreWritten}
use Rattle.cla_prod.proofs.sides.product_by_lines.Goals as goal

pub bounds-cells-0 : goal.bounds-cells-0
bounds-cells-0 g c =
    let shape = c.cells.ensures.shape in
    let all = mul-le-mul {n₁ = 1} {m₁ = 1} {n₂ = c.args.m.now.rows} {m₂ = c.args.m.now.cols} shape.a_row shape.a_col in
    let first : 0 < length c.cells.result.now = omega (arith, all, shape.count) in
    first

pub numbers_of-requires-clause-shape : goal.numbers_of-requires-clause-shape
numbers_of-requires-clause-shape g c =
    let lines = c.args.lines in
    let shape = c.cells.ensures.shape in
    let some = some_items g.N.Number.BITS lines.turned lines.outer lines.inner
    (parts_of g.G.Group.codes g.G.Group.dictionary c.args.parts.now) c.requires.lines.whole in
    let a_line : 1 ≤ lines.count =
    rw c.requires.lines.count (some_lines lines.order c.args.m.now shape.a_row shape.a_col) in
    let len : c.in-Ok-from_elem-2.exact.len ≡ lines.count * lines.outer = c.in-Ok-from_elem-2.ensures.len in
    rw (c.shape-rows.ensures.rows, c.shape-rows.ensures.cols)
    (lines_shape lines lines.order c.deref.result.now a_line some.0 c.requires.lines.few (c.deref.ensures.len ∙ len))

pub numbers_of-requires-clause-numbers : goal.numbers_of-requires-clause-numbers
numbers_of-requires-clause-numbers g c =
    let lines = c.args.lines in
    let shape = c.cells.ensures.shape in
    let some = some_items g.N.Number.BITS lines.turned lines.outer lines.inner
    (parts_of g.G.Group.codes g.G.Group.dictionary c.args.parts.now) c.requires.lines.whole in
    let a_line : 1 ≤ lines.count =
    rw c.requires.lines.count (some_lines lines.order c.args.m.now shape.a_row shape.a_col) in
    let len : c.in-Ok-from_elem-3.numbers.len ≡ lines.count * lines.outer = c.in-Ok-from_elem-3.ensures.len in
    rw (c.shape-rows.ensures.rows, c.shape-rows.ensures.cols)
    ((lines_shape lines lines.order c.deref_mut-4.result.now a_line some.0 c.requires.lines.few
    (c.deref_mut-4.ensures.len ∙ len)).count)

pub new-requires : goal.new-requires
new-requires g c =
    let lines = c.args.lines in
    let shape = c.cells.ensures.shape in
    let some = some_items g.N.Number.BITS lines.turned lines.outer lines.inner
    (parts_of g.G.Group.codes g.G.Group.dictionary c.args.parts.now) c.requires.lines.whole in
    let a_line : 1 ≤ lines.count =
    rw c.requires.lines.count (some_lines lines.order c.args.m.now shape.a_row shape.a_col) in
    let parts = parts_of g.G.Group.codes g.G.Group.dictionary c.args.parts.now in
    let numbers = c.numbers_of.new.numbers in
    let old = c.in-Ok-from_elem-3.numbers in
    let len : old.len ≡ lines.count * lines.outer = c.in-Ok-from_elem-3.ensures.len in
    let kept : length numbers ≡ old.len = c.numbers_of.auto.numbers ∙ c.deref_mut-4.ensures.len in
    let back : take old.len (numbers ++ drop (length numbers) old.items) ≡ numbers = take_at numbers
    (drop (length numbers) old.items) old.len kept in
    rw (c.shape-rows.ensures.rows, c.shape-rows.ensures.cols, back)
    (lines_shape lines lines.order numbers a_line some.0 c.requires.lines.few (kept ∙ len))

pub returns-in-Ok-numbers_of-clause-product : goal.returns-in-Ok-numbers_of-clause-product
returns-in-Ok-numbers_of-clause-product g c =
    let bits = g.N.Number.BITS in
    let value = g.N.Number.value in
    let lines = c.args.lines in
    let shape = c.cells.ensures.shape in
    let some = some_items g.N.Number.BITS lines.turned lines.outer lines.inner
    (parts_of g.G.Group.codes g.G.Group.dictionary c.args.parts.now) c.requires.lines.whole in
    let a_line : 1 ≤ lines.count =
    rw c.requires.lines.count (some_lines lines.order c.args.m.now shape.a_row shape.a_col) in
    let order = lines.order in
    let parts = parts_of g.G.Group.codes g.G.Group.dictionary c.args.parts.now in
    let f = line_times parts lines c.args.m.now in
    let numbers = c.numbers_of.new.numbers in
    let old = c.in-Ok-from_elem-3.numbers in
    let kept : length numbers ≡ old.len = c.numbers_of.auto.numbers ∙ c.deref_mut-4.ensures.len in
    let back : take old.len (numbers ++ drop (length numbers) old.items) ≡ numbers = take_at numbers
    (drop (length numbers) old.items) old.len kept in
    let exact = c.times_lines.new.exact in
    let held = c.in-Ok-from_elem-2.exact in
    let exact_kept : length exact ≡ held.len = c.times_lines.auto.exact ∙ c.deref_mut-3.ensures.len in
    let exact_back : take held.len (exact ++ drop (length exact) held.items) ≡ exact = take_at exact
    (drop (length exact) held.items) held.len exact_kept in
    let cells = c.deref.result.now in
    let same : cells ≡ exact = c.deref.ensures.value ∙ exact_back in
    let are : AreWritten lines.count lines.outer f cells = subst (AreWritten lines.count lines.outer f)
    (sym same) c.times_lines.ensures.products in
    let r = c.shape-rows.result.0 in
    let w = c.shape-rows.result.1 in
    let found : (map value numbers ≡ row_by_row r w (cell_at order r w cells)) ×
    (fault_of bits r w (exactly (cell_at order r w cells)) ≡ None) =
    c.in-Ok-numbers_of.ensures in
    let shaped = lines_shape lines order exact a_line some.0 c.requires.lines.few
    (exact_kept ∙ c.in-Ok-from_elem-2.ensures.len) in
    numbers_named bits value order lines f cells numbers c.new.result r w c.shape-rows.ensures.rows
    c.shape-rows.ensures.cols shaped.a_col c.requires.square (λ l i there _ lt. are l i there lt) (
      c.new.ensures ∙ ap (λ (xs : List g.row.N.Denot). record { rows = r; cols = w; cells = map value xs }) back,
      found.0,
      found.1,
    )

pub returns-clause-product : goal.returns-clause-product
returns-clause-product g c =
    let bits = g.N.Number.BITS in
    let value = g.N.Number.value in
    let lines = c.args.lines in
    let shape = c.cells.ensures.shape in
    let some = some_items g.N.Number.BITS lines.turned lines.outer lines.inner
    (parts_of g.G.Group.codes g.G.Group.dictionary c.args.parts.now) c.requires.lines.whole in
    let a_line : 1 ≤ lines.count =
    rw c.requires.lines.count (some_lines lines.order c.args.m.now shape.a_row shape.a_col) in
    let order = lines.order in
    let parts = parts_of g.G.Group.codes g.G.Group.dictionary c.args.parts.now in
    let f = line_times parts lines c.args.m.now in
    let exact = c.times_lines.new.exact in
    let held = c.in-Ok-from_elem-2.exact in
    let exact_kept : length exact ≡ held.len = c.times_lines.auto.exact ∙ c.deref_mut-3.ensures.len in
    let exact_back : take held.len (exact ++ drop (length exact) held.items) ≡ exact = take_at exact
    (drop (length exact) held.items) held.len exact_kept in
    let cells = c.deref.result.now in
    let same : cells ≡ exact = c.deref.ensures.value ∙ exact_back in
    let are : AreWritten lines.count lines.outer f cells = subst (AreWritten lines.count lines.outer f)
    (sym same) c.times_lines.ensures.products in
    let r = c.shape-rows.result.0 in
    let w = c.shape-rows.result.1 in
    let shaped = lines_shape lines order exact a_line some.0 c.requires.lines.few
    (exact_kept ∙ c.in-Ok-from_elem-2.ensures.len) in
    fault_named bits order lines f cells c.in-Err.fault r w c.shape-rows.ensures.rows c.shape-rows.ensures.cols
    shaped.a_col c.requires.square (λ l i there _ lt. are l i there lt)
    c.in-Err.ensures

pub returns-clause-a_line : goal.returns-clause-a_line
returns-clause-a_line g c =
    let lines = c.args.lines in
    let shape = c.cells.ensures.shape in
    rw c.requires.lines.count (some_lines lines.order c.args.m.now shape.a_row shape.a_col)
