use Rattle.std.proofs.Common.{◌≡◌, ◌<◌, ◌≤◌, ◌*◌, ◌++◌, List, None, length, map, take, drop, ap, subst, sym, ◌∙◌, arith}
use Rattle.std.proofs.lemmas.List.{take_at}
use Rattle.cla_spec.specs.Matrix.{row_by_row}
use Rattle.cla_num.specs.Fault.{fault_of, exactly}
use Rattle.cla_coded.specs.Parts.{parts_of}
use Rattle.cla_prod.specs.Lines.{cell_at}
use Rattle.cla_prod.specs.Columns.{column_product}
use Rattle.cla_prod.proofs.Answered.{AreFound, lines_shape, numbers_named, fault_named}
use Rattle.cla_prod.proofs.LinesRead.{some_items}
use Rattle.cla_prod.proofs.columns.products_of.Goals as goal

pub bounds-column-0 : goal.bounds-column-0
bounds-column-0 g c =
    let first : 0 < length c.args.column.now = omega (arith, c.requires.rows, c.requires.columns.columns.a_row) in
    first

pub numbers_of-requires-clause-shape : goal.numbers_of-requires-clause-shape
numbers_of-requires-clause-shape g c =
    let lines = c.args.lines in
    let some = some_items g.N.Number.BITS lines.turned lines.outer lines.inner
    (parts_of g.G.Group.codes g.G.Group.dictionary c.args.parts.now) c.requires.columns.whole in
    let a_line : 1 ≤ lines.count = c.requires.columns.columns.a_col in
    let len : c.in-Ok-from_elem.exact.len ≡ lines.count * lines.outer = c.in-Ok-from_elem.ensures.len in
    rw (c.shape-rows.ensures.rows, c.shape-rows.ensures.cols)
    (lines_shape lines lines.order c.deref.result.now a_line some.0 c.requires.columns.few (c.deref.ensures.len ∙ len))

pub numbers_of-requires-clause-numbers : goal.numbers_of-requires-clause-numbers
numbers_of-requires-clause-numbers g c =
    let lines = c.args.lines in
    let some = some_items g.N.Number.BITS lines.turned lines.outer lines.inner
    (parts_of g.G.Group.codes g.G.Group.dictionary c.args.parts.now) c.requires.columns.whole in
    let a_line : 1 ≤ lines.count = c.requires.columns.columns.a_col in
    let len : c.in-Ok-from_elem-2.numbers.len ≡ lines.count * lines.outer = c.in-Ok-from_elem-2.ensures.len in
    rw (c.shape-rows.ensures.rows, c.shape-rows.ensures.cols)
    ((lines_shape lines lines.order c.deref_mut-3.result.now a_line some.0 c.requires.columns.few
    (c.deref_mut-3.ensures.len ∙ len)).count)

pub new-requires : goal.new-requires
new-requires g c =
    let lines = c.args.lines in
    let some = some_items g.N.Number.BITS lines.turned lines.outer lines.inner
    (parts_of g.G.Group.codes g.G.Group.dictionary c.args.parts.now) c.requires.columns.whole in
    let a_line : 1 ≤ lines.count = c.requires.columns.columns.a_col in
    let numbers = c.numbers_of.new.numbers in
    let old = c.in-Ok-from_elem-2.numbers in
    let kept : length numbers ≡ old.len = c.numbers_of.auto.numbers ∙ c.deref_mut-3.ensures.len in
    let back : take old.len (numbers ++ drop (length numbers) old.items) ≡ numbers = take_at numbers
    (drop (length numbers) old.items) old.len kept in
    let len : old.len ≡ lines.count * lines.outer = c.in-Ok-from_elem-2.ensures.len in
    rw (c.shape-rows.ensures.rows, c.shape-rows.ensures.cols, back)
    (lines_shape lines lines.order numbers a_line some.0 c.requires.columns.few (kept ∙ len))

pub returns-in-Ok-numbers_of-clause-product : goal.returns-in-Ok-numbers_of-clause-product
returns-in-Ok-numbers_of-clause-product g c =
    let bits = g.N.Number.BITS in
    let lines = c.args.lines in
    let order = lines.order in
    let parts = parts_of g.G.Group.codes g.G.Group.dictionary c.args.parts.now in
    let base = parts_of g.H.Group.codes g.H.Group.dictionary c.args.read.now in
    let some = some_items bits lines.turned lines.outer lines.inner parts c.requires.columns.whole in
    let a_line : 1 ≤ lines.count = c.requires.columns.columns.a_col in
    let value = g.N.Number.value in
    let numbers = c.numbers_of.new.numbers in
    let old = c.in-Ok-from_elem-2.numbers in
    let kept : length numbers ≡ old.len = c.numbers_of.auto.numbers ∙ c.deref_mut-3.ensures.len in
    let back : take old.len (numbers ++ drop (length numbers) old.items) ≡ numbers = take_at numbers
    (drop (length numbers) old.items) old.len kept in
    let exact = c.times_columns.new.exact in
    let held = c.in-Ok-from_elem.exact in
    let exact_kept : length exact ≡ held.len = c.times_columns.auto.exact ∙ c.deref_mut-2.ensures.len in
    let exact_back : take held.len (exact ++ drop (length exact) held.items) ≡ exact = take_at exact
    (drop (length exact) held.items) held.len exact_kept in
    let cells = c.deref.result.now in
    let same : cells ≡ exact = c.deref.ensures.value ∙ exact_back in
    let f = column_product parts lines base in
    let are : AreFound order lines f cells = subst (AreFound order lines f) (sym same)
    (λ l i there from lt. c.times_columns.ensures.products l there i from lt) in
    let r = c.shape-rows.result.0 in
    let w = c.shape-rows.result.1 in
    let shaped = lines_shape lines order exact a_line some.0 c.requires.columns.few
    (exact_kept ∙ c.in-Ok-from_elem.ensures.len) in
    let found : (map value numbers ≡ row_by_row r w (cell_at order r w cells)) ×
    (fault_of bits r w (exactly (cell_at order r w cells)) ≡ None) =
    c.in-Ok-numbers_of.ensures in
    numbers_named bits value order lines f cells numbers c.new.result r w c.shape-rows.ensures.rows
    c.shape-rows.ensures.cols shaped.a_col c.requires.square are (
      c.new.ensures ∙ ap (λ (xs : List g.row.N.Denot). record { rows = r; cols = w; cells = map value xs }) back,
      found.0,
      found.1,
    )

pub returns-clause-product : goal.returns-clause-product
returns-clause-product g c =
    let bits = g.N.Number.BITS in
    let lines = c.args.lines in
    let order = lines.order in
    let parts = parts_of g.G.Group.codes g.G.Group.dictionary c.args.parts.now in
    let base = parts_of g.H.Group.codes g.H.Group.dictionary c.args.read.now in
    let some = some_items bits lines.turned lines.outer lines.inner parts c.requires.columns.whole in
    let a_line : 1 ≤ lines.count = c.requires.columns.columns.a_col in
    let exact = c.times_columns.new.exact in
    let held = c.in-Ok-from_elem.exact in
    let exact_kept : length exact ≡ held.len = c.times_columns.auto.exact ∙ c.deref_mut-2.ensures.len in
    let exact_back : take held.len (exact ++ drop (length exact) held.items) ≡ exact = take_at exact
    (drop (length exact) held.items) held.len exact_kept in
    let cells = c.deref.result.now in
    let same : cells ≡ exact = c.deref.ensures.value ∙ exact_back in
    let f = column_product parts lines base in
    let are : AreFound order lines f cells = subst (AreFound order lines f) (sym same)
    (λ l i there from lt. c.times_columns.ensures.products l there i from lt) in
    let r = c.shape-rows.result.0 in
    let w = c.shape-rows.result.1 in
    let shaped = lines_shape lines order exact a_line some.0 c.requires.columns.few
    (exact_kept ∙ c.in-Ok-from_elem.ensures.len) in
    fault_named bits order lines f cells c.in-Err.fault r w c.shape-rows.ensures.rows c.shape-rows.ensures.cols
    shaped.a_col c.requires.square are
    c.in-Err.ensures
