use Rattle.std.proofs.Common.{◌≡◌, ◌<◌, ◌≤◌, ◌+◌, ◌-◌, ◌*◌, ℕ, length, map, take, ap, subst, sym, ◌∙◌, arith}
use Rattle.std.proofs.Math.Nat.{mul-le-mul_right}
use Rattle.std.proofs.lemmas.List.{take_all}
use Rattle.cla_layout.specs.Groups.{at}
use Rattle.cla_layout.specs.Layouts.{IsWhole, column_at, entry_in}
use Rattle.cla_layout.proofs.Columns.{column_read}
use Rattle.cla_layout.proofs.Wholes.{same_width}
use Rattle.cla_coded.specs.Parts.{part_of, parts_of}
use Rattle.cla_prod.specs.Lines.{base_for}
use Rattle.cla_prod.specs.Columns.{AreLinesOf, column_product, column_values, first_item, listed_values}
use Rattle.cla_prod.proofs.LinesRead.{items_are, line_length}
use Rattle.cla_prod.proofs.ColumnsRead.{listed_few, listed_more, next_line, own_entry, place_step}
use Rattle.cla_prod.proofs.columns.times_part.Goals as goal

pub index-j-requires : goal.index-j-requires
index-j-requires g c =
    let part = part_of g.H.Group.codes g.H.Group.dictionary c.args.part.now in
    let lines = c.args.lines in
    let wide = same_width _ _ _ _ _ (g.met.H.Group.laws c.args.part.now.group) c.requires.part.group in
    let there : c.loop-c.c < length part.columns = omega (arith, c.loop-c-test.true, c.width-c-end.ensures, wide) in
    omega (arith, there)

pub offset_bounds-exact-first : goal.offset_bounds-exact-first
offset_bounds-exact-first g c =
    let part = part_of g.H.Group.codes g.H.Group.dictionary c.args.part.now in
    let lines = c.args.lines in
    let wide = same_width _ _ _ _ _ (g.met.H.Group.laws c.args.part.now.group) c.requires.part.group in
    let there : c.loop-c.c < length part.columns = omega (arith, c.loop-c-test.true, c.width-c-end.ensures, wide) in
    let j = c.index-j.result.now in
    let column : j ≡ column_at part.columns c.loop-c.c =
    column_read part.columns c.loop-c.c j c.index-j.ensures there in
    let within : j < lines.count = rw column (c.requires.within c.loop-c.c there) in
    let up_to : (j + 1) * lines.outer ≤ lines.count * lines.outer =
    mul-le-mul_right {m = j + 1} {n = lines.count} lines.outer (omega (arith, within)) in
    omega (arith, up_to, c.loop-c.auto.exact, c.requires.columns.written, c.requires.columns.few)

pub slice_bounds-product-end : goal.slice_bounds-product-end
slice_bounds-product-end g c =
    let part = part_of g.H.Group.codes g.H.Group.dictionary c.args.part.now in
    let lines = c.args.lines in
    let wide = same_width _ _ _ _ _ (g.met.H.Group.laws c.args.part.now.group) c.requires.part.group in
    let there : c.loop-c.c < length part.columns = omega (arith, c.loop-c-test.true, c.width-c-end.ensures, wide) in
    let j = c.index-j.result.now in
    let column : j ≡ column_at part.columns c.loop-c.c =
    column_read part.columns c.loop-c.c j c.index-j.ensures there in
    let within : j < lines.count = rw column (c.requires.within c.loop-c.c there) in
    let up_to : (j + 1) * lines.outer ≤ lines.count * lines.outer =
    mul-le-mul_right {m = j + 1} {n = lines.count} lines.outer (omega (arith, within)) in
    omega (arith, up_to, c.loop-c.auto.exact, c.requires.columns.written, c.requires.columns.few)

pub times_column-requires-clause-whole : goal.times_column-requires-clause-whole
times_column-requires-clause-whole g c =
    let bits = g.N.Number.BITS in
    let parts = parts_of g.G.Group.codes g.G.Group.dictionary c.args.parts.now in
    let part = part_of g.H.Group.codes g.H.Group.dictionary c.args.part.now in
    let lines = c.args.lines in
    let wide = same_width _ _ _ _ _ (g.met.H.Group.laws c.args.part.now.group) c.requires.part.group in
    let there : c.loop-c.c < length part.columns = omega (arith, c.loop-c-test.true, c.width-c-end.ensures, wide) in
    let j = c.index-j.result.now in
    let column : j ≡ column_at part.columns c.loop-c.c =
    column_read part.columns c.loop-c.c j c.index-j.ensures there in
    let within : j < lines.count = rw column (c.requires.within c.loop-c.c there) in
    let n = j * lines.outer + lines.outer - j * lines.outer in
    let long : length c.loop-c.exact ≡ lines.count * lines.outer = c.loop-c.auto.exact ∙ c.requires.columns.written in
    let written = line_length j lines.count lines.outer n c.loop-c.exact within long (omega arith) in
    let read : length c.read_column.new.column ≡ lines.inner =
    c.read_column.auto.column ∙ c.loop-c.auto.column ∙ c.requires.rows in
    subst (λ (w : ℕ). IsWhole bits (base_for lines.turned w (length c.read_column.new.column) parts)) (sym written)
    (subst (λ (r : ℕ). IsWhole bits (base_for lines.turned lines.outer r parts)) (sym read) c.requires.columns.whole)

pub times_column-requires-clause-zeros : goal.times_column-requires-clause-zeros
times_column-requires-clause-zeros g c i lt =
    let part = part_of g.H.Group.codes g.H.Group.dictionary c.args.part.now in
    let lines = c.args.lines in
    let wide = same_width _ _ _ _ _ (g.met.H.Group.laws c.args.part.now.group) c.requires.part.group in
    let there : c.loop-c.c < length part.columns = omega (arith, c.loop-c-test.true, c.width-c-end.ensures, wide) in
    let j = c.index-j.result.now in
    let column : j ≡ column_at part.columns c.loop-c.c =
    column_read part.columns c.loop-c.c j c.index-j.ensures there in
    let within : j < lines.count = rw column (c.requires.within c.loop-c.c there) in
    let n = j * lines.outer + lines.outer - j * lines.outer in
    let long : length c.loop-c.exact ≡ lines.count * lines.outer = c.loop-c.auto.exact ∙ c.requires.columns.written in
    let written = line_length j lines.count lines.outer n c.loop-c.exact within long (omega arith) in
    let item = column_product (parts_of g.G.Group.codes g.G.Group.dictionary c.args.parts.now) lines
    (parts_of g.H.Group.codes g.H.Group.dictionary c.args.read.now) in
    next_line lines n c.loop-c.c j item part.columns c.args.exact.now c.loop-c.exact c.requires.part.rising there
    column within (omega arith) c.requires.zeros c.loop-c.invariant.products i (rw written at lt)

pub times_column-requires-clause-room : goal.times_column-requires-clause-room
times_column-requires-clause-room g c =
    let parts = parts_of g.G.Group.codes g.G.Group.dictionary c.args.parts.now in
    let read = parts_of g.H.Group.codes g.H.Group.dictionary c.args.read.now in
    let part = part_of g.H.Group.codes g.H.Group.dictionary c.args.part.now in
    let few = listed_few g.N.Number.BITS read parts c.args.lines (length c.args.codes.now) (length c.args.exact.now)
    c.loop-c.c part c.requires.columns c.requires.one in
    rw c.loop-c.invariant.counts (record {
      mults = omega (arith, c.requires.room.mults, few);
      maps = omega
          (arith, c.requires.room.maps);
    })

pub loop-c-preserved : goal.loop-c-preserved
loop-c-preserved g c =
    let bits = g.N.Number.BITS in
    let value = g.N.Number.value in
    let parts = parts_of g.G.Group.codes g.G.Group.dictionary c.args.parts.now in
    let base = parts_of g.H.Group.codes g.H.Group.dictionary c.args.read.now in
    let part = part_of g.H.Group.codes g.H.Group.dictionary c.args.part.now in
    let lines = c.args.lines in
    let wide = same_width _ _ _ _ _ (g.met.H.Group.laws c.args.part.now.group) c.requires.part.group in
    let there : c.loop-c.c < length part.columns = omega (arith, c.loop-c-test.true, c.width-c-end.ensures, wide) in
    let j = c.index-j.result.now in
    let column : j ≡ column_at part.columns c.loop-c.c =
    column_read part.columns c.loop-c.c j c.index-j.ensures there in
    let within : j < lines.count = rw column (c.requires.within c.loop-c.c there) in
    let n = j * lines.outer + lines.outer - j * lines.outer in
    let long : length c.loop-c.exact ≡ lines.count * lines.outer = c.loop-c.auto.exact ∙ c.requires.columns.written in
    let written = line_length j lines.count lines.outer n c.loop-c.exact within long (omega arith) in
    let item = column_product (parts_of g.G.Group.codes g.G.Group.dictionary c.args.parts.now) lines
    (parts_of g.H.Group.codes g.H.Group.dictionary c.args.read.now) in
    let new = c.times_column.new.product in
    let size : length new ≡ lines.outer = c.times_column.auto.product ∙ written in
    let items = c.read_column.new.column in
    let read : length items ≡ lines.inner = c.read_column.auto.column ∙ c.loop-c.auto.column ∙ c.requires.rows in
    let entries : (k : ℕ) → k < lines.inner → at (map value items) k ≡ entry_in base k j =
    λ k lt. c.read_column.ensures k (rw (c.loop-c.auto.column, c.requires.rows) lt)
    ∙ own_entry bits lines.inner lines.count base part k c.loop-c.c j c.requires.columns.columns c.requires.one there
    column in
    let products : (i : ℕ) → first_item lines.order j ≤ i → i < lines.outer → at new i ≡ item j i =
    λ i from lt. c.times_column.ensures.product i from (rw written lt)
    ∙ items_are value parts lines (λ k. entry_in base k j) items i read entries in
    let more : c.args.meter.now.mults + listed_values lines.order parts (take c.loop-c.c part.columns)
    + column_values lines.order parts j
    ≡ c.args.meter.now.mults + listed_values lines.order parts (take (c.loop-c.c + 1) part.columns) =
    (let next = listed_more lines.order parts part.columns c.loop-c.c there in
    let same : column_values lines.order parts j
    ≡ column_values lines.order parts (column_at part.columns c.loop-c.c) =
    ap (column_values lines.order parts) column in
    omega (arith, next, same)) in
    record {
      products = place_step lines n c.loop-c.c j item part.columns c.args.exact.now c.loop-c.exact new
          c.requires.part.rising there c.requires.within column long (omega arith) size products
          c.loop-c.invariant.products;
      counts = rw (c.times_column.ensures.counts, c.loop-c.invariant.counts)
          (ap (λ (k : ℕ). record c.args.meter.now { mults = k }) more);
    }

pub returns-clause-products : goal.returns-clause-products
returns-clause-products g c =
    let part = c.args.part.now in
    let columns = part.columns.items in
    let lines = c.args.lines in
    let item = column_product (parts_of g.G.Group.codes g.G.Group.dictionary c.args.parts.now) lines
    (parts_of g.H.Group.codes g.H.Group.dictionary c.args.read.now) in
    let wide = same_width _ _ _ _ _ (g.met.H.Group.laws part.group) c.requires.part.group in
    let all : c.loop-c.c ≡ length columns = omega (
      arith,
      c.loop-c-test.false,
      c.width-c-end.ensures,
      c.loop-c.auto.c-end,
      wide,
    ) in
    subst (λ (n : ℕ). AreLinesOf lines n item columns c.args.exact.now c.loop-c.exact) all
    c.loop-c.invariant.products

pub returns-clause-counts : goal.returns-clause-counts
returns-clause-counts g c =
    let part = c.args.part.now in
    let columns = part.columns.items in
    let parts = parts_of g.G.Group.codes g.G.Group.dictionary c.args.parts.now in
    let wide = same_width _ _ _ _ _ (g.met.H.Group.laws part.group) c.requires.part.group in
    let all : length columns ≤ c.loop-c.c = omega (arith, c.loop-c-test.false, c.width-c-end.ensures, wide) in
    let done = ap (listed_values c.args.lines.order parts) (take_all c.loop-c.c columns all) in
    rw c.loop-c.invariant.counts
    (ap (λ (k : ℕ). record c.args.meter.now { mults = c.args.meter.now.mults + k }) done)
