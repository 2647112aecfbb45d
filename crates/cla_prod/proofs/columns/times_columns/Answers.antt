use Rattle.std.proofs.Common.{◌≡◌, ◌<◌, ◌≤◌, ◌+◌, ℕ, length, take, ap, subst, sym, ◌∙◌, arith}
use Rattle.std.proofs.lemmas.List.{take_all}
use Rattle.cla_layout.specs.Layouts.{LayoutPart, part_at}
use Rattle.cla_coded.specs.Parts.{part_of, parts_of}
use Rattle.cla_coded.proofs.Outlines.{part_of_item, parts_count}
use Rattle.cla_prod.specs.Columns.{AreLinesOf, column_product, listed_values, read_values}
use Rattle.cla_prod.proofs.ColumnsRead.{all_read, next_lines, none_read, one_part, parts_read, read_few, read_more}
use Rattle.cla_prod.proofs.columns.times_columns.Goals as goal

pub loop-part-init : goal.loop-part-init
loop-part-init g c =
    let base = parts_of g.H.Group.codes g.H.Group.dictionary c.args.read.now in
    let lines = c.args.lines in
    let item = column_product (parts_of g.G.Group.codes g.G.Group.dictionary c.args.parts.now) lines base in
    record {
      products = none_read g.N.Number.BITS lines item base c.args.exact.now c.requires.columns.columns
          c.requires.columns.written c.requires.zeros;
      counts = ap (λ (n : ℕ). record c.args.meter.now { mults = n }) (omega arith);
    }

pub times_part-requires-clause-columns : goal.times_part-requires-clause-columns
times_part-requires-clause-columns g c = rw (c.loop-part.auto.codes, c.loop-part.auto.exact) c.requires.columns

pub times_part-requires-clause-one : goal.times_part-requires-clause-one
times_part-requires-clause-one g c =
    let items = c.args.read.now in
    let base = parts_of g.H.Group.codes g.H.Group.dictionary items in
    let q = c.loop-part.part-index in
    let there : q < length base =
    rw (parts_count g.H.Group.codes g.H.Group.dictionary items) c.loop-part-test.true in
    let is = part_of_item g.H.Group.codes g.H.Group.dictionary items q c.part-item.result c.loop-part-test.true
    c.part-item.is in
    (q, there, is)

pub times_part-requires-clause-part : goal.times_part-requires-clause-part
times_part-requires-clause-part g c =
    let items = c.args.read.now in
    let base = parts_of g.H.Group.codes g.H.Group.dictionary items in
    let q = c.loop-part.part-index in
    let there : q < length base =
    rw (parts_count g.H.Group.codes g.H.Group.dictionary items) c.loop-part-test.true in
    let is = part_of_item g.H.Group.codes g.H.Group.dictionary items q c.part-item.result c.loop-part-test.true
    c.part-item.is in
    let lines = c.args.lines in
    let part = part_of g.H.Group.codes g.H.Group.dictionary c.part-item.result in
    let one = one_part g.N.Number.BITS lines.inner lines.count base part c.requires.columns.columns (q, there, is) in
    one.is

pub times_part-requires-clause-within : goal.times_part-requires-clause-within
times_part-requires-clause-within g c =
    let items = c.args.read.now in
    let base = parts_of g.H.Group.codes g.H.Group.dictionary items in
    let q = c.loop-part.part-index in
    let there : q < length base =
    rw (parts_count g.H.Group.codes g.H.Group.dictionary items) c.loop-part-test.true in
    let is = part_of_item g.H.Group.codes g.H.Group.dictionary items q c.part-item.result c.loop-part-test.true
    c.part-item.is in
    let lines = c.args.lines in
    let part = part_of g.H.Group.codes g.H.Group.dictionary c.part-item.result in
    let one = one_part g.N.Number.BITS lines.inner lines.count base part c.requires.columns.columns (q, there, is) in
    one.within

pub times_part-requires-clause-zeros : goal.times_part-requires-clause-zeros
times_part-requires-clause-zeros g c =
    let items = c.args.read.now in
    let base = parts_of g.H.Group.codes g.H.Group.dictionary items in
    let q = c.loop-part.part-index in
    let there : q < length base =
    rw (parts_count g.H.Group.codes g.H.Group.dictionary items) c.loop-part-test.true in
    let is = part_of_item g.H.Group.codes g.H.Group.dictionary items q c.part-item.result c.loop-part-test.true
    c.part-item.is in
    let lines = c.args.lines in
    let item = column_product (parts_of g.G.Group.codes g.G.Group.dictionary c.args.parts.now) lines base in
    rw is at (next_lines g.N.Number.BITS lines q item base c.loop-part.exact c.requires.columns.columns there
    c.loop-part.invariant.products)

pub times_part-requires-clause-room : goal.times_part-requires-clause-room
times_part-requires-clause-room g c =
    let base = parts_of g.H.Group.codes g.H.Group.dictionary c.args.read.now in
    let parts = parts_of g.G.Group.codes g.G.Group.dictionary c.args.parts.now in
    let few = read_few g.N.Number.BITS base parts c.args.lines (length c.args.codes.now) (length c.args.exact.now)
    c.loop-part.part-index c.requires.columns in
    rw c.loop-part.invariant.counts (record {
      mults = omega (arith, c.requires.room.mults, few);
      maps = omega
          (arith, c.requires.room.maps);
    })

pub loop-part-preserved : goal.loop-part-preserved
loop-part-preserved g c =
    let items = c.args.read.now in
    let base = parts_of g.H.Group.codes g.H.Group.dictionary items in
    let q = c.loop-part.part-index in
    let there : q < length base =
    rw (parts_count g.H.Group.codes g.H.Group.dictionary items) c.loop-part-test.true in
    let is = part_of_item g.H.Group.codes g.H.Group.dictionary items q c.part-item.result c.loop-part-test.true
    c.part-item.is in
    let lines = c.args.lines in
    let item = column_product (parts_of g.G.Group.codes g.G.Group.dictionary c.args.parts.now) lines base in
    let order = lines.order in
    let parts = parts_of g.G.Group.codes g.G.Group.dictionary c.args.parts.now in
    let old = c.loop-part.exact in
    let new = c.times_part.new.exact in
    let columns = c.part-item.result.columns.items in
    let products : AreLinesOf lines (length columns) item columns old new = c.times_part.ensures.products in
    let more : c.args.meter.now.mults + read_values order parts (take q base) + listed_values order parts columns
    ≡ c.args.meter.now.mults + read_values order parts (take (q + 1) base) =
    (let next = read_more order parts base q there in
    let same : listed_values order parts (part_at base q).columns ≡ listed_values order parts columns =
    ap (λ (p : LayoutPart). listed_values order parts p.columns) is in
    omega (arith, next, same)) in
    record {
      products = parts_read g.N.Number.BITS lines q item base old new c.requires.columns.columns there
          (subst (λ (p : LayoutPart). AreLinesOf lines (length p.columns) item p.columns old new) (sym is) products)
          c.loop-part.invariant.products;
      counts = rw (c.times_part.ensures.counts, c.loop-part.invariant.counts)
          (ap (λ (k : ℕ). record c.args.meter.now { mults = k }) more);
    }

pub returns-clause-products : goal.returns-clause-products
returns-clause-products g c =
    let items = c.args.read.now in
    let base = parts_of g.H.Group.codes g.H.Group.dictionary items in
    let q = c.loop-part.part-index in
    let lines = c.args.lines in
    let item = column_product (parts_of g.G.Group.codes g.G.Group.dictionary c.args.parts.now) lines base in
    let all : length base ≤ q =
    rw (parts_count g.H.Group.codes g.H.Group.dictionary items) c.loop-part-test.false in
    all_read g.N.Number.BITS lines q item base c.loop-part.exact c.requires.columns.columns all
    c.loop-part.invariant.products

pub returns-clause-counts : goal.returns-clause-counts
returns-clause-counts g c =
    let items = c.args.read.now in
    let base = parts_of g.H.Group.codes g.H.Group.dictionary items in
    let parts = parts_of g.G.Group.codes g.G.Group.dictionary c.args.parts.now in
    let q = c.loop-part.part-index in
    let all : length base ≤ q =
    rw (parts_count g.H.Group.codes g.H.Group.dictionary items) c.loop-part-test.false in
    let done = ap (read_values c.args.lines.order parts) (take_all q base all) in
    rw c.loop-part.invariant.counts
    (ap (λ (k : ℕ). record c.args.meter.now { mults = c.args.meter.now.mults + k }) done)
