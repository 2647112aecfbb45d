use Rattle.std.proofs.Common.{◌≡◌, ◌<◌, ◌≤◌, ◌+◌, ℕ, Bool, length, map, ap, subst, sym, ◌∙◌}
use Rattle.cla_layout.specs.Groups.{at}
use Rattle.cla_layout.specs.Layouts.{IsWhole}
use Rattle.cla_coded.specs.Parts.{parts_of}
use Rattle.cla_prod.specs.declared.numbers.Order.{Order}
use Rattle.cla_prod.specs.Lines.{base_for, item_times}
use Rattle.cla_prod.specs.Columns.{column_values, first_item}
use Rattle.cla_prod.proofs.ColumnsRead.{turned_is}
use Rattle.cla_prod.proofs.columns.times_column.Goals as goal

pub times_base-requires-clause-whole : goal.times_base-requires-clause-whole
times_base-requires-clause-whole g c =
    let parts = parts_of g.G.Group.codes g.G.Group.dictionary c.args.parts.now in
    let turned = turned_is c.args.lines.order c.args.lines.turned c.in-Mirrored.is c.requires.turned in
    subst (λ (t : Bool). IsWhole g.N.Number.BITS (base_for t (length c.args.product.now) (length c.args.column.now)
    parts)) turned c.requires.whole

pub returns-in-Mirrored-clause-product : goal.returns-in-Mirrored-clause-product
returns-in-Mirrored-clause-product g c i from lt =
    let parts = parts_of g.G.Group.codes g.G.Group.dictionary c.args.parts.now in
    let item = at (map g.N.Number.value c.args.column.now) in
    let turned = turned_is c.args.lines.order c.args.lines.turned c.in-Mirrored.is c.requires.turned in
    c.times_base.ensures.sums i (subst (λ (o : Order). first_item o c.args.j ≤ i) c.in-Mirrored.is from) lt
    ∙ ap (λ (t : Bool). item_times t parts item (length c.args.column.now) i) (sym turned)

pub returns-in-Mirrored-clause-counts : goal.returns-in-Mirrored-clause-counts
returns-in-Mirrored-clause-counts g c =
    let parts = parts_of g.G.Group.codes g.G.Group.dictionary c.args.parts.now in
    c.times_base.ensures.counts
    ∙ ap (λ (o : Order). record c.args.meter.now {
      mults = c.args.meter.now.mults + column_values o parts c.args.j;
    }) (sym c.in-Mirrored.is)
