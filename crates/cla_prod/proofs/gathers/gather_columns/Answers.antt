use Rattle.std.proofs.Common.{◌*ℤ◌, length, map, ap, sym, ◌∙◌, arith}
use Rattle.std.proofs.lemmas.List.{length-take-le}
use Rattle.cla_spec.specs.Numbers.{sum_to}
use Rattle.cla_layout.specs.Groups.{at, cell_of}
use Rattle.cla_prod.specs.Sums.{column_times}
use Rattle.cla_prod.proofs.ColumnSums.{AreAll, column_is, columns_fit}
use Rattle.cla_prod.proofs.ColumnsSet.{set_named}
use Rattle.cla_prod.proofs.gathers.gather_columns.Goals as goal

pub add_tuples-requires-clause-fits : goal.add_tuples-requires-clause-fits
add_tuples-requires-clause-fits g c =
    let part = c.args.part.now in
    let codes = g.G.Group.codes part.group in
    let tuples = g.G.Group.dictionary part.group in
    let count = length-take-le c.tuples.result c.args.scratch.now (omega
    (arith, c.tuples.ensures, c.requires.scratch)) in
    columns_fit g.N.Number.BITS g.N.Number.value g.met.N.Number.in_range c.requires.bits
    (length part.columns.items) codes tuples c.args.items.now
    c.gather.new.into c.requires.part.group (sym c.requires.part.a_code_each)
    (λ k there. c.gather.ensures k (omega (arith, there, count, c.tuples.ensures)))

pub returns-clause-sums : goal.returns-clause-sums
returns-clause-sums g c =
    let part = c.args.part.now in
    let columns = part.columns.items in
    let codes = g.G.Group.codes part.group in
    let tuples = g.G.Group.dictionary part.group in
    let xs = map g.N.Number.value c.args.items.now in
    let count = length-take-le c.tuples.result c.args.scratch.now (omega
    (arith, c.tuples.ensures, c.requires.scratch)) in
    let all : AreAll codes xs (length tuples) c.gather.new.into = λ k there. c.gather.ensures k
    (omega (arith, there, count, c.tuples.ensures)) in
    set_named c.args.first (length columns) columns (λ d. column_times tuples c.gather.new.into d (length tuples))
    (λ d. sum_to (λ i. cell_of codes tuples i d *ℤ at xs i) (length c.args.items.now)) c.args.sums.now
    c.add_tuples.new.sums c.add_tuples.ensures.sums
    (λ d _ _. column_is codes tuples xs c.gather.new.into d c.requires.part.group.in_tuples all
    ∙ ap (sum_to (λ i. cell_of codes tuples i d *ℤ at xs i)) c.requires.part.a_code_each)
