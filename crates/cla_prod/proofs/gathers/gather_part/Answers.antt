use Rattle.std.proofs.Common.{◌≡◌, ◌+◌, ◌*◌, ℕ, length, map, ap, arith}
use Rattle.cla_layout.specs.Groups.{at}
use Rattle.cla_coded.specs.Parts.{part_of}
use Rattle.cla_prod.specs.Sums.{columns_from}
use Rattle.cla_prod.proofs.ColumnsSet.{IsFirstFrom, first_is, count_from, part_gathered, none_gathered}
use Rattle.cla_prod.proofs.gathers.gather_part.Goals as goal

pub returns-then-first-len-clause-counts : goal.returns-then-first-len-clause-counts
returns-then-first-len-clause-counts g c =
    let columns = c.args.part.now.columns.items in
    let first = c.first_from-first.result in
    let found = rw c.deref.ensures.value at c.first_from-first.ensures in
    let is : IsFirstFrom c.args.from columns first = first_is c.args.from columns first c.requires.part.rising
    found.within found.before found.after in
    rw (count_from c.args.from columns first is) c.gather_columns.ensures.counts

pub returns-then-first-len-clause-sums : goal.returns-then-first-len-clause-sums
returns-then-first-len-clause-sums g c =
    let part = part_of g.G.Group.codes g.G.Group.dictionary c.args.part.now in
    let columns = c.args.part.now.columns.items in
    let first = c.first_from-first.result in
    let found = rw c.deref.ensures.value at c.first_from-first.ensures in
    let is : IsFirstFrom c.args.from columns first = first_is c.args.from columns first c.requires.part.rising
    found.within found.before found.after in
    part_gathered c.args.from first (length c.args.items.now) part (at (map g.N.Number.value c.args.items.now))
    c.args.sums.now
    c.gather_columns.new.sums is c.gather_columns.ensures.sums

pub returns-else-first-len-clause-counts : goal.returns-else-first-len-clause-counts
returns-else-first-len-clause-counts g c =
    let columns = c.args.part.now.columns.items in
    let tuples = g.G.Group.dictionary c.args.part.now.group in
    let first = c.first_from-first.result in
    let found = rw c.deref.ensures.value at c.first_from-first.ensures in
    let is : IsFirstFrom c.args.from columns first = first_is c.args.from columns first c.requires.part.rising
    found.within found.before found.after in
    let none : columns_from c.args.from columns ≡ 0 = (let count = count_from c.args.from columns first is in
    let long = rw c.deref.ensures.value at c.deref.ensures.len in omega
    (arith, count, c.if-first-len.false, c.len.ensures, long)) in
    let more : c.args.meter.now.mults ≡ c.args.meter.now.mults + length tuples * columns_from c.args.from columns =
    rw none (omega arith) in
    ap (λ (n : ℕ). record c.args.meter.now { mults = n }) more

pub returns-else-first-len-clause-sums : goal.returns-else-first-len-clause-sums
returns-else-first-len-clause-sums g c =
    let part = part_of g.G.Group.codes g.G.Group.dictionary c.args.part.now in
    let columns = c.args.part.now.columns.items in
    let first = c.first_from-first.result in
    let found = rw c.deref.ensures.value at c.first_from-first.ensures in
    let is : IsFirstFrom c.args.from columns first = first_is c.args.from columns first c.requires.part.rising
    found.within found.before found.after in
    none_gathered c.args.from first (length c.args.items.now) part (at (map g.N.Number.value c.args.items.now))
    c.args.sums.now is
    (let long = rw c.deref.ensures.value at c.deref.ensures.len in omega
    (arith, c.if-first-len.false, c.len.ensures, long))
