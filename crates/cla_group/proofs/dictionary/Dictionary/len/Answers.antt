use Rattle.std.proofs.Common.{sym}
use Rattle.cla_group.proofs.Dictionaries.{tuples_are}
use Rattle.cla_group.proofs.dictionary.Dictionary.len.Goals as goal

pub returns-clause-are : goal.returns-clause-are
returns-clause-are g c =
    let d = c.self.inside in
    rw (sym c.self.view_is)
    (tuples_are g.N.Number.BITS g.N.Number.value g.met.N.Number.in_range d.width d.tuples d.values.items
    c.self.invariant)
