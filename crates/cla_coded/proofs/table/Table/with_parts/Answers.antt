use Rattle.cla_coded.proofs.Outlines.{whole_with}
use Rattle.cla_coded.proofs.table.Table.with_parts.Goals as goal

pub invariant_of-result : goal.invariant_of-result
invariant_of-result g c =
    let t = c.self.inside in
    whole_with g.N.Number.BITS t.rows t.cols g.G.Group.columns g.G.Group.codes g.G.Group.dictionary g.H.Group.columns
    g.H.Group.codes
    g.H.Group.dictionary
    g.met.G.Group.laws g.met.H.Group.laws t.parts.items c.args.parts.items (rw (← c.self.view_is) at c.requires)
    c.self.invariant
