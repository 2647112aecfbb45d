use Rattle.cla_mtx.proofs.PhaseLaws.{end_is}
use Rattle.cla_mtx.proofs.phase.finish.Goals as goal

pub returns-in-Ok-clause-ends : goal.returns-in-Ok-clause-ends
returns-in-Ok-clause-ends g c ts =
    rw c.in-Entries.is (λ has. end_is g.N.Number.BITS c.args.number c.in-Entries.entries ts c.in-Ok.m
    (rw c.in-Entries.is at c.requires.ready) has c.if-count-size.false c.in-Ok.ensures.sums c.in-Ok.ensures.shape)
