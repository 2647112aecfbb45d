use Rattle.cla_group.proofs.GroupsMade.{group_valued}
use Rattle.cla_group_tests.proofs.borrowed.borrowed_part.Goals as goal

pub invariant_of-group : goal.invariant_of-group
invariant_of-group g c =
    let group = c.args.part.now.group in
    let made = c.in_ok-dictionary in
    record {
      is = rw made.ensures.width (group_valued g.N.Number.BITS (g.G.Group.columns group) (g.G.Group.codes group)
          (g.G.Group.dictionary group) made.dictionary.tuples (g.met.G.Group.laws group)
          (rw made.ensures.width at made.ensures.are) made.ensures.count);
      as_many = made.ensures.count;
    }
