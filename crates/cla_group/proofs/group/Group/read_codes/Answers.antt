use Rattle.std.proofs.Common.{◌∙◌, arith}
use Rattle.std.proofs.lemmas.List.{ext_get_or}
use Rattle.cla_group.proofs.group.Group.read_codes.Goals as goal

pub returns : goal.returns
returns g c =
    ext_get_or 0 c.loop-i.into (g.Self.Group.codes c.args.self.now) (c.loop-i.auto.into ∙ c.requires.rows)
    (λ j there. c.loop-i.invariant j (omega (
      arith,
      there,
      c.loop-i-test.false,
      c.rows-i-end.ensures,
      c.requires.rows,
      c.loop-i.auto.into,
    )))
