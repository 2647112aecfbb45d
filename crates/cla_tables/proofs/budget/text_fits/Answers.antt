use Rattle.std.proofs.Common.{◌<◌, ◌^◌, sym, subst, arith}
use Rattle.cla_grouping.specs.Grouping.{CutOf, packed_size}
use Rattle.cla_tables.proofs.SizeLaws.{no_larger}
use Rattle.cla_tables.proofs.budget.text_fits.Goals as goal

pub size-requires : goal.size-requires
size-requires g c = subst (λ (cut : CutOf). packed_size cut < 2 ^ 64) (sym c.in-Ok.ensures.rule)
    (omega (arith, no_larger c.args.m.now, c.plain_size.ensures.value, c.plain_size.ensures.small))
