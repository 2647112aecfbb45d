use Rattle.cla_cli.proofs.EvaluateLaws.{product_good}
use Rattle.cla_cli.proofs.evaluate.product_sum.Goals as goal

pub returns-in-Ok-clause-value : goal.returns-in-Ok-clause-value
returns-in-Ok-clause-value g c =
    product_good g.N.Number.value g.N.Number.BITS c.args.place c.args.times (g.N.Number.value c.args.k) c.args.table.now
    c.in-Ok.product
    c.sum.result c.in-Ok.ensures.product.0 c.in-Ok.ensures.product.1 c.sum.ensures.value
