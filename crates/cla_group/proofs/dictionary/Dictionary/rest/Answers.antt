use Rattle.std.proofs.Common.{◌∙◌, ap, sym, below_more, arith}
use Rattle.cla_layout.specs.Listed.{is_zero}
use Rattle.cla_group.proofs.Rests.{rest_found, rest_missed}
use Rattle.cla_group.proofs.dictionary.Dictionary.rest.Goals as goal

pub returns-then-is_zero : goal.returns-then-is_zero
returns-then-is_zero g c = λ codes.
    rest_found codes c.args.self.now.tuples c.loop-k.k (omega (arith, c.loop-k-test.true, c.len-k-end.ensures.count))
    c.loop-k.invariant.others (ap is_zero (sym c.tuple.ensures.values) ∙ sym c.is_zero.ensures ∙ c.if-is_zero.true)

pub loop-k-preserved : goal.loop-k-preserved
loop-k-preserved g c = record {
  others = below_more _ _ c.loop-k.invariant.others
      (ap is_zero (sym c.tuple.ensures.values) ∙ sym c.is_zero.ensures ∙ c.if-is_zero.false);
}

pub returns : goal.returns
returns g c = λ codes.
    rest_missed codes c.args.self.now.tuples
    (λ j there. c.loop-k.invariant.others j (omega (arith, there, c.len-k-end.ensures.count, c.loop-k-test.false)))
