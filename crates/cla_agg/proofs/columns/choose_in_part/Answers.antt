use Rattle.std.proofs.Common.{◌≡◌, ℕ, length, map, subst, ◌∙◌, arith}
use Rattle.cla_layout.specs.Groups.{at, value_of}
use Rattle.cla_layout.specs.GroupLaws.{IsExtreme}
use Rattle.cla_layout.specs.Layouts.{column_at}
use Rattle.cla_layout.proofs.Regroup.{codes_of_group, extremes_regroup}
use Rattle.cla_agg.proofs.Extremes.{extreme_one}
use Rattle.cla_agg.proofs.columns.choose_in_part.Goals as goal

pub loop-from-init : goal.loop-from-init
loop-from-init g c =
    let tuples = g.G.Group.dictionary c.args.part.now.group in
    let laws = g.met.G.Group.laws c.args.part.now.group in
    let some = laws.in_tuples 0 (omega (arith, laws.a_row)) in
    record {
      made = record {
        made = λ d there. extreme_one g.O.Order.before g.O.Order.choice g.met.O.Order.laws
            (λ (l : ℕ). value_of tuples l d) _
            (c.place_first.ensures.made d there);
        kept = c.place_first.ensures.kept;
      };
      within = omega (arith, c.tuples-tuples.ensures, some);
    }

pub choose_in_tuples-requires-clause-within : goal.choose_in_tuples-requires-clause-within
choose_in_tuples-requires-clause-within g c place there =
    omega (arith, c.requires.within place there, c.loop-from.auto.into, c.place_first.auto.into)

pub loop-from-preserved : goal.loop-from-preserved
loop-from-preserved g c = record {
  made = record {
    made = c.choose_in_tuples.ensures.made;
    kept = λ j none. c.choose_in_tuples.ensures.kept j none ∙ c.loop-from.invariant.made.kept j none;
  };
  within = omega (arith, c.min.ensures, c.loop-from-test.true);
}

pub returns : goal.returns
returns g c =
    let codes = g.G.Group.codes c.args.part.now.group in
    let tuples = g.G.Group.dictionary c.args.part.now.group in
    let columns = c.args.part.now.columns.items in
    let laws = g.met.G.Group.laws c.args.part.now.group in
    let all : c.loop-from.from ≡ length tuples =
    omega (arith, c.loop-from-test.false, c.tuples-tuples.ensures, c.loop-from.invariant.within) in
    record {
      made = λ d there. (let f = λ (l : ℕ). value_of tuples l d in
          let v = at (map g.N.Number.value c.loop-from.into) (column_at columns d) in
          (extremes_regroup (length tuples) codes g.O.Order.before f v (codes_of_group _ _ _ _ laws)).1
          (subst (λ (n : ℕ). IsExtreme g.O.Order.before f n v) all (c.loop-from.invariant.made.made d there)));
      kept = c.loop-from.invariant.made.kept;
    }
