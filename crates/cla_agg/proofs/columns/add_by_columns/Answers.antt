use Rattle.std.proofs.Common.{◌≡◌, ◌≤◌, ℕ, length, ap, sym, ◌∙◌, arith}
use Rattle.std.proofs.Math.Nat.{mul-le-mul_right}
use Rattle.cla_spec.specs.Numbers.{sum_to}
use Rattle.cla_layout.proofs.Cells.{occurring, values_few}
use Rattle.cla_coded.specs.Parts.{part_of}
use Rattle.cla_agg.proofs.Placed.{column_by_tuples}
use Rattle.cla_agg.proofs.Slices.{raised_more}
use Rattle.cla_agg.proofs.columns.add_by_columns.Goals as goal

pub add_tuples-requires-clause-room : goal.add_tuples-requires-clause-room
add_tuples-requires-clause-room g c =
    let part = part_of g.G.Group.codes g.G.Group.dictionary c.args.part.now in
    let few = values_few _ _ _ _ c.requires.part.group in
    let before : c.loop-from.from ≤ length part.tuples =
    omega (arith, c.loop-from-test.true, c.tuples-tuples.ensures) in
    rw c.loop-from.invariant.counts
    (record {
      mults = omega (arith, c.requires.room.mults, few, mul-le-mul_right (length part.columns) before);
      maps = omega (arith, c.requires.room.maps);
    })

pub add_tuples-requires-clause-tuples : goal.add_tuples-requires-clause-tuples
add_tuples-requires-clause-tuples g c =
    omega (arith, c.min-count.ensures, c.loop-from-test.true, c.tuples-tuples.ensures)

pub add_tuples-requires-clause-within : goal.add_tuples-requires-clause-within
add_tuples-requires-clause-within g c place there =
    omega (arith, c.requires.within place there, c.loop-from.auto.into)

pub loop-from-preserved : goal.loop-from-preserved
loop-from-preserved g c = record {
  sums = c.add_tuples.ensures.sums.added;
  kept = λ j none. c.add_tuples.ensures.sums.kept j none ∙ c.loop-from.invariant.kept j none;
  counts = raised_more c.loop-from.from c.min-count.result (length c.args.part.now.columns.items) _ _ _
      c.loop-from.invariant.counts c.add_tuples.ensures.counts;
  within = omega (arith, c.min-count.ensures, c.loop-from-test.true);
}

pub returns-clause-sums : goal.returns-clause-sums
returns-clause-sums g c =
    let part = part_of g.G.Group.codes g.G.Group.dictionary c.args.part.now in
    let all : c.loop-from.from ≡ length part.tuples =
    omega (arith, c.loop-from-test.false, c.tuples-tuples.ensures, c.loop-from.invariant.within) in
    record {
      made = λ place there. c.loop-from.invariant.sums place there
          ∙ ap (sum_to (λ (l : ℕ). occurring part.codes part.tuples l place)) all
          ∙ sym (column_by_tuples _ _ _ _ place c.requires.part.group);
      kept = c.loop-from.invariant.kept;
    }

pub returns-clause-counts : goal.returns-clause-counts
returns-clause-counts g c =
    let part = part_of g.G.Group.codes g.G.Group.dictionary c.args.part.now in
    let all : c.loop-from.from ≡ length part.tuples =
    omega (arith, c.loop-from-test.false, c.tuples-tuples.ensures, c.loop-from.invariant.within) in
    rw (sym all) c.loop-from.invariant.counts
