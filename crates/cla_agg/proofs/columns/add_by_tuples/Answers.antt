use Rattle.std.proofs.Common.{◌≡◌, ◌≤◌, ℕ, length, ap, sym, ◌∙◌, arith}
use Rattle.std.proofs.Math.Nat.{mul-le-mul_right}
use Rattle.cla_spec.specs.Numbers.{sum_to}
use Rattle.cla_layout.proofs.Cells.{occurring, values_few}
use Rattle.cla_coded.specs.Parts.{part_of}
use Rattle.cla_agg.proofs.Placed.{column_by_tuples}
use Rattle.cla_agg.proofs.columns.add_by_tuples.Goals as goal

pub add_tuple-requires-clause-room : goal.add_tuple-requires-clause-room
add_tuple-requires-clause-room g c =
    let part = part_of g.G.Group.codes g.G.Group.dictionary c.args.part.now in
    let few = values_few _ _ _ _ c.requires.part.group in
    let before : c.loop-k.k ≤ length part.tuples = omega (arith, c.loop-k-test.true, c.tuples-k-end.ensures) in
    rw c.loop-k.invariant.counts
    (record {
      mults = omega (arith, c.requires.room.mults, few, mul-le-mul_right (length part.columns) before);
      maps = omega (arith, c.requires.room.maps);
    })

pub returns-clause-sums : goal.returns-clause-sums
returns-clause-sums g c =
    let part = part_of g.G.Group.codes g.G.Group.dictionary c.args.part.now in
    let all : c.loop-k.k ≡ length part.tuples =
    omega (arith, c.loop-k-test.false, c.tuples-k-end.ensures, c.loop-k.auto.k-end) in
    record {
      made = λ place there. c.loop-k.invariant.sums place there
          ∙ ap (sum_to (λ (l : ℕ). occurring part.codes part.tuples l place)) all
          ∙ sym (column_by_tuples _ _ _ _ place c.requires.part.group);
      kept = c.loop-k.invariant.kept;
    }
