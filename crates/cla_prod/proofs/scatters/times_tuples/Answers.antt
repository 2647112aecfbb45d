use Rattle.std.proofs.Common.{◌≤◌, length, arith}
use Rattle.std.proofs.Math.Nat.{mul-le-mul_right}
use Rattle.cla_layout.proofs.Cells.{values_few}
use Rattle.cla_prod.proofs.scatters.times_tuples.Goals as goal

pub times_tuple-requires-clause-room : goal.times_tuple-requires-clause-room
times_tuple-requires-clause-room g c =
    let few = values_few _ _ _ _ c.requires.part.group in
    let before : c.loop-k.k ≤ length (g.G.Group.dictionary c.args.part.now.group) = omega
    (arith, c.loop-k-test.true, c.tuples-k-end.ensures) in
    rw c.loop-k.invariant.counts (record {
      mults = omega (
        arith,
        c.requires.room.mults,
        few,
        mul-le-mul_right
            (length c.args.part.now.columns.items) before,
      );
      maps = omega (arith, c.requires.room.maps);
    })
