use Rattle.std.proofs.Common.{◌≡◌, ◌*◌, ◌<◌, length, arith, ap, List}
use Rattle.cla_table.proofs.PlaceLaws.{turned_within, next_in_row, next_row, one_more, read_is, single_row}
use Rattle.cla_table.proofs.panels.turn.Goals as goal
use Rattle.cla_table.proofs.panels.turn.Goals.{then-place-len, else-place-len}

pub loop-k-preserved : goal.loop-k-preserved
loop-k-preserved g c =
    let before = c.loop-k.invariant in
    let k = c.loop-k.k in
    let old = c.args.panel.now in
    let height = c.args.height in
    let cols = c.args.cols in
    let copy = c.extend_from_slice.new.self in
    let long : length copy.items ≡ length old = ap (λ (xs : List g.row.N.Denot). length xs) before.kept in
    let lt : k < length old = omega (arith, long, c.loop-k-test.true, c.len-k-end.ensures, copy.ok.0) in
    let below : k < height * cols = omega (arith, lt, c.requires.count) in
    let here = before.place lt in
    let n : c.len.result ≡ height * cols = omega (arith, long, c.len.ensures, copy.ok.0, c.requires.count) in
    record {
      kept = before.kept;
      place = λ more. elim c.if-place-len.branch [
        | then-place-len w ↦ omega (
          arith,
          w.place-is,
          here,
          n,
          next_row height cols k c.requires.a_col below
              (omega (arith, w.if-place-len.true, here, n)),
        )
        | else-place-len w ↦ omega (
          arith,
          w.place-is,
          here,
          n,
          next_in_row height cols k c.requires.a_col
              (omega (arith, w.if-place-len.false, here, n)),
        )
      ];
      done = λ i d. one_more d old c.loop-k.panel height cols k c.index.result.now
          (omega (arith, lt, c.loop-k.auto.panel))
          (read_is d copy.items old c.loop-k.place _ c.index.result.now c.index.ensures before.kept here
          (omega (arith, c.requires.count, turned_within height cols k c.requires.a_col below)))
          (λ i. before.done i d) i;
    }

pub returns-then-height-eq1 : goal.returns-then-height-eq1
returns-then-height-eq1 g c
    = record { turned = single_row c.args.height c.args.cols c.args.panel.now c.if-height-eq1.true c.requires.count }
