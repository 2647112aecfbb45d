use Rattle.std.proofs.Common.{◌≡◌, ℕ, ◌+◌, ◌-◌, ◌*◌, ◌/◌, ◌%◌, ◌<◌, ◌≤◌, min, List, length, length-drop, take, drop}
use Rattle.std.proofs.Common.{refl, get_or, arith, ap, ◌∙◌}
use Rattle.std.proofs.lemmas.Nat.{pow_pos}
use Rattle.std.proofs.lemmas.List.{with_items_is, length-take-le}
use Rattle.std.proofs.Math.Nat.{mul-le-mul_left}
use borrow.Rule.Slice.PartMut.{put_mid}
use Rattle.cla_table.specs.Places.{place_of}
use Rattle.cla_table.proofs.PlaceLaws.{panel_done, panels_left, next_is, put_length, part_turned}
use Rattle.cla_table.proofs.panels.row_by_row.Goals as goal

pub loop-first-preserved : goal.loop-first-preserved
loop-first-preserved g c =
    let grid = c.args.grid in
    let rows = grid.rows in
    let cols = grid.cols in
    let panel = c.panel-panel.result in
    let before = c.loop-first.invariant in
    let first = c.loop-first.first in
    let height = c.min-height.result in
    let held = c.deref_mut.result.now in
    let part = c.turn.new.panel in
    let cells = c.loop-first.cells in
    let lt : first < rows = c.loop-first-test.true in
    let at = before.at_panel lt in
    let is : height ≡ min panel (rows - first) = c.min-height.ensures in
    let same : held ≡ cells.items = c.deref_mut.ensures.value in
    let few : first + height ≤ rows = omega (arith, is, lt) in
    let count : length held ≡ rows * cols = rw same before.count in
    let within : first * cols ≤ length held = omega (arith, count, mul-le-mul_left cols few) in
    let part_width : (first + height) * cols - first * cols ≡ height * cols = omega arith in
    let n = (first + height) * cols - first * cols in
    let old = take n (drop (first * cols) held) in
    let fits : height * cols ≤ length (drop (first * cols) held) = omega
    (arith, count, length-drop (first * cols) held, mul-le-mul_left cols few) in
    let old_long : length old ≡ height * cols = omega
    (arith, length-take-le n (drop (first * cols) held) (omega (arith, fits, part_width)), part_width) in
    let long : length part ≡ height * cols = c.turn.auto.panel ∙ old_long in
    let whole : put_mid (first * cols) n held part ≡ put_mid (first * cols) (height * cols) held part
    = ap (λ (n : ℕ). put_mid (first * cols) n held part) part_width in
    let size : length (put_mid (first * cols) (height * cols) held part) ≡ length held = put_length (first * cols)
    (height * cols) held part (omega (arith, count, mul-le-mul_left cols few)) long in
    let back = with_items_is cells (put_mid (first * cols) n held part)
    (ap (λ (xs : List g.row.N.Denot). length xs) whole ∙ size ∙ c.deref_mut.ensures.len) ∙ whole in
    let turned : (k : ℕ) (d : g.row.N.Denot) → k < height * cols
    → get_or part k d ≡ get_or held (first * cols + ((k % cols) * height + k / cols)) d
    = λ k d. part_turned d (first * cols) n height cols held old part refl part_width grid.a_col
    c.in_ok-turn.ensures.turned old_long k in
    let done0 : (k : ℕ) (d : g.row.N.Denot) → k < first * cols
    → get_or held k d ≡ get_or c.args.cells.items (place_of panel rows cols (k / cols) (k % cols)) d = rw same
    before.done in
    let rest0 : (k : ℕ) (d : g.row.N.Denot) → first * cols ≤ k
    → get_or held k d ≡ get_or c.args.cells.items k d = rw same before.rest in
    rw back record {
      within = few;
      at_panel = λ more. let full : height ≡ panel = omega (arith, is, more) in rw full
          (next_is panel first (rw c.panel-panel.ensures (pow_pos grid.shift)) at);
      count = size ∙ count;
      done = λ k d. panel_done d panel rows cols first height c.args.cells.items held part grid.a_col at is lt count
          long (λ k. done0 k d) (λ k. rest0 k d) (λ k. turned k d) k;
      rest = λ k d. panels_left d cols first height c.args.cells.items held part within long (λ k. rest0 k d) k;
    }
