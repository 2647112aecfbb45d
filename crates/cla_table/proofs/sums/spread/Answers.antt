use Rattle.std.proofs.Common.{pos, ap, sym, ◌∙◌, ◌<◌, ◌≤◌, ℕ, ◌+◌, ◌*◌, List, length, length-set, arith}
use Rattle.std.proofs.Math.Nat.{div-lt_iff_lt-mul}
use Rattle.std.proofs.lemmas.List.{take_all}
use Rattle.cla_table.proofs.KeptLaws.{within_at, written, written_none, written_once}
use Rattle.cla_table.proofs.SumLaws.{written_on}
use Rattle.cla_table.proofs.sums.spread.Goals as goal
use Rattle.cla_table.proofs.sums.spread.Goals.{in-Some, in_default}

pub loop-i-init : goal.loop-i-init
loop-i-init g c = record {
  count = c.in_ok-cells.ensures.count ∙ c.cells.ensures;
  so_far = λ i j low left. c.in_ok-cells.ensures.zero _
      ∙ sym (written_none g.N.Number.value (pos 0) (i * c.args.grid.cols + j));
}

pub place-requires-clause-row : goal.place-requires-clause-row
place-requires-clause-row g c = (div-lt_iff_lt-mul c.args.grid.a_col).1
    (within_at g.N.Number.value _ c.args.sums.now.entries c.loop-i.i
    (c.in-Some.place.now, c.in-Some.sum.now) c.requires.within (sym c.in-Some.ensures.entry))

pub loop-i-preserved : goal.loop-i-preserved
loop-i-preserved g c = elim c.match-get_index.branch [
  | in-Some w ↦
      let grid = c.args.grid in
      let cells = c.loop-i.cells.items in
      let before = c.loop-i.invariant in
      rw w.cells-is record {
        count = length-set cells w.place.result w.in-Some.sum.now ∙ before.count;
        so_far = written_on g.N.Number.value grid c.args.sums.now.entries c.loop-i.i
            (w.in-Some.place.now, w.in-Some.sum.now) cells w.place.result before.count
            (sym w.in-Some.ensures.entry) c.requires.within grid.a_col w.place.ensures.place before.so_far;
      }
  | in_default w ↦
      let there : c.loop-i.i < length c.args.sums.now.entries = omega
      (arith, c.loop-i-test.true, c.len-i-end.ensures.len) in
      let none = rw w.in_default.is at (c.get_index.ensures.found.1 there) in
      absurd cc
]

pub returns-clause-sums : goal.returns-clause-sums
returns-clause-sums g c i j low left =
    let entries = c.args.sums.now.entries in
    let all : length entries ≤ c.loop-i.i = omega (arith, c.loop-i-test.false, c.len-i-end.ensures.len) in
    c.loop-i.invariant.so_far i j low left
    ∙ ap (λ (es : List (ℕ × g.row.N.Denot)). written g.N.Number.value es (pos 0) (i * c.args.grid.cols + j))
    (take_all c.loop-i.i entries all)
    ∙ written_once g.N.Number.value entries (i * c.args.grid.cols + j) c.len-i-end.ensures.unique
