use Rattle.std.proofs.Common.{◌≡◌, ◌≤◌, ◌*◌, ℕ, List, map}
use Rattle.std.specs.Int.RustNames.{unsigned_abs}
use Rattle.cla_num.specs.Bits.{value_bound}
use Rattle.cla_layout.specs.Groups.{at, gathered_to}
use Rattle.cla_rows.specs.RunBounds.{IsStretch}
use Rattle.cla_runs.proofs.walks.gather_between.Given as goal

-- the items of the rows before row i are added
abbrev pub invariant-loop-i : goal.invariant-loop-i
invariant-loop-i g l =
    let items = map g.N.Number.value l.rows in
    record {
      size : unsigned_abs l.total ≤ l.i * value_bound;
      so_far : (codes : List ℕ) → IsStretch codes l.k l.a l.b → at l.fn.into l.k ≡ gathered_to codes items l.k l.a →
          l.total ≡ gathered_to codes items l.k l.i;
    }
