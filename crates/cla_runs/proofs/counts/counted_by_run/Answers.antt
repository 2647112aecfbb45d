use Rattle.std.proofs.Common.{◌≡◌, ◌<◌, ◌+◌, ◌-◌, ℕ, length, set, subst, arith, rules}
use Rattle.std.proofs.lemmas.List.{get_or_read}
use Rattle.std.specs.Prelude.{vec_len}
use Rattle.cla_layout.specs.Groups.{code_of}
use Rattle.cla_rows.specs.RunBounds.{IsStretch, edge}
use Rattle.cla_rows.proofs.RunBounds.{stretch_is}
use Rattle.cla_rows.proofs.CountedRows.{AreCountedFrom}
use Rattle.cla_runs.specs.Rows.{rows_in_runs}
use Rattle.cla_runs.proofs.CountedRuns.{stretch_counted, stretch_fits}
use Rattle.cla_runs.proofs.counts.counted_by_run.Goals.{After-code-k}
use Rattle.cla_runs.proofs.counts.counted_by_run.Goals as goal

-- the stretch before the rows that are counted, and its code
stretch : (c : After-code-k) → IsStretch (rows_in_runs c.args.tuples c.args.rest c.args.runs.now).codes c.code-k.result
    c.edge-begin.result c.edge-end.result
stretch c = rw (c.code-k.ensures, c.edge-begin.ensures, c.edge-end.ensures)
    (stretch_is c.requires.runs (omega arith) (c.loop-s.s - 1) (omega arith))

below : (c : After-code-k) → c.code-k.result < c.args.tuples
below c =
    let is = stretch c in
    omega (
      arith,
      is.same c.edge-begin.result (omega arith) c.if-begin-end.true,
      c.requires.in_tuples c.edge-begin.result (omega (arith, is.within, c.if-begin-end.true)),
    )

so_far : (c : After-code-k) → AreCountedFrom c.edge-end.result
    (rows_in_runs c.args.tuples c.args.rest c.args.runs.now).codes
    c.args.tuples c.loop-s.counts.items c.loop-s.first_rows.items
so_far c =
    let next : c.loop-s.s ≡ c.loop-s.s - 1 + 1 = omega arith in
    rw c.edge-end.ensures
    (subst (λ (s : ℕ). AreCountedFrom (edge c.args.runs.now.begins.items c.args.runs.now.ends.items s)
    (rows_in_runs c.args.tuples c.args.rest c.args.runs.now).codes c.args.tuples c.loop-s.counts.items
    c.loop-s.first_rows.items) next c.loop-s.invariant.counted)

pub index_mut-requires : goal.index_mut-requires
index_mut-requires c =
    let at = (goal.at.index_mut-requires c).After-code-k in
    let whole : vec_len c.loop-s.counts ≡ length c.loop-s.counts.items = search rules in
    omega (arith, whole, below at, (so_far at).a_count_each)

pub overflow_add-index_mut : goal.overflow_add-index_mut
overflow_add-index_mut c =
    let at = (goal.at.overflow_add-index_mut c).After-code-k in
    let codes = (rows_in_runs c.args.tuples c.args.rest c.args.runs.now).codes in
    let k = c.code-k.result in
    let is = stretch at in
    let read : c.index_mut.result.now ≡ code_of c.loop-s.counts.items k =
    get_or_read c.loop-s.counts.items k c.index_mut.result.now
    (omega (arith, below at, (so_far at).a_count_each)) c.index_mut.ensures.value 0 in
    omega (
      arith,
      read,
      (so_far at).count k (below at),
      stretch_fits codes k c.edge-begin.result c.edge-end.result is.order is.within,
      c.requires.few,
    )

pub index_mut-requires-then-begin-end : goal.index_mut-requires-then-begin-end
index_mut-requires-then-begin-end c =
    let at = (goal.at.index_mut-requires-then-begin-end c).After-code-k in
    let whole : vec_len c.loop-s.first_rows ≡ length c.loop-s.first_rows.items = search rules in
    omega (arith, whole, below at, (so_far at).a_row_each)

pub loop-s-preserved-then-begin-end : goal.loop-s-preserved-then-begin-end
loop-s-preserved-then-begin-end c =
    let at = (goal.at.loop-s-preserved-then-begin-end c).After-code-k in
    let codes = (rows_in_runs c.args.tuples c.args.rest c.args.runs.now).codes in
    let counts = c.loop-s.counts.items in
    let first_rows = c.loop-s.first_rows.items in
    let k = c.code-k.result in
    let a = c.edge-begin.result in
    let b = c.edge-end.result in
    let read : c.index_mut.result.now ≡ code_of counts k =
    get_or_read counts k c.index_mut.result.now (omega (arith, below at, (so_far at).a_count_each))
    c.index_mut.ensures.value 0 in
    let counted =
    stretch_counted codes c.args.tuples counts first_rows k a b c.if-begin-end.true (stretch at) (below at)
    (so_far at) in
    record {
      counted = rw read (subst (λ (row : ℕ). AreCountedFrom row codes c.args.tuples
          (set counts k (code_of counts k + (b - a))) (set first_rows k a)) c.edge-begin.ensures counted);
    }
