use Rattle.std.proofs.Common.{ℕ, ◌+◌, sym, subst, ◌∙◌, arith}
use Rattle.cla_packed.specs.Lists.{lists_of}
use Rattle.cla_runs.specs.declared.run_list.KeyedRun.{KeyedRun}
use Rattle.cla_pack_reader.specs.ListedRows.{AreRunsOf}
use Rattle.cla_pack_reader.proofs.RestPlaces.{SoFar, run_keys, run_taken, run_left, all_runs}
use Rattle.cla_pack_reader.proofs.run_list.VecKeyedRunListedRows.rest_code.Goals.{then-run-first, else-run-first}
use Rattle.cla_pack_reader.proofs.run_list.VecKeyedRunListedRows.rest_code.Goals as goal

abbrev none : KeyedRun
none = record { begin = 0; end = 0; key = 0 }

pub overflow_add-run : goal.overflow_add-run
overflow_add-run c =
    let w = c.requires in
    let runs = c.deref-run-items.result.now in
    let s = subst (AreRunsOf w.0 (lists_of c.args._d w.1)) (sym c.deref-run-items.ensures.value) w.3 in
    let key = run_keys w.0 c.args._d c.args.first w.1 runs w.2 s c.loop-run.run-index none c.loop-run-test.true in
    omega (arith, c.ranges._d.fits, key)

pub loop-run-preserved : goal.loop-run-preserved
loop-run-preserved c rows owners h s =
    let d = c.args._d in
    let first = c.args.first in
    let runs = c.deref-run-items.result.now in
    let i = c.loop-run.run-index in
    let inv = c.loop-run.invariant rows owners h s in
    elim c.if-run-first.branch [
      | then-run-first w ↦ subst (λ (r : ℕ). SoFar rows d first owners runs h s (i + 1) r)
          (sym (w.r-is ∙ w.max-r.ensures))
          (run_taken rows d first owners runs h s i c.loop-run.r none c.loop-run-test.true inv w.if-run-first.true)
      | else-run-first w ↦ subst (λ (r : ℕ). SoFar rows d first owners runs h s (i + 1) r) (sym w.r-is)
          (run_left rows d first owners runs h s i c.loop-run.r none c.loop-run-test.true inv w.if-run-first.false)
    ]

pub returns : goal.returns
returns c rows owners h s =
    let runs = c.deref-run-items.result.now in
    let t = subst (AreRunsOf rows (lists_of c.args._d owners)) (sym c.deref-run-items.ensures.value) s in
    all_runs rows c.args._d c.args.first owners runs h t c.loop-run.run-index c.loop-run.r c.loop-run-test.false
    (c.loop-run.invariant rows owners h t)
