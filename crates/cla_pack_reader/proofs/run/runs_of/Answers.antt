use Rattle.std.proofs.Common.{rules, ℕ, ◌-◌, ◌++◌, ◌∷◌, List, [], length, refl, sym, subst, ◌∙◌, arith}
use Rattle.cla_packed.specs.Runs.{Run, run_at, rows_of_runs}
use Rattle.cla_pack_reader.proofs.KeptRuns.{tuple_begun}
use Rattle.cla_pack_reader.proofs.RunLaws.{no_runs, run_pushed, run_is_kept}
use Rattle.cla_pack_reader.proofs.Steps.{follows, decides_none, decides_more, took_list, refused_list}
use Rattle.cla_runs.specs.declared.run_list.KeyedRun.{KeyedRun}
use Rattle.cla_pack_reader.specs.declared.walk.Walk.{Walk}
use Rattle.cla_pack_reader.specs.ListedRows.{AreRunsOf}
use Rattle.cla_pack_reader.specs.Places.{places_of, Took, Refused}
use Rattle.cla_pack_reader.specs.Runs.{IsRunState}
use Rattle.cla_pack_reader.specs.Walks.{at_start}
use Rattle.cla_pack_reader.proofs.run.runs_of.Goals as goal

pub loop-r-init : goal.loop-r-init
loop-r-init g c = record {
  same_reference = refl;
  frame = search rules;
  no_fault = refl;
  size = refl;
  so_far = λ earlier st is.
      let b = places_of c.args.input.now.taken (g.F.Files.state c.args.input.now.files.now) in
      let rows = length c.args.marks.now in
      let step = λ (left : ℕ) (so_far : List Run). run_at rows c.args.group earlier so_far in (
        [],
        subst (λ (w : Walk). IsRunState earlier [] c.args.marks.now w c.args.floor) (sym c.new-walk.ensures)
            (no_runs earlier c.args.marks.now at_start c.args.floor st.state),
        tuple_begun rows earlier c.args.runs.now.items st.runs,
        decides_none b b step c.args.n,
      );
}

pub returns-in-Err-clause-exact : goal.returns-in-Err-clause-exact
returns-in-Err-clause-exact g c earlier st is =
    let old = c.args.input.now.taken in
    let s = g.F.Files.state c.args.input.now.files.now in
    let mid = c.loop-r.input.taken in
    let u = g.F.Files.state c.loop-r.input.files.now in
    let rows = length c.args.marks.now in
    let n = c.args.n in
    let runs = c.loop-r.invariant.so_far earlier st is in
    let step = λ (left : ℕ) (so_far : List Run). run_at rows c.args.group earlier so_far in
    let bad = c.in-Err.ensures.exact earlier runs.0 runs.1 in
    refused_list (places_of old s) (places_of mid u) step n c.loop-r._r (n - 1 - c.loop-r._r) runs.0 c.in-Err.fault
    c.loop-r-test.true refl (follows old mid s u c.loop-r.invariant.frame.told) runs.3
    (subst (λ (m : ℕ). Refused (places_of mid u) (run_at m c.args.group earlier runs.0) c.in-Err.fault)
    c.loop-r.invariant.size bad)

pub loop-r-preserved : goal.loop-r-preserved
loop-r-preserved g c = record {
  same_reference = search rules;
  frame = search rules;
  no_fault = search rules;
  size = c.put_all.ensures.size ∙ c.loop-r.invariant.size;
  so_far = λ earlier st is.
      let b = places_of c.args.input.now.taken (g.F.Files.state c.args.input.now.files.now) in
      let m = places_of c.loop-r.input.taken (g.F.Files.state c.loop-r.input.files.now) in
      let r = places_of c.run_of.new.input.taken (g.F.Files.state c.run_of.new.input.files.now) in
      let rows = length c.args.marks.now in
      let n = c.args.n in
      let same = c.loop-r.invariant.size in
      let runs = c.loop-r.invariant.so_far earlier st is in
      let step = λ (left : ℕ) (so_far : List Run). run_at rows c.args.group earlier so_far in
      let good = c.in-Ok.ensures.exact earlier runs.0 runs.1 in
      let order = c.in-Ok.ensures.order in
      let one = subst (λ (k : ℕ). Took m r (run_at k c.args.group earlier runs.0) good.0) same good.1 in
      let pushed = run_pushed c.args.t earlier runs.0 c.loop-r.marks c.loop-r.walk c.args.floor runs.1 good.0
      c.in-Ok.run' good.2 order c.put_all.new.self c.put_all.ensures.size c.put_all.ensures.marks in
      let kept =
      run_is_kept c.args.t earlier runs.0 c.loop-r.marks c.loop-r.walk c.args.floor runs.1 good.0 c.in-Ok.run'
      good.2 order rows c.loop-r.runs.items (sym is) (omega (arith, c.in-Ok.ensures.within, same)) runs.2 in (
        runs.0 ++ good.0 ∷ [],
        subst (λ (w : Walk). IsRunState earlier (runs.0 ++ good.0 ∷ []) c.put_all.new.self w c.args.floor)
            (sym c.past-walk.ensures) pushed,
        subst (λ (l : List KeyedRun). AreRunsOf rows (earlier ++ rows_of_runs 0 (runs.0 ++ good.0 ∷ []) ∷ []) l)
            (sym c.in-Ok-push.ensures.items) kept,
        decides_more b m r step n c.loop-r._r (n - 1 - c.loop-r._r) runs.0 good.0 c.loop-r-test.true refl runs.3 one,
      );
}

pub returns-clause-exact : goal.returns-clause-exact
returns-clause-exact g c earlier st is =
    let b = places_of c.args.input.now.taken (g.F.Files.state c.args.input.now.files.now) in
    let m = places_of c.loop-r.input.taken (g.F.Files.state c.loop-r.input.files.now) in
    let rows = length c.args.marks.now in
    let runs = c.loop-r.invariant.so_far earlier st is in
    let step = λ (left : ℕ) (so_far : List Run). run_at rows c.args.group earlier so_far in (
      runs.0,
      took_list b m step c.args.n c.loop-r._r runs.0 c.loop-r-test.false runs.3,
      runs.1,
      runs.2,
    )
