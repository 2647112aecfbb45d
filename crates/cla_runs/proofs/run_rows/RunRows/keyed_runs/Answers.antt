use Rattle.std.proofs.Common.{◌≡◌, ℕ, length, refl, subst, arith}
use Rattle.cla_runs.proofs.KeyedLists.{AreFirst, first_more, list_keyed}
use Rattle.cla_runs.proofs.run_rows.RunRows.keyed_runs.Goals as goal

pub loop-n-init : goal.loop-n-init
loop-n-init c = record {
  first = rw c.in_ok-runs.ensures.items (record { count = refl; same = λ m there. absurd (omega (arith, there)) });
}

pub loop-n-preserved : goal.loop-n-preserved
loop-n-preserved c = record {
  first = rw (c.in_ok-push.ensures.items, c.begin.ensures, c.end_before.ensures, c.key.ensures)
      (first_more c.loop-n.n _ _ _ _ c.loop-n.invariant.first);
}

pub returns : goal.returns
returns c =
    let kept = rw c.self.view_is at c.self.invariant in
    let list = c.self.inside.runs in
    let all : c.loop-n.n ≡ length list.keys.items =
    omega (arith, c.loop-n-test.false, c.loop-n.auto.n-end, c.len-n-end.ensures) in
    list_keyed kept.runs c.loop-n.runs.items refl kept.few kept.in_tuples
    (subst (λ (n : ℕ). AreFirst n list.begins.items list.ends.items list.keys.items c.loop-n.runs.items) all
    c.loop-n.invariant.first)
