use Rattle.std.proofs.Common.{◌≡◌, ◌+◌, set, ap, ◌∙◌, arith}
use Rattle.std.proofs.lemmas.List.{get_or_read}
use Rattle.cla_layout.specs.Groups.{code_of}
use Rattle.cla_layout.specs.Listed.{begins_run}
use Rattle.cla_stats.specs.Coded.{has_code}
use Rattle.cla_stats.proofs.Tallies.{tallied_none, tallied_yes, tallied_more, tallied_few, own_code, no_other_code}
use Rattle.cla_stats.proofs.Tallies.{no_other_run}
use Rattle.cla_stats.proofs.counts.count_codes.Goals as goal

pub loop-i-init : goal.loop-i-init
loop-i-init c = record {
  occurring =
      tallied_none (has_code c.args.codes.now) c.args.distinct _
      (c.in_ok-occurrences.ensures.items_if_clones_equal (λ y e. e));
  running =
      tallied_none (begins_run c.args.codes.now) c.args.distinct _
      (c.in_ok-runs.ensures.items_if_clones_equal (λ y e. e));
}

pub overflow_add-index_mut : goal.overflow_add-index_mut
overflow_add-index_mut c =
    let codes = c.args.codes.now in
    let i = c.loop-i.i in
    let k = code_of codes i in
    let below = c.requires.below i c.loop-i-test.true in
    let are = c.loop-i.invariant.occurring in
    let now : c.index_mut.result.now ≡ code_of c.loop-i.occurrences.items k =
    get_or_read c.loop-i.occurrences.items k c.index_mut.result.now
    (omega (arith, below, are.a_count_each)) c.index_mut.ensures.value 0 in
    omega (
      arith,
      now,
      tallied_few (has_code codes) i c.args.distinct k c.loop-i.occurrences.items are below,
      c.loop-i-test.true,
      c.requires.few,
    )

pub overflow_add-index_mut-in-loop-i : goal.overflow_add-index_mut-in-loop-i
overflow_add-index_mut-in-loop-i c =
    let codes = c.args.codes.now in
    let i = c.loop-i.i in
    let k = code_of codes i in
    let below = c.requires.below i c.loop-i-test.true in
    let are = c.loop-i.invariant.running in
    let now : c.index_mut-in-loop-i.result.now ≡ code_of c.loop-i.runs.items k =
    get_or_read c.loop-i.runs.items k c.index_mut-in-loop-i.result.now
    (omega (arith, below, are.a_count_each)) c.index_mut-in-loop-i.ensures.value 0 in
    omega (
      arith,
      now,
      tallied_few (begins_run codes) i c.args.distinct k c.loop-i.runs.items are below,
      c.loop-i-test.true,
      c.requires.few,
      c.begins.ensures.small,
    )

pub loop-i-preserved : goal.loop-i-preserved
loop-i-preserved c =
    let codes = c.args.codes.now in
    let i = c.loop-i.i in
    let k = code_of codes i in
    let below = c.requires.below i c.loop-i-test.true in
    let occurring = c.loop-i.invariant.occurring in
    let running = c.loop-i.invariant.running in
    let occurs : c.index_mut.result.now ≡ code_of c.loop-i.occurrences.items k =
    get_or_read c.loop-i.occurrences.items k c.index_mut.result.now
    (omega (arith, below, occurring.a_count_each)) c.index_mut.ensures.value 0 in
    let runs : c.index_mut-in-loop-i.result.now ≡ code_of c.loop-i.runs.items k =
    get_or_read c.loop-i.runs.items k c.index_mut-in-loop-i.result.now
    (omega (arith, below, running.a_count_each)) c.index_mut-in-loop-i.ensures.value 0 in
    record {
      occurring =
          tallied_yes (has_code codes) i c.args.distinct k c.loop-i.occurrences.items _ occurring below
          (own_code codes i) (λ m other. no_other_code codes i m other)
          (ap (λ n. set c.loop-i.occurrences.items k (n + 1)) occurs);
      running =
          tallied_more (begins_run codes) i c.args.distinct k c.loop-i.runs.items _ running below
          (λ m other. no_other_run codes i m other)
          (ap (λ n. set c.loop-i.runs.items k (n + c.begins.result)) runs
          ∙ ap (λ n. set c.loop-i.runs.items k (code_of c.loop-i.runs.items k + n)) c.begins.ensures.value);
    }
