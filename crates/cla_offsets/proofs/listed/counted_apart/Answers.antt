use Rattle.std.proofs.Common.{◌≡◌, ◌<◌, ◌+◌, ◌-◌, ℕ, length, subst, arith}
use Rattle.std.proofs.lemmas.List.{get_or_read}
use Rattle.cla_layout.specs.Groups.{code_of}
use Rattle.cla_rows.proofs.CountedRows.{count_size}
use Rattle.cla_offsets.proofs.CountedApart.{AreCountedApart, apart_other}
use Rattle.cla_offsets.proofs.listed.counted_apart.Goals as goal

pub overflow_add-index_mut : goal.overflow_add-index_mut
overflow_add-index_mut c =
    let codes = c.args.codes.now in
    let i = c.loop-i.i - 1 in
    let row : i < length codes = omega (arith, c.loop-i-test.true, c.loop-i.auto.i) in
    let k = code_of codes i in
    let below = c.requires.below i row in
    let are = c.loop-i.invariant.counted in
    let now : c.index_mut.result.now ≡ code_of c.loop-i.counts.items k =
    get_or_read c.loop-i.counts.items k c.index_mut.result.now (omega (arith, below, are.a_count_each))
    c.index_mut.ensures.value 0 in
    omega (
      arith,
      now,
      are.count k below c.if-codes-i.false,
      count_size c.loop-i.i codes k,
      c.requires.few,
    )

pub loop-i-preserved : goal.loop-i-preserved
loop-i-preserved c =
    let codes = c.args.codes.now in
    let i = c.loop-i.i - 1 in
    let row : i < length codes = omega (arith, c.loop-i-test.true, c.loop-i.auto.i) in
    let k = code_of codes i in
    let below = c.requires.below i row in
    let are = c.loop-i.invariant.counted in
    let counts = c.loop-i.counts.items in
    let first_rows = c.loop-i.first_rows.items in
    let now : c.index_mut.result.now ≡ code_of counts k =
    get_or_read counts k c.index_mut.result.now (omega (arith, below, are.a_count_each)) c.index_mut.ensures.value 0 in
    let next : c.loop-i.i ≡ i + 1 = omega (arith, c.loop-i-test.true) in
    let before =
    subst (λ (n : ℕ). AreCountedApart n codes c.args.tuples c.args.rest counts first_rows c.loop-i.unlisted
    c.loop-i.first_unlisted) next are in
    record {
      counted = rw now (apart_other i codes c.args.tuples c.args.rest counts first_rows c.loop-i.unlisted
          c.loop-i.first_unlisted row c.if-codes-i.false below before);
    }
