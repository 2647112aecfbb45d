use Rattle.std.proofs.Common.{◌≡◌, ◌<◌, ◌+◌, ◌-◌, ℕ, length, subst, refl, arith}
use Rattle.std.proofs.lemmas.List.{get_or_read}
use Rattle.cla_layout.specs.Groups.{code_of}
use Rattle.cla_rows.proofs.CountedRows.{AreCountedFrom, count_size, counted_more}
use Rattle.cla_rows.proofs.row_counts.counted.Goals as goal

pub overflow_add-index_mut : goal.overflow_add-index_mut
overflow_add-index_mut c =
    let codes = c.args.codes.now in
    let i = c.loop-i.i - 1 in
    let row : i < length codes = omega arith in
    let k = code_of codes i in
    let below = c.requires.below i row in
    let are = c.loop-i.invariant.counted in
    let now : c.index_mut.result.now ≡ code_of c.loop-i.counts.items k =
    get_or_read c.loop-i.counts.items k c.index_mut.result.now (omega (arith, below, are.a_count_each))
    c.index_mut.ensures.value 0 in
    omega (arith, now, are.count k below, count_size c.loop-i.i codes k, c.requires.few)

pub loop-i-preserved : goal.loop-i-preserved
loop-i-preserved c =
    let codes = c.args.codes.now in
    let i = c.loop-i.i - 1 in
    let row : i < length codes = omega arith in
    let k = code_of codes i in
    let below = c.requires.below i row in
    let are = c.loop-i.invariant.counted in
    let counts = c.loop-i.counts.items in
    let first_rows = c.loop-i.first_rows.items in
    let now : c.index_mut.result.now ≡ code_of counts k =
    get_or_read counts k c.index_mut.result.now (omega (arith, below, are.a_count_each)) c.index_mut.ensures.value 0 in
    let next : c.loop-i.i ≡ i + 1 = omega arith in
    let before = subst (λ (n : ℕ). AreCountedFrom n codes c.args.tuples counts first_rows) next are in
    record { counted = rw now (counted_more i codes c.args.tuples counts first_rows k row refl below before) }
