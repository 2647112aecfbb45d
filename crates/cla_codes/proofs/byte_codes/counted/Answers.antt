use Rattle.std.proofs.Common.{◌≡◌, ◌<◌, ◌+◌, ◌-◌, ℕ, length, subst, arith, rules}
use Rattle.std.specs.Prelude.{vec_len}
use Rattle.std.proofs.lemmas.List.{get_or_read}
use Rattle.cla_layout.specs.Groups.{code_of}
use Rattle.cla_rows.proofs.CountedRows.{AreCountedFrom, count_size, counted_more}
use Rattle.cla_codes.specs.Bytes.{codes_in}
use Rattle.cla_codes.proofs.CodeBytes.{codes_count, code_before, counted_none}
use Rattle.cla_codes.proofs.byte_codes.counted.Goals as goal

pub loop-i-init : goal.loop-i-init
loop-i-init g c =
    let codes = codes_in g.row.W c.args.bytes.now c.args.rows in
    record {
      counted = counted_none c.args.rows c.args.tuples codes c.in_ok-counts.counts.items
          c.in_ok-first_rows.first_rows.items (codes_count g.row.W c.args.bytes.now c.args.rows)
          (c.in_ok-counts.ensures.items_if_clones_equal (λ y e. e))
          (c.in_ok-first_rows.ensures.items_if_clones_equal (λ y e. e));
    }

pub index_mut-requires : goal.index_mut-requires
index_mut-requires g c =
    let at =
    code_before g.row.W c.args.rows c.args.tuples c.loop-i.i c.read_code-k.result c.args.bytes.now (omega arith)
    (omega arith) c.requires.below c.read_code-k.ensures in
    let whole : vec_len c.loop-i.counts ≡ length c.loop-i.counts.items = search rules in
    omega (arith, whole, at.below, c.loop-i.invariant.counted.a_count_each)

pub index_mut-requires-in-loop-i : goal.index_mut-requires-in-loop-i
index_mut-requires-in-loop-i g c =
    let at =
    code_before g.row.W c.args.rows c.args.tuples c.loop-i.i c.read_code-k.result c.args.bytes.now (omega arith)
    (omega arith) c.requires.below c.read_code-k.ensures in
    let whole : vec_len c.loop-i.first_rows ≡ length c.loop-i.first_rows.items = search rules in
    omega (arith, whole, at.below, c.loop-i.invariant.counted.a_row_each)

pub overflow_add-index_mut : goal.overflow_add-index_mut
overflow_add-index_mut g c =
    let codes = codes_in g.row.W c.args.bytes.now c.args.rows in
    let k = c.read_code-k.result in
    let at =
    code_before g.row.W c.args.rows c.args.tuples c.loop-i.i c.read_code-k.result c.args.bytes.now (omega arith)
    (omega arith) c.requires.below c.read_code-k.ensures in
    let below = at.below in
    let are = c.loop-i.invariant.counted in
    let now : c.index_mut.result.now ≡ code_of c.loop-i.counts.items k =
    get_or_read c.loop-i.counts.items k c.index_mut.result.now (omega (arith, below, are.a_count_each))
    c.index_mut.ensures.value 0 in
    omega (
      arith,
      now,
      are.count k below,
      count_size c.loop-i.i codes k,
      codes_count g.row.W c.args.bytes.now c.args.rows,
      c.requires.few,
    )

pub loop-i-preserved : goal.loop-i-preserved
loop-i-preserved g c =
    let codes = codes_in g.row.W c.args.bytes.now c.args.rows in
    let i = c.loop-i.i - 1 in
    let at =
    code_before g.row.W c.args.rows c.args.tuples c.loop-i.i c.read_code-k.result c.args.bytes.now (omega arith)
    (omega arith) c.requires.below c.read_code-k.ensures in
    let k = c.read_code-k.result in
    let are = c.loop-i.invariant.counted in
    let counts = c.loop-i.counts.items in
    let first_rows = c.loop-i.first_rows.items in
    let now : c.index_mut.result.now ≡ code_of counts k =
    get_or_read counts k c.index_mut.result.now (omega (arith, at.below, are.a_count_each)) c.index_mut.ensures.value 0
    in
    let next : c.loop-i.i ≡ i + 1 = omega (arith, at.row) in
    let before = subst (λ (n : ℕ). AreCountedFrom n codes c.args.tuples counts first_rows) next are in
    let row : i < length codes = omega (arith, at.row, codes_count g.row.W c.args.bytes.now c.args.rows) in
    record { counted = rw now (counted_more i codes c.args.tuples counts first_rows k row at.is at.below before) }
