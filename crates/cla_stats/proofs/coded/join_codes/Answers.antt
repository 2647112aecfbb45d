use Rattle.std.proofs.Common.{◌≡◌, ℕ, ◌+◌, ◌*◌, length, ◌≤◌, ◌&&◌, refl, sym, ap, ◌∙◌, arith, subst}
use Rattle.cla_layout.specs.Groups.{code_of}
use Rattle.cla_layout.specs.Listed.{is_rest}
use Rattle.cla_grouping.specs.Numbering.{same_pair}
use Rattle.cla_grouping.specs.Tuples.{AreTuples, tuples_by, code_where}
use Rattle.cla_grouping.proofs.TupleLemmas.{length-codes_by}
use Rattle.cla_grouping.proofs.Numbered.{tuples_by-are}
use Rattle.cla_spec.specs.Matrix.{most_cells}
use Rattle.cla_stats.proofs.Made.{tuples-made}
use Rattle.cla_stats.proofs.coded.join_codes.Goals as goal

pub joined_zero-zero-requires-clause-codes : goal.joined_zero-zero-requires-clause-codes
joined_zero-zero-requires-clause-codes c =
    ap length (c.deref-3.ensures.value ∙ c.in_ok-codes.ensures.codes)
    ∙ length-codes_by (same_pair c.deref.result.now c.deref-2.result.now) (length c.deref.result.now)
    ∙ ap length c.deref.ensures.value

pub returns-clause-are : goal.returns-clause-are
returns-clause-are c =
    let a = c.args.a.now in
    let b = c.args.b.now in
    let xs = c.deref.result.now in
    let same = same_pair xs c.deref-2.result.now in
    let rows : length xs ≡ length a.codes.items = ap length c.deref.ensures.value in
    let zeros = λ (i : ℕ). is_rest a.zero (code_of a.codes.items i) && is_rest b.zero (code_of b.codes.items i) in
    let made =
    tuples-made _
    (tuples_by (a.width + b.width) same zeros (length xs)) refl c.in_ok-codes.ensures.distinct
    c.in_ok-codes.ensures.codes
    (c.joined_zero-zero.ensures ∙ ap (code_where zeros) (c.deref-3.ensures.value ∙ c.in_ok-codes.ensures.codes)) in
    let few : length xs * (a.width + b.width) ≤ most_cells =
    subst (λ n. n * (a.width + b.width) ≤ most_cells) (sym rows) c.requires.pair.few_cells in
    subst AreTuples (sym made)
    (tuples_by-are (a.width + b.width) (length xs) same zeros (omega (arith, rows, c.requires.first.a_row))
    (omega (arith, c.requires.first.a_column)) few)
