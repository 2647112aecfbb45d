use Rattle.std.proofs.Common.{[], ◌∷◌, map, length, refl, sym, ap, ◌∙◌, arith}
use Rattle.cla_grouping.specs.Tuples.{code_where, is_zero_row, same_tuple, tuples_in}
use Rattle.cla_grouping.proofs.TupleLemmas.{length-codes_by, length-codes_from, code_where-same}
use Rattle.cla_numbering.proofs.ColumnLemmas.{column-codes, column-firsts}
use Rattle.cla_stats.specs.Coded.{is_zero_at}
use Rattle.cla_stats.proofs.Columns.{zero-row}
use Rattle.cla_stats.proofs.Made.{tuples-made}
use Rattle.cla_stats.proofs.coded.code_entries.Goals as goal

pub first_zero-zero-requires : goal.first_zero-zero-requires
first_zero-zero-requires g c =
    sym (ap length (c.deref.ensures.value ∙ c.in_ok-codes.ensures.codes)
    ∙ length-codes_from g.N.PartialEq.eq [] c.args.items.now)

pub returns : goal.returns
returns g c m column e =
    let value = g.N.Number.value in
    let eq = g.N.PartialEq.eq in
    let law = g.met.N.Number.equality in
    let items = c.args.items.now in
    let same = column-codes eq value law m column items e in
    let codes = c.deref.ensures.value ∙ c.in_ok-codes.ensures.codes ∙ same in
    let zeros = is_zero_row m (column ∷ []) in
    let rows = ap length codes ∙ length-codes_by (same_tuple m (column ∷ [])) m.rows in
    tuples-made _ (tuples_in m (column ∷ [])) refl
    (c.in_ok-codes.ensures.distinct ∙ column-firsts eq value law m column items e) (c.in_ok-codes.ensures.codes ∙ same)
    (c.first_zero-zero.ensures
    ∙ code_where-same (is_zero_at (map value items)) zeros c.deref.result.now
    (λ i there. zero-row (map value items) m column i e (omega (arith, there, rows)))
    ∙ ap (code_where zeros) codes)
