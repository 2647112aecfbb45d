-- The first entries and the last.
use Rattle.std.proofs.Common.{◌≡◌, ℕ, ℤ, pos, ◌+◌, ◌*◌, ◌/◌, ◌%◌, ◌<◌, ◌≤◌, List, [], length, get_or, Ok, sym, subst}
use Rattle.std.proofs.Common.{ap, ◌∙◌, arith}
use Rattle.std.proofs.lemmas.Bool.{le-ltb}
use Rattle.std.proofs.lemmas.List.{ext_get_or}
use Rattle.std.proofs.lemmas.Nat.{pow_pos, div-add-mod'}
use Rattle.std.proofs.Math.Nat.{div-lt_iff_lt-mul}
use Rattle.cla_spec.specs.Matrix.{Matrix, entry, row_by_row, IsShaped}
use Rattle.cla_spec.proofs.Entries.{row_by_row-at, row_by_row-count, row_by_row-entry}
use Rattle.cla_market.specs.Entries.{Triple, entries_added, sum_at}
use Rattle.cla_market.specs.Texts.{AtEntries, at_end}
use Rattle.cla_table.specs.Tables.{zero_table}
use Rattle.cla_mtx.specs.declared.entries.Entries.{Entries}
use Rattle.cla_mtx.specs.Sums.{AreInRange, HasSums}
use Rattle.cla_mtx.specs.Phases.{IsReady, HasTriples}

zero_at : (rows cols i j : ℕ) → i < rows → j < cols → entry (zero_table rows cols) i j ≡ pos 0
zero_at rows cols i j low left = row_by_row-entry rows cols (λ i j. pos 0) i j low left

pub zeros_in_range : (bits rows cols : ℕ) (table : Matrix) → table ≡ zero_table rows cols → AreInRange bits table
zeros_in_range bits rows cols table is =
    subst (AreInRange bits) (sym is) (λ i j low left. rw (zero_at rows cols i j low left) (pow_pos bits))

-- the sums of no triples
pub no_sums : (rows cols : ℕ) (table : Matrix) → table ≡ zero_table rows cols → HasSums table []
no_sums rows cols table is =
    subst (λ (m : Matrix). HasSums m []) (sym is) (record { at = λ i j low left. zero_at rows cols i j low left })

-- the cells of a matrix whose entries are these
cells_are : (m : Matrix) (f : ℕ → ℕ → ℤ) → IsShaped m.rows m.cols m.cells
    → ((i j : ℕ) → i < m.rows → j < m.cols → entry m i j ≡ f i j) → row_by_row m.rows m.cols f ≡ m.cells
cells_are m f shape same =
    ext_get_or (pos 0) (row_by_row m.rows m.cols f) m.cells (row_by_row-count m.rows m.cols f ∙ sym shape.count)
    (λ p lt. (let there : p < m.rows * m.cols = rw (row_by_row-count m.rows m.cols f) at lt in
    let row : p / m.cols < m.rows = (div-lt_iff_lt-mul shape.a_col).1 there in
    let col : p % m.cols < m.cols = omega (arith, shape.a_col) in
    let split : p / m.cols * m.cols + p % m.cols ≡ p = omega (arith, div-add-mod' p m.cols) in
    row_by_row-at m.rows m.cols f p (pos 0) there ∙ sym (same (p / m.cols) (p % m.cols) row col)
    ∙ ap (λ (q : ℕ). get_or m.cells q (pos 0)) split))

-- the end after all entries
pub end_is : (bits n : ℕ) (e : Entries Matrix) (ts : List Triple) (m : Matrix) → IsReady bits e → HasTriples e ts
    → e.size.entries ≤ e.count → m ≡ e.table → IsShaped m.rows m.cols m.cells
    → at_end n (AtEntries e.banner e.size ts) ≡ Ok m
unfolding at_end
end_is bits n e ts m ready has all is shape =
    let rows : m.rows ≡ e.size.rows = ap (λ (x : Matrix). x.rows) is ∙ ready.same_rows in
    let cols : m.cols ≡ e.size.cols = ap (λ (x : Matrix). x.cols) is ∙ ready.same_cols in
    let sums = subst (λ (x : Matrix). HasSums x (entries_added e.banner.symmetry ts)) (sym is) has.sums in
    let cells = cells_are m (sum_at (entries_added e.banner.symmetry ts)) shape sums.at in
    rw (le-ltb (length ts) e.size.entries (omega (arith, all, has.count)), ← rows, ← cols)
    (ap (λ (cs : List ℤ). Ok record { rows = m.rows; cols = m.cols; cells = cs }) cells)
