-- The text that is written for a matrix is read as the matrix.
use Rattle.std.proofs.Common.{◌≡◌, ℕ, ℤ, pos, ◌+◌, ◌*◌, ◌/◌, ◌%◌, ◌^◌, ◌<◌, ◌≤◌, List, [], ◌∷◌, ◌++◌, length, map}
use Rattle.std.proofs.Common.{get_or, codes, true, false, nat_lt, Bool, Ok, refl, sym, ap, ◌∙◌, arith, append_assoc}
use Rattle.std.proofs.Common.{length-append}
use Rattle.std.proofs.lemmas.Bool.{ne_eqb, lt-ltb, le-ltb, le-leb, ltb-true}
use Rattle.std.proofs.lemmas.List.{append-nil, ext_get_or}
use Rattle.std.proofs.lemmas.Nat.{div-add-mod'}
use Rattle.std.proofs.Math.Nat.{div-lt_iff_lt-mul, mul-le-mul_left, mul_comm}
use Rattle.std.specs.Int.RustNames.{unsigned_abs}
use Rattle.cla_spec.specs.Lines.{is_lf}
use Rattle.cla_spec.specs.Numbers.{decimal_of}
use Rattle.cla_spec.specs.Matrix.{Matrix, entry, row_by_row, IsWellMade, most_cells}
use Rattle.cla_spec.proofs.Entries.{cell_within, row_by_row-at, row_by_row-count}
use Rattle.cla_text.specs.Words.{words_of, pieces_of}
use Rattle.cla_market.specs.declared.banner.Symmetry.TheVariants.{General}
use Rattle.cla_market.specs.declared.size.Size.{Size}
use Rattle.cla_market.specs.Banners.{banner_in}
use Rattle.cla_market.specs.Sizes.{size_in}
use Rattle.cla_market.specs.Entries.{Triple, sum_at, entries_added}
use Rattle.cla_market.specs.Texts.{AtBanner, AtSize, AtEntries, with_line, at_end, is_skipped, placed_lines}
use Rattle.cla_market.specs.Texts.{read_from, matrix_of, text_of, number_line, triple_line, nonzeros}
use Rattle.cla_market.specs.Texts.{matrix_market_text, WrittenTextsSpell}
use Rattle.cla_market.proofs.PlainWords.{none_of, is_cr}
use Rattle.cla_market.proofs.WrittenLaws.{written_banner, words_of_numbers, none_in_numbers, not_lf, not_cr}
use Rattle.cla_market.proofs.WrittenLaws.{int_of_decimal, not_skipped, entry_is, in_63, placed_line}
use Rattle.cla_market.proofs.SpellLaws.{general_adds, Rises, AreIn, AreGood, good, nonzeros_rise, nonzeros_in}
use Rattle.cla_market.proofs.SpellLaws.{nonzeros_sum, key}

-- rising cells are no more than there are
few : (bits rows cols k : ℕ) (ts : List Triple) → Rises rows k ts → AreIn bits rows cols ts → k ≤ cols * rows
    → k + length ts ≤ cols * rows
few bits rows cols k [] rises ins le = omega (arith, le)
few bits rows cols k (t ∷ ts) rises ins le =
    let within : key rows t < cols * rows = cell_within cols rows t.col t.row ins.1 ins.0 in
    omega (arith, few bits rows cols (key rows t + 1) ts rises.1 ins.3 (omega (arith, within)), rises.0)

module _ (bits limit : ℕ) (size : Size) (low : bits ≤ 63) (rows : size.rows ≤ 2 ^ 31)
    (cols : size.cols ≤ 2 ^ 31) where
  -- a triple's line adds the triple
  line_adds : (n : ℕ) (t : Triple) (done rest : List Triple) → AreGood bits size done (t ∷ rest)
      → length done < size.entries
      → with_line bits n (AtEntries written_banner size done) (words_of (triple_line t)) ≡ Ok
      (AtEntries written_banner size (done ++ t ∷ []))
  unfolding with_line
  line_adds n t done rest h more =
      let small_value : unsigned_abs t.value < 2 ^ 63 = in_63 bits t.value low h.2 in
      let small_row : unsigned_abs (pos (t.row + 1)) < 2 ^ 63 = omega (arith, rows, h.0) in
      let small_col : unsigned_abs (pos (t.col + 1)) < 2 ^ 63 = omega (arith, cols, h.1) in
      let words = words_of_numbers (pos (t.row + 1)) (pos (t.col + 1)) t.value small_row small_col small_value in
      let skipped : is_skipped (words_of (triple_line t)) ≡ false = rw words
      (not_skipped (pos (t.row + 1)) (decimal_of (pos (t.col + 1)) ∷ decimal_of t.value ∷ []) small_row) in
      rw (
        skipped,
        ne_eqb (length done) size.entries (λ e. omega (arith, e, more)),
        entry_is bits
            (length done) size t low rows cols h.0 h.1 h.2,
        h.3,
      ) refl

  lines_read : (rest done : List Triple) (n at : ℕ) → AreGood bits size done rest
      → length done + length rest ≡ size.entries → at + length (text_of (map triple_line rest)) ≤ limit
      → read_from bits limit n (AtEntries written_banner size done)
      (placed_lines at (text_of (map triple_line rest))) ≡ Ok (matrix_of written_banner size (done ++ rest))
  unfolding read_from at_end placed_lines
  lines_read [] done n at h count short =
      rw (le-ltb (length done) size.entries (omega (arith, count)))
      (ap (λ (ts : List Triple). Ok (matrix_of written_banner size ts)) (sym (append-nil done)))
  lines_read (t ∷ rest) done n at h count short =
      let line = triple_line t in
      let others = text_of (map triple_line rest) in
      let small_value : unsigned_abs t.value < 2 ^ 63 = in_63 bits t.value low h.2 in
      let small_row : unsigned_abs (pos (t.row + 1)) < 2 ^ 63 = omega (arith, rows, h.0) in
      let small_col : unsigned_abs (pos (t.col + 1)) < 2 ^ 63 = omega (arith, cols, h.1) in
      let lf = none_in_numbers is_lf not_lf refl (pos (t.row + 1))
      (pos (t.col + 1)) t.value small_row small_col small_value in
      let cr = none_in_numbers is_cr not_cr refl (pos (t.row + 1))
      (pos (t.col + 1)) t.value small_row small_col small_value in
      let wide : length ((line ++ 10 ∷ []) ++ others) ≡ length line + 1 + length others = length-append
      (line ++ 10 ∷ []) others ∙ omega (arith, length-append line (10 ∷ [])) in
      let within : at + (length line + 1) ≤ limit = omega (arith, short, wide) in
      let longer : length (done ++ t ∷ []) ≡ length done + 1 = length-append done (t ∷ []) ∙ omega arith in
      ap (read_from bits limit n (AtEntries written_banner size done)) (placed_line at line others lf cr)
      ∙ rw (le-ltb limit (at + (length line + 1)) within, line_adds n t done rest h (omega (arith, count)))
      (lines_read rest (done ++ t ∷ []) (n + 1) (at + (length line + 1)) h.4 (omega (arith, count, longer))
      (omega (arith, short, wide)))
      ∙ ap (λ (ts : List Triple). Ok (matrix_of written_banner size ts)) (append_assoc done (t ∷ []) rest)

abbrev banner_line : List ℕ
banner_line = codes "%%MatrixMarket matrix coordinate integer general"

abbrev is_letter : ℕ → Bool
is_letter b = nat_lt 13 b

letter_no_lf : (b : ℕ) → is_letter b ≡ true → is_lf b ≡ false
letter_no_lf b h = ne_eqb b 10 (λ e. omega (arith, e, ltb-true 13 b h))

letter_no_cr : (b : ℕ) → is_letter b ≡ true → is_cr b ≡ false
letter_no_cr b h = ne_eqb b 13 (λ e. omega (arith, e, ltb-true 13 b h))

banner_read : (bits : ℕ) → with_line bits 1 AtBanner (words_of banner_line) ≡ Ok (AtSize written_banner)
unfolding with_line banner_in pieces_of
banner_read bits = refl

-- the size line
abbrev size_line_of : Size → List ℕ
size_line_of size = number_line (pos size.rows) (pos size.cols) (pos size.entries)

size_is : (size : Size) → 1 ≤ size.rows → 1 ≤ size.cols → size.rows * size.cols ≤ most_cells → size.rows < 2 ^ 31
    → size.cols < 2 ^ 31 → size.entries < 2 ^ 31
    → size_in written_banner (words_of (size_line_of size)) ≡ Ok size
unfolding size_in
size_is size a_row a_col cells rows cols entries =
    let small_rows : unsigned_abs (pos size.rows) < 2 ^ 63 = omega (arith, rows) in
    let small_cols : unsigned_abs (pos size.cols) < 2 ^ 63 = omega (arith, cols) in
    let small_entries : unsigned_abs (pos size.entries) < 2 ^ 63 = omega (arith, entries) in
    rw (
      words_of_numbers (pos size.rows) (pos size.cols) (pos size.entries) small_rows small_cols small_entries,
      int_of_decimal (pos size.rows) small_rows,
      int_of_decimal (pos size.cols) small_cols,
      int_of_decimal
          (pos size.entries) small_entries,
      le-leb 1 size.rows a_row,
      lt-ltb size.rows (2 ^ 31) rows,
      le-leb 1 size.cols a_col,
      lt-ltb size.cols
          (2 ^ 31) cols,
      le-leb 0 size.entries (omega arith),
      lt-ltb size.entries (2 ^ 31) entries,
      le-leb (size.rows * size.cols) most_cells cells,
    ) refl

size_read : (bits : ℕ) (size : Size) → 1 ≤ size.rows → 1 ≤ size.cols → size.rows * size.cols ≤ most_cells
    → size.rows < 2 ^ 31 → size.cols < 2 ^ 31 → size.entries < 2 ^ 31
    → with_line bits 2 (AtSize written_banner) (words_of (size_line_of size)) ≡ Ok (AtEntries written_banner size [])
unfolding with_line
size_read bits size a_row a_col cells rows cols entries =
    let small_rows : unsigned_abs (pos size.rows) < 2 ^ 63 = omega (arith, rows) in
    let small_cols : unsigned_abs (pos size.cols) < 2 ^ 63 = omega (arith, cols) in
    let small_entries : unsigned_abs (pos size.entries) < 2 ^ 63 = omega (arith, entries) in
    let words = words_of_numbers (pos size.rows) (pos size.cols)
    (pos size.entries) small_rows small_cols small_entries in
    let skipped : is_skipped (words_of (size_line_of size)) ≡ false = rw words
    (not_skipped (pos size.rows) (decimal_of (pos size.cols) ∷ decimal_of (pos size.entries) ∷ []) small_rows) in
    rw (skipped, size_is size a_row a_col cells rows cols entries) refl

-- a matrix is that of its entries
matrix_is : (bits : ℕ) (m : Matrix) (f : ℕ → ℕ → ℤ) → IsWellMade bits m
    → ((i j : ℕ) → i < m.rows → j < m.cols → f i j ≡ entry m i j) → row_by_row m.rows m.cols f ≡ m.cells
matrix_is bits m f made same =
    ext_get_or (pos 0) (row_by_row m.rows m.cols f) m.cells (row_by_row-count m.rows m.cols f ∙ sym made.shape.count)
    (λ p lt. (let there : p < m.rows * m.cols = rw (row_by_row-count m.rows m.cols f) at lt in
    let row : p / m.cols < m.rows = (div-lt_iff_lt-mul made.shape.a_col).1 there in
    let col : p % m.cols < m.cols = omega (arith, made.shape.a_col) in
    let split : p / m.cols * m.cols + p % m.cols ≡ p = omega (arith, div-add-mod' p m.cols) in
    row_by_row-at m.rows m.cols f p (pos 0) there ∙ same (p / m.cols) (p % m.cols) row col
    ∙ ap (λ (q : ℕ). get_or m.cells q (pos 0)) split))

small_side : (a b : ℕ) → 1 ≤ b → a * b ≤ 2 ^ 26 → a < 2 ^ 31
small_side a b some le = omega (arith, le, mul-le-mul_left a some)

pub written_spell : WrittenTextsSpell
unfolding read_from
written_spell bits limit m low made short =
    let size : Size = record { rows = m.rows; cols = m.cols; entries = length (nonzeros m) } in
    let shape = made.shape in
    let rows : m.rows < 2 ^ 31 = small_side m.rows m.cols shape.a_col shape.few in
    let cols : m.cols < 2 ^ 31 = small_side m.cols m.rows shape.a_row
    (omega (arith, shape.few, mul_comm m.rows m.cols)) in
    let rises = nonzeros_rise m in
    let ins = nonzeros_in bits m made in
    let entries : length (nonzeros m) < 2 ^ 31 = omega
    (arith, few bits m.rows m.cols 0 (nonzeros m) rises ins (omega arith), shape.few, mul_comm m.rows m.cols) in
    let others = text_of (map triple_line (nonzeros m)) in
    let line = size_line_of size in
    let small_rows : unsigned_abs (pos m.rows) < 2 ^ 63 = omega (arith, rows) in
    let small_cols : unsigned_abs (pos m.cols) < 2 ^ 63 = omega (arith, cols) in
    let small_entries : unsigned_abs (pos (length (nonzeros m))) < 2 ^ 63 = omega (arith, entries) in
    let lf = none_in_numbers is_lf not_lf refl (pos m.rows) (pos m.cols)
    (pos (length (nonzeros m))) small_rows small_cols small_entries in
    let cr = none_in_numbers is_cr not_cr refl (pos m.rows) (pos m.cols)
    (pos (length (nonzeros m))) small_rows small_cols small_entries in
    let second = (line ++ 10 ∷ []) ++ others in
    let at = length banner_line + 1 in
    let wide_second : length second ≡ length line + 1 + length others = length-append (line ++ 10 ∷ []) others
    ∙ omega (arith, length-append line (10 ∷ [])) in
    let wide : length (matrix_market_text m) ≡ at + length second = length-append (banner_line ++ 10 ∷ []) second
    ∙ omega (arith, length-append banner_line (10 ∷ [])) in
    let first_in : 0 + at ≤ limit = omega (arith, short, wide) in
    let second_in : at + (length line + 1) ≤ limit = omega (arith, short, wide, wide_second) in
    let third_in : at + (length line + 1) + length others ≤ limit = omega (arith, short, wide, wide_second) in
    let full = good bits size (nonzeros m) [] 0 tt rises ins in
    let cells = matrix_is bits m (sum_at (entries_added General (nonzeros m))) made
    (λ i j row col. ap (λ (ts : List Triple). sum_at ts i j) (general_adds (nonzeros m))
    ∙ nonzeros_sum m i j row col) in
    let last = lines_read bits limit size low (omega (arith, rows)) (omega (arith, cols)) (nonzeros m) [] 3
    (at + (length line + 1)) full (omega arith) third_in
    ∙ ap (λ (cs : List ℤ). Ok record { rows = m.rows; cols = m.cols; cells = cs }) cells in
    let after_banner = ap (read_from bits limit 2 (AtSize written_banner)) (placed_line at line others lf cr)
    ∙ rw (
      le-ltb limit (at + (length line + 1)) second_in,
      size_read bits size shape.a_row shape.a_col shape.few
          rows cols entries,
    ) last in
    ap (read_from bits limit 1 AtBanner)
    (placed_line 0 banner_line second (none_of is_lf is_letter letter_no_lf banner_line refl)
    (none_of is_cr is_letter letter_no_cr banner_line refl))
    ∙ rw (le-ltb limit (0 + at) first_in, banner_read bits) after_banner
