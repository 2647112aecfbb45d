-- Codes that are read from their bytes.
use Rattle.std.proofs.Common.{◌≡◌, ℕ, zero, suc, ◌+◌, ◌*◌, ◌/◌, ◌<◌, ◌≤◌, List, [], ◌∷◌, ◌++◌, length, ◌∙◌, refl, sym}
use Rattle.std.proofs.Common.{ap, subst, arith, inl, inr, replicate, ◌%◌, ◌-◌, true}
use Rattle.std.proofs.lemmas.Nat.{div-mul-add}
use Rattle.std.proofs.lemmas.Bool.Decides.{nat_tests}
use Rattle.std.proofs.lemmas.Bool.{cases_lt}
use Rattle.std.proofs.lemmas.List.{ext_get_or, get_or_append_left, get_or_push, length_push, drop_all, length-append}
use Rattle.std.proofs.lemmas.List.{length-replicate, get_or-replicate, get_or-append-add}
use Rattle.std.proofs.lemmas.List.FromFn.{length-map-range_with_len, get_or-map-range_with_len}
use Rattle.std.proofs.Math.Nat.{mul-le-mul_right}
use Rattle.cla_layout.specs.Groups.{code_of, occurrences_of, first_row_of}
use Rattle.cla_layout.proofs.Regroup.{first_row_there, code_of_first_row}
use Rattle.cla_spec.specs.Matrix.{most_cells}
use Rattle.cla_rows.specs.Counted.{AreCounted}
use Rattle.cla_rows.proofs.CountedRows.{AreCountedFrom}
use Rattle.cla_codes.specs.Bytes.{number_at, codes_in, AreWritten, AreKept, AreRowCodes, RowCodesOf, row_codes}
use Rattle.cla_codes.specs.Widths.{FitsWidth, is_code_width}

pub code_in : (w : ℕ) (bytes : List ℕ) (rows i : ℕ) → i < rows → code_of (codes_in w bytes rows) i
    ≡ number_at w bytes (i * w)
code_in w bytes rows i row = get_or-map-range_with_len (λ i. number_at w bytes (i * w)) 0 rows i i 0 row (omega arith)

pub codes_count : (w : ℕ) (bytes : List ℕ) (rows : ℕ) → length (codes_in w bytes rows) ≡ rows
codes_count w bytes rows = length-map-range_with_len (λ i. number_at w bytes (i * w)) 0 rows

-- what is written is read
pub written_read : (w : ℕ) (codes bytes : List ℕ) → AreWritten w (length codes) codes bytes →
    codes_in w bytes (length codes) ≡ codes
written_read w codes bytes are =
    ext_get_or 0 (codes_in w bytes (length codes)) codes (codes_count w bytes (length codes))
    (λ i lt. (let row : i < length codes = rw (codes_count w bytes (length codes)) at lt in
    code_in w bytes (length codes) i row
    ∙ are.each i row))

pub fits_fewer : (bytes tuples fewer : ℕ) → FitsWidth bytes tuples → fewer ≤ tuples → FitsWidth bytes fewer
fits_fewer bytes tuples fewer fits less = record { width = fits.width; few = omega (arith, fits.few, less) }

-- the bytes of kept codes are theirs
pub kept_written : (w : ℕ) (bytes : List ℕ) (rows : ℕ) → length bytes ≡ rows * w
    → AreWritten w (length (codes_in w bytes rows)) (codes_in w bytes rows) bytes
kept_written w bytes rows size = record {
  size = rw (codes_count w bytes rows) size;
  each = λ i row. sym (code_in w bytes rows i (rw (codes_count w bytes rows) at row));
}

-- the bytes of row i are there
pub bytes_within : (w rows i size : ℕ) → i < rows → size ≡ rows * w → i * w + w ≤ size
bytes_within w rows i size row all = omega (arith, all, mul-le-mul_right {m = i + 1} {n = rows} w (omega (arith, row)))

-- a code that some row has is counted
pub used_below : (codes : List ℕ) (n k : ℕ) → ((i : ℕ) → i < length codes → code_of codes i < n) →
    0 < occurrences_of codes k → k < n
used_below codes n k below used = omega (arith, below _ (first_row_there codes k used), code_of_first_row codes k used)

pub kept_bytes : (w tuples rows : ℕ) (bytes counts first_rows : List ℕ) → FitsWidth w tuples → rows ≤ most_cells
    → length bytes ≡ rows * w → ((i : ℕ) → i < rows → code_of (codes_in w bytes rows) i < tuples)
    → AreCounted (codes_in w bytes rows) tuples counts first_rows
    → AreKept w rows (codes_in w bytes rows) bytes counts first_rows
kept_bytes w tuples rows bytes counts first_rows fits few size below are = record {
  width = fits.width;
  few = few;
  size = size;
  counted = subst (λ (n : ℕ). AreCounted (codes_in w bytes rows) n counts first_rows) (sym are.a_count_each) are;
  below = λ i row. rw are.a_count_each (below i (rw (codes_count w bytes rows) at row));
}

-- no row is counted yet
pub counted_none : (rows tuples : ℕ) (codes counts first_rows : List ℕ) → length codes ≡ rows
    → counts ≡ replicate tuples 0 → first_rows ≡ replicate tuples rows
    → AreCountedFrom rows codes tuples counts first_rows
counted_none rows tuples codes counts first_rows size zeros ends = record {
  a_count_each = ap length zeros ∙ length-replicate tuples 0;
  a_row_each = ap length ends ∙ length-replicate tuples rows;
  count = λ k there.
      ap (λ (l : List ℕ). code_of l k) zeros ∙ get_or-replicate tuples k 0 0 there
      ∙ sym (ap (λ (l : List ℕ). occurrences_of l k) (drop_all rows codes (omega (arith, size))));
  first_row = λ k there.
      ap (λ (l : List ℕ). code_of l k) ends ∙ get_or-replicate tuples k rows 0 there
      ∙ omega (arith, ap (λ (l : List ℕ). first_row_of l k) (drop_all rows codes (omega (arith, size))));
}

-- the code that is read for the row before row `next`
pub record IsCodeBefore (w rows tuples next code : ℕ) (bytes : List ℕ) : Type 0 where
  pub row : next - 1 < rows
  pub is : code ≡ code_of (codes_in w bytes rows) (next - 1)
  pub below : code < tuples

pub code_before : (w rows tuples next code : ℕ) (bytes : List ℕ) → 0 < next → next ≤ rows →
    ((i : ℕ) → i < rows → code_of (codes_in w bytes rows) i < tuples) → code ≡ number_at w bytes ((next - 1) * w) →
    IsCodeBefore w rows tuples next code bytes
code_before w rows tuples next code bytes some within below read =
    let row : next - 1 < rows = omega (arith, some, within) in
    let is = read ∙ sym (code_in w bytes rows (next - 1) row) in
    record { row = row; is = is; below = omega (arith, is, below (next - 1) row) }

-- bytes behind those of a number don't change it
number_before : (w : ℕ) (bytes more : List ℕ) (at : ℕ) → at + w ≤ length bytes → number_at w (bytes ++ more) at
    ≡ number_at w bytes at
number_before zero bytes more at within = refl
number_before (suc w) bytes more at within =
    rw (
      get_or_append_left bytes more 0 at (omega (arith, within)),
      number_before w bytes more (at + 1) (omega (arith, within)),
    ) refl

-- where rows are written and the bytes of one more code follow, its row is written too
pub pushed_codes : (w code : ℕ) (bytes more : List ℕ) → AreRowCodes w bytes → length more ≡ w →
    number_at w (bytes ++ more) (length bytes) ≡ code → length (bytes ++ more) / w ≡ length bytes / w + 1 →
    codes_in w (bytes ++ more) (length (bytes ++ more) / w) ≡ codes_in w bytes (length bytes / w) ++ code ∷ []
pushed_codes w code bytes more are size last next =
    let n = length bytes / w in
    rw next (ext_get_or 0 (codes_in w (bytes ++ more) (n + 1)) (codes_in w bytes n ++ code ∷ [])
    (codes_count w (bytes ++ more) (n + 1) ∙ sym (length_push (codes_in w bytes n) code
    ∙ omega (arith, codes_count w bytes n)))
    (λ i lt. let row : i < n + 1 = rw (codes_count w (bytes ++ more) (n + 1)) at lt in
    code_in w (bytes ++ more) (n + 1) i row ∙ elim (cases_lt i n) [
      | inl before ↦ number_before w bytes more (i * w) (bytes_within w n i (length bytes) before are.whole)
          ∙ sym (get_or_append_left (codes_in w bytes n) (code ∷ []) 0 i (omega (arith, before, codes_count w bytes n))
          ∙ code_in w bytes n i before)
      | inr behind ↦
          let here : i ≡ n = omega (arith, row, behind) in
          let place : i * w ≡ length bytes = ap (λ (m : ℕ). m * w) here ∙ sym are.whole in
          ap (number_at w (bytes ++ more)) place ∙ last
          ∙ sym (get_or_push (codes_in w bytes n) code 0 i (codes_count w bytes n ∙ sym here))
    ]))

-- a number behind other bytes
number_behind : (w : ℕ) (bytes more : List ℕ) (at : ℕ) → number_at w (bytes ++ more) (length bytes + at)
    ≡ number_at w more at
number_behind zero bytes more at = refl
number_behind (suc w) bytes more at =
    let next : length bytes + at + 1 ≡ length bytes + (at + 1) = omega arith in
    rw (get_or-append-add bytes more at 0, next, number_behind w bytes more (at + 1)) refl

-- one code more
grown : (w code : ℕ) (bytes more : List ℕ) → 0 < w → AreRowCodes w bytes → length more ≡ w → number_at w more 0 ≡ code
    → codes_in w (bytes ++ more) (length (bytes ++ more) / w) ≡ codes_in w bytes (length bytes / w) ++ code ∷ []
grown w code bytes more some are size last =
    let n = length bytes / w in
    let product : (n + 1) * w ≡ n * w + w = omega arith in
    let all : length (bytes ++ more) ≡ (n + 1) * w + 0 =
    omega (arith, length-append bytes more, are.whole, size, product) in
    let next = ap (λ (m : ℕ). m / w) all ∙ div-mul-add (n + 1) w 0 some in
    let end : length bytes ≡ length bytes + 0 = omega arith in
    pushed_codes w code bytes more are size (ap (number_at w (bytes ++ more)) end ∙ number_behind w bytes more 0 ∙ last)
    next

pub grown_codes : (w width code : ℕ) (bytes more all : List ℕ) (before : RowCodesOf) → width ≡ w → 0 < w →
    AreRowCodes width bytes → row_codes width bytes ≡ before → length more ≡ w → number_at w more 0 ≡ code →
    all ≡ bytes ++ more → codes_in width all (length all / width) ≡ before.codes ++ code ∷ []
grown_codes w width code bytes more all before same some are view size last is =
    rw (is, ← view, same) (grown w code bytes more some (rw same at are) size last)

-- a code is the number in its bytes
pub one_byte : (code : ℕ) → number_at 1 (code ∷ []) 0 ≡ code
one_byte code = omega arith

pub two_bytes : (code : ℕ) → number_at 2 (code % 256 ∷ code / 256 ∷ []) 0 ≡ code
two_bytes code = omega arith

pub four_bytes : (code : ℕ) → let high = code / 65536 in
    number_at 4 (code % 256 ∷ code / 256 % 256 ∷ high % 256 ∷ high / 256 ∷ []) 0 ≡ code
four_bytes code = omega arith

-- what takes neither one byte nor two takes four
pub takes_four : (w : ℕ) → is_code_width w ≡ true → (w ≡ 1 → ⊥) → (w ≡ 2 → ⊥) → w ≡ 4
takes_four w is one two = grind (arith, nat_tests)

-- the bytes of codes are those of as many rows
pub record AreRows (w all : ℕ) (bytes codes : List ℕ) : Type 0 where
  pub are : codes_in w bytes (all / w) ≡ codes
  pub size : length bytes ≡ all / w * w
  pub count : all / w ≡ length codes

pub row_codes_are : (w width all : ℕ) (bytes codes : List ℕ) → width ≡ w → all ≡ length bytes →
    codes_in width bytes (length bytes / width) ≡ codes → length bytes ≡ length bytes / width * width →
    AreRows w all bytes codes
row_codes_are w width all bytes codes same size are whole =
    let codes_are : codes_in w bytes (all / w) ≡ codes = rw (sym same, size) are in
    record {
      are = codes_are;
      size = rw (sym same, size) whole;
      count = sym (codes_count w bytes (all / w)) ∙ ap length codes_are;
    }
