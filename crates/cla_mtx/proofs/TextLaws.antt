-- The text that is written for a matrix, cell by cell.
use Rattle.std.proofs.Common.{◌≡◌, ℕ, ℤ, pos, zero, suc, ◌+◌, ◌+ℤ◌, List, [], ◌∷◌, ◌++◌, length, map, codes, Bool}
use Rattle.std.proofs.Common.{true, false, not, if◌then◌else◌, inl, inr, refl, sym, ap, ◌∙◌, arith, append_assoc}
use Rattle.std.proofs.Common.{length-append}
use Rattle.std.specs.List.{range_with_len, filter, flat_map, concat}
use Rattle.std.proofs.lemmas.Bool.{cases_Bool}
use Rattle.std.proofs.lemmas.Grind.{flat_map-append}
use Rattle.std.proofs.lemmas.List.{append-nil, map-append}
use Rattle.std.proofs.lemmas.List.Elements.{filter-append}
use Rattle.std.proofs.lemmas.List.FromFn.{filter_of_map_range_with_len_more}
use Rattle.cla_spec.specs.Matrix.{Matrix, entry}
use Rattle.cla_market.specs.Entries.{Triple}
use Rattle.cla_market.specs.Texts.{is_zero_value, nonzeros, number_line, triple_line, text_of, matrix_market_text}
use Rattle.cla_print.specs.Pieces.{pieces}
use Rattle.cla_mtx.specs.Texts.{triple_at, cell_text, column_text, is_kept, count_in_column, count_in_columns}

-- the lines of those triples whose value isn't 0
abbrev lines : List Triple → List ℕ
lines ts = text_of (map triple_line (filter is_kept ts))

lines_both : (ts us : List Triple) → lines (ts ++ us) ≡ lines ts ++ lines us
lines_both ts us =
    ap (λ (vs : List Triple). text_of (map triple_line vs)) (filter-append is_kept ts us)
    ∙ ap text_of (map-append triple_line (filter is_kept ts) (filter is_kept us))
    ∙ flat_map-append (λ (line : List ℕ). line ++ 10 ∷ []) (map triple_line (filter is_kept ts))
    (map triple_line (filter is_kept us))

cells_text : (m : Matrix) (j : ℕ) (is : List ℕ) → lines (map (triple_at m j) is) ≡ concat (map (cell_text m j) is)
cells_text m j [] = refl
cells_text m j (i ∷ is) = elim (cases_Bool (is_zero_value (entry m i j))) [
  | inl none ↦ rw none (cells_text m j is)
  | inr some ↦ rw some (ap (λ (text : List ℕ). (triple_line (triple_at m j i) ++ 10 ∷ []) ++ text)
      (cells_text m j is))
]

abbrev column : Matrix → ℕ → List Triple
column m j = map (triple_at m j) (range_with_len 0 m.rows)

columns_text : (m : Matrix) (js : List ℕ) → lines (flat_map (column m) js) ≡ concat (map (column_text m) js)
columns_text m [] = refl
columns_text m (j ∷ js) =
    lines_both (column m j) (flat_map (column m) js)
    ∙ ap (λ (text : List ℕ). text ++ lines (flat_map (column m) js)) (cells_text m j (range_with_len 0 m.rows))
    ∙ ap (λ (text : List ℕ). column_text m j ++ text) (columns_text m js)

-- the lines of all entries
pub entries_text : (m : Matrix) → text_of (map triple_line (nonzeros m)) ≡ pieces (column_text m) m.cols
entries_text m = columns_text m (range_with_len 0 m.cols)

-- a line of three numbers, word by word
pub words_text : (a b c : List ℕ)
    → (a ++ 32 ∷ (b ++ 32 ∷ c)) ++ 10 ∷ [] ≡ (a ++ 32 ∷ []) ++ ((b ++ 32 ∷ []) ++ (c ++ 10 ∷ []))
words_text a b c =
    let last = c ++ 10 ∷ [] in
    append_assoc a (32 ∷ (b ++ 32 ∷ c)) (10 ∷ [])
    ∙ ap (λ (t : List ℕ). a ++ 32 ∷ t) (append_assoc b (32 ∷ c) (10 ∷ []) ∙ sym (append_assoc b (32 ∷ []) last))
    ∙ sym (append_assoc a (32 ∷ []) ((b ++ 32 ∷ []) ++ last))

range_more : (a n : ℕ) → range_with_len a (suc n) ≡ range_with_len a n ++ (a + n) ∷ []
range_more a zero = let same : a ≡ a + 0 = omega arith in ap (λ (k : ℕ). k ∷ []) same
range_more a (suc n) =
    let same : a + 1 + n ≡ a + suc n = omega arith in
    ap (λ (ks : List ℕ). a ∷ ks) (range_more (a + 1) n ∙ ap (λ (k : ℕ). range_with_len (a + 1) n ++ k ∷ []) same)

-- the entries of one more column
pub more_columns : (m : Matrix) (n : ℕ) → count_in_columns m (n + 1) ≡ count_in_columns m n + count_in_column m n m.rows
more_columns m n =
    let one : n + 1 ≡ suc n = omega arith in
    let last : 0 + n ≡ n = omega arith in
    let first = flat_map (column m) (range_with_len 0 n) in
    ap (count_in_columns m) one
    ∙ ap (λ (js : List ℕ). length (filter is_kept (flat_map (column m) js)))
    (range_more 0 n ∙ ap (λ (k : ℕ). range_with_len 0 n ++ k ∷ []) last)
    ∙ ap (λ (ts : List Triple). length (filter is_kept ts))
    (flat_map-append (column m) (range_with_len 0 n) (n ∷ [])
    ∙ ap (λ (ts : List Triple). first ++ ts) (append-nil (column m n)))
    ∙ ap length (filter-append is_kept first (column m n))
    ∙ length-append (filter is_kept first) (filter is_kept (column m n))

one_if_kept : (xs : List Triple) (t : Triple) (b : Bool)
    → length (xs ++ (if not b then t ∷ [] else [])) ≡ length xs + (if b then 0 else 1)
one_if_kept xs t true = length-append xs []
one_if_kept xs t false = length-append xs (t ∷ [])

-- one more entry
more_cells : (m : Matrix) (j n : ℕ) (b : Bool) → is_zero_value (entry m n j) ≡ b
    → count_in_column m j (n + 1) ≡ count_in_column m j n + (if b then 0 else 1)
more_cells m j n b is =
    let before = filter is_kept (map (triple_at m j) (range_with_len 0 n)) in
    ap length (filter_of_map_range_with_len_more is_kept (triple_at m j) 0 n n (omega arith))
    ∙ ap (λ (z : Bool). length (before ++ (if not z then triple_at m j n ∷ [] else []))) is
    ∙ one_if_kept before (triple_at m j n) b

-- the line of an entry that isn't 0
pub cell_is : (m : Matrix) (i j : ℕ) (a b v : ℤ) → is_zero_value (entry m i j) ≡ false → a ≡ pos (i + 1)
    → b ≡ pos (j + 1) → v ≡ entry m i j → number_line a b v ++ 10 ∷ [] ≡ cell_text m j i
cell_is m i j a b v some row col value = rw (some, row, col, value) refl

pub column_step : (m : Matrix) (j n count count' : ℕ) (b : Bool) → is_zero_value (entry m n j) ≡ b
    → count ≡ count_in_column m j n → count' ≡ count + (if b then 0 else 1) → count' ≡ count_in_column m j (n + 1)
column_step m j n count count' b is before now =
    now ∙ ap (λ (k : ℕ). k + (if b then 0 else 1)) before ∙ sym (more_cells m j n b is)

pub columns_step : (m : Matrix) (n : ℕ) (count more : ℤ) → count ≡ pos (count_in_columns m n)
    → more ≡ pos (count_in_column m n m.rows) → count +ℤ more ≡ pos (count_in_columns m (n + 1))
columns_step m n count more before now = rw (before, now) (ap pos (sym (more_columns m n)))

abbrev pub banner_line : List ℕ
banner_line = codes "%%MatrixMarket matrix coordinate integer general" ++ 10 ∷ []

abbrev size_line : ℤ → ℤ → ℤ → List ℕ
size_line rows cols count = number_line rows cols count ++ 10 ∷ []

-- the whole text
pub whole_text : (m : Matrix) (rows cols count : ℤ) → rows ≡ pos m.rows → cols ≡ pos m.cols
    → count ≡ pos (length (nonzeros m))
    → banner_line ++ (size_line rows cols count ++ pieces (column_text m) m.cols) ≡ matrix_market_text m
whole_text m rows cols count r c n =
    let size = size_line (pos m.rows) (pos m.cols) (pos (length (nonzeros m))) in
    rw (r, c, n) (ap (λ (t : List ℕ). banner_line ++ (size ++ t)) (sym (entries_text m)))
