-- Texts of rows and matrices.
use Rattle.std.proofs.Common.{◌≡◌, ℕ, ℤ, zero, suc, ◌+◌, ◌<◌, ◌≤◌, List, [], ◌∷◌, ◌++◌, length, map}
use Rattle.std.proofs.Common.{Bool, if◌then◌else◌, sym, ap, ◌∙◌, append_assoc, arith}
use Rattle.std.specs.List.{range_with_len, join_with_byte, concat}
use Rattle.std.proofs.lemmas.Bool.{lt-ltb, le-ltb}
use Rattle.std.proofs.lemmas.List.{append-nil}
use Rattle.std.proofs.lemmas.List.FromFn.{fill_by_all, length-map-range_with_len, get_or-map-range_with_len}
use Rattle.cla_spec.specs.Numbers.{decimal_of}
use Rattle.cla_spec.specs.Matrix.{Matrix, entry}
use Rattle.cla_layout.specs.Groups.{cell_of, GroupStandsFor}
use Rattle.cla_print.specs.Texts.{row_text, rows_text, matrix_text}
use Rattle.cla_print.specs.Pieces.{pieces, entry_end, entry_piece}

blank_behind : (cols j : ℕ) → j + 1 < cols → entry_end cols j ≡ 32
blank_behind cols j h = ap (λ (b : Bool). if b then 32 else 10) (lt-ltb (j + 1) cols h)

lf_behind : (cols j : ℕ) → cols ≤ j + 1 → entry_end cols j ≡ 10
lf_behind cols j h = ap (λ (b : Bool). if b then 32 else 10) (le-ltb (j + 1) cols h)

-- the entries from column a on
entries_from : (cols : ℕ) (row : ℕ → ℤ) (a n : ℕ) → a + suc n ≡ cols
    → join_with_byte 32 (map (λ j. decimal_of (row j)) (range_with_len a (suc n))) ++ 10 ∷ [] ≡
    concat (map (entry_piece cols row) (range_with_len a (suc n)))
entries_from cols row a zero whole =
    ap (λ (c : ℕ). decimal_of (row a) ++ c ∷ []) (sym (lf_behind cols a (omega arith))) ∙
    sym (append-nil (entry_piece cols row a))
entries_from cols row a (suc n) whole =
    let others = range_with_len (a + 1) (suc n) in
    let line = join_with_byte 32 (map (λ j. decimal_of (row j)) others) in
    append_assoc (decimal_of (row a)) (32 ∷ line) (10 ∷ []) ∙
    ap (λ (t : List ℕ). decimal_of (row a) ++ (32 ∷ t)) (entries_from cols row (a + 1) n (omega arith)) ∙
    sym (append_assoc (decimal_of (row a)) (32 ∷ []) (concat (map (entry_piece cols row) others))) ∙
    ap (λ (c : ℕ). (decimal_of (row a) ++ c ∷ []) ++ concat (map (entry_piece cols row) others))
    (sym (blank_behind cols a (omega arith)))

-- a row's line, entry by entry
pub row_pieces : (cols : ℕ) (row : ℕ → ℤ) → 1 ≤ cols → row_text cols row ≡ pieces (entry_piece cols row) cols
row_pieces zero row some = absurd (omega arith)
row_pieces (suc n) row some = entries_from (suc n) row 0 n (omega arith)

same_list : {X : Type 0} (f g : ℕ → X) (n : ℕ) → ((i : ℕ) → i < n → f i ≡ g i)
    → map f (range_with_len 0 n) ≡ map g (range_with_len 0 n)
same_list f g n same = fill_by_all g (map f (range_with_len 0 n)) n (f 0) (length-map-range_with_len f 0 n)
    (λ i below. get_or-map-range_with_len f 0 n i i (f 0) below (omega arith) ∙ same i below)

-- a text goes by the entries within its shape alone
pub rows_text-same : (rows cols : ℕ) (e f : ℕ → ℕ → ℤ) → ((i j : ℕ) → i < rows → j < cols → e i j ≡ f i j)
    → rows_text rows cols e ≡ rows_text rows cols f
rows_text-same rows cols e f same =
    ap concat (same_list (λ i. row_text cols (e i)) (λ i. row_text cols (f i)) rows
    (λ i row. ap (λ (texts : List (List ℕ)). join_with_byte 32 texts ++ 10 ∷ [])
    (same_list (λ j. decimal_of (e i j)) (λ j. decimal_of (f i j)) cols (λ j col. ap decimal_of (same i j row col)))))

-- the text of a group is that of the matrix for which it stands
pub group_text : (width : ℕ) (codes : List ℕ) (tuples : List (List ℤ)) (m : Matrix) →
    GroupStandsFor width codes tuples m
    → rows_text (length codes) width (cell_of codes tuples) ≡ matrix_text m
group_text width codes tuples m stands =
    rw (stands.rows, stands.cols) (rows_text-same m.rows m.cols (cell_of codes tuples) (entry m) stands.entries)
