-- Sums over the columns of a row, part by part.
use Rattle.std.proofs.Common.{◌≡◌, ℕ, ℤ, pos, zero, suc, ◌+◌, ◌-◌, ◌<◌, ◌+ℤ◌, ◌*ℤ◌, List, [], ◌∷◌, ◌++◌, length, take}
use Rattle.std.proofs.Common.{refl, ap, sym, ◌∙◌}
use Rattle.std.proofs.Common.{arith, inl, inr, length-append}
use Rattle.std.proofs.Math.IntN.{one, *ℤ-one, *ℤ_comm}
use Rattle.std.proofs.lemmas.Bool.{cases_lt}
use Rattle.std.proofs.lemmas.List.{get_or_append_left, get_or-append_right}
use Rattle.cla_spec.specs.Numbers.{sum_to}
use Rattle.std.proofs.lemmas.Int.{ints}
use Rattle.cla_spec.specs.Matrix.{sum_of_entries}
use Rattle.cla_spec.proofs.Sums.{plus_zero, zero_plus, sum_to-same, sum_to-split, sum_to-zero, sum_to-add}
use Rattle.cla_layout.specs.Groups.{code_of, cell_of, occurrences_of}
use Rattle.cla_layout.proofs.Regroup.{regroup}
use Rattle.cla_layout.specs.Layouts.{LayoutPart, Layout, part_at, all_columns, entry_in, IsWhole, IsPartition}
use Rattle.cla_layout.specs.Laws.{sum_over}
use Rattle.cla_layout.proofs.Wholes.{listed_at, entry_of_part, own_column, own_column_within}

later : (xs ys : List ℕ) (c : ℕ) → code_of (xs ++ ys) (length xs + c) ≡ code_of ys c
later xs ys c =
    let same : length xs + c - length xs ≡ c = omega arith in
    get_or-append_right xs ys (length xs) (length xs + c) 0 refl (omega arith) ∙ ap (code_of ys) same

-- a listed column is one of the matrix
pub listed_within : (cols : ℕ) (columns : List ℕ) → IsPartition cols columns → (p : ℕ) → p < length columns →
    code_of columns p < cols
listed_within cols columns partition p there = elim (cases_lt (code_of columns p) cols) [
  | inl within ↦ within
  | inr past ↦ absurd (omega (arith, partition.no_other (code_of columns p) past, listed_at columns p there))
]

-- a value of each listed column, added up over the list of all, is added up part by part
pub sum_listed : (f : ℕ → ℤ) (parts : List LayoutPart) →
    sum_to (λ p. f (code_of (all_columns parts) p)) (length (all_columns parts))
    ≡ sum_over (λ part. sum_to (λ c. f (code_of part.columns c)) (length part.columns)) parts
sum_listed f [] = refl
sum_listed f (part ∷ parts) =
    let long : length (part.columns ++ all_columns parts)
    ≡ length part.columns + length (all_columns parts) = length-append part.columns (all_columns parts) in
    ap (sum_to (λ p. f (code_of (part.columns ++ all_columns parts) p))) long
    ∙ sum_to-split (λ p. f (code_of (part.columns ++ all_columns parts) p)) (length part.columns)
    (length (all_columns parts))
    ∙ ap (λ (z : ℤ). z +ℤ sum_to (λ c. f (code_of (part.columns ++ all_columns parts) (length part.columns + c)))
    (length (all_columns parts)))
    (sum_to-same (λ p. f (code_of (part.columns ++ all_columns parts) p)) (λ c. f (code_of part.columns c))
    (length part.columns)
    (λ c lt. ap f (get_or_append_left part.columns (all_columns parts) 0 c lt)))
    ∙ ap (λ (z : ℤ). sum_to (λ c. f (code_of part.columns c)) (length part.columns) +ℤ z)
    (sum_to-same (λ c. f (code_of (part.columns ++ all_columns parts) (length part.columns + c)))
    (λ p. f (code_of (all_columns parts) p))
    (length (all_columns parts)) (λ c lt. ap f (later part.columns (all_columns parts) c))
    ∙ sum_listed f parts)

once_times : (n : ℕ) (z : ℤ) → n ≡ 1 → pos n *ℤ z ≡ z
unfolding one
once_times n z is = ap (λ (k : ℕ). pos k *ℤ z) is ∙ *ℤ_comm (pos 1) z ∙ *ℤ-one z

-- each column is listed once
pub sum_columns : (f : ℕ → ℤ) (cols : ℕ) (columns : List ℕ) → IsPartition cols columns
    → ((p : ℕ) → p < length columns → code_of columns p < cols)
    → sum_to f cols ≡ sum_to (λ p. f (code_of columns p)) (length columns)
sum_columns f cols columns partition within =
    sym (sum_to-same (λ j. pos (occurrences_of columns j) *ℤ f j) f cols
    (λ j lt. once_times (occurrences_of columns j) (f j) (partition.once j lt)))
    ∙ sym (regroup f columns cols within)

-- the same value of each part
pub sum_over-same : (f g : LayoutPart → ℤ) (parts : List LayoutPart)
    → ((q : ℕ) → q < length parts → f (part_at parts q) ≡ g (part_at parts q)) → sum_over f parts ≡ sum_over g parts
sum_over-same f g [] same = refl
sum_over-same f g (part ∷ parts) same =
    ap (λ (z : ℤ). z +ℤ sum_over f parts) (same zero (omega arith))
    ∙ ap (λ (z : ℤ). g part +ℤ z) (sum_over-same f g parts (λ q lt. same (suc q) (omega (arith, lt))))

pub row_by_parts : (bits : ℕ) (layout : Layout) (f : ℕ → ℤ → ℤ) (i : ℕ) → IsWhole bits layout
    → sum_to (λ j. f j (entry_in layout.parts i j)) layout.cols
    ≡ sum_over (λ part. sum_to (λ c. f (code_of part.columns c) (cell_of part.codes part.tuples i c))
    (length part.columns)) layout.parts
row_by_parts bits layout f i whole =
    sum_columns (λ j. f j (entry_in layout.parts i j)) layout.cols (all_columns layout.parts) whole.partition
    (listed_within layout.cols (all_columns layout.parts) whole.partition)
    ∙ sum_listed (λ j. f j (entry_in layout.parts i j)) layout.parts
    ∙ sum_over-same _ _ layout.parts (λ q there.
    (let part = part_at layout.parts q in
    let rising = (whole.each q there).rising in
    sum_to-same _ _ (length part.columns) (λ c place.
    (let own = own_column part c rising place in
    ap (f (code_of part.columns c)) (entry_of_part layout.cols layout.parts q i (code_of part.columns c) whole.partition
    there
    (own_column_within layout.cols layout.parts q (code_of part.columns c) whole.partition there own.1) own.1
    ∙ ap (cell_of part.codes part.tuples i) own.0)))))

-- a sum over rows of sums over parts
rows_and_parts : (f : ℕ → LayoutPart → ℤ) (n : ℕ) (parts : List LayoutPart) → sum_to (λ i. sum_over (f i) parts) n
    ≡ sum_over (λ part. sum_to (λ i. f i part) n) parts
rows_and_parts f n [] = sum_to-zero n
rows_and_parts f n (part ∷ parts) =
    sum_to-add (λ i. f i part) (λ i. sum_over (f i) parts) n
    ∙ ap (λ (z : ℤ). sum_to (λ i. f i part) n +ℤ z) (rows_and_parts f n parts)

pub cells_by_parts : (bits : ℕ) (layout : Layout) (f : ℕ → ℕ → ℤ → ℤ) → IsWhole bits layout
    → sum_of_entries layout.rows layout.cols (λ i j. f i j (entry_in layout.parts i j))
    ≡ sum_over (λ part. sum_of_entries layout.rows (length part.columns)
    (λ i c. f i (code_of part.columns c) (cell_of part.codes part.tuples i c))) layout.parts
cells_by_parts bits layout f whole =
    sum_to-same (λ i. sum_to (λ j. f i j (entry_in layout.parts i j)) layout.cols)
    (λ i. sum_over (λ part. sum_to (λ c. f i (code_of part.columns c) (cell_of part.codes part.tuples i c))
    (length part.columns))
    layout.parts) layout.rows
    (λ i row. row_by_parts bits layout (f i) i whole)
    ∙ rows_and_parts (λ i part. sum_to (λ c. f i (code_of part.columns c) (cell_of part.codes part.tuples i c))
    (length part.columns))
    layout.rows layout.parts

-- one more part
pub sum_over_more : (f : LayoutPart → ℤ) (parts : List LayoutPart) (q : ℕ) → q < length parts →
    sum_over f (take (q + 1) parts)
    ≡ sum_over f (take q parts) +ℤ f (part_at parts q)
sum_over_more f [] q there = absurd (omega (arith, there))
sum_over_more f (part ∷ parts) zero there = sym (plus_zero (f part)) ∙ sym (zero_plus (f part))
sum_over_more f (part ∷ parts) (suc q) there =
    let next : suc q + 1 ≡ suc (q + 1) = omega arith in
    let joined : f part +ℤ (sum_over f (take q parts) +ℤ f (part_at parts q))
    ≡ (f part +ℤ sum_over f (take q parts)) +ℤ f (part_at parts q) = omega (arith, ints) in
    ap (λ (n : ℕ). sum_over f (take n (part ∷ parts))) next
    ∙ ap (λ (z : ℤ). f part +ℤ z) (sum_over_more f parts q (omega (arith, there)))
    ∙ joined
