-- Whole layouts: each column is in one part.
use Rattle.std.proofs.Common.{◌≡◌, ◌⊎◌, true, false, Bool, ℕ, ℤ, zero, suc, ◌<◌, ◌≤◌, List, [], ◌∷◌, length, cond}
use Rattle.std.proofs.Common.{eqb, refl, sym, ◌∙◌}
use Rattle.std.proofs.Common.{arith, inl, inr}
use Rattle.std.proofs.lemmas.Bool.{cases_Bool, cases_eq, cases_lt, eq-eqb, lt-ltb, ltb-true}
use Rattle.std.proofs.lemmas.List.Sums.{sum_by-append, sum_by-cons}
use Rattle.cla_layout.specs.Groups.{code_of, cell_of, first_row_of, occurrences_of, IsGroup}
use Rattle.cla_layout.specs.Layouts.{LayoutPart, part_at, all_columns, has_column, entry_in, IsPartition}
use Rattle.cla_layout.proofs.Columns.{Rise, place_of_column, entry_at, nowhere_listed}

one_where : (b : Bool) → b ≡ true → 1 ≤ cond b 1 0
one_where b is = rw is (omega arith)

-- a part that has a column lists it
listed : (columns : List ℕ) (j : ℕ) → first_row_of columns j < length columns → 1 ≤ occurrences_of columns j
listed [] j there = absurd (omega (arith, there))
listed (column ∷ columns) j there =
    let more = sum_by-cons (λ code. cond (eqb code j) 1 0) column columns in
    elim (cases_Bool (eqb column j)) [
      | inl here ↦ (let one = one_where (eqb column j) here in omega (arith, more, one))
      | inr elsewhere ↦ (let later : first_row_of columns j < length columns =
          (let next = rw elsewhere at there in omega (arith, next)) in omega (arith, more, listed columns j later))
    ]

-- a column that stands in a place is listed
pub listed_at : (columns : List ℕ) (p : ℕ) → p < length columns → 1 ≤ occurrences_of columns (code_of columns p)
listed_at [] p there = absurd (omega (arith, there))
listed_at (column ∷ columns) zero there =
    let one = one_where (eqb column column) (eq-eqb column column refl) in
    omega (arith, sum_by-cons (λ code. cond (eqb code column) 1 0) column columns, one)
listed_at (column ∷ columns) (suc p) there =
    omega (
      arith,
      sum_by-cons (λ code. cond (eqb code (code_of columns p)) 1 0) column columns,
      listed_at columns p
          (omega (arith, there)),
    )

pub lists_column : (part : LayoutPart) (j : ℕ) → has_column part j ≡ true → 1 ≤ occurrences_of part.columns j
lists_column part j has = listed part.columns j (ltb-true _ _ has)

part_lists : (parts : List LayoutPart) (q j : ℕ) → q < length parts → has_column (part_at parts q) j ≡ true
    → 1 ≤ occurrences_of (all_columns parts) j
part_lists [] q j there has = absurd (omega (arith, there))
part_lists (part ∷ parts) zero j there has = omega
    (arith, sum_by-append (λ code. cond (eqb code j) 1 0) part.columns (all_columns parts), lists_column part j has)
part_lists (part ∷ parts) (suc q) j there has =
    omega (
      arith,
      sum_by-append (λ code. cond (eqb code j) 1 0) part.columns (all_columns parts),
      part_lists parts q j
          (omega (arith, there)) has,
    )

-- a column that two parts have is listed twice
twice : (parts : List LayoutPart) (p q j : ℕ) → p < q → q < length parts → has_column (part_at parts p) j ≡ true
    → has_column (part_at parts q) j ≡ true → 2 ≤ occurrences_of (all_columns parts) j
twice [] p q j before there has also = absurd (omega (arith, there))
twice (part ∷ parts) p zero j before there has also = absurd (omega (arith, before))
twice (part ∷ parts) zero (suc q) j before there has also =
    omega (
      arith,
      sum_by-append (λ code. cond (eqb code j) 1 0) part.columns
          (all_columns parts),
      lists_column part j has,
      part_lists parts q j (omega (arith, there)) also,
    )
twice (part ∷ parts) (suc p) (suc q) j before there has also =
    omega (
      arith,
      sum_by-append (λ code. cond (eqb code j) 1 0) part.columns (all_columns parts),
      twice parts p q j
          (omega (arith, before)) (omega (arith, there)) has also,
    )

-- so no other part has it
pub only_part : (cols : ℕ) (parts : List LayoutPart) (p q j : ℕ) → IsPartition cols (all_columns parts) →
    p < length parts
    → q < length parts → j < cols
    → has_column (part_at parts p) j ≡ true → has_column (part_at parts q) j ≡ true → p ≡ q
only_part cols parts p q j partition there also col has and = elim (cases_eq p q) [
  | inl same ↦ same
  | inr other ↦ elim (cases_lt p q) [
    | inl before ↦ absurd (omega (arith, twice parts p q j before also has and, partition.once j col))
    | inr after ↦ (let earlier : q < p = grind (arith, after, other) in
        absurd (omega (arith, twice parts q p j earlier there and has, partition.once j col)))
  ]
]

nowhere : (part : LayoutPart) (parts : List LayoutPart) (j : ℕ) → has_column part j ≡ false
    → ((q : ℕ) → q < length parts → has_column (part_at parts q) j ≡ false) → (q : ℕ) → q < length (part ∷ parts)
    → has_column (part_at (part ∷ parts) q) j ≡ false
nowhere part parts j elsewhere none zero there = elsewhere
nowhere part parts j elsewhere none (suc q) there = none q (omega (arith, there))

further : (part : LayoutPart) (parts : List LayoutPart) (j : ℕ) → has_column part j ≡ false
    → ((q : ℕ) × (q < length parts) × (has_column (part_at parts q) j ≡ true)) ⊎
    ((q : ℕ) → q < length parts → has_column (part_at parts q) j ≡ false)
    → ((q : ℕ) × (q < length (part ∷ parts)) × (has_column (part_at (part ∷ parts) q) j ≡ true)) ⊎
    ((q : ℕ) → q < length (part ∷ parts) → has_column (part_at (part ∷ parts) q) j ≡ false)
further part parts j elsewhere (inl found) = inl (suc found.0, omega (arith, found.1), found.2)
further part parts j elsewhere (inr none) = inr (nowhere part parts j elsewhere none)

-- a search through the parts
searched_parts : (parts : List LayoutPart) (j : ℕ)
    → ((q : ℕ) × (q < length parts) × (has_column (part_at parts q) j ≡ true)) ⊎
    ((q : ℕ) → q < length parts → has_column (part_at parts q) j ≡ false)
searched_parts [] j = inr (λ q there. absurd (omega (arith, there)))
searched_parts (part ∷ parts) j = elim (cases_Bool (has_column part j)) [
  | inl here ↦ inl (zero, omega arith, here)
  | inr elsewhere ↦ further part parts j elsewhere (searched_parts parts j)
]

-- some part has it
pub some_part : (cols : ℕ) (parts : List LayoutPart) (j : ℕ) → IsPartition cols (all_columns parts) → j < cols → (q : ℕ)
    × (q < length parts) × (has_column (part_at parts q) j ≡ true)
some_part cols parts j partition col = elim (searched_parts parts j) [
  | inl found ↦ found
  | inr none ↦ absurd (omega (arith, nowhere_listed parts j none, partition.once j col))
]

-- and the entry is that of the part
pub entry_of_part : (cols : ℕ) (parts : List LayoutPart) (q i j : ℕ) → IsPartition cols (all_columns parts) →
    q < length parts → j < cols
    → has_column (part_at parts q) j ≡ true
    → entry_in parts i j ≡ cell_of (part_at parts q).codes (part_at parts q).tuples i
    (first_row_of (part_at parts q).columns j)
entry_of_part cols parts q i j partition there col has =
    entry_at parts q i j there
    (λ p before. elim (cases_Bool (has_column (part_at parts p) j)) [
      | inl also ↦ absurd
          (omega (
            arith,
            before,
            only_part cols parts p q j partition (omega (arith, before, there)) there col also
                has,
          ))
      | inr none ↦ none
    ]) has

-- a part has each of its columns, in its place
pub own_column : (part : LayoutPart) (c : ℕ) → Rise part.columns → c < length part.columns
    → (first_row_of part.columns (code_of part.columns c) ≡ c) × (has_column part (code_of part.columns c) ≡ true)
own_column part c rising there =
    let place = place_of_column part.columns c (code_of part.columns c) rising there refl in
    (place, lt-ltb _ _ (omega (arith, place, there)))

-- which is a column of the matrix
pub own_column_within : (cols : ℕ) (parts : List LayoutPart) (q j : ℕ) → IsPartition cols (all_columns parts) →
    q < length parts
    → has_column (part_at parts q) j ≡ true → j < cols
own_column_within cols parts q j partition there has = elim (cases_lt j cols) [
  | inl within ↦ within
  | inr past ↦ absurd (omega (arith, partition.no_other j past, part_lists parts q j there has))
]

-- two widths of a group are the same
pub same_width : (bits w v : ℕ) (codes : List ℕ) (tuples : List (List ℤ)) → IsGroup bits w codes tuples →
    IsGroup bits v codes tuples → w
    ≡ v
same_width bits w v codes tuples is and = let k = code_of codes 0 in let there =
    is.in_tuples 0 (omega (arith, is.a_row)) in
    sym (is.full k there) ∙ and.full k there
