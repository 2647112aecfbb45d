-- Columns of parts, and the entries in them.
use Rattle.std.proofs.Common.{◌≡◌, true, false, ℕ, zero, suc, ◌<◌, ◌≤◌, List, [], ◌∷◌, length, cond, eqb, get_or, Ok}
use Rattle.std.proofs.Common.{Err, refl, ap}
use Rattle.std.proofs.Common.{◌∙◌, arith, inl, inr}
use Rattle.std.proofs.lemmas.Bool.{cases_eq, cases_lt, eq-eqb, ne_eqb, ltb-false}
use Rattle.std.proofs.lemmas.List.{get_or_default}
use Rattle.std.proofs.lemmas.List.Sums.{position_or_len_is, sum_by-append}
use Rattle.std.specs.Ordering.{nat_cmp}
use Rattle.std.specs.List.Sorted.{IsBinarySearchResult}
use Rattle.std.proofs.lemmas.List.Sorted.{searched}
use Rattle.cla_layout.specs.Groups.{code_of, cell_of, first_row_of, occurrences_of}
use Rattle.cla_layout.proofs.Regroup.{first_row_there}
use Rattle.cla_layout.specs.Layouts.{LayoutPart, part_at, all_columns, has_column, entry_in}

-- columns that rise
abbrev pub Rise : List ℕ → Type 0
Rise columns = (c d : ℕ) → c < d → d < length columns → code_of columns c < code_of columns d

-- the column that is read in a place
pub column_read : (columns : List ℕ) (c j : ℕ) → j ≡ get_or columns c j → c < length columns → j ≡ code_of columns c
column_read columns c j is there = is ∙ get_or_default columns c j 0 there

-- a column's place among columns that rise
pub place_of_column : (columns : List ℕ) (c j : ℕ) → Rise columns → c < length columns → code_of columns c ≡ j →
    first_row_of columns j
    ≡ c
place_of_column columns c j rising there is =
    position_or_len_is (λ code. eqb code j) columns c 0 (omega (arith, there))
    (λ b before. ne_eqb (code_of columns b) j (λ same. omega (arith, rising b c before there, same, is)))
    (λ _. eq-eqb (code_of columns c) j is)

-- a column that isn't among them
pub no_place : (columns : List ℕ) (j : ℕ) → ((c : ℕ) → c < length columns → code_of columns c ≡ j → ⊥) →
    first_row_of columns j
    ≡ length columns
no_place columns j other =
    position_or_len_is (λ code. eqb code j) columns (length columns) 0 (omega arith)
    (λ c there. ne_eqb (code_of columns c) j (other c there))
    (λ past. absurd (omega (arith, past)))

rise_equal : (columns : List ℕ) → Rise columns → (c d : ℕ) → c ≤ d → d < length columns →
    get_or columns c 0 ≤ get_or columns d 0
rise_equal columns rising c d le there = elim (cases_eq c d) [
  | inl same ↦ (let is = ap (code_of columns) same in omega (arith, is))
  | inr other ↦ (let before : c < d = grind (arith, le, other) in omega (arith, rising c d before there))
]

-- what a search for a column finds
pub column_found : (columns : List ℕ) (j c : ℕ) → Rise columns → IsBinarySearchResult (λ y. nat_cmp y j) columns (Ok c)
    → (c < length columns) × (first_row_of columns j ≡ c)
column_found columns j c rising found =
    let at = searched columns j (Ok c) found (rise_equal columns rising) in
    (at.0, place_of_column columns c j rising at.0 at.1)

pub column_missing : (columns : List ℕ) (j c : ℕ) → Rise columns →
    IsBinarySearchResult (λ y. nat_cmp y j) columns (Err c)
    → first_row_of columns j ≡ length columns
column_missing columns j c rising missing =
    let at = searched columns j (Err c) missing (rise_equal columns rising) in
    no_place columns j (λ d there same. elim (cases_lt d c) [
      | inl before ↦ (let below = at.1 d before in absurd (omega (arith, below, same)))
      | inr after ↦ (let above = at.2 d after there in absurd (omega (arith, above, same)))
    ])

-- the entry in a column, which the first part that has it gives
pub entry_at : (parts : List LayoutPart) (q i j : ℕ) → q < length parts →
    ((p : ℕ) → p < q → has_column (part_at parts p) j ≡ false)
    → has_column (part_at parts q) j ≡ true
    → entry_in parts i j ≡ cell_of (part_at parts q).codes (part_at parts q).tuples i
    (first_row_of (part_at parts q).columns j)
entry_at [] q i j there none has = absurd (omega (arith, there))
entry_at (part ∷ parts) zero i j there none has = rw has refl
entry_at (part ∷ parts) (suc q) i j there none has =
    rw (none zero (omega arith)) (entry_at parts q i j (omega (arith, there)) (λ p lt. none (suc p) (omega (arith, lt)))
    has)

-- a part lists a column where it has it, and nowhere else
pub not_listed : (part : LayoutPart) (j : ℕ) → has_column part j ≡ false → occurrences_of part.columns j ≡ 0
not_listed part j none =
    elim (cases_lt 0 (occurrences_of part.columns j)) [
      | inl some ↦ (let past = ltb-false _ _ none in absurd (omega (arith, past, first_row_there part.columns j some)))
      | inr past ↦ omega (arith, past)
    ]

pub nowhere_listed : (parts : List LayoutPart) (j : ℕ) →
    ((q : ℕ) → q < length parts → has_column (part_at parts q) j ≡ false)
    → occurrences_of (all_columns parts) j ≡ 0
nowhere_listed [] j none = refl
nowhere_listed (part ∷ parts) j none =
    let here : occurrences_of part.columns j ≡ 0 = not_listed part j (none zero (omega arith)) in
    let later : occurrences_of (all_columns parts) j ≡ 0 =
    nowhere_listed parts j (λ q lt. none (suc q) (omega (arith, lt))) in
    omega (arith, sum_by-append (λ code. cond (eqb code j) 1 0) part.columns (all_columns parts), here, later)
