-- Mirrored lines: what they multiply, and the products above the diagonal.
use Rattle.std.proofs.Common.{◌≡◌, ℕ, ℤ, zero, suc, ◌+◌, ◌*◌, ◌<◌, ◌≤◌, ◌*ℤ◌, min, max, List, [], ◌∷◌, length}
use Rattle.std.proofs.Common.{sum_by, Bool, cond, leb, eqb, ltb, refl, ap, sym, ◌∙◌, arith, inl, inr}
use Rattle.std.proofs.Math.IntN.{*ℤ_comm}
use Rattle.std.proofs.lemmas.Bool.{cases_eq, cases_lt, le-leb, lt-leb, eq-eqb, ne_eqb, lt-ltb, le-ltb}
use Rattle.std.proofs.lemmas.List.Sums.{sum_by-cons}
use Rattle.cla_spec.specs.Numbers.{sum_to}
use Rattle.cla_spec.proofs.Sums.{sum_to-same}
use Rattle.cla_layout.specs.Groups.{code_of}
use Rattle.cla_layout.specs.Layouts.{LayoutPart, layout_with, part_at, column_at, count_of, all_columns}
use Rattle.cla_layout.specs.Layouts.{IsPartition, IsWhole}
use Rattle.cla_layout.proofs.PartSums.{listed_within}
use Rattle.cla_layout.proofs.Wholes.{own_column, own_column_within}
use Rattle.cla_prod.specs.Answers.{column_numbers, self_values_of}
use Rattle.cla_prod.specs.declared.numbers.Order.TheVariants.{Mirrored}
use Rattle.cla_prod.specs.Sums.{columns_from, values_from, numbers_to, self_values_to}
use Rattle.cla_prod.specs.Columns.{read_values}
use Rattle.cla_prod.proofs.ColumnsRead.{read_listed}

abbrev one_if : Bool → ℕ
one_if b = cond b 1 0

one_more : (n j : ℕ) → min (j + 1) (n + 1) ≡ min (j + 1) n + one_if (leb n j)
one_more n j = elim (cases_lt j n) [
  | inl before ↦ (let none : one_if (leb n j) ≡ 0 = ap one_if (lt-leb n j before) in omega (arith, none, before))
  | inr past ↦ (let one : one_if (leb n j) ≡ 1 = ap one_if (le-leb n j past) in omega (arith, one, past))
]

numbers_more : (n : ℕ) (columns : List ℕ) → numbers_to (n + 1) columns ≡ numbers_to n columns + columns_from n columns
numbers_more n [] = refl
numbers_more n (j ∷ columns) =
    omega (
      arith,
      sum_by-cons (λ k. min (k + 1) (n + 1)) j columns,
      sum_by-cons (λ k. min (k + 1) n) j columns,
      sum_by-cons (λ k. one_if (leb n k)) j columns,
      one_more n j,
      numbers_more n columns,
    )

abbrev values_to : ℕ → LayoutPart → ℕ
values_to n part = length part.tuples * numbers_to n part.columns

abbrev values_in_from : ℕ → LayoutPart → ℕ
values_in_from n part = length part.tuples * columns_from n part.columns

-- one more column
pub self_values_more : (n : ℕ) (parts : List LayoutPart) → self_values_to (n + 1) parts
    ≡ self_values_to n parts + values_from n parts
self_values_more n [] = refl
self_values_more n (part ∷ parts) =
    let here : values_to (n + 1) part ≡ length part.tuples * (numbers_to n part.columns + columns_from n part.columns) =
    ap (λ (k : ℕ). length part.tuples * k) (numbers_more n part.columns) in
    omega (
      arith,
      sum_by-cons (values_to (n + 1)) part parts,
      sum_by-cons (values_to n) part parts,
      sum_by-cons (values_in_from n) part parts,
      here,
      self_values_more n parts,
    )

numbers_none : (columns : List ℕ) → numbers_to 0 columns ≡ 0
numbers_none [] = refl
numbers_none (j ∷ columns) = omega (arith, sum_by-cons (λ k. min (k + 1) 0) j columns, numbers_none columns)

-- before the first column nothing is multiplied
pub self_values_none : (parts : List LayoutPart) → self_values_to 0 parts ≡ 0
self_values_none [] = refl
self_values_none (part ∷ parts) =
    let here : values_to 0 part ≡ length part.tuples * 0 = ap (λ (k : ℕ). length part.tuples * k)
    (numbers_none part.columns) in
    omega (arith, sum_by-cons (values_to 0) part parts, here, self_values_none parts)

numbers_all : (n : ℕ) (columns : List ℕ) → ((c : ℕ) → c < length columns → column_at columns c < n)
    → numbers_to n columns ≡ column_numbers columns
numbers_all n [] below = refl
numbers_all n (j ∷ columns) below =
    omega (
      arith,
      sum_by-cons (λ k. min (k + 1) n) j columns,
      sum_by-cons (λ k. k + 1) j columns,
      below zero (omega arith),
      numbers_all n columns (λ c lt. below (suc c) (omega (arith, lt))),
    )

abbrev self_values_in : LayoutPart → ℕ
self_values_in part = length part.tuples * column_numbers part.columns

parts_all : (n : ℕ) (parts : List LayoutPart)
    → ((q c : ℕ) → q < length parts → c < length (part_at parts q).columns → column_at (part_at parts q).columns c < n)
    → self_values_to n parts ≡ self_values_of parts
parts_all n [] below = refl
parts_all n (part ∷ parts) below =
    let here : values_to n part ≡ self_values_in part =
    ap (λ (k : ℕ). length part.tuples * k) (numbers_all n part.columns (λ c lt. below zero c (omega arith) lt)) in
    omega (
      arith,
      sum_by-cons (values_to n) part parts,
      sum_by-cons self_values_in part parts,
      here,
      parts_all n parts (λ q c there lt. below (suc q) c (omega (arith, there)) lt),
    )

-- after the last column each is multiplied as often as it is numbered
pub self_values_all : (bits rows cols : ℕ) (parts : List LayoutPart) → IsWhole bits (layout_with rows cols parts)
    → self_values_to cols parts ≡ self_values_of parts
self_values_all bits rows cols parts whole =
    parts_all cols parts (λ q c there place.
    (let own = own_column (part_at parts q) c (whole.each q there).rising place in
    own_column_within cols parts q (column_at (part_at parts q).columns c) whole.partition there own.1))

-- what columns below n give
abbrev below_if : (ℕ → ℕ) → ℕ → ℕ → ℕ
below_if f n j = cond (ltb j n) (f j) 0

below_one_more : (f : ℕ → ℕ) (n j : ℕ) → below_if f (n + 1) j ≡ below_if f n j + one_if (eqb j n) * f n
below_one_more f n j = elim (cases_eq j n) [
  | inl same ↦
      let now : below_if f (n + 1) j ≡ f j =
      ap (λ (b : Bool). cond b (f j) 0) (lt-ltb j (n + 1) (omega (arith, same))) in
      let before : below_if f n j ≡ 0 = ap (λ (b : Bool). cond b (f j) 0) (le-ltb j n (omega (arith, same))) in
      let once : one_if (eqb j n) * f n ≡ 1 * f n = ap (λ (b : Bool). one_if b * f n) (eq-eqb j n same) in
      let value : f j ≡ f n = ap f same in
      omega (arith, now, before, once, value)
  | inr other ↦
      let never : one_if (eqb j n) * f n ≡ 0 * f n = ap (λ (b : Bool). one_if b * f n) (ne_eqb j n other) in
      let kept : below_if f (n + 1) j ≡ below_if f n j = elim (cases_lt j n) [
        | inl early ↦
            ap (λ (b : Bool). cond b (f j) 0) (lt-ltb j (n + 1) (omega (arith, early)) ∙ sym (lt-ltb j n early))
        | inr late ↦
            let later : n + 1 ≤ j = grind (arith, late, other) in
            ap (λ (b : Bool). cond b (f j) 0) (le-ltb j (n + 1) later ∙ sym (le-ltb j n late))
      ] in
      omega (arith, never, kept)
]

below_more : (f : ℕ → ℕ) (n : ℕ) (columns : List ℕ) → sum_by (below_if f (n + 1)) columns
    ≡ sum_by (below_if f n) columns + count_of columns n * f n
below_more f n [] = omega arith
below_more f n (j ∷ columns) =
    let here : count_of (j ∷ columns) n * f n ≡ (one_if (eqb j n) + count_of columns n) * f n =
    ap (λ (k : ℕ). k * f n) (sum_by-cons (λ column. one_if (eqb column n)) j columns) in
    omega (
      arith,
      sum_by-cons (below_if f (n + 1)) j columns,
      sum_by-cons (below_if f n) j columns,
      here,
      below_one_more f n j,
      below_more f n columns,
    )

below_none : (f : ℕ → ℕ) (columns : List ℕ) → sum_by (below_if f 0) columns ≡ 0
below_none f [] = refl
below_none f (j ∷ columns) =
    let none : below_if f 0 j ≡ 0 = ap (λ (b : Bool). cond b (f j) 0) (le-ltb j 0 (omega arith)) in
    omega (arith, sum_by-cons (below_if f 0) j columns, none, below_none f columns)

below_all : (f : ℕ → ℕ) (n : ℕ) (columns : List ℕ) → ((c : ℕ) → c < length columns → code_of columns c < n)
    → sum_by (below_if f n) columns ≡ sum_by f columns
below_all f n [] within = refl
below_all f n (j ∷ columns) within =
    let here : below_if f n j ≡ f j = ap (λ (b : Bool). cond b (f j) 0) (lt-ltb j n (within zero (omega arith))) in
    omega (
      arith,
      sum_by-cons (below_if f n) j columns,
      sum_by-cons f j columns,
      here,
      below_all f n columns (λ c lt. within (suc c) (omega (arith, lt))),
    )

-- where each column is listed once, those below n give what the first n columns multiply
below_is : (cols n : ℕ) (columns : List ℕ) (parts : List LayoutPart) → IsPartition cols columns → n ≤ cols
    → sum_by (below_if (λ j. values_from j parts) n) columns ≡ self_values_to n parts
below_is cols zero columns parts partition few =
    below_none (λ j. values_from j parts) columns ∙ sym (self_values_none parts)
below_is cols (suc n) columns parts partition few =
    let f = λ (j : ℕ). values_from j parts in
    let next : suc n ≡ n + 1 = omega arith in
    let once : count_of columns n * f n ≡ 1 * f n = ap (λ (k : ℕ). k * f n) (partition.once n (omega (arith, few))) in
    let more : sum_by (below_if f (n + 1)) columns ≡ self_values_to (n + 1) parts =
    omega (
      arith,
      below_more f n columns,
      once,
      below_is cols n columns parts partition (omega (arith, few)),
      self_values_more n parts,
    ) in
    ap (λ (k : ℕ). sum_by (below_if f k) columns) next ∙ more ∙ ap (λ (k : ℕ). self_values_to k parts) (sym next)

-- mirrored columns multiply each tuple as often as its columns are numbered
pub read_mirrored : (bits rows cols : ℕ) (parts : List LayoutPart) → IsWhole bits (layout_with rows cols parts)
    → read_values Mirrored parts parts ≡ self_values_of parts
read_mirrored bits rows cols parts whole =
    let listed = all_columns parts in
    read_listed Mirrored parts parts
    ∙ sym (below_all (λ j. values_from j parts) cols listed (listed_within cols listed whole.partition))
    ∙ below_is cols cols listed parts whole.partition (omega arith)
    ∙ self_values_all bits rows cols parts whole

-- either way round
pub mirrored_is : (e : ℕ → ℕ → ℤ) (rows i j : ℕ) → sum_to (λ k. e k (max i j) *ℤ e k (min i j)) rows ≡ sum_to
    (λ k. e k i *ℤ e k j) rows
mirrored_is e rows i j = elim (cases_lt i j) [
  | inl before ↦
      let hi : max i j ≡ j = omega (arith, before) in
      let lo : min i j ≡ i = omega (arith, before) in
      sum_to-same (λ k. e k (max i j) *ℤ e k (min i j)) (λ k. e k i *ℤ e k j) rows
      (λ k _. ap (λ (c : ℕ). e k c *ℤ e k (min i j)) hi ∙ ap (λ (c : ℕ). e k j *ℤ e k c) lo ∙ *ℤ_comm (e k j) (e k i))
  | inr past ↦
      let hi : max i j ≡ i = omega (arith, past) in
      let lo : min i j ≡ j = omega (arith, past) in
      sum_to-same (λ k. e k (max i j) *ℤ e k (min i j)) (λ k. e k i *ℤ e k j) rows
      (λ k _. ap (λ (c : ℕ). e k c *ℤ e k (min i j)) hi ∙ ap (λ (c : ℕ). e k i *ℤ e k c) lo)
]
