-- The text that is written for a matrix spells it.
use Rattle.std.proofs.Common.{inl, inr, ◌≡◌, ℕ, ℤ, pos, negsuc, suc, zero, ◌+◌, ◌*◌, ◌<◌, ◌≤◌, ◌==◌, ◌&&◌, ◌+ℤ◌, not}
use Rattle.std.proofs.Common.{List, [], ◌∷◌, ◌++◌, map, filter, Bool, true, refl, sym, ap, ◌∙◌, arith}
use Rattle.std.proofs.lemmas.Bool.{cases_Bool, cases_eq, ne_eqb, eq-eqb, lt-ltb, eqb-true}
use Rattle.std.proofs.lemmas.Int.{ints}
use Rattle.std.proofs.lemmas.List.Elements.{All-get_or}
use Rattle.std.specs.List.{range_with_len, flat_map}
use Rattle.cla_spec.specs.Matrix.{Matrix, entry, IsWellMade}
use Rattle.cla_spec.specs.Numbers.{InRange, in_range}
use Rattle.cla_spec.proofs.Entries.{cell_within}
use Rattle.cla_market.specs.declared.banner.Symmetry.TheVariants.{General}
use Rattle.cla_market.specs.declared.size.Size.{Size}
use Rattle.cla_market.specs.Entries.{Triple, entries_added, value_at, sum_at}
use Rattle.cla_market.specs.Texts.{is_zero_value, nonzeros}

-- a triple that isn't mirrored adds itself
pub general_adds : (ts : List Triple) → entries_added General ts ≡ ts
general_adds [] = refl
general_adds (t ∷ ts) = ap (λ (us : List Triple). t ∷ us) (general_adds ts)

plus_zero : (a : ℤ) → a +ℤ pos 0 ≡ a
plus_zero a = omega (arith, ints)

zero_plus : (a : ℤ) → pos 0 +ℤ a ≡ a
zero_plus a = omega (arith, ints)

plus_more : (a b c : ℤ) → a +ℤ (b +ℤ c) ≡ (a +ℤ b) +ℤ c
plus_more a b c = omega (arith, ints)

value_apart : (t : Triple) (i j : ℕ) → (t.row ≡ i → t.col ≡ j → ⊥) → value_at t i j ≡ pos 0
value_apart t i j apart = elim (cases_eq t.row i) [
  | inl row ↦ elim (cases_eq t.col j) [
    | inl col ↦ absurd (apart row col)
    | inr other ↦ rw (eq-eqb t.row i row, ne_eqb t.col j other) refl
  ]
  | inr other ↦ rw (ne_eqb t.row i other) refl
]

value_here : (t : Triple) → value_at t t.row t.col ≡ t.value
value_here t = rw (eq-eqb t.row t.row refl, eq-eqb t.col t.col refl) refl

pub sum_append : (xs ys : List Triple) (i j : ℕ) → sum_at (xs ++ ys) i j ≡ sum_at xs i j +ℤ sum_at ys i j
sum_append [] ys i j = sym (zero_plus (sum_at ys i j))
sum_append (x ∷ xs) ys i j = ap (λ (z : ℤ). value_at x i j +ℤ z) (sum_append xs ys i j)
    ∙ plus_more (value_at x i j) (sum_at xs i j) (sum_at ys i j)

-- where a cell stands column by column
abbrev pub key : ℕ → Triple → ℕ
key rows t = t.col * rows + t.row

-- triples whose cells rise, column by column
abbrev pub Rises : ℕ → ℕ → List Triple → Type 0
Rises rows k [] = Unit {0}
Rises rows k (t ∷ ts) = (k ≤ key rows t) × Rises rows (key rows t + 1) ts

abbrev pub AreIn : ℕ → ℕ → ℕ → List Triple → Type 0
AreIn bits rows cols [] = Unit {0}
AreIn bits rows cols (t ∷ ts) = (t.row < rows) × (t.col < cols) × InRange bits t.value × AreIn bits rows cols ts

abbrev pub AreBelow : ℕ → ℕ → List Triple → Type 0
AreBelow rows k [] = Unit {0}
AreBelow rows k (t ∷ ts) = (key rows t < k) × AreBelow rows k ts

sum_below : (rows k i j : ℕ) (ts : List Triple) → AreBelow rows k ts → k ≤ j * rows + i → sum_at ts i j ≡ pos 0
sum_below rows k i j [] b h = refl
sum_below rows k i j (t ∷ ts) b h =
    let apart = value_apart t i j
    (λ row col. (let scaled : t.col * rows ≡ j * rows = ap (λ (n : ℕ). n * rows) col in omega
    (arith, scaled, row, b.0, h))) in
    rw (apart, sum_below rows k i j ts b.1 h) refl

below_push : (rows k : ℕ) (ts : List Triple) (t : Triple) → AreBelow rows k ts → k ≤ key rows t
    → AreBelow rows (key rows t + 1) (ts ++ t ∷ [])
below_push rows k [] t b h = (omega arith, tt)
below_push rows k (u ∷ us) t b h = (omega (arith, b.0, h), below_push rows k us t b.1 h)

-- each triple is in bounds and in range, and so is the sum that it changes
abbrev pub AreGood : ℕ → Size → List Triple → List Triple → Type 0
AreGood bits size done [] = Unit {0}
AreGood bits size done (t ∷ ts) = (t.row < size.rows) × (t.col < size.cols) × InRange bits t.value
    × (in_range bits (sum_at (entries_added General (done ++ t ∷ [])) t.row t.col) ≡ true)
    × AreGood bits size (done ++ t ∷ []) ts

pub good : (bits : ℕ) (size : Size) (ts done : List Triple) (k : ℕ) → AreBelow size.rows k done → Rises size.rows k ts
    → AreIn bits size.rows size.cols ts → AreGood bits size done ts
good bits size [] done k below rises ins = tt
good bits size (t ∷ ts) done k below rises ins =
    let all = done ++ t ∷ [] in
    let before = sum_below size.rows k t.row t.col done below rises.0 in
    let last : sum_at (t ∷ []) t.row t.col ≡ t.value = ap (λ (z : ℤ). z +ℤ pos 0) (value_here t)
    ∙ plus_zero t.value in
    let here : sum_at all t.row t.col ≡ t.value = sum_append done (t ∷ []) t.row t.col
    ∙ ap (λ (z : ℤ). z +ℤ sum_at (t ∷ []) t.row t.col) before ∙ zero_plus (sum_at (t ∷ []) t.row t.col) ∙ last in
    let fits : in_range bits (sum_at (entries_added General all) t.row t.col) ≡ true = rw (general_adds all, here)
    (lt-ltb _ _ ins.2) in (
      ins.0,
      ins.1,
      ins.2,
      fits,
      good bits size ts all (key size.rows t + 1)
          (below_push size.rows k done t below rises.0) rises.1 ins.3,
    )

rises_lower : (rows a b : ℕ) (ts : List Triple) → a ≤ b → Rises rows b ts → Rises rows a ts
rises_lower rows a b [] le h = tt
rises_lower rows a b (t ∷ ts) le h = (omega (arith, le, h.0), h.1)

rises_filter : (p : Triple → Bool) (rows k : ℕ) (ts : List Triple) → Rises rows k ts → Rises rows k (filter p ts)
rises_filter p rows k [] h = tt
rises_filter p rows k (t ∷ ts) h = elim (cases_Bool (p t)) [
  | inl kept ↦ rw kept (h.0, rises_filter p rows (key rows t + 1) ts h.1)
  | inr dropped ↦ rw dropped
      (rises_filter p rows k ts (rises_lower rows k (key rows t + 1) ts (omega (arith, h.0)) h.1))
]

in_filter : (p : Triple → Bool) (bits rows cols : ℕ) (ts : List Triple) → AreIn bits rows cols ts
    → AreIn bits rows cols (filter p ts)
in_filter p bits rows cols [] h = tt
in_filter p bits rows cols (t ∷ ts) h = elim (cases_Bool (p t)) [
  | inl kept ↦ rw kept (h.0, h.1, h.2, in_filter p bits rows cols ts h.3)
  | inr dropped ↦ rw dropped (in_filter p bits rows cols ts h.3)
]

in_append : (bits rows cols : ℕ) (xs ys : List Triple) → AreIn bits rows cols xs → AreIn bits rows cols ys
    → AreIn bits rows cols (xs ++ ys)
in_append bits rows cols [] ys a b = b
in_append bits rows cols (x ∷ xs) ys a b = (a.0, a.1, a.2, in_append bits rows cols xs ys a.3 b)

-- a cell of a matrix, and those of a column, and of columns
abbrev pub cell : Matrix → ℕ → ℕ → Triple
cell m j i = record { row = i; col = j; value = entry m i j }

abbrev pub column : Matrix → ℕ → ℕ → ℕ → List Triple
column m j b r = map (λ i. cell m j i) (range_with_len b r)

abbrev pub columns : Matrix → ℕ → ℕ → List Triple
columns m a n = flat_map (λ j. column m j 0 m.rows) (range_with_len a n)

column_rises : (m : Matrix) (j b r : ℕ) (rest : List Triple) → b + r ≡ m.rows → Rises m.rows ((j + 1) * m.rows) rest
    → Rises m.rows (j * m.rows + b) (column m j b r ++ rest)
column_rises m j b zero rest e h = rises_lower m.rows (j * m.rows + b) ((j + 1) * m.rows) rest (omega (arith, e)) h
column_rises m j b (suc r) rest e h =
    let next = column_rises m j (b + 1) r rest (omega (arith, e)) h in (
      omega arith,
      rises_lower m.rows (j * m.rows + b + 1) (j * m.rows + (b + 1)) (column m j (b + 1) r ++ rest)
          (omega arith) next,
    )

columns_rise : (m : Matrix) (a n : ℕ) → Rises m.rows (a * m.rows) (columns m a n)
columns_rise m a zero = tt
columns_rise m a (suc n) =
    let rest = columns m (a + 1) n in
    rises_lower m.rows (a * m.rows) (a * m.rows + 0) (column m a 0 m.rows ++ rest) (omega arith)
    (column_rises m a 0 m.rows rest (omega arith) (columns_rise m (a + 1) n))

entry_in_range : (bits : ℕ) (m : Matrix) (i j : ℕ) → IsWellMade bits m → i < m.rows → j < m.cols
    → InRange bits (entry m i j)
entry_in_range bits m i j made row col =
    All-get_or (InRange bits) m.cells (i * m.cols + j) (pos 0)
    (omega (arith, cell_within m.rows m.cols i j row col, made.shape.count)) made.in_range

column_in : (bits : ℕ) (m : Matrix) (j b r : ℕ) → IsWellMade bits m → j < m.cols → b + r ≤ m.rows
    → AreIn bits m.rows m.cols (column m j b r)
column_in bits m j b zero made col le = tt
column_in bits m j b (suc r) made col le =
    let row : b < m.rows = omega (arith, le) in
    (row, col, entry_in_range bits m b j made row col, column_in bits m j (b + 1) r made col (omega (arith, le)))

columns_in : (bits : ℕ) (m : Matrix) (a n : ℕ) → IsWellMade bits m → a + n ≤ m.cols
    → AreIn bits m.rows m.cols (columns m a n)
columns_in bits m a zero made le = tt
columns_in bits m a (suc n) made le =
    in_append bits m.rows m.cols (column m a 0 m.rows) (columns m (a + 1) n)
    (column_in bits m a 0 m.rows made (omega (arith, le)) (omega arith))
    (columns_in bits m (a + 1) n made (omega (arith, le)))

pub nonzeros_rise : (m : Matrix) → Rises m.rows 0 (nonzeros m)
nonzeros_rise m = rises_filter (λ t. not (is_zero_value t.value)) m.rows 0 (columns m 0 m.cols)
    (rises_lower m.rows 0 (0 * m.rows) (columns m 0 m.cols) (omega arith) (columns_rise m 0 m.cols))

pub nonzeros_in : (bits : ℕ) (m : Matrix) → IsWellMade bits m → AreIn bits m.rows m.cols (nonzeros m)
nonzeros_in bits m made = in_filter (λ t. not (is_zero_value t.value)) bits m.rows m.cols (columns m 0 m.cols)
    (columns_in bits m 0 m.cols made (omega arith))

-- the sums of a matrix's cells are its entries
column_apart : (m : Matrix) (a b r i j : ℕ) → (a ≡ j → ⊥) → sum_at (column m a b r) i j ≡ pos 0
column_apart m a b zero i j apart = refl
column_apart m a b (suc r) i j apart
    = rw (value_apart (cell m a b) i j (λ row col. apart col), column_apart m a (b + 1) r i j apart) refl

column_before : (m : Matrix) (b r i j : ℕ) → i < b → sum_at (column m j b r) i j ≡ pos 0
column_before m b zero i j lt = refl
column_before m b (suc r) i j lt
    = rw (
      value_apart (cell m j b) i j (λ row col. omega (arith, row, lt)),
      column_before m (b + 1) r i j
          (omega (arith, lt)),
    ) refl

column_here : (m : Matrix) (b r i j : ℕ) → b ≤ i → i < b + r → sum_at (column m j b r) i j ≡ entry m i j
column_here m b zero i j le lt = absurd (omega (arith, le, lt))
column_here m b (suc r) i j le lt = elim (cases_eq b i) [
  | inl here ↦
      let value : value_at (cell m j b) i j ≡ entry m i j = rw (eq-eqb b i here, eq-eqb j j refl, here) refl in
      rw (value, column_before m (b + 1) r i j (omega (arith, here))) (plus_zero (entry m i j))
  | inr other ↦ rw (
    value_apart (cell m j b) i j (λ row col. other row),
    column_here m (b + 1) r i j
        (omega (arith, le, other)) (omega (arith, lt)),
  ) (zero_plus (entry m i j))
]

columns_after : (m : Matrix) (a n i j : ℕ) → j < a → sum_at (columns m a n) i j ≡ pos 0
columns_after m a zero i j lt = refl
columns_after m a (suc n) i j lt =
    sum_append (column m a 0 m.rows) (columns m (a + 1) n) i j
    ∙ rw (
      column_apart m a 0 m.rows i j (λ e. omega (arith, e, lt)),
      columns_after m (a + 1) n i j
          (omega (arith, lt)),
    ) refl

columns_here : (m : Matrix) (a n i j : ℕ) → a ≤ j → j < a + n → i < m.rows → sum_at (columns m a n) i j ≡ entry m i j
columns_here m a zero i j le lt row = absurd (omega (arith, le, lt))
columns_here m a (suc n) i j le lt row = sum_append (column m a 0 m.rows) (columns m (a + 1) n) i j
    ∙ elim (cases_eq a j) [
      | inl here ↦ rw (
        here,
        column_here m 0 m.rows i j (omega arith) (omega (arith, row)),
        columns_after m (j + 1) n i j
            (omega arith),
      ) (plus_zero (entry m i j))
      | inr other ↦ rw (
        column_apart m a 0 m.rows i j other,
        columns_here m (a + 1) n i j (omega (arith, le, other))
            (omega (arith, lt)) row,
      ) (zero_plus (entry m i j))
    ]

zero_is : (v : ℤ) → is_zero_value v ≡ true → v ≡ pos 0
zero_is (pos n) h = ap pos (eqb-true n 0 h)
zero_is (negsuc n) h = absurd cc

value_zero : (t : Triple) (i j : ℕ) → t.value ≡ pos 0 → value_at t i j ≡ pos 0
value_zero t i j h = elim (cases_Bool (t.row == i && t.col == j)) [
  | inl here ↦ rw here h
  | inr there ↦ rw there refl
]

sum_filter : (ts : List Triple) (i j : ℕ) → sum_at (filter (λ t. not (is_zero_value t.value)) ts) i j ≡ sum_at ts i j
sum_filter [] i j = refl
sum_filter (t ∷ ts) i j = elim (cases_Bool (is_zero_value t.value)) [
  | inl none ↦ rw (none, value_zero t i j (zero_is t.value none))
      (sum_filter ts i j ∙ sym (zero_plus (sum_at ts i j)))
  | inr some ↦ rw some (ap (λ (z : ℤ). value_at t i j +ℤ z) (sum_filter ts i j))
]

pub nonzeros_sum : (m : Matrix) (i j : ℕ) → i < m.rows → j < m.cols → sum_at (nonzeros m) i j ≡ entry m i j
nonzeros_sum m i j row col = sum_filter (columns m 0 m.cols) i j
    ∙ columns_here m 0 m.cols i j (omega arith) (omega (arith, col)) row
