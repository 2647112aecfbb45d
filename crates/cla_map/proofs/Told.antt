-- The first of the values that stop, over values, tuples and parts.
use Rattle.std.proofs.Common.{◌≡◌, ◌⊎◌, ℕ, ℤ, zero, ◌+◌, ◌*◌, ◌<◌, ◌≤◌, length, Option, Some, None, refl, ap, sym, ◌∙◌}
use Rattle.std.proofs.Common.{arith, inl, inr}
use Rattle.std.proofs.lemmas.Bool.{cases_eq, cases_lt, ne_eqb, eq-eqb, lt-ltb, le-ltb}
use Rattle.cla_spec.specs.Matrix.{most_cells}
use Rattle.cla_num.specs.declared.fault.What.{What}
use Rattle.cla_layout.specs.Groups.{first_row_of, value_of}
use Rattle.cla_layout.specs.Layouts.{Layout, IsWhole, column_at, part_at, entry_in}
use Rattle.cla_layout.proofs.PartFirsts.{cell_of_value, value_of_cell}
use Rattle.cla_map.specs.declared.misfit.Stop.{Stop}
use Rattle.cla_map.specs.declared.misfit.Misfit.{Misfit}
use Rattle.cla_map.specs.Stops.{misfit_of, lesser_of}
use Rattle.cla_map.specs.Answers.{IsPlaced}
use Rattle.cla_map.specs.FirstStops.{key_of, StopsIn, Tells, StopsInParts}

small_keys : (a b : Misfit) → a.place < most_cells → b.place < most_cells
    → (lesser_of (Some a) (Some b) ≡ Some a) × (key_of a ≤ key_of b) ⊎ (lesser_of (Some a) (Some b) ≡ Some b)
    × (key_of b ≤ key_of a)
small_keys a b small also = elim (cases_lt b.op a.op) [
  | inl before ↦ inr (rw (lt-ltb b.op a.op before) refl, omega (arith, before, small, also))
  | inr after ↦ elim (cases_eq b.op a.op) [
    | inl same ↦ elim (cases_lt b.place a.place) [
      | inl less ↦ inr (
        rw (le-ltb b.op a.op after, eq-eqb b.op a.op same, lt-ltb b.place a.place less) refl,
        omega (arith, same, less),
      )
      | inr more ↦ inl (
        rw (le-ltb b.op a.op after, eq-eqb b.op a.op same, le-ltb b.place a.place more) refl,
        omega (arith, same, more),
      )
    ]
    | inr other ↦ (let later : a.op < b.op = grind (arith, after, other) in
        inl (rw (le-ltb b.op a.op after, ne_eqb b.op a.op other) refl, omega (arith, later, small, also)))
  ]
]

-- what fails in one of two sets
pub tells_both : (F G H : ℕ → What → Type 0) (first other : Option Misfit) → IsPlaced first → IsPlaced other
    → ((key : ℕ) (what : What) → F key what → H key what) → ((key : ℕ) (what : What) → G key what → H key what)
    → ((key : ℕ) (what : What) → H key what → F key what ⊎ G key what)
    → Tells F first → Tells G other → Tells H (lesser_of first other) × IsPlaced (lesser_of first other)
tells_both F G H None None placed also from_f from_g split tells tell = (
  (λ key what fails. elim (split key what fails) [
    | inl f ↦ tells key what f
    | inr g ↦ tell key what g
  ]),
  tt,
)
tells_both F G H None (Some b) placed also from_f from_g split tells tell = (
  (
    from_g _ _ tell.0,
    λ key what fails. elim (split key what fails) [
      | inl f ↦ absurd (tells key what f)
      | inr g ↦ tell.1 key what g
    ],
  ),
  also,
)
tells_both F G H (Some a) None placed also from_f from_g split tells tell = (
  (
    from_f _ _ tells.0,
    λ key what fails. elim (split key what fails) [
      | inl f ↦ tells.1 key what f
      | inr g ↦ absurd (tell key what g)
    ],
  ),
  placed,
)
tells_both F G H (Some a) (Some b) placed also from_f from_g split tells tell = elim (small_keys a b placed also) [
  | inl first ↦ rw first.0 (
    (
      from_f _ _ tells.0,
      λ key what fails. elim (split key what fails) [
        | inl f ↦ tells.1 key what f
        | inr g ↦ (let after = tell.1 key what g in omega (arith, after, first.1))
      ],
    ),
    placed,
  )
  | inr other ↦ rw other.0 (
    (
      from_g _ _ tell.0,
      λ key what fails. elim (split key what fails) [
        | inl f ↦ (let after = tells.1 key what f in omega (arith, after, other.1))
        | inr g ↦ tell.1 key what g
      ],
    ),
    also,
  )
]

one : (stop : ℤ → Option Stop) (place : ℕ) (z : ℤ) (s : Option Stop) → stop z ≡ s
    → Tells (StopsIn (λ j. stop) 1 1 (λ i j. place) (λ i j. z)) (misfit_of s place)
one stop place z None is = λ key what fails. (let same : None ≡ Some (record { op = fails.2; what = what }) =
    sym is ∙ fails.5 in cc)
one stop place z (Some s) is = (
  (zero, zero, s.op, omega arith, omega arith, is, refl),
  λ key what fails. (let e : Some s ≡ Some (record { op = fails.2; what = what }) = sym is ∙ fails.5 in
      let both : s ≡ record { op = fails.2; what = what } = cc in
      let same : s.op ≡ fails.2 = ap (λ (t : Stop). t.op) both in
      omega (arith, same, fails.6)),
)

-- of one value
pub tells_one : (stop : ℤ → Option Stop) (place : ℕ) (z : ℤ)
    → Tells (StopsIn (λ j. stop) 1 1 (λ i j. place) (λ i j. z)) (misfit_of (stop z) place)
tells_one stop place z = one stop place z (stop z) refl

-- the same set, told in other words
pub tells_same : (F G : ℕ → What → Type 0) (first : Option Misfit) → ((key : ℕ) (what : What) → F key what → G key what)
    → ((key : ℕ) (what : What) → G key what → (k : ℕ) × (w : What) × F k w × (k ≤ key)) → Tells F first → Tells G first
tells_same F G None there back tells = λ key what fails. (let f = back key what fails in tells f.0 f.1 f.2)
tells_same F G (Some m) there back tells = (
  there _ _ tells.0,
  λ key what fails. (let f = back key what fails in let least = tells.1 f.0 f.1 f.2 in
      omega (arith, least, f.3)),
)

-- a tuple's value that stops is a cell that stops, and a cell that stops has a value whose first cell is no later
value_to_cell : (bits : ℕ) (layout : Layout) (stop : ℕ → ℤ → Option Stop) (place : ℕ → ℕ → ℕ) → IsWhole bits layout
    → (key : ℕ) (what : What)
    → StopsInParts stop place layout.parts (length layout.parts) key what
    → StopsIn stop layout.rows layout.cols place (entry_in layout.parts) key what
value_to_cell bits layout stop place whole key what (q, there, (k, c, op, tuple, col, stops, is)) =
    let part = part_at layout.parts q in
    let cell = cell_of_value bits layout q k c whole there tuple col in (
      first_row_of part.codes k,
      column_at part.columns c,
      op,
      cell.0,
      cell.1,
      ap (stop (column_at part.columns c)) cell.2 ∙ stops,
      is,
    )

cell_to_value : (bits : ℕ) (layout : Layout) (stop : ℕ → ℤ → Option Stop) (place : ℕ → ℕ → ℕ) → IsWhole bits layout
    → ((i r j : ℕ) → i ≤ r → place i j ≤ place r j) → (key : ℕ) (what : What)
    → StopsIn stop layout.rows layout.cols place (entry_in layout.parts) key what
    → (k : ℕ) × (w : What) × StopsInParts stop place layout.parts (length layout.parts) k w × (k ≤ key)
cell_to_value bits layout stop place whole rises key what (i, j, op, row, col, stops, at) =
    let value = value_of_cell bits layout i j whole row col in
    let part = part_at layout.parts value.0 in
    let k = value.1 in
    let c = value.2 in
    let is = value.3 in
    let first = first_row_of part.codes k in
    let before : place first (column_at part.columns c) ≤ place i j = rw is.column (rises first i j is.first) in (
      op * most_cells + place first (column_at part.columns c),
      what,
      (
        value.0,
        is.there,
        (
          k,
          c,
          op,
          is.tuple,
          is.place,
          ap (λ (d : ℕ). stop d (value_of part.tuples k c)) is.column
              ∙ ap (stop j) (sym is.entry) ∙ stops,
          refl,
        ),
      ),
      omega (arith, before, at),
    )

-- of a whole layout the first of the values is the first of the cells
pub tells_cells : (bits : ℕ) (layout : Layout) (stop : ℕ → ℤ → Option Stop) (place : ℕ → ℕ → ℕ) (first : Option Misfit)
    → IsWhole bits layout → ((i r j : ℕ) → i ≤ r → place i j ≤ place r j)
    → Tells (StopsInParts stop place layout.parts (length layout.parts)) first
    → Tells (StopsIn stop layout.rows layout.cols place (entry_in layout.parts)) first
tells_cells bits layout stop place first whole rises =
    tells_same (StopsInParts stop place layout.parts (length layout.parts))
    (StopsIn stop layout.rows layout.cols place (entry_in layout.parts)) first
    (value_to_cell bits layout stop place whole) (cell_to_value bits layout stop place whole rises)

turned : (stop : ℤ → Option Stop) (rows cols : ℕ) (place : ℕ → ℕ → ℕ) (entry : ℕ → ℕ → ℤ) (key : ℕ) (what : What)
    → StopsIn (λ j. stop) rows cols place entry key what
    → StopsIn (λ j. stop) cols rows (λ i j. place j i) (λ i j. entry j i) key what
turned stop rows cols place entry key what (i, j, op, row, col, stops, is) = (j, i, op, col, row, stops, is)

still : (stop : ℤ → Option Stop) (rows cols : ℕ) (place : ℕ → ℕ → ℕ) (entry : ℕ → ℕ → ℤ) (key : ℕ) (what : What)
    → StopsIn (λ j. stop) cols rows (λ i j. place j i) (λ i j. entry j i) key what
    → (k : ℕ) × (w : What) × StopsIn (λ j. stop) rows cols place entry k w × (k ≤ key)
still stop rows cols place entry key what (i, j, op, row, col, stops, is) =
    (key, what, (j, i, op, col, row, stops, is), omega arith)

-- rows and columns exchanged
pub tells_turned : (stop : ℤ → Option Stop) (rows cols : ℕ) (place : ℕ → ℕ → ℕ) (entry : ℕ → ℕ → ℤ)
    (first : Option Misfit) → Tells (StopsIn (λ j. stop) rows cols place entry) first
    → Tells (StopsIn (λ j. stop) cols rows (λ i j. place j i) (λ i j. entry j i)) first
tells_turned stop rows cols place entry first =
    tells_same (StopsIn (λ j. stop) rows cols place entry)
    (StopsIn (λ j. stop) cols rows (λ i j. place j i) (λ i j. entry j i)) first (turned stop rows cols place entry)
    (still stop rows cols place entry)
