-- Cells in panels.
use Rattle.std.proofs.Common.{pow_mono, ◌≡◌, ℕ, ◌+◌, ◌-◌, ◌*◌, ◌/◌, ◌%◌, ◌<◌, ◌≤◌, ◌≢◌, ◌^◌, ◌++◌, min, List, length}
use Rattle.std.proofs.Common.{take, drop, set, length-append, length-drop, get_or, get_or-set_other, get_or-set_same}
use Rattle.std.proofs.Common.{below_more, refl, ap, sym, ◌∙◌, subst, arith, inl, inr}
use Rattle.std.proofs.lemmas.Nat.{div-mul-add, mod-mul-add, div-add-mod', shr_split}
use Rattle.std.proofs.Math.Nat.{mod-eq_of_lt, div-lt_iff_lt-mul, mul_comm, mul-le-mul_left}
use Rattle.std.proofs.lemmas.Bool.{cases_lt}
use Rattle.std.proofs.lemmas.List.{length-take-le, get_or-take, get_or-drop, get_or_default, get_or_append_left}
use Rattle.std.proofs.lemmas.List.{get_or-append_right}
use borrow.Rule.Slice.PartMut.{put_mid, post_of}
use Rattle.cla_table.specs.Places.{first_of, height_of, place_from, place_of, Turns}

-- a row is in its panel
row_in : (panel rows i : ℕ) → 0 < panel → i < rows → i - first_of panel i < height_of panel rows (first_of panel i)
row_in panel rows i some lt =
    let below : i % panel < panel = omega arith in
    omega arith

-- a cell is in its panel, and its panel among the cells
within_from : (first height rows cols i j : ℕ) → i - first < height → first + height ≤ rows → j < cols
    → place_from first height cols i j < rows * cols
within_from first height rows cols i j row few col =
    let next : j + 1 ≤ cols = omega arith in
    omega (arith, mul-le-mul_left height next, mul-le-mul_left cols few)

pub place_within : (panel rows cols i j : ℕ) → 0 < panel → i < rows → j < cols
    → place_of panel rows cols i j < rows * cols
unfolding place_of
place_within panel rows cols i j some row col =
    within_from (first_of panel i) (height_of panel rows (first_of panel i)) rows cols i j
    (row_in panel rows i some row) (omega arith) col

-- the panel of a row
pub first_is : (panel first i : ℕ) → first % panel ≡ 0 → first ≤ i → i < first + panel → first_of panel i ≡ first
first_is panel first i at low high =
    let q = first / panel in
    let whole : first ≡ q * panel = omega (arith, div-add-mod' first panel, at) in
    let split : i ≡ q * panel + (i - first) = omega (arith, whole) in
    let in_panel : i - first < panel = omega arith in
    let rest : i % panel ≡ i - first = ap (λ (n : ℕ). n % panel) split ∙ mod-mul-add q panel (i - first) in_panel in
    omega (arith, rest, low)

-- the next panel's first row
pub next_is : (panel first : ℕ) → 0 < panel → first % panel ≡ 0 → (first + panel) % panel ≡ 0
next_is panel first some at =
    let q = first / panel in
    let split : first + panel ≡ (q + 1) * panel + 0 = omega (arith, div-add-mod' first panel, at) in
    ap (λ (n : ℕ). n % panel) split ∙ mod-mul-add (q + 1) panel 0 some

-- the place of a cell that stands at k in its panel row by row
pub place_in_panel : (panel rows cols first height k : ℕ) → 0 < cols → first % panel ≡ 0
    → height ≡ min panel (rows - first) → k < height * cols
    → place_of panel rows cols ((first * cols + k) / cols)
    ((first * cols + k) % cols) ≡ first * cols + ((k % cols) * height + k / cols)
unfolding place_of
place_in_panel panel rows cols first height k some at is lt =
    let r = k / cols in
    let c = k % cols in
    let col : c < cols = omega arith in
    let row : r < height = (div-lt_iff_lt-mul some).1 lt in
    let split : first * cols + k ≡ (first + r) * cols + c = omega (arith, div-add-mod' k cols) in
    let div : (first * cols + k) / cols ≡ first + r = ap (λ (n : ℕ). n / cols) split
    ∙ div-mul-add (first + r) cols c col in
    let rem : (first * cols + k) % cols ≡ c = ap (λ (n : ℕ). n % cols) split ∙ mod-mul-add (first + r) cols c col in
    let same : first_of panel (first + r) ≡ first = first_is panel first (first + r) at (omega arith)
    (omega (arith, row, is)) in
    rw (div, rem, same, ← is) (omega arith)

-- the place of a cell among the cells of its panel
pub turned_within : (rows cols p : ℕ) → 0 < cols → p < rows * cols → (p % cols) * rows + p / cols < rows * cols
turned_within rows cols p some lt =
    let row : p / cols < rows = (div-lt_iff_lt-mul some).1 lt in
    let col : (p % cols) + 1 ≤ cols = omega arith in
    omega (arith, mul-le-mul_left rows col, mul_comm rows cols, row)

place_at : (rows cols r c : ℕ) → c < cols → ((r * cols + c) % cols) * rows + (r * cols + c) / cols ≡ c * rows + r
place_at rows cols r c lt = rw (mod-mul-add r cols c lt, div-mul-add r cols c lt) refl

-- the next place in a row
pub next_in_row : (rows cols p : ℕ) → 0 < cols → (p % cols) * rows + p / cols + rows < rows * cols
    → (p % cols) * rows + p / cols + rows ≡ ((p + 1) % cols) * rows + (p + 1) / cols
next_in_row rows cols p some inside =
    let split : p + 1 ≡ (p / cols) * cols + (p % cols + 1) = omega (arith, div-add-mod' p cols) in
    elim (cases_lt (p % cols + 1) cols) [
      | inl col ↦ sym (ap (λ (q : ℕ). (q % cols) * rows + q / cols) split
          ∙ place_at rows cols (p / cols) (p % cols + 1) col ∙ omega arith)
      | inr past ↦ absurd (omega (arith, mul-le-mul_left rows past, inside))
    ]

-- the first place of the next row
pub next_row : (rows cols p : ℕ) → 0 < cols → p < rows * cols → rows * cols ≤ (p % cols) * rows + p / cols + rows
    → (p % cols) * rows + p / cols + rows - rows * cols + 1 ≡ ((p + 1) % cols) * rows + (p + 1) / cols
next_row rows cols p some lt past =
    let row : p / cols < rows = (div-lt_iff_lt-mul some).1 lt in
    elim (cases_lt (p % cols + 1) cols) [
      | inl inside ↦ let next : p % cols + 2 ≤ cols = omega arith in absurd
          (omega (arith, mul-le-mul_left rows next, past, row))
      | inr last ↦
          let is : p % cols + 1 ≡ cols = omega (arith, last) in
          let split : p + 1 ≡ (p / cols + 1) * cols + 0 = omega (arith, div-add-mod' p cols, is) in
          let whole : rows * (p % cols + 1) ≡ rows * cols = ap (λ (k : ℕ). rows * k) is in
          sym (ap (λ (q : ℕ). (q % cols) * rows + q / cols) split ∙ place_at rows cols (p / cols + 1) 0 (omega arith)
          ∙ omega (arith, whole))
    ]

-- a write to a part keeps the length
pub put_length : {X : Type 0} (a k : ℕ) (xs ys : List X) → a + k ≤ length xs → length ys ≡ k
    → length (put_mid a k xs ys) ≡ length xs
put_length a k xs ys within same =
    omega (
      arith,
      same,
      length-append (take a xs) (ys ++ post_of a k xs),
      length-append ys
          (post_of a k xs),
      length-take-le a xs (omega arith),
      length-drop k (drop a xs),
      length-drop a xs,
    )

module _ {X : Type 0} (d : X) where
  -- one more cell of a panel
  pub one_more : (old panel : List X) (height cols k : ℕ) (x : X) → k < length panel
      → x ≡ get_or old ((k % cols) * height + k / cols) d
      → ((i : ℕ) → i < k → get_or panel i d ≡ get_or old ((i % cols) * height + i / cols) d)
      → (i : ℕ) → i < k + 1 → get_or (set panel k x) i d ≡ get_or old ((i % cols) * height + i / cols) d
  one_more old panel height cols k x within is so_far =
      below_more _ _
      (λ i h. let ne : i ≢ k = omega arith in rw get_or-set_other (so_far i h))
      (rw get_or-set_same is)

  -- what a write to a part leaves
  put_below : (a k i : ℕ) (xs ys : List X) → i < a → a ≤ length xs → get_or (put_mid a k xs ys) i d ≡ get_or xs i d
  put_below a k i xs ys lt within = get_or_append_left (take a xs) (ys ++ post_of a k xs) d i
      (omega (arith, length-take-le a xs within)) ∙ get_or-take a xs i d lt

  put_at : (a k i : ℕ) (xs ys : List X) → i < length ys → a ≤ length xs
      → get_or (put_mid a k xs ys) (a + i) d ≡ get_or ys i d
  put_at a k i xs ys lt within =
      let front = length-take-le a xs within in
      get_or-append_right (take a xs) (ys ++ post_of a k xs) a (a + i) d front (omega arith)
      ∙ ap (λ (n : ℕ). get_or (ys ++ post_of a k xs) n d) (omega arith)
      ∙ get_or_append_left ys (post_of a k xs) d i lt

  put_above : (a k i : ℕ) (xs ys : List X) → a + k ≤ i → a ≤ length xs → length ys ≡ k
      → get_or (put_mid a k xs ys) i d ≡ get_or xs i d
  put_above a k i xs ys le within same =
      let front = length-take-le a xs within in
      get_or-append_right (take a xs) (ys ++ post_of a k xs) a i d front (omega arith)
      ∙ get_or-append_right ys (post_of a k xs) k (i - a) d same (omega arith)
      ∙ get_or-drop k (drop a xs) (i - a - k) d ∙ get_or-drop a xs (k + (i - a - k)) d
      ∙ ap (λ (n : ℕ). get_or xs n d) (omega arith)

  -- what is read of the scratch
  pub read_is : (scratch old : List X) (place q : ℕ) (x : X) → x ≡ get_or scratch place x → scratch ≡ old → place ≡ q
      → q < length old → x ≡ get_or old q d
  read_is scratch old place q x read same at lt = read ∙ rw (same, at) (get_or_default old q x d lt)

  -- one more panel is turned
  pub panel_done : (panel rows cols first height : ℕ) (old cells part : List X) → 0 < cols → first % panel ≡ 0
      → height ≡ min panel (rows - first) → first < rows
      → length cells ≡ rows * cols → length part ≡ height * cols
      → ((k : ℕ) → k < first * cols
      → get_or cells k d ≡ get_or old (place_of panel rows cols (k / cols) (k % cols)) d)
      → ((k : ℕ) → first * cols ≤ k → get_or cells k d ≡ get_or old k d)
      → ((k : ℕ) → k < height * cols
      → get_or part k d ≡ get_or cells (first * cols + ((k % cols) * height + k / cols)) d)
      → (k : ℕ) → k < (first + height) * cols
      → get_or (put_mid (first * cols) (height * cols) cells part) k d ≡ get_or old
      (place_of panel rows cols (k / cols) (k % cols)) d
  panel_done panel rows cols first height old cells part some at is lt count long done rest turned k below =
      let few : first + height ≤ rows = omega (arith, is, lt) in
      let within : first * cols ≤ length cells = omega (arith, count, mul-le-mul_left cols few) in
      elim (cases_lt k (first * cols)) [
        | inl front ↦ put_below (first * cols) (height * cols) k cells part front within ∙ done k front
        | inr here ↦
            let i = k - first * cols in
            let split : k ≡ first * cols + i = omega arith in
            let in_panel : i < height * cols = omega (arith, below, here) in
            ap (λ (n : ℕ). get_or (put_mid (first * cols) (height * cols) cells part) n d) split
            ∙ put_at (first * cols) (height * cols) i cells part (omega (arith, long, in_panel)) within
            ∙ turned i in_panel ∙ rest (first * cols + ((i % cols) * height + i / cols)) (omega arith)
            ∙ ap (λ (n : ℕ). get_or old n d) (sym (place_in_panel panel rows cols first height i some at is in_panel))
            ∙ ap (λ (n : ℕ). get_or old (place_of panel rows cols (n / cols) (n % cols)) d) (sym split)
      ]

  -- the panels behind it are as they were
  pub panels_left : (cols first height : ℕ) (old cells part : List X) → first * cols ≤ length cells
      → length part ≡ height * cols
      → ((k : ℕ) → first * cols ≤ k → get_or cells k d ≡ get_or old k d)
      → (k : ℕ) → (first + height) * cols ≤ k
      → get_or (put_mid (first * cols) (height * cols) cells part) k d ≡ get_or old k d
  panels_left cols first height old cells part within long rest k above =
      put_above (first * cols) (height * cols) k cells part (omega (arith, above)) within long
      ∙ rest k (omega (arith, above))

  -- what a turned panel has of the cells
  pub part_turned : (a n height cols : ℕ) (xs old part : List X) → old ≡ take n (drop a xs) → n ≡ height * cols
      → 0 < cols → Turns height cols old part → length old ≡ height * cols
      → (k : ℕ) → k < height * cols → get_or part k d ≡ get_or xs (a + ((k % cols) * height + k / cols)) d
  part_turned a n height cols xs old part is wide some turns long k lt =
      let place = (k % cols) * height + k / cols in
      turns k d (omega (arith, lt, long)) ∙ ap (λ (l : List X). get_or l place d) is
      ∙ get_or-take n (drop a xs) place d (omega (arith, wide, turned_within height cols k some lt))
      ∙ get_or-drop a xs place d

-- a panel stands before a later one
apart_below : (panel rows cols i j i' j' : ℕ) → 0 < panel → i < rows → j < cols → i / panel < i' / panel
    → place_of panel rows cols i j < place_of panel rows cols i' j'
unfolding place_of
apart_below panel rows cols i j i' j' some row col lt =
    let first = first_of panel i in
    let height = height_of panel rows first in
    let here : first ≡ (i / panel) * panel = omega (arith, div-add-mod' i panel) in
    let there : first_of panel i' ≡ (i' / panel) * panel = omega (arith, div-add-mod' i' panel) in
    let next : i / panel + 1 ≤ i' / panel = omega (arith, lt) in
    let step = mul-le-mul_left panel next in
    let before : first + height ≤ first_of panel i' = omega (arith, here, there, step) in
    let in_panel : place_from first height cols i j < (first + height) * cols = within_from first height
    (first + height) cols i j (row_in panel rows i some row) (omega arith) col in
    omega (arith, in_panel, mul-le-mul_left cols before)

-- two cells of a panel
same_in_panel : (height j a j' a' : ℕ) → a < height → a' < height → j * height + a ≡ j' * height + a' → (j ≡ j')
    × (a ≡ a')
same_in_panel height j a j' a' lt lt' same = (
  sym (div-mul-add j height a lt) ∙ ap (λ (n : ℕ). n / height) same ∙ div-mul-add j' height a' lt',
  sym (mod-mul-add j height a lt) ∙ ap (λ (n : ℕ). n % height) same ∙ mod-mul-add j' height a' lt',
)

same_panel : (panel rows cols i j i' j' : ℕ) → 0 < panel → i < rows → i' < rows → first_of panel i ≡ first_of panel i'
    → place_of panel rows cols i j ≡ place_of panel rows cols i' j' → (i ≡ i') × (j ≡ j')
unfolding place_of
same_panel panel rows cols i j i' j' some row row' first same =
    let height = height_of panel rows (first_of panel i) in
    let a = row_in panel rows i some row in
    let a' : i' - first_of panel i' < height = rw first (row_in panel rows i' some row') in
    let inner : j * height + (i - first_of panel i) ≡ j' * height + (i' - first_of panel i') = omega (
      arith,
      first,
      subst (λ (f : ℕ). place_from (first_of panel i) height cols i j ≡ place_from f
          (height_of panel rows f) cols i' j') (sym first) same,
    ) in
    let s = same_in_panel height j (i - first_of panel i) j' (i' - first_of panel i') a a' inner in
    (omega (arith, s.1, first), s.0)

-- two cells have two places
pub places_differ : (panel rows cols i j i' j' : ℕ) → 0 < panel → i < rows → i' < rows → j < cols → j' < cols
    → place_of panel rows cols i j ≡ place_of panel rows cols i' j' → (i ≡ i') × (j ≡ j')
places_differ panel rows cols i j i' j' some row row' col col' same = elim (cases_lt (i / panel) (i' / panel)) [
  | inl lt ↦ absurd (omega (arith, apart_below panel rows cols i j i' j' some row col lt, same))
  | inr le ↦ elim (cases_lt (i' / panel) (i / panel)) [
    | inl lt ↦ absurd (omega (arith, apart_below panel rows cols i' j' i j some row' col' lt, same))
    | inr ge ↦
        let q : i / panel ≡ i' / panel = omega (arith, le, ge) in
        let scaled : (i / panel) * panel ≡ (i' / panel) * panel = ap (λ (n : ℕ). n * panel) q in
        same_panel panel rows cols i j i' j' some row row'
        (omega (arith, scaled, div-add-mod' i panel, div-add-mod' i' panel)) same
  ]
]

-- the place of a cell, of its panel's first row and height
pub place_fits : (panel rows cols i j first height : ℕ) → 0 < panel → first ≡ first_of panel i
    → height ≡ height_of panel rows first → i < rows → j < cols → place_from first height cols i j < rows * cols
unfolding place_of
place_fits panel rows cols i j first height some at is row col = rw (is, at)
    (place_within panel rows cols i j some row col)

-- a row with its last bits cleared
pub cleared : (shift i : ℕ) → i < 2 ^ 32 → i / 2 ^ shift * 2 ^ shift % 4294967296 ≡ first_of (2 ^ shift) i
cleared shift i small =
    let split : i / 2 ^ shift * 2 ^ shift + i % 2 ^ shift ≡ i = shr_split i shift in
    let below : i / 2 ^ shift * 2 ^ shift < 4294967296 = omega (arith, split, small) in
    mod-eq_of_lt below ∙ omega (arith, split)

-- a panel of one row stands already as it should
pub single_row : {X : Type 0} (height cols : ℕ) (panel : List X) → height ≡ 1 → length panel ≡ height * cols
    → Turns height cols panel panel
single_row height cols panel one count k d lt =
    let col : k < cols = omega (arith, lt, rw one at count) in
    let split : k ≡ 0 * cols + k = omega arith in
    let at : (k % cols) * 1 + k / cols ≡ k = ap (λ (q : ℕ). (q % cols) * 1 + q / cols) split ∙ place_at 1 cols 0 k col
    ∙ omega arith in
    ap (λ (q : ℕ). get_or panel q d) (sym at) ∙ ap (λ (h : ℕ). get_or panel ((k % cols) * h + k / cols) d) (sym one)

-- so many rows at most stand in a panel
pub panel_rows : (shift : ℕ) → shift ≤ 8 → 1 * 2 ^ shift % 4294967296 ≡ 2 ^ shift
panel_rows shift low =
    let small : 2 ^ shift ≤ 2 ^ 8 = pow_mono low in
    ap (λ (n : ℕ). n % 4294967296) (omega arith) ∙ mod-eq_of_lt (omega (arith, small))
