-- What is made of each column of the parts, at the column's place.
use Rattle.std.proofs.Common.{◌≡◌, ℕ, ℤ, pos, true, false, ◌+◌, ◌*◌, ◌^◌, ◌<◌, ◌≤◌, ◌*ℤ◌, List, length, set, ap, subst}
use Rattle.std.proofs.Common.{sym, ◌∙◌, arith, inl, inr}
use Rattle.std.proofs.Math.IntN.{*ℤ_comm}
use Rattle.std.proofs.lemmas.Bool.{cases_Bool, cases_eq, cases_lt, ltb-true}
use Rattle.std.proofs.lemmas.List.{get_or-set_same, get_or-set_other}
use Rattle.std.specs.Int.RustNames.{unsigned_abs}
use Rattle.cla_spec.specs.Numbers.{sum_to}
use Rattle.cla_spec.specs.Matrix.{most_cells}
use Rattle.cla_spec.proofs.Sums.{sum_to-same, sum_to-size}
use Rattle.cla_num.specs.Bits.{IsSupported, value_bound}
use Rattle.cla_layout.specs.Groups.{at, cell_of, value_of, occurrences_of, IsGroup}
use Rattle.cla_layout.specs.Layouts.{LayoutPart, Layout, IsWhole, column_at, index_of, part_at, has_column, entry_in}
use Rattle.cla_layout.proofs.Bounds.{rows_few}
use Rattle.cla_layout.proofs.Cells.{occurring, occurring_size, tuples_few}
use Rattle.cla_layout.proofs.Regroup.{regroup}
use Rattle.cla_layout.proofs.Columns.{Rise}
use Rattle.cla_layout.proofs.Matrices.{column_there}
use Rattle.cla_layout.proofs.Wholes.{own_column, own_column_within, only_part, some_part, entry_of_part}
use Rattle.cla_agg.specs.Lines.{ArePlaced}

-- two columns of a part are different
columns_differ : (columns : List ℕ) (c d : ℕ) → Rise columns → c < length columns → d < length columns → (d ≡ c → ⊥)
    → column_at columns d ≡ column_at columns c → ⊥
columns_differ columns c d rising there also other same = elim (cases_lt c d) [
  | inl before ↦ omega (arith, rising c d before also, same)
  | inr after ↦ (let less : d < c = grind (arith, after, other) in omega (arith, rising d c less there, same))
]

-- a place is written, which is that of the part's column in place c
pub record IsPlaceOf (part : LayoutPart) (now : List ℤ) (c p : ℕ) : Type 0 where
  pub rising : Rise part.columns
  pub there : c < length part.columns
  pub is : p ≡ column_at part.columns c
  pub within : p < length now

pub set_here : (part : LayoutPart) (now : List ℤ) (c p : ℕ) (v : ℤ) → IsPlaceOf part now c p →
    at (set now p v) (column_at part.columns c) ≡ v
set_here part now c p v place =
    ap (at (set now p v)) (sym place.is) ∙ get_or-set_same now p v (pos 0) place.within

pub set_there : (part : LayoutPart) (now : List ℤ) (c p d : ℕ) (v : ℤ) → IsPlaceOf part now c p →
    d < length part.columns → (d ≡ c → ⊥)
    → at (set now p v) (column_at part.columns d) ≡ at now (column_at part.columns d)
set_there part now c p d v place also other =
    get_or-set_other now p (column_at part.columns d) v (pos 0)
    (λ same. columns_differ part.columns c d place.rising place.there also other (same ∙ place.is))

pub set_elsewhere : (part : LayoutPart) (now : List ℤ) (c p j : ℕ) (v : ℤ) → IsPlaceOf part now c p →
    has_column part j ≡ false
    → at (set now p v) j ≡ at now j
set_elsewhere part now c p j v place none =
    get_or-set_other now p j v (pos 0)
    (λ same. (let own = (own_column part c place.rising place.there).1 in
    let both : true ≡ false = sym own ∙ ap (has_column part) (sym (same ∙ place.is)) ∙ none in absurd (cc both)))

-- what is made of the columns before place c, and what the others still are
pub record AreMadeBefore (Done Left : ℕ → ℤ → Type 0) (c : ℕ) (part : LayoutPart) (old new : List ℤ) : Type 0 where
  pub done : (d : ℕ) → d < c → Done d (at new (column_at part.columns d))
  pub left : (d : ℕ) → c ≤ d → d < length part.columns → Left d (at new (column_at part.columns d))
  pub kept : (j : ℕ) → has_column part j ≡ false → at new j ≡ at old j

pub made_here : (Done Left : ℕ → ℤ → Type 0) (c : ℕ) (part : LayoutPart) (old now : List ℤ) (p : ℕ) (v : ℤ)
    → IsPlaceOf part now c p → Done c v
    → AreMadeBefore Done Left c part old now → AreMadeBefore Done Left (c + 1) part old (set now p v)
made_here Done Left c part old now p v place is before = record {
  done = λ d lt. elim (cases_eq d c) [
    | inl same ↦ subst (λ (e : ℕ). Done e (at (set now p v) (column_at part.columns e))) (sym same)
        (subst (Done c) (sym (set_here part now c p v place)) is)
    | inr other ↦ (let earlier : d < c = grind (arith, lt, other) in
        let place_there : d < length part.columns = omega (arith, earlier, place.there) in
        subst (Done d) (sym (set_there part now c p d v place place_there other)) (before.done d earlier))
  ];
  left = λ d le there. (let other : d ≡ c → ⊥ = λ same. omega (arith, le, same) in
      let later : c ≤ d = omega (arith, le) in
      subst (Left d) (sym (set_there part now c p d v place there other)) (before.left d later there));
  kept = λ j none. set_elsewhere part now c p j v place none ∙ before.kept j none;
}

-- the tuples up to `end` are added up before place c, and those up to `from` in the others
abbrev pub AreAddedBefore : ℕ → ℕ → ℕ → LayoutPart → List ℤ → List ℤ → Type 0
AreAddedBefore from end c part old new =
    AreMadeBefore (λ d v. v ≡ sum_to (λ l. occurring part.codes part.tuples l d) end)
    (λ d v. v ≡ sum_to (λ l. occurring part.codes part.tuples l d) from) c part old new

pub added_here : (from end c : ℕ) (part : LayoutPart) (old now : List ℤ) (p : ℕ) (v : ℤ) → IsPlaceOf part now c p
    → v ≡ sum_to (λ l. occurring part.codes part.tuples l c) end
    → AreAddedBefore from end c part old now → AreAddedBefore from end (c + 1) part old (set now p v)
added_here from end c part old now p v place is before =
    made_here (λ d z. z ≡ sum_to (λ l. occurring part.codes part.tuples l d) end)
    (λ d z. z ≡ sum_to (λ l. occurring part.codes part.tuples l d) from) c part old now p v place is before

-- what is made of a line depends on its values alone
abbrev pub Respects : ((ℕ → ℤ) → ℕ → ℤ → Type 0) → Type 0
Respects Of = (f g : ℕ → ℤ) (n : ℕ) (v : ℤ) → ((i : ℕ) → i < n → f i ≡ g i) → Of f n v → Of g n v

-- the columns of the first n parts are made, and no other place is written
pub record ArePartsPlaced (Of : (ℕ → ℤ) → ℕ → ℤ → Type 0) (layout : Layout) (n : ℕ) (old new : List ℤ) : Type 0 where
  pub made : (q j : ℕ) → q < n → j < layout.cols → has_column (part_at layout.parts q) j ≡ true
      → Of (λ i. entry_in layout.parts i j) layout.rows (at new j)
  pub kept : (j : ℕ) → ((q : ℕ) → q < n → has_column (part_at layout.parts q) j ≡ false) → at new j ≡ at old j

-- a column of a part, in its place
part_made : (Of : (ℕ → ℤ) → ℕ → ℤ → Type 0) → Respects Of → (bits : ℕ) (layout : Layout) (q j : ℕ) (old new : List ℤ) →
    IsWhole bits layout
    → q < length layout.parts → j < layout.cols → has_column (part_at layout.parts q) j ≡ true
    → ArePlaced Of (part_at layout.parts q) old new → Of (λ i. entry_in layout.parts i j) layout.rows (at new j)
part_made Of respects bits layout q j old new whole there col has placed =
    let part = part_at layout.parts q in
    let is = whole.each q there in
    let c = index_of part.columns j in
    let place = ltb-true _ _ has in
    let column : column_at part.columns c ≡ j = column_there part.columns j place in
    let cells = λ (i : ℕ). cell_of part.codes part.tuples i c in
    let made = subst (λ (n : ℕ). Of cells n (at new (column_at part.columns c))) is.a_code_each (placed.made c place) in
    respects cells (λ i. entry_in layout.parts i j) layout.rows (at new j)
    (λ i row. sym (entry_of_part layout.cols layout.parts q i j whole.partition there col has))
    (subst (λ (e : ℕ). Of cells layout.rows (at new e)) column made)

pub parts_placed : (Of : (ℕ → ℤ) → ℕ → ℤ → Type 0) → Respects Of →
    (bits : ℕ) (layout : Layout) (n : ℕ) (old now next : List ℤ)
    → IsWhole bits layout → n < length layout.parts → ArePlaced Of (part_at layout.parts n) now next
    → ArePartsPlaced Of layout n old now → ArePartsPlaced Of layout (n + 1) old next
parts_placed Of respects bits layout n old now next whole there placed before = record {
  made = λ q j lt col has. elim (cases_eq q n) [
    | inl same ↦ part_made Of respects bits layout n j now next whole there col
        (ap (λ (p : ℕ). has_column (part_at layout.parts p) j) (sym same) ∙ has) placed
    | inr other ↦ (let earlier : q < n = grind (arith, lt, other) in
        elim (cases_Bool (has_column (part_at layout.parts n) j)) [
          | inl also ↦ absurd
              (other (only_part layout.cols layout.parts q n j whole.partition (omega (arith, earlier, there)) there col
              has
              also))
          | inr none ↦ subst (Of (λ i. entry_in layout.parts i j) layout.rows) (sym (placed.kept j none))
              (before.made q j earlier col has)
        ])
  ];
  kept = λ j none. placed.kept j (none n (omega arith)) ∙ before.kept j (λ q lt. none q (omega (arith, lt)));
}

-- the places of a part's columns are not yet written
pub not_yet : (Of : (ℕ → ℤ) → ℕ → ℤ → Type 0) (bits : ℕ) (layout : Layout) (n c : ℕ) (old now : List ℤ) →
    IsWhole bits layout
    → n < length layout.parts → c < length (part_at layout.parts n).columns → ArePartsPlaced Of layout n old now
    → at now (column_at (part_at layout.parts n).columns c) ≡ at old (column_at (part_at layout.parts n).columns c)
not_yet Of bits layout n c old now whole there place before =
    let part = part_at layout.parts n in
    let j = column_at part.columns c in
    let own = (own_column part c (whole.each n there).rising place).1 in
    let col = own_column_within layout.cols layout.parts n j whole.partition there own in
    before.kept j (λ q lt. elim (cases_Bool (has_column (part_at layout.parts q) j)) [
      | inl also ↦ (let same = only_part layout.cols layout.parts q n j whole.partition (omega (arith, lt, there)) there
          col also own in
          absurd (omega (arith, lt, same)))
      | inr none ↦ none
    ])

-- all columns are made
pub all_placed : (Of : (ℕ → ℤ) → ℕ → ℤ → Type 0) (bits : ℕ) (layout : Layout) (n : ℕ) (old now : List ℤ) →
    IsWhole bits layout
    → length layout.parts ≤ n → ArePartsPlaced Of layout n old now
    → (j : ℕ) → j < layout.cols → Of (λ i. entry_in layout.parts i j) layout.rows (at now j)
all_placed Of bits layout n old now whole all placed j col =
    let found = some_part layout.cols layout.parts j whole.partition col in
    placed.made found.0 j (omega (arith, found.1, all)) col found.2

-- how large the sum of a column over the first n tuples can be
pub column_size : (bits width : ℕ) (codes : List ℕ) (tuples : List (List ℤ)) → IsGroup bits width codes tuples →
    IsSupported bits → (c n : ℕ)
    → c < width → n ≤ length tuples → unsigned_abs (sum_to (λ l. occurring codes tuples l c) n) < 2 ^ 127
column_size bits width codes tuples is supported c n col within =
    omega (
      arith,
      within,
      tuples_few bits width codes tuples is,
      rows_few bits width codes tuples is,
      sum_to-size (λ l. occurring codes tuples l c) (value_bound * most_cells) n
          (λ k lt. occurring_size bits width codes tuples is supported k c (omega (arith, lt, within)) col),
    )

-- a column's sum, by its tuples
pub column_by_tuples : (bits width : ℕ) (codes : List ℕ) (tuples : List (List ℤ)) (c : ℕ) →
    IsGroup bits width codes tuples
    → sum_to (λ i. cell_of codes tuples i c) (length codes) ≡ sum_to (λ l. occurring codes tuples l c) (length tuples)
column_by_tuples bits width codes tuples c is =
    regroup (λ k. value_of tuples k c) codes (length tuples) is.in_tuples
    ∙ sum_to-same (λ k. pos (occurrences_of codes k) *ℤ value_of tuples k c) (λ l. occurring codes tuples l c)
    (length tuples)
    (λ k lt. *ℤ_comm (pos (occurrences_of codes k)) (value_of tuples k c))
