-- What an entry line adds to what has been read.
use Rattle.std.proofs.Common.{◌≡◌, ◌≢◌, ℕ, ℤ, pos, ◌<◌, ◌^◌, ◌+ℤ◌, List, [], ◌∷◌, ◌++◌, length, true, false, Bool, Ok}
use Rattle.std.proofs.Common.{Err, inl, inr, refl, sym, ap, ◌∙◌, arith}
use Rattle.std.specs.List.{list_all}
use Rattle.std.specs.Int.RustNames.{unsigned_abs}
use Rattle.std.proofs.lemmas.Bool.{cases_eq, eq-eqb, ne_eqb, eqb-true, lt-ltb}
use Rattle.std.proofs.lemmas.Grind.{flat_map-append}
use Rattle.std.proofs.lemmas.Int.{ints}
use Rattle.std.proofs.lemmas.List.{append-nil}
use Rattle.cla_spec.specs.Matrix.{Matrix, entry}
use Rattle.cla_spec.specs.Numbers.{in_range}
use Rattle.cla_market.specs.declared.banner.Banner.{Banner}
use Rattle.cla_market.specs.declared.banner.Format.TheVariants.{Array}
use Rattle.cla_market.specs.declared.banner.Symmetry.{Symmetry}
use Rattle.cla_market.specs.declared.banner.Symmetry.TheVariants.{General, Symmetric, SkewSymmetric}
use Rattle.cla_market.specs.declared.fault.MtxFault.TheVariants as faults
use Rattle.cla_market.specs.declared.size.Size.{Size}
use Rattle.cla_market.specs.Results.{one_of}
use Rattle.cla_market.specs.Sizes.{is_square}
use Rattle.cla_market.specs.Entries.{Triple, entry_in, array_cell, array_entry, added_by, entries_added, value_at}
use Rattle.cla_market.specs.Entries.{sum_at}
use Rattle.cla_market.specs.Texts.{AtEntries, with_line, with_triple, is_skipped}
use Rattle.cla_mtx.specs.Sums.{AreInRange, AddsAll, HasSums, all_fit}

-- the entry of an array file
pub array_entry_is : (bits : ℕ) (banner : Banner) (size : Size) (n : ℕ) (words : List (List ℕ)) (cell : ℕ × ℕ)
    → banner.format ≡ Array → array_cell banner.symmetry size n ≡ cell
    → entry_in bits banner size n words ≡ array_entry bits cell (one_of words)
unfolding entry_in
array_entry_is bits banner size n words cell format is =
    rw format (ap (λ (c : ℕ × ℕ). array_entry bits c (one_of words)) is)

plus_more : (a b c : ℤ) → a +ℤ (b +ℤ c) ≡ (a +ℤ b) +ℤ c
plus_more a b c = omega (arith, ints)

plus_none : (a : ℤ) → a ≡ pos 0 +ℤ a
plus_none a = omega (arith, ints)

sum_both : (ts us : List Triple) (i j : ℕ) → sum_at (ts ++ us) i j ≡ sum_at ts i j +ℤ sum_at us i j
sum_both [] us i j = plus_none (sum_at us i j)
sum_both (t ∷ ts) us i j = ap (λ (z : ℤ). value_at t i j +ℤ z) (sum_both ts us i j)
    ∙ plus_more (value_at t i j) (sum_at ts i j) (sum_at us i j)

-- the sums with one more entry
sum_more : (mirroring : Symmetry) (ts : List Triple) (t : Triple) (i j : ℕ)
    → sum_at (entries_added mirroring (ts ++ t ∷ [])) i j
    ≡ sum_at (entries_added mirroring ts) i j +ℤ sum_at (added_by mirroring t) i j
sum_more mirroring ts t i j =
    ap (λ (us : List Triple). sum_at us i j)
    (flat_map-append (added_by mirroring) ts (t ∷ [])
    ∙ ap (λ (us : List Triple). entries_added mirroring ts ++ us) (append-nil (added_by mirroring t)))
    ∙ sum_both (entries_added mirroring ts) (added_by mirroring t) i j

-- these triples are within a shape
abbrev AreWithin : ℕ → ℕ → List Triple → Type 0
AreWithin rows cols [] = Unit {0}
AreWithin rows cols (t ∷ ts) = (t.row < rows) × (t.col < cols) × AreWithin rows cols ts

added_within : (mirroring : Symmetry) (t : Triple) (rows cols : ℕ) → is_square mirroring rows cols ≡ true
    → t.row < rows → t.col < cols → AreWithin rows cols (added_by mirroring t)
added_within General t rows cols square row col = (row, col, tt)
added_within Symmetric t rows cols square row col =
    let same = eqb-true rows cols square in
    elim (cases_eq t.row t.col) [
      | inl diagonal ↦ rw (eq-eqb t.row t.col diagonal) (row, col, tt)
      | inr other ↦ rw (ne_eqb t.row t.col other) (row, col, (omega (arith, col, same), omega (arith, row, same), tt))
    ]
added_within SkewSymmetric t rows cols square row col =
    let same = eqb-true rows cols square in
    (row, col, (omega (arith, col, same), omega (arith, row, same), tt))

same_tests : (f g : Triple → Bool) (rows cols : ℕ) (ts : List Triple) → AreWithin rows cols ts
    → ((t : Triple) → t.row < rows → t.col < cols → f t ≡ g t) → list_all f ts ≡ list_all g ts
same_tests f g rows cols [] within same = refl
same_tests f g rows cols (t ∷ ts) within same =
    rw (same t within.0 within.1, same_tests f g rows cols ts within.2 same) refl

all_pass : (f : Triple → Bool) (rows cols : ℕ) (ts : List Triple) → AreWithin rows cols ts
    → ((t : Triple) → t.row < rows → t.col < cols → f t ≡ true) → list_all f ts ≡ true
all_pass f rows cols [] within passes = refl
all_pass f rows cols (t ∷ ts) within passes =
    rw (passes t within.0 within.1, all_pass f rows cols ts within.2 passes) refl

module _ (bits n : ℕ) (banner : Banner) (size : Size) (ts : List Triple) (t : Triple) (table : Matrix)
    (same_rows : table.rows ≡ size.rows) (same_cols : table.cols ≡ size.cols)
    (square : is_square banner.symmetry size.rows size.cols ≡ true) (row : t.row < size.rows) (col : t.col < size.cols)
    (sums : HasSums table (entries_added banner.symmetry ts)) where
  within : AreWithin table.rows table.cols (added_by banner.symmetry t)
  within = added_within banner.symmetry t table.rows table.cols (rw (same_rows, same_cols) square)
      (omega (arith, row, same_rows)) (omega (arith, col, same_cols))

  -- the sums of the definition are those of the table
  fits_is : list_all (λ (a : Triple). in_range bits (sum_at (entries_added banner.symmetry (ts ++ t ∷ [])) a.row a.col))
      (added_by banner.symmetry t) ≡ all_fit bits table (added_by banner.symmetry t)
  fits_is = same_tests _ _ table.rows table.cols (added_by banner.symmetry t) within (λ a low left.
      ap (in_range bits) (sum_more banner.symmetry ts t a.row a.col
      ∙ ap (λ (z : ℤ). z +ℤ sum_at (added_by banner.symmetry t) a.row a.col) (sym (sums.at a.row a.col low left))))

  -- a line of this triple
  line_is : (words : List (List ℕ)) → is_skipped words ≡ false → length ts ≢ size.entries
      → Ok t ≡ entry_in bits banner size (length ts) words
      → with_line bits n (AtEntries banner size ts) words ≡ with_triple bits n banner size ts t
  unfolding with_line
  line_is words some more is = rw (some, ne_eqb (length ts) size.entries more, ← is) refl

  -- a sum isn't in range
  pub out_of_range : (words : List (List ℕ)) → is_skipped words ≡ false → length ts ≢ size.entries
      → Ok t ≡ entry_in bits banner size (length ts) words → all_fit bits table (added_by banner.symmetry t) ≡ false
      → with_line bits n (AtEntries banner size ts) words ≡ Err (faults.Range n)
  out_of_range words some more is no_fit = line_is words some more is ∙ rw (fits_is ∙ no_fit) refl

  -- all sums are in range
  pub in_range_all : (words : List (List ℕ)) → is_skipped words ≡ false → length ts ≢ size.entries
      → Ok t ≡ entry_in bits banner size (length ts) words → (new : Matrix)
      → AddsAll table new (added_by banner.symmetry t) → AreInRange bits new
      → with_line bits n (AtEntries banner size ts) words ≡ Ok (AtEntries banner size (ts ++ t ∷ []))
  in_range_all words some more is new adds fit =
      let all = all_pass (λ (a : Triple). in_range bits (entry table a.row a.col +ℤ
      sum_at (added_by banner.symmetry t) a.row a.col)) table.rows table.cols (added_by banner.symmetry t) within
      (λ a low left. ap (in_range bits) (sym (adds.grown a.row a.col low left))
      ∙ lt-ltb (unsigned_abs (entry new a.row a.col)) (2 ^ bits)
      (fit a.row a.col (omega (arith, low, adds.same_rows)) (omega (arith, left, adds.same_cols)))) in
      line_is words some more is ∙ rw (fits_is ∙ all) refl

  -- the table has the sums with one more entry
  pub sums_more : (new : Matrix) → AddsAll table new (added_by banner.symmetry t)
      → HasSums new (entries_added banner.symmetry (ts ++ t ∷ []))
  sums_more new adds = record {
    at = λ i j low left.
        (let low' : i < table.rows = omega (arith, low, adds.same_rows) in
        let left' : j < table.cols = omega (arith, left, adds.same_cols) in
        adds.grown i j low' left'
        ∙ ap (λ (z : ℤ). z +ℤ sum_at (added_by banner.symmetry t) i j) (sums.at i j low' left')
        ∙ sym (sum_more banner.symmetry ts t i j));
  }
