-- A canonical layout is fixed by its matrix, the columns of its parts and their kinds.
use Rattle.std.proofs.Common.{◌≡◌, ℕ, ℤ, pos, ◌<◌, ◌≤◌, true, List, [], ◌∷◌, ◌++◌, length, get_or, map, refl, sym, ap}
use Rattle.std.proofs.Common.{subst, ◌∙◌, append_assoc, arith, inl, inr}
use Rattle.std.specs.List.{range_with_len}
use Rattle.std.proofs.lemmas.Bool.{cases_lt, lt-ltb}
use Rattle.std.proofs.lemmas.List.{ext_get_or, length-map, length-append, get_or-map, get_or_append_left, get_or_at}
use Rattle.cla_spec.specs.Matrix.{Matrix, entry}
use Rattle.cla_layout.specs.declared.kind.Kind.{Kind}
use Rattle.cla_layout.specs.declared.kind.Kind.TheVariants as kind
use Rattle.cla_layout.specs.Groups.{code_of, first_row_of, cell_of, AreNumbered}
use Rattle.cla_layout.specs.GroupLaws.{AreCodesOf}
use Rattle.cla_layout.specs.Layouts.{LayoutPart, Layout, IsPart, StandsFor, part_at, no_part, column_at, matrix_in}
use Rattle.cla_layout.specs.Canonical.{AreDistinct, HasKind, IsCanonical, kind_at}
use Rattle.cla_layout.specs.Values.{different_codes}
use Rattle.cla_layout.proofs.Matrices.{stands}
use Rattle.cla_layout.proofs.PartValues.{codes_count_tuples}
use Rattle.cla_packed.specs.Fields.{EachIs}
use Rattle.cla_packed.specs.Codes.{has, different, fits_code}
use Rattle.cla_packed.specs.Bodies.{AreCanonical}
use Rattle.cla_packed_laws.proofs.Codes.{AreThoseBelow, none_below, one_more, first_among, first_holds, has_occurring}
use Rattle.cla_packed_laws.proofs.Codes.{fits_parts, codes_fit}

-- ---- codes

-- rows that have one code in xs have one in ys
abbrev Follow : List ℕ → List ℕ → Type 0
Follow xs ys = (i j : ℕ) → i < length xs → j < length xs → code_of xs i ≡ code_of xs j → code_of ys i ≡ code_of ys j

-- a code that has occurred is the same in both
old_same : (so_far a b xs ys : List ℕ) (k l : ℕ) → xs ≡ so_far ++ k ∷ a → ys ≡ so_far ++ l ∷ b → Follow xs ys
    → has so_far k ≡ true → l ≡ k
old_same so_far a b xs ys k l e f follow there =
    let i = first_row_of so_far k in
    let row : i < length so_far = (first_among so_far [] k there).1 in
    let size = ap (λ (zs : List ℕ). length zs) e ∙ length-append so_far (k ∷ a) in
    let at : code_of so_far i ≡ k = first_holds so_far k there in
    let x_i : code_of xs i ≡ k = ap (λ (zs : List ℕ). code_of zs i) e ∙ get_or_append_left so_far (k ∷ a) 0 i row
    ∙ at in
    let x_here : code_of xs (length so_far) ≡ k = ap (λ (zs : List ℕ). code_of zs (length so_far)) e
    ∙ get_or_at so_far k a 0 (length so_far) refl in
    let y_i : code_of ys i ≡ k = ap (λ (zs : List ℕ). code_of zs i) f ∙ get_or_append_left so_far (l ∷ b) 0 i row
    ∙ at in
    let y_here : code_of ys (length so_far) ≡ l = ap (λ (zs : List ℕ). code_of zs (length so_far)) f
    ∙ get_or_at so_far l b 0 (length so_far) refl in
    let same = follow i (length so_far) (omega (arith, row, size)) (omega (arith, size)) (x_i ∙ sym x_here) in
    sym y_here ∙ sym same ∙ y_i

codes_same : (d n : ℕ) (so_far a b xs ys : List ℕ) → length a ≡ length b → xs ≡ so_far ++ a → ys ≡ so_far ++ b
    → EachIs (λ left so_far k. fits_code d left so_far k ≡ true) so_far a
    → EachIs (λ left so_far k. fits_code n left so_far k ≡ true) so_far b
    → Follow xs ys → Follow ys xs → AreThoseBelow (different so_far) so_far → a ≡ b
codes_same d n so_far [] [] xs ys size e f g h there back below = refl
codes_same d n so_far [] (l ∷ b) xs ys size e f g h there back below = absurd (omega (arith, size))
codes_same d n so_far (k ∷ a) [] xs ys size e f g h there back below = absurd (omega (arith, size))
codes_same d n so_far (k ∷ a) (l ∷ b) xs ys size e f g h there back below =
    let k_le : k ≤ different so_far = (fits_parts d (length a) k so_far g.0).1 in
    let l_le : l ≤ different so_far = (fits_parts n (length b) l so_far h.0).1 in
    let same : l ≡ k = elim (cases_lt k (different so_far)) [
      | inl old ↦ old_same so_far a b xs ys k l e f there (below k ∙ lt-ltb k (different so_far) old)
      | inr new ↦ elim (cases_lt l (different so_far)) [
        | inl other ↦ sym (old_same so_far b a ys xs l k f e back (below l ∙ lt-ltb l (different so_far) other))
        | inr last ↦ omega (arith, k_le, l_le, new, last)
      ]
    ] in
    let f_same : ys ≡ so_far ++ k ∷ b = f ∙ ap (λ (m : ℕ). so_far ++ m ∷ b) same in
    let h_same = subst (λ (m : ℕ). EachIs (λ left so_far k. fits_code n left so_far k ≡ true) (so_far
    ++ m ∷ []) b) same h.1 in
    let more = codes_same d n (so_far ++ k ∷ []) a b xs ys (omega (arith, size)) (e
    ∙ sym (append_assoc so_far (k ∷ []) a)) (f_same ∙ sym (append_assoc so_far (k ∷ []) b))
    g.1 h_same there back (one_more so_far k below k_le) in
    ap (λ (m : ℕ). m ∷ a) (sym same) ∙ ap (λ (zs : List ℕ). l ∷ zs) more

-- codes that are numbered by first row are fixed by which rows have the same one
same_codes : (d n : ℕ) (xs ys : List ℕ) → length xs ≡ length ys → AreCanonical d xs → AreCanonical n ys
    → Follow xs ys → Follow ys xs → xs ≡ ys
unfolding different
same_codes d n xs ys size c e there back = codes_same d n [] xs ys xs ys size refl refl (codes_fit d xs c)
    (codes_fit n ys e) there back none_below

-- ---- one part

-- a part where it stands: whole, numbered, and as its kind asks
record IsFixed (bits rows : ℕ) (kind : Kind) (part : LayoutPart) : Type 0 where
  is : IsPart bits rows part
  numbered : AreNumbered part.codes (length part.tuples)
  kind_is : HasKind kind part

codes_of : (bits rows : ℕ) (part : LayoutPart) → IsPart bits rows part → AreCodesOf (length part.tuples) part.codes
codes_of bits rows part p = record { in_tuples = p.group.in_tuples; used = p.group.used }

-- the tuple of a row is the same in both
abbrev SameTuples : ℕ → LayoutPart → LayoutPart → Type 0
SameTuples rows p q = (i : ℕ) → i < rows → get_or p.tuples (code_of p.codes i) []
    ≡ get_or q.tuples (code_of q.codes i) []

same_tuples : (bits rows : ℕ) (p q : LayoutPart) → IsPart bits rows p → IsPart bits rows q → p.columns ≡ q.columns
    → ((i c : ℕ) → i < rows → c < length p.columns → cell_of p.codes p.tuples i c ≡ cell_of q.codes q.tuples i c)
    → SameTuples rows p q
same_tuples bits rows p q p_is q_is columns cells i row =
    let width = ap (λ (cs : List ℕ). length cs) columns in
    let p_full = p_is.group.full (code_of p.codes i)
    (p_is.group.in_tuples i (omega (arith, row, p_is.a_code_each))) in
    let q_full = q_is.group.full (code_of q.codes i)
    (q_is.group.in_tuples i (omega (arith, row, q_is.a_code_each))) in
    ext_get_or (pos 0) (get_or p.tuples (code_of p.codes i) []) (get_or q.tuples (code_of q.codes i) [])
    (omega (arith, p_full, q_full, width))
    (λ c lt. cells i c row (omega (arith, lt, p_full)))

-- where tuples are distinct, rows with one code in p have one in q
follow : (bits rows : ℕ) (p q : LayoutPart) → IsPart bits rows p → IsPart bits rows q → AreDistinct q.tuples
    → SameTuples rows p q → Follow p.codes q.codes
follow bits rows p q p_is q_is distinct same i j i_row j_row e =
    let i_there : i < rows = omega (arith, i_row, p_is.a_code_each) in
    let j_there : j < rows = omega (arith, j_row, p_is.a_code_each) in
    distinct (code_of q.codes i) (code_of q.codes j)
    (q_is.group.in_tuples i (omega (arith, i_there, q_is.a_code_each)))
    (q_is.group.in_tuples j (omega (arith, j_there, q_is.a_code_each)))
    (sym (same i i_there) ∙ ap (λ (k : ℕ). get_or p.tuples k []) e ∙ same j j_there)

same_size : (bits rows : ℕ) (p q : LayoutPart) → IsPart bits rows p → IsPart bits rows q → length p.codes
    ≡ length q.codes
same_size bits rows p q p_is q_is = p_is.a_code_each ∙ sym q_is.a_code_each

distinct_codes : (bits rows : ℕ) (p q : LayoutPart) → IsPart bits rows p → IsPart bits rows q
    → AreNumbered p.codes (length p.tuples) → AreNumbered q.codes (length q.tuples)
    → AreDistinct p.tuples → AreDistinct q.tuples → SameTuples rows p q → p.codes ≡ q.codes
distinct_codes bits rows p q p_is q_is p_numbered q_numbered p_distinct q_distinct same =
    same_codes (length p.tuples) (length q.tuples) p.codes q.codes (same_size bits rows p q p_is q_is)
    (record { codes_are = codes_of bits rows p p_is; numbered = p_numbered })
    (record { codes_are = codes_of bits rows q q_is; numbered = q_numbered })
    (follow bits rows p q p_is q_is q_distinct same) (follow bits rows q p q_is p_is p_distinct
    (λ i row. sym (same i row)))

part_codes : (bits rows : ℕ) (k : Kind) (p q : LayoutPart) → IsFixed bits rows k p → IsFixed bits rows k q
    → SameTuples rows p q → p.codes ≡ q.codes
part_codes bits rows kind.Plain p q f g same = f.kind_is ∙ ap (range_with_len 0) (same_size bits rows p q f.is g.is)
    ∙ sym g.kind_is
part_codes bits rows kind.Codes p q f g same =
    distinct_codes bits rows p q f.is g.is f.numbered g.numbered f.kind_is g.kind_is same
part_codes bits rows kind.Offsets p q f g same =
    distinct_codes bits rows p q f.is g.is f.numbered g.numbered f.kind_is g.kind_is same
part_codes bits rows kind.Runs p q f g same =
    distinct_codes bits rows p q f.is g.is f.numbered g.numbered f.kind_is g.kind_is same

-- each tuple is that of its first row
part_tuples : (bits rows : ℕ) (p q : LayoutPart) → IsPart bits rows p → IsPart bits rows q → p.codes ≡ q.codes
    → SameTuples rows p q → p.tuples ≡ q.tuples
part_tuples bits rows p q p_is q_is codes same =
    let count = sym (codes_count_tuples (length p.tuples) p.codes (codes_of bits rows p p_is))
    ∙ ap (λ (ks : List ℕ). different_codes ks) codes
    ∙ codes_count_tuples (length q.tuples) q.codes (codes_of bits rows q q_is) in
    ext_get_or [] p.tuples q.tuples count (λ k lt.
    let there = has_occurring p.codes k (p_is.group.used k lt) in
    let row : first_row_of p.codes k < rows = omega (
      arith,
      (first_among p.codes [] k there).1,
      p_is.a_code_each,
    ) in
    let p_code : code_of p.codes (first_row_of p.codes k) ≡ k = first_holds p.codes k there in
    let q_code : code_of q.codes (first_row_of p.codes k) ≡ k =
    ap (λ (ks : List ℕ). code_of ks (first_row_of p.codes k)) (sym codes) ∙ p_code in
    ap (λ (l : ℕ). get_or p.tuples l []) (sym p_code) ∙ same (first_row_of p.codes k) row
    ∙ ap (λ (l : ℕ). get_or q.tuples l []) q_code)

abbrev part_with : List ℕ → List ℕ → List (List ℤ) → LayoutPart
part_with columns codes tuples = record { columns = columns; codes = codes; tuples = tuples }

part_fixed : (bits rows : ℕ) (k : Kind) (p q : LayoutPart) → IsFixed bits rows k p → IsFixed bits rows k q
    → p.columns ≡ q.columns
    → ((i c : ℕ) → i < rows → c < length p.columns → cell_of p.codes p.tuples i c ≡ cell_of q.codes q.tuples i c) → p
    ≡ q
part_fixed bits rows k p q f g columns cells =
    let same = same_tuples bits rows p q f.is g.is columns cells in
    let codes = part_codes bits rows k p q f g same in
    let tuples = part_tuples bits rows p q f.is g.is codes same in
    ap (λ (cs : List ℕ). part_with cs p.codes p.tuples) columns
    ∙ ap (λ (ks : List ℕ). part_with q.columns ks p.tuples) codes
    ∙ ap (λ (ts : List (List ℤ)). part_with q.columns q.codes ts) tuples

-- ---- whole layouts

abbrev columns_in : List LayoutPart → List (List ℕ)
columns_in parts = map (λ (part : LayoutPart). part.columns) parts

columns_at : (parts : List LayoutPart) (q : ℕ) → q < length parts → get_or (columns_in parts) q []
    ≡ (part_at parts q).columns
columns_at parts q lt = get_or-map (λ (part : LayoutPart). part.columns) parts q no_part [] lt

part_is_fixed : (bits : ℕ) (layout : Layout) (kinds : List Kind) (q : ℕ) → IsCanonical bits layout kinds
    → q < length layout.parts → IsFixed bits layout.rows (kind_at kinds q) (part_at layout.parts q)
part_is_fixed bits layout kinds q c lt = record {
  is = c.whole.each q lt;
  numbered = c.numbered q lt;
  kind_is =
      c.kinds_are q lt;
}

abbrev layout_of : ℕ → ℕ → List LayoutPart → Layout
layout_of rows cols parts = record { rows = rows; cols = cols; parts = parts }

pub layout_fixed : (bits : ℕ) (layout other : Layout) (kinds : List Kind) → IsCanonical bits layout kinds
    → IsCanonical bits other kinds
    → matrix_in layout ≡ matrix_in other → columns_in layout.parts ≡ columns_in other.parts → layout ≡ other
layout_fixed bits layout other kinds c d matrix columns =
    let rows : layout.rows ≡ other.rows = ap (λ (m : Matrix). m.rows) matrix in
    let cols : layout.cols ≡ other.cols = ap (λ (m : Matrix). m.cols) matrix in
    let size : length layout.parts ≡ length other.parts =
    sym (length-map layout.parts (λ (part : LayoutPart). part.columns))
    ∙ ap (λ (cs : List (List ℕ)). length cs) columns
    ∙ length-map other.parts (λ (part : LayoutPart). part.columns) in
    let one : StandsFor layout (matrix_in layout) = stands bits layout c.whole in
    let two : StandsFor other (matrix_in other) = stands bits other d.whole in
    let parts : layout.parts ≡ other.parts = ext_get_or no_part layout.parts other.parts size (λ q lt.
    let there : q < length other.parts = omega (arith, lt, size) in
    let p = part_at layout.parts q in
    let r = part_at other.parts q in
    let same : p.columns ≡ r.columns = sym (columns_at layout.parts q lt)
    ∙ ap (λ (cs : List (List ℕ)). get_or cs q []) columns ∙ columns_at other.parts q there in
    part_fixed bits layout.rows (kind_at kinds q) p r (part_is_fixed bits layout kinds q c lt)
    (subst (λ (n : ℕ). IsFixed bits n (kind_at kinds q) r) (sym rows)
    (part_is_fixed bits other kinds q d there)) same
    (λ i col row fits.
    let width = ap (λ (cs : List ℕ). length cs) same in
    sym (one.entries q i col lt row fits) ∙ ap (λ (m : Matrix). entry m i (column_at p.columns col)) matrix
    ∙ ap (λ (cs : List ℕ). entry (matrix_in other) i (column_at cs col)) same
    ∙ two.entries q i col there (omega (arith, row, rows)) (omega (arith, fits, width)))) in
    ap (λ (n : ℕ). layout_of n layout.cols layout.parts) rows
    ∙ ap (λ (n : ℕ). layout_of other.rows n layout.parts) cols
    ∙ ap (λ (ps : List LayoutPart). layout_of other.rows other.cols ps) parts
