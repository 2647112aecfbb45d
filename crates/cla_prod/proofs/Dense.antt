-- Tables that are made dense.
use Rattle.std.proofs.Common.{◌≡◌, ℕ, ℤ, ◌+◌, ◌*◌, ◌<◌, ◌≤◌, ◌*ℤ◌, List, length, take, get_or, Bool, true, false, not}
use Rattle.std.proofs.Common.{cond, refl, ap, subst, sym, ◌∙◌, arith}
use Rattle.cla_spec.specs.Numbers.{sum_to}
use Rattle.cla_spec.specs.Matrix.{Matrix, entry, most_cells}
use Rattle.cla_spec.proofs.Entries.{row_by_row-entry}
use Rattle.cla_spec.proofs.Sums.{sum_to-same}
use Rattle.cla_layout.specs.Groups.{IsGroup}
use Rattle.cla_layout.specs.Layouts.{Layout, LayoutPart, IsPart, IsWhole, layout_with, part_at, matrix_in, matrix_as}
use Rattle.cla_layout.specs.Layouts.{entry_in, entry_as}
use Rattle.cla_layout.specs.Values.{values_of}
use Rattle.cla_layout.proofs.Matrices.{entry_matrix_in}
use Rattle.cla_layout.proofs.PartValues.{values_more, values_few}
use Rattle.cla_layout.proofs.Wholes.{same_width}
use Rattle.cla_coded.specs.declared.part.Part.{Part}
use Rattle.cla_coded.specs.Parts.{part_of, parts_of}
use Rattle.cla_coded.specs.Tables.{TableOf, layout_of}
use Rattle.cla_coded.proofs.Outlines.{part_of_item, parts_count}
use Rattle.cla_meaning.specs.Entries.{product_entry}
use Rattle.cla_prod.specs.Lines.{base_for}

pub dense_rows : (flipped : Bool) (layout : Layout) → (matrix_as flipped layout).rows
    ≡ cond flipped layout.cols layout.rows
dense_rows true layout = refl
dense_rows false layout = refl

pub dense_cols : (flipped : Bool) (layout : Layout) → (matrix_as flipped layout).cols
    ≡ cond flipped layout.rows layout.cols
dense_cols true layout = refl
dense_cols false layout = refl

pub dense_entry : (flipped : Bool) (layout : Layout) (i j : ℕ) → i < cond flipped layout.cols layout.rows
    → j < cond flipped layout.rows layout.cols
    → entry (matrix_as flipped layout) i j ≡ entry_as flipped layout i j
dense_entry true layout i j row col =
    row_by_row-entry layout.cols layout.rows (λ c r. entry (matrix_in layout) r c) i j row col
    ∙ entry_matrix_in layout j i col row
dense_entry false layout i j row col = entry_matrix_in layout i j row col

-- a table times a table that was made dense
pub dense_right : (flipped : Bool) (layout : Layout) (m : Matrix) (inner : ℕ) (x : ℕ → ℕ → ℤ) → m
    ≡ matrix_as flipped layout
    → inner ≡ cond flipped layout.cols layout.rows → (i j : ℕ) → j < m.cols
    → product_entry m.rows x (entry m) i j ≡ product_entry inner x (entry_as flipped layout) i j
dense_right flipped layout m inner x is same i j col =
    let rows : m.rows ≡ inner = ap (λ (d : Matrix). d.rows) is ∙ dense_rows flipped layout ∙ sym same in
    let cols : m.cols ≡ cond flipped layout.rows layout.cols = ap (λ (d : Matrix). d.cols) is
    ∙ dense_cols flipped layout in
    ap (λ (n : ℕ). sum_to (λ k. x i k *ℤ entry m k j) n) rows
    ∙ sum_to-same (λ k. x i k *ℤ entry m k j) (λ k. x i k *ℤ entry_as flipped layout k j) inner
    (λ k lt. ap (λ (z : ℤ). x i k *ℤ z) (ap (λ (d : Matrix). entry d k j) is ∙ dense_entry flipped layout k j
    (rw same at lt) (rw cols at col)))

-- and from the other side
pub dense_left : (flipped : Bool) (layout : Layout) (m : Matrix) (y : ℕ → ℕ → ℤ) → m ≡ matrix_as flipped layout →
    (i j : ℕ) → i < m.rows
    → product_entry m.cols (entry m) y i j ≡ product_entry (cond flipped layout.rows layout.cols)
    (entry_as flipped layout) y i j
dense_left flipped layout m y is i j row =
    let rows : m.rows ≡ cond flipped layout.cols layout.rows = ap (λ (d : Matrix). d.rows) is
    ∙ dense_rows flipped layout in
    let cols : m.cols ≡ cond flipped layout.rows layout.cols = ap (λ (d : Matrix). d.cols) is
    ∙ dense_cols flipped layout in
    ap (λ (n : ℕ). sum_to (λ k. entry m i k *ℤ y k j) n) cols
    ∙ sum_to-same (λ k. entry m i k *ℤ y k j) (λ k. entry_as flipped layout i k *ℤ y k j)
    (cond flipped layout.rows layout.cols)
    (λ k lt. ap (λ (z : ℤ). z *ℤ y k j) (ap (λ (d : Matrix). entry d i k) is ∙ dense_entry flipped layout i k
    (rw rows at row) lt))

-- a table that isn't flipped
pub plain_shape : (flipped : Bool) (rows cols : ℕ) → flipped ≡ false
    → (cond flipped cols rows ≡ rows) × (cond flipped rows cols ≡ cols)
plain_shape true rows cols plain = absurd (cc plain)
plain_shape false rows cols plain = (refl, refl)

pub plain_entry : (flipped : Bool) (layout : Layout) (i j : ℕ) → flipped ≡ false → entry_in layout.parts i j
    ≡ entry_as flipped layout i j
plain_entry true layout i j plain = absurd (cc plain)
plain_entry false layout i j plain = refl

-- and one that is
pub turned_shape : (flipped : Bool) (rows cols : ℕ) → flipped ≡ true
    → (cond flipped cols rows ≡ cols) × (cond flipped rows cols ≡ rows)
turned_shape true rows cols turn = (refl, refl)
turned_shape false rows cols turn = absurd (cc turn)

pub turned_entry : (flipped : Bool) (layout : Layout) (i j : ℕ) → flipped ≡ true → entry_in layout.parts j i
    ≡ entry_as flipped layout i j
turned_entry true layout i j turn = refl
turned_entry false layout i j turn = absurd (cc turn)

-- one more part has so many values more
pub value_step : {G : Type 0} (bits : ℕ) (width : G → ℕ) (codes : G → List ℕ) (dictionary : G → List (List ℤ))
    (m : TableOf G) (items : List (Part G))
    (q : ℕ) (item : Part G) (count t w : ℕ) → ((g : G) → IsGroup bits (width g) (codes g) (dictionary g))
    → IsWhole bits (layout_of codes dictionary m)
    → items ≡ m.parts → q < length items → item ≡ get_or items q item → count ≡ values_of
    (take q (parts_of codes dictionary m.parts))
    → t ≡ length (dictionary item.group) → w ≡ width item.group
    → (count + t * w ≡ values_of (take (q + 1) (parts_of codes dictionary m.parts))) × (count + t * w ≤ most_cells)
value_step {G} bits width codes dictionary m items q item count t w laws whole same there is so_far tuples wide =
    let parts = parts_of codes dictionary m.parts in
    let here : q < length m.parts = subst (λ (ps : List (Part G)). q < length ps) same there in
    let within : q < length parts = rw (parts_count codes dictionary m.parts) here in
    let read : item ≡ get_or m.parts q item = is ∙ ap (λ (ps : List (Part G)). get_or ps q item) same in
    let at_q : part_at parts q ≡ part_of codes dictionary item = part_of_item codes dictionary m.parts q item here
    read in
    let are : IsPart bits m.rows (part_of codes dictionary item) = subst (IsPart bits m.rows) at_q
    (whole.each q within) in
    let columns : w ≡ length item.columns.items = wide ∙ same_width _ _ _ _ _ (laws item.group) are.group in
    let values : t * w ≡ length (part_at parts q).tuples * length (part_at parts q).columns =
    ap (λ (n : ℕ). n * w) tuples ∙ ap (λ (n : ℕ). length (dictionary item.group) * n) columns
    ∙ ap (λ (part : LayoutPart). length part.tuples * length part.columns) (sym at_q) in
    let more : count + t * w ≡ values_of (take (q + 1) parts) =
    (let next = values_more parts q within in omega (arith, so_far, values, next)) in (
      more,
      (let few = values_few bits (layout_of codes dictionary m) (q + 1) whole in omega
          (arith, more, few, whole.few)),
    )

-- the base of a table that is multiplied with columns, and with rows
pub base_right : (bits : ℕ) (flipped : Bool) (rows cols outer inner : ℕ) (parts : List LayoutPart)
    → IsWhole bits (layout_with rows cols parts) → outer ≡ cond flipped cols rows → inner ≡ cond flipped rows cols
    → IsWhole bits (base_for flipped outer inner parts)
base_right bits true rows cols outer inner parts whole o i =
    subst (λ (r : ℕ). IsWhole bits (layout_with r outer parts)) (sym i)
    (subst (λ (k : ℕ). IsWhole bits (layout_with rows k parts)) (sym o) whole)
base_right bits false rows cols outer inner parts whole o i =
    subst (λ (r : ℕ). IsWhole bits (layout_with r inner parts)) (sym o)
    (subst (λ (k : ℕ). IsWhole bits (layout_with rows k parts)) (sym i) whole)

pub base_left : (bits : ℕ) (flipped : Bool) (rows cols outer inner : ℕ) (parts : List LayoutPart)
    → IsWhole bits (layout_with rows cols parts) → outer ≡ cond flipped rows cols → inner ≡ cond flipped cols rows
    → IsWhole bits (base_for (not flipped) outer inner parts)
base_left bits true rows cols outer inner parts whole o i =
    subst (λ (r : ℕ). IsWhole bits (layout_with r inner parts)) (sym o)
    (subst (λ (k : ℕ). IsWhole bits (layout_with rows k parts)) (sym i) whole)
base_left bits false rows cols outer inner parts whole o i =
    subst (λ (r : ℕ). IsWhole bits (layout_with r outer parts)) (sym i)
    (subst (λ (k : ℕ). IsWhole bits (layout_with rows k parts)) (sym o) whole)
