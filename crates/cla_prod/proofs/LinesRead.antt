-- Lines that are read, and how many values a base has.
use Rattle.std.proofs.Common.{◌≡◌, ℕ, ℤ, pos, suc, ◌+◌, ◌-◌, ◌*◌, ◌<◌, ◌≤◌, ◌*ℤ◌, List, Bool, true, false, cond, eqb}
use Rattle.std.proofs.Common.{length, map, take, drop, refl, ap, sym, ◌∙◌, arith, length-drop}
use Rattle.std.proofs.Math.Nat.{mul_comm, mul-le-mul, mul-le-mul_left, mul-le-mul_right}
use Rattle.std.proofs.lemmas.Bool.{eqb-true}
use Rattle.std.proofs.lemmas.List.{length-take-le, get_or-take, get_or-drop, take-map, drop-map, take_all}
use Rattle.cla_spec.specs.Matrix.{Matrix, entry, most_cells}
use Rattle.cla_spec.proofs.Sums.{sum_to-same}
use Rattle.cla_layout.specs.Groups.{at}
use Rattle.cla_layout.specs.Layouts.{LayoutPart, layout_with, IsWhole}
use Rattle.cla_layout.specs.Values.{values_of}
use Rattle.cla_layout.proofs.PartValues.{values_few}
use Rattle.cla_prod.specs.declared.lines.Lines.{Lines}
use Rattle.cla_prod.specs.declared.numbers.Order.{Order}
use Rattle.cla_prod.specs.declared.numbers.Order.TheVariants.{Rows, Columns, Mirrored}
use Rattle.cla_prod.specs.Lines.{base_for, entry_turned, item_times, lines_in, inner_in, line_item}
use Rattle.cla_prod.specs.Lines.{copied_in, AreLines}

-- how long line l is
pub line_length : {X : Type 0} (l count width n : ℕ) (xs : List X) → l < count → length xs ≡ count * width → n ≡ width
    → length (take n (drop (l * width) xs)) ≡ width
line_length l count width n xs there long size =
    let up_to : suc l * width ≤ count * width = mul-le-mul_right width there in
    length-take-le n (drop (l * width) xs) (omega (arith, up_to, long, size, length-drop (l * width) xs)) ∙ size

pub line_size : (l width : ℕ) → (l + 1) * width - l * width ≡ width
line_size l width = omega arith

item_in_line : {X : Type 0} (value : X → ℤ) (a n k : ℕ) (items : List X) → k < n
    → at (map value (take n (drop a items))) k ≡ at (map value items) (a + k)
item_in_line value a n k items there =
    ap (λ (xs : List ℤ). at xs k) (sym (take-map value n (drop a items)) ∙ ap (take n) (sym (drop-map value a items)))
    ∙ get_or-take n (drop a (map value items)) k (pos 0) there ∙ get_or-drop a (map value items) k (pos 0)

-- the product with items that are these
pub items_are : {X : Type 0} (value : X → ℤ) (parts : List LayoutPart) (lines : Lines) (item : ℕ → ℤ) (line : List X)
    (i : ℕ) → length line ≡ lines.inner → ((k : ℕ) → k < lines.inner → at (map value line) k ≡ item k)
    → item_times lines.turned parts (at (map value line)) (length line) i
    ≡ item_times lines.turned parts item lines.inner i
items_are value parts lines item line i long same =
    ap (λ (n : ℕ). item_times lines.turned parts (at (map value line)) n i) long
    ∙ sum_to-same (λ k. entry_turned lines.turned parts i k *ℤ at (map value line) k)
    (λ k. entry_turned lines.turned parts i k *ℤ item k) lines.inner
    (λ k lt. ap (λ (z : ℤ). entry_turned lines.turned parts i k *ℤ z) (same k lt))

some_copied : (b : Bool) (n : ℕ) → 0 < cond b 0 n → cond b 0 n ≡ n
some_copied true n some = absurd (omega (arith, some))
some_copied false n some = refl

none_copied : (b : Bool) (n : ℕ) → 1 ≤ n → cond b 0 n ≡ 0 → b ≡ true
none_copied true n some none = refl
none_copied false n some none = absurd (omega (arith, some, none))

-- a line that is copied is a column
pub record IsColumn (order : Order) (m : Matrix) : Type 0 where
  pub inner : inner_in order m ≡ m.rows
  pub count : lines_in order m ≡ m.cols
  pub long : copied_in order m ≡ m.rows
  pub items : (l k : ℕ) → line_item order m l k ≡ entry m k l

pub copied_line : (order : Order) (m : Matrix) → 0 < copied_in order m → IsColumn order m
copied_line Rows m some = absurd (omega (arith, some))
copied_line Columns m some = record {
  inner = refl;
  count = refl;
  long = some_copied (eqb m.cols 1) m.rows some;
  items = λ l k. refl;
}
copied_line Mirrored m some = absurd (omega (arith, some))

-- the items of any other stand together
pub kept_line : (order : Order) (m : Matrix) (l k : ℕ) → 1 ≤ m.rows → copied_in order m ≡ 0 → l < lines_in order m
    → line_item order m l k ≡ at m.cells (l * inner_in order m + k)
kept_line Rows m l k some none there = refl
kept_line Columns m l k some none there =
    let one : m.cols ≡ 1 = eqb-true m.cols 1 (none_copied (eqb m.cols 1) m.rows some none) in
    let first : l ≡ 0 = omega (arith, there, one) in
    let read : k * m.cols ≡ k * 1 = ap (λ (n : ℕ). k * n) one in
    let none_before : l * m.rows ≡ 0 * m.rows = ap (λ (n : ℕ). n * m.rows) first in
    let place : k * m.cols + l ≡ l * m.rows + k = omega (arith, first, read, none_before) in
    ap (at m.cells) place
kept_line Mirrored m l k some none there = refl

-- all lines together have the cells
pub lines_cells : (order : Order) (m : Matrix) → lines_in order m * inner_in order m ≡ m.rows * m.cols
lines_cells Rows m = refl
lines_cells Columns m = mul_comm m.cols m.rows
lines_cells Mirrored m = refl

pub lines_long : (bits : ℕ) (parts : List LayoutPart) (lines : Lines) (m : Matrix) (products long : ℕ)
    → AreLines bits parts lines m products → long ≡ m.rows * m.cols → long ≡ lines.count * lines.inner
lines_long bits parts lines m products long are cells =
    cells ∙ sym (lines_cells lines.order m)
    ∙ ap (λ (n : ℕ). n * inner_in lines.order m) (sym are.count)
    ∙ ap (λ (n : ℕ). lines.count * n) (sym are.inner)

pub some_lines : (order : Order) (m : Matrix) → 1 ≤ m.rows → 1 ≤ m.cols → 1 ≤ lines_in order m
some_lines Rows m row col = row
some_lines Columns m row col = col
some_lines Mirrored m row col = row

-- a line that was read from the cells
pub kept_items : {X : Type 0} (value : X → ℤ) (order : Order) (m : Matrix) (cells : List X) (l n w k : ℕ)
    → map value cells ≡ m.cells → 1 ≤ m.rows → copied_in order m ≡ 0 → l < lines_in order m → w ≡ inner_in order m
    → k < n → at (map value (take n (drop (l * w) cells))) k ≡ line_item order m l k
kept_items value order m cells l n w k same some none there wide lt =
    item_in_line value (l * w) n k cells lt
    ∙ ap (λ (xs : List ℤ). at xs (l * w + k)) same
    ∙ ap (λ (v : ℕ). at m.cells (l * v + k)) wide
    ∙ sym (kept_line order m l k some none there)

-- a base has no more values than there may be cells
pub values_whole : (bits rows cols : ℕ) (parts : List LayoutPart) → IsWhole bits (layout_with rows cols parts)
    → values_of parts ≤ most_cells
values_whole bits rows cols parts whole =
    let few = values_few bits (layout_with rows cols parts) (length parts) whole in
    let all = take_all (length parts) parts (omega arith) in
    let same : values_of (take (length parts) parts) ≡ values_of parts = ap values_of all in
    omega (arith, few, same, whole.few)

pub values_bound : (bits : ℕ) (turned : Bool) (outer inner : ℕ) (parts : List LayoutPart) → IsWhole bits
    (base_for turned outer inner parts)
    → values_of parts ≤ most_cells
values_bound bits true outer inner parts whole = values_whole bits inner outer parts whole
values_bound bits false outer inner parts whole = values_whole bits outer inner parts whole

pub some_items : (bits : ℕ) (turned : Bool) (outer inner : ℕ) (parts : List LayoutPart) → IsWhole bits
    (base_for turned outer inner parts)
    → (1 ≤ outer) × (1 ≤ inner)
some_items bits true outer inner parts whole = (whole.a_col, whole.a_row)
some_items bits false outer inner parts whole = (whole.a_row, whole.a_col)

-- the lines before line l multiply no more than this
pub lines_few : (bits : ℕ) (parts : List LayoutPart) (lines : Lines) (m : Matrix) (products l : ℕ)
    → AreLines bits parts lines m products → l ≤ lines.count → l * values_of parts ≤ most_cells * most_cells
lines_few bits parts lines m products l are before =
    let some = (some_items bits lines.turned lines.outer lines.inner parts are.whole).0 in
    let few : l ≤ most_cells = omega (arith, before, are.few, mul-le-mul_left lines.count some) in
    mul-le-mul {n₁ = l} {m₁ = values_of parts} {n₂ = most_cells} {m₂ = most_cells} few
    (values_bound bits lines.turned lines.outer lines.inner parts are.whole)
