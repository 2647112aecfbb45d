-- Products with the columns of a base.
use Rattle.std.specs.Prelude.{◌≡◌, ℕ, ℤ, ◌+◌, ◌*◌, ◌^◌, ◌<◌, ◌≤◌, List, Bool, true, length, sum_by}
use Rattle.cla_spec.specs.Matrix.{most_cells}
use Rattle.cla_layout.specs.Groups.{at}
use Rattle.cla_layout.specs.Layouts.{LayoutPart, IsWhole, layout_with, part_at, column_at, entry_in}
use Rattle.cla_layout.specs.Values.{values_of}
use Rattle.cla_prod.specs.declared.lines.Lines.{Lines}
use Rattle.cla_prod.specs.declared.numbers.Order.{Order}
use Rattle.cla_prod.specs.declared.numbers.Order.TheVariants.{Rows, Columns, Mirrored}
use Rattle.cla_prod.specs.Lines.{base_for, item_times}
use Rattle.cla_prod.specs.Sums.{values_from}

-- mirrored lines are those of the products of a transpose
abbrev pub IsTurned : Order → Bool → Type 0
IsTurned Rows turned = Unit {0}
IsTurned Columns turned = Unit {0}
IsTurned Mirrored turned = turned ≡ true

-- the first item of line j that is found: mirrored lines have those from the diagonal on
abbrev pub first_item : Order → ℕ → ℕ
first_item Rows j = 0
first_item Columns j = 0
first_item Mirrored j = j

-- what column j multiplies
abbrev pub column_values : Order → List LayoutPart → ℕ → ℕ
column_values Rows parts j = values_of parts
column_values Columns parts j = values_of parts
column_values Mirrored parts j = values_from j parts

-- what these columns multiply
abbrev pub listed_values : Order → List LayoutPart → List ℕ → ℕ
listed_values order parts columns = sum_by (column_values order parts) columns

-- what all columns of a base multiply
abbrev pub read_values : Order → List LayoutPart → List LayoutPart → ℕ
read_values order parts base = sum_by (λ part. listed_values order parts part.columns) base

-- the columns of a base are these lines, with a code for each row, and so many products: the parts that are multiplied
-- fit them, and there are few enough
pub record AreColumns (bits : ℕ) (base parts : List LayoutPart) (lines : Lines) (coded products : ℕ) : Type 0 where
  pub columns : IsWhole bits (layout_with lines.inner lines.count base)
  pub whole : IsWhole bits (base_for lines.turned lines.outer lines.inner parts)
  pub turned : IsTurned lines.order lines.turned
  pub codes : coded ≡ lines.inner
  pub written : products ≡ lines.count * lines.outer
  pub few : lines.count * lines.outer ≤ most_cells

abbrev pub IsOneOf : LayoutPart → List LayoutPart → Type 0
IsOneOf part parts = (q : ℕ) × (q < length parts) × (part_at parts q ≡ part)

-- item i of the product with column j of a base
abbrev pub column_product : List LayoutPart → Lines → List LayoutPart → ℕ → ℕ → ℤ
column_product parts lines base j i = item_times lines.turned parts (λ k. entry_in base k j) lines.inner i

-- line j has these items, from the first that is found on
abbrev pub IsLineOf : Lines → (ℕ → ℕ → ℤ) → ℕ → List ℤ → Type 0
IsLineOf lines item j exact = (i : ℕ) → first_item lines.order j ≤ i → i < lines.outer
    → at exact (j * lines.outer + i) ≡ item j i

-- the lines of the first n columns of a list have these items, and all others hold what they held
pub record AreLinesOf (lines : Lines) (n : ℕ) (item : ℕ → ℕ → ℤ) (columns : List ℕ) (old new : List ℤ) : Type 0 where
  pub here : (c : ℕ) → c < n → IsLineOf lines item (column_at columns c) new
  pub kept : (j i : ℕ) → ((c : ℕ) → c < n → column_at columns c ≡ j → ⊥) → j < lines.count → i < lines.outer
      → at new (j * lines.outer + i) ≡ at old (j * lines.outer + i)

-- the counts with which the columns of a part may begin
abbrev pub square_bound : ℕ
square_bound = 2 ^ 127 + 2 ^ 126 + 2 ^ 53
