-- Layouts in the one form that packed files are to have.
use Rattle.std.specs.Prelude.{◌≡◌, ℕ, ℤ, ◌<◌, List, [], length, slice_index_or}
use Rattle.std.specs.List.{range_with_len}
use Rattle.cla_layout.specs.declared.kind.Kind.{Kind}
use Rattle.cla_layout.specs.declared.kind.Kind.TheVariants as kind
use Rattle.cla_layout.specs.Groups.{AreNumbered}
use Rattle.cla_layout.specs.Layouts.{LayoutPart, Layout, IsWhole, part_at, column_at}

-- no two tuples are the same
abbrev pub AreDistinct : List (List ℤ) → Type 0
AreDistinct tuples = (k l : ℕ) → k < length tuples → l < length tuples → slice_index_or tuples k []
    ≡ slice_index_or tuples l [] → k ≡ l

-- what a kind asks of a part: row i of a plain group has code i, and tuples of the others are distinct
abbrev pub HasKind : Kind → LayoutPart → Type 0
HasKind kind.Plain part = part.codes ≡ range_with_len 0 (length part.codes)
HasKind kind.Codes part = AreDistinct part.tuples
HasKind kind.Offsets part = AreDistinct part.tuples
HasKind kind.Runs part = AreDistinct part.tuples

abbrev pub kind_at : List Kind → ℕ → Kind
kind_at kinds q = slice_index_or kinds q kind.Plain

-- a layout of these kinds in the one form: whole, its parts in the order of their first columns, tuples numbered by
-- first
-- row, and each part as its kind asks
pub record IsCanonical (bits : ℕ) (layout : Layout) (kinds : List Kind) : Type 0 where
  pub whole : IsWhole bits layout
  pub a_kind_each : length kinds ≡ length layout.parts
  pub in_order : (q r : ℕ) → q < r → r < length layout.parts →
      column_at (part_at layout.parts q).columns 0 < column_at (part_at layout.parts r).columns 0
  pub numbered : (q : ℕ) → q < length layout.parts →
      AreNumbered (part_at layout.parts q).codes (length (part_at layout.parts q).tuples)
  pub kinds_are : (q : ℕ) → q < length layout.parts → HasKind (kind_at kinds q) (part_at layout.parts q)
