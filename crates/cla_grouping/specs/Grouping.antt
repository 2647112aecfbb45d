-- Which columns are grouped (co-coding, PVLDB 9(12), section 4). The paper estimates what a group would take from a
-- sample; here it is counted. Columns are taken from left to right, and each joins the group of the last 16 that
-- saves the
-- most bytes by it, or stands alone where none saves any.
use Rattle.std.specs.Prelude.{ℕ, ◌+◌, ◌-◌, ◌^◌, List, [], ◌∷◌, ◌++◌, length, map, drop, fold, sum_by, max, ◌==◌}
use Rattle.std.specs.Prelude.{nat_lt, nat_le, if◌then◌else◌, slice_index_or, slice_set}
use Rattle.std.specs.List.{range_with_len, position_or_len}
use Rattle.cla_spec.specs.Matrix.{Matrix}
use Rattle.cla_layout.specs.declared.kind.Kind.{Kind}
use Rattle.cla_layout.specs.declared.kind.Kind.TheVariants as kind
use Rattle.cla_grouping.specs.Tuples.{tuples_in}
use Rattle.cla_grouping.specs.Sizes.{figures_of, best_of, plain_bytes}
use Rattle.cla_grouping.specs.declared.sizes.KindBytes.{KindBytes}

-- a group of a cut: its columns, its kind, and the bytes that it takes
pub record GroupOf : Type 0 where
  pub columns : List ℕ
  pub kind : Kind
  pub bytes : ℕ

-- a cut of a matrix into groups of columns
pub record CutOf : Type 0 where
  pub rows : ℕ
  pub cols : ℕ
  pub groups : List GroupOf

-- the best kind of these columns as one group, counted from the matrix
abbrev pub best_in : Matrix → List ℕ → KindBytes
best_in m columns = best_of (figures_of (tuples_in m columns))

-- the bytes that a group saves by taking in column c
abbrev pub saving_by : Matrix → ℕ → List ℕ → ℕ
saving_by m c columns = (best_in m columns).bytes + (best_in m (c ∷ [])).bytes - (best_in m (columns ++ c ∷ [])).bytes

-- the greatest of these, 0 where there are none
abbrev pub greatest : List ℕ → ℕ
greatest [] = 0
greatest (s ∷ savings) = max s (greatest savings)

-- how many of the last groups a column may join
abbrev pub window : ℕ
window = 16

-- the group of the last ones that saves most, the earliest of equals, and what it saves
pub record Choice : Type 0 where
  pub place : ℕ
  pub saving : ℕ

abbrev pub choice_of : List ℕ → Choice
choice_of savings =
    let last = drop (length savings - window) savings in
    record { place = length savings - window + position_or_len (λ s. s == greatest last) last; saving = greatest last }

-- the groups once column c has joined the chosen one, or stands alone where nothing is saved
abbrev pub placed_by : Choice → List (List ℕ) → ℕ → List (List ℕ)
placed_by choice groups c = if nat_lt 0 choice.saving
    then slice_set groups choice.place (slice_index_or groups choice.place [] ++ c ∷ [])
    else groups ++ (c ∷ []) ∷ []

-- the groups once column c is placed
abbrev pub with_column : Matrix → List (List ℕ) → ℕ → List (List ℕ)
with_column m groups c = placed_by (choice_of (map (saving_by m c) groups)) groups c

-- the groups of the first n columns, taken from left to right
abbrev pub groups_to : Matrix → ℕ → List (List ℕ)
groups_to m n = fold (with_column m) [] (range_with_len 0 n)

-- columns in their best kind
abbrev pub in_best_kind : Matrix → List ℕ → GroupOf
in_best_kind m columns = let best = best_in m columns in
    record { columns = columns; kind = best.kind; bytes = best.bytes }

-- one plain group of all columns
abbrev pub one_plain : ℕ → ℕ → GroupOf
one_plain rows cols = record { columns = range_with_len 0 cols; kind = kind.Plain; bytes = plain_bytes rows cols }

abbrev pub bytes_in : List GroupOf → ℕ
bytes_in groups = sum_by (λ g. g.bytes) groups

-- more columns than this are not grouped
abbrev pub most_grouped : ℕ
most_grouped = 2 ^ 16

-- these groups, or one plain group of all columns where it isn't larger than they are together
abbrev pub or_plain : ℕ → ℕ → List GroupOf → List GroupOf
or_plain rows cols groups =
    if nat_le (plain_bytes rows cols) (bytes_in groups) then one_plain rows cols ∷ [] else groups

-- the cut of a matrix into groups
abbrev pub grouping_of : Matrix → CutOf
grouping_of m = record {
  rows = m.rows;
  cols = m.cols;
  groups = if nat_le m.cols most_grouped
      then or_plain m.rows m.cols (map (in_best_kind m) (groups_to m m.cols))
      else one_plain m.rows m.cols ∷ [];
}

-- the bytes of a packed file of these groups: a header, and the groups
abbrev pub packed_size : CutOf → ℕ
packed_size cut = 20 + bytes_in cut.groups
