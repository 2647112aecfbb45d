-- How many bytes columns take as one group, of each kind, in packed files; and which kind takes the fewest.
use Rattle.std.specs.Prelude.{◌≡◌, ℕ, ◌+◌, ◌-◌, ◌*◌, ◌/◌, ◌^◌, ◌<◌, ◌≤◌, List, [], ◌∷◌, length, Bool, ◌&&◌, not}
use Rattle.std.specs.Prelude.{Option, Some, None, nat_lt, nat_le, max, if◌then◌else◌}
use Rattle.cla_spec.specs.Matrix.{most_cells}
use Rattle.cla_layout.specs.Groups.{code_of}
use Rattle.cla_layout.specs.Kinds.{kind_number}
use Rattle.cla_layout.specs.Listed.{is_rest, rows_where, begins_run}
use Rattle.cla_layout.specs.declared.kind.Kind.{Kind}
use Rattle.cla_layout.specs.declared.kind.Kind.TheVariants as kind
use Rattle.cla_grouping.specs.Tuples.{TuplesOf}
use Rattle.cla_grouping.specs.declared.sizes.Figures.{Figures}
use Rattle.cla_grouping.specs.declared.sizes.KindBytes.{KindBytes}

-- whether row i has a tuple that is listed: any but the tuple of zeros
abbrev pub is_listed : Option ℕ → List ℕ → ℕ → Bool
is_listed zero codes i = not (is_rest zero (code_of codes i))

-- whether a maximal run of a listed tuple begins at row i
abbrev pub begins_listed : Option ℕ → List ℕ → ℕ → Bool
begins_listed zero codes i = is_listed zero codes i && begins_run codes (code_of codes i) i

-- how many tuples are listed
abbrev pub listed_of : Option ℕ → ℕ → ℕ
listed_of None distinct = distinct
listed_of (Some rest) distinct = distinct - 1

abbrev pub listed_rows_of : Option ℕ → List ℕ → ℕ
listed_rows_of zero codes = length (rows_where (is_listed zero codes) (length codes))

abbrev pub listed_runs_of : Option ℕ → List ℕ → ℕ
listed_runs_of zero codes = length (rows_where (begins_listed zero codes) (length codes))

-- the figures of so many columns with these tuples
abbrev pub figures_of : TuplesOf → Figures
figures_of t = record {
  width = t.width;
  rows = length t.codes;
  distinct = t.distinct;
  listed = listed_of t.zero t.distinct;
  listed_rows = listed_rows_of t.zero t.codes;
  listed_runs = listed_runs_of t.zero t.codes;
}

-- the fewest bytes, of one, two and four, that can name so many tuples
abbrev pub code_bytes_of : ℕ → ℕ
code_bytes_of distinct = if nat_le distinct (2 ^ 8) then 1 else if nat_le distinct (2 ^ 16) then 2 else 4

-- how many segments of 32768 rows there are
abbrev pub segments_of : ℕ → ℕ
segments_of rows = (rows + 32767) / 32768

abbrev pub plain_bytes : ℕ → ℕ → ℕ
plain_bytes rows width = 5 + 4 * width + 8 * (rows * width)

abbrev pub codes_bytes : Figures → ℕ
codes_bytes f = 5 + 4 * f.width + 4 + 8 * (f.distinct * f.width) + f.rows * code_bytes_of f.distinct

-- each listed tuple has its values, a count for each segment, and an offset for each of its rows
abbrev pub offsets_bytes : Figures → ℕ
offsets_bytes f = 5 + 4 * f.width + 5 + 8 * (f.listed * f.width)
    + (2 * (segments_of f.rows * f.listed) + 2 * f.listed_rows)

-- each listed tuple has its values, a count of its runs, and a gap and a length for each of them
abbrev pub runs_bytes : Figures → ℕ
runs_bytes f = 5 + 4 * f.width + 5 + 8 * (f.listed * f.width) + 4 * f.listed + 8 * f.listed_runs

abbrev pub bytes_of : Kind → Figures → ℕ
bytes_of kind.Plain f = plain_bytes f.rows f.width
bytes_of kind.Codes f = codes_bytes f
bytes_of kind.Offsets f = offsets_bytes f
bytes_of kind.Runs f = runs_bytes f

-- the four sizes, in the order of the kinds
abbrev pub sizes_of : Figures → List ℕ
sizes_of f = bytes_of kind.Plain f ∷ bytes_of kind.Codes f ∷ bytes_of kind.Offsets f ∷ bytes_of kind.Runs f ∷ []

-- a kind, and its bytes
abbrev pub in_kind : Kind → Figures → KindBytes
in_kind k f = record { kind = k; bytes = bytes_of k f }

-- the lesser of two, and the first on a tie
abbrev pub lesser_of : KindBytes → KindBytes → KindBytes
lesser_of a b = if nat_lt b.bytes a.bytes then b else a

-- the least of the four, the lower kind on a tie
abbrev pub best_of : Figures → KindBytes
best_of f = lesser_of (lesser_of (lesser_of (in_kind kind.Plain f) (in_kind kind.Codes f)) (in_kind kind.Offsets f))
    (in_kind kind.Runs f)

abbrev pub best_bytes : Figures → ℕ
best_bytes f = (best_of f).bytes

-- what the best is: no kind has fewer bytes, and each lower kind has more
pub record IsLeast (f : Figures) (b : KindBytes) : Type 0 where
  pub bytes : b.bytes ≡ bytes_of b.kind f
  pub least : (k : Kind) → b.bytes ≤ bytes_of k f
  pub lower : (k : Kind) → kind_number k < kind_number b.kind → b.bytes < bytes_of k f

-- figures of columns of a matrix: few cells, and no more tuples, rows and runs than rows
pub record AreSmall (f : Figures) : Type 0 where
  pub wide : f.width ≤ most_cells
  pub tall : f.rows ≤ most_cells
  pub cells : f.rows * f.width ≤ most_cells
  pub distinct : f.distinct ≤ f.rows
  pub listed : f.listed ≤ f.distinct
  pub listed_rows : f.listed_rows ≤ f.rows
  pub listed_runs : f.listed_runs ≤ f.rows

-- columns that are no fewer, and so are their tuples, rows and runs
pub record AreNoLess (f g : Figures) : Type 0 where
  pub width : f.width ≤ g.width
  pub rows : f.rows ≡ g.rows
  pub distinct : f.distinct ≤ g.distinct
  pub listed : f.listed ≤ g.listed
  pub listed_rows : f.listed_rows ≤ g.listed_rows
  pub listed_runs : f.listed_runs ≤ g.listed_runs

-- these figures with so many tuples at least
abbrev pub with_tuples_of : Figures → ℕ → Figures
with_tuples_of f distinct = record f { distinct = max f.distinct distinct; listed = max f.listed (distinct - 1) }

-- A group of more tuples than so many is no smaller than a target, where all its figures are no less than these. A
-- group
-- has all tuples listed, or all but one.
abbrev pub IsPast : Figures → ℕ → ℕ → Type 0
IsPast f target most = (g : Figures) → AreNoLess f g → g.distinct ≤ f.rows → g.distinct ≤ g.listed + 1
    → most < g.distinct → target ≤ best_bytes g
