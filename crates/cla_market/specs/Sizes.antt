-- The size line: the numbers of rows and of columns, and in a coordinate file the number of entries.
use Rattle.std.specs.Prelude.{ℕ, ℤ, pos, negsuc, ◌+◌, ◌-◌, ◌*◌, ◌/◌, ◌^◌, List, Bool, true, ◌&&◌, ◌==◌, nat_le}
use Rattle.std.specs.Prelude.{nat_lt, Option, Some, None, Result, Ok, Err, if◌then◌else◌}
use Rattle.cla_spec.specs.Matrix.{most_cells}
use Rattle.cla_text.specs.declared.integer.BadInt.{BadInt}
use Rattle.cla_text.specs.Integers.{int_of}
use Rattle.cla_market.specs.declared.banner.Format.{Format}
use Rattle.cla_market.specs.declared.banner.Format.TheVariants.{Coordinate, Array}
use Rattle.cla_market.specs.declared.banner.Symmetry.{Symmetry}
use Rattle.cla_market.specs.declared.banner.Symmetry.TheVariants.{General, Symmetric, SkewSymmetric}
use Rattle.cla_market.specs.declared.banner.Banner.{Banner}
use Rattle.cla_market.specs.declared.size.Size.{Size}
use Rattle.cla_market.specs.declared.fault.LineFault.{LineFault}
use Rattle.cla_market.specs.declared.fault.LineFault.TheVariants as faults
use Rattle.cla_market.specs.Results.{◌>>=◌, two_of, three_of}

-- a number from `least` to 2^31 - 1
abbrev pub count_from : ℕ → Result ℤ BadInt → Result ℕ LineFault
count_from least (Ok (pos n)) = if nat_le least n && nat_lt n (2 ^ 31) then Ok n else Err faults.Size
count_from least (Ok (negsuc n)) = Err faults.Size
count_from least (Err e) = Err faults.Size

abbrev pub count_in : ℕ → List ℕ → Result ℕ LineFault
count_in least word = count_from least (int_of word)

-- a matrix that isn't general is square
abbrev pub is_square : Symmetry → ℕ → ℕ → Bool
is_square General rows cols = true
is_square Symmetric rows cols = rows == cols
is_square SkewSymmetric rows cols = rows == cols

-- how many entries an array file has: all cells, those from the diagonal down, or those below it
abbrev pub array_entries : Symmetry → ℕ → ℕ → ℕ
array_entries General rows cols = rows * cols
array_entries Symmetric rows cols = rows * (rows + 1) / 2
array_entries SkewSymmetric rows cols = rows * (rows - 1) / 2

-- the shape is one of a matrix
abbrev pub shape_in : Symmetry → ℕ → ℕ → Result (Unit {0}) LineFault
shape_in mirroring rows cols = if is_square mirroring rows cols then
    (if nat_le (rows * cols) most_cells then Ok tt else Err (faults.TooLarge rows cols)) else Err faults.Size

abbrev pub coordinate_size : Symmetry → Option (List ℕ × List ℕ × List ℕ) → Result Size LineFault
coordinate_size mirroring None = Err faults.Size
coordinate_size mirroring (Some w) = do
  rows ← count_in 1 w.0
  cols ← count_in 1 w.1
  entries ← count_in 0 w.2
  shape ← shape_in mirroring rows cols
  Ok record { rows = rows; cols = cols; entries = entries }

abbrev pub array_size : Symmetry → Option (List ℕ × List ℕ) → Result Size LineFault
array_size mirroring None = Err faults.Size
array_size mirroring (Some w) = do
  rows ← count_in 1 w.0
  cols ← count_in 1 w.1
  shape ← shape_in mirroring rows cols
  Ok record { rows = rows; cols = cols; entries = array_entries mirroring rows cols }

abbrev pub size_from : Format → Symmetry → List (List ℕ) → Result Size LineFault
size_from Coordinate mirroring words = coordinate_size mirroring (three_of words)
size_from Array mirroring words = array_size mirroring (two_of words)

-- what the size line's words say under a banner
unfoldable pub size_in : Banner → List (List ℕ) → Result Size LineFault
size_in banner words = size_from banner.format banner.symmetry words
