-- What the calls of a chain answer.
use Rattle.std.specs.Prelude.{◌≡◌, ℕ, ℤ, ◌+◌, ◌*◌, ◌<◌, ◌≤◌, List, length, map, Option, Some, None, Result, Ok, Err}
use Rattle.std.specs.Prelude.{Bool, if◌then◌else◌}
use Rattle.cla_spec.specs.Matrix.{most_cells}
use Rattle.cla_num.specs.Counts.{Counts}
use Rattle.cla_num.specs.declared.fault.OpFault.{OpFault}
use Rattle.cla_num.specs.declared.fault.Refused.{Refused}
use Rattle.cla_num.specs.declared.fault.Refused.TheVariants.{Op, Memory}
use Rattle.cla_layout.specs.Layouts.{LayoutPart, Layout, IsPart, column_at}
use Rattle.cla_coded.specs.Tables.{TableOf, rows_of_table, cols_of_table, table_entry}
use Rattle.cla_coded.specs.Skeletons.{skeleton_of}
use Rattle.cla_layout.specs.Values.{values_of}
use Rattle.cla_meaning.specs.Entries.{Entry}
use Rattle.cla_meaning.specs.Counts.{AreRaised, HasMaps}
use Rattle.cla_map.specs.declared.misfit.Stop.{Stop}
use Rattle.cla_map.specs.declared.misfit.Misfit.{Misfit}
use Rattle.cla_map.specs.declared.shape.Shape.{Shape}
use Rattle.cla_map.specs.Stops.{place_in}
use Rattle.cla_map.specs.FirstStops.{Tells, StopsInTuple, StopsInPart, StopsInParts, part_values, mapped_part}

-- a misfit's place is that of a cell
abbrev pub IsPlaced : Option Misfit → Type 0
IsPlaced None = Unit {0}
IsPlaced (Some m) = m.place < most_cells

-- a part of a table of this shape
pub record HasShape (bits : ℕ) (shape : Shape) (part : LayoutPart) : Type 0 where
  pub is : IsPart bits shape.rows part
  pub columns : (c : ℕ) → c < length part.columns → column_at part.columns c < shape.cols
  pub few : shape.rows * shape.cols ≤ most_cells

-- tuple t is done: its values are appended, and the first that stops is told
pub record MapsTuple (stop : ℕ → ℤ → Option Stop) (h : ℕ → ℤ → ℤ) (shape : Shape) (part : LayoutPart) (t : ℕ)
    (new : List ℤ)
    (first : Option Misfit) (steps : ℕ) (before now : Counts) : Type 0 where
  pub values : new ≡ part_values h part (t * length part.columns + length part.columns)
  pub tells : Tells (StopsInTuple stop (place_in shape) part t (length part.columns)) first
  pub placed : IsPlaced first
  pub counts : AreRaised (length part.columns * steps) first before now

-- all tuples of a part are done: their values are there, and the first that stops is told
pub record MapsTuples (stop : ℕ → ℤ → Option Stop) (h : ℕ → ℤ → ℤ) (shape : Shape) (part : LayoutPart)
    (new : List ℤ)
    (first : Option Misfit) (steps : ℕ) (before now : Counts) : Type 0 where
  pub values : new ≡ part_values h part (length part.tuples * length part.columns)
  pub tells : Tells (StopsInPart stop (place_in shape) part) first
  pub placed : IsPlaced first
  pub counts : AreRaised (length part.tuples * length part.columns * steps) first before now

-- a part is done
pub record MapsPart (stop : ℕ → ℤ → Option Stop) (h : ℕ → ℤ → ℤ) (shape : Shape) (part new : LayoutPart)
    (first : Option Misfit) (steps : ℕ) (before now : Counts) : Type 0 where
  pub values : new ≡ mapped_part h part
  pub tells : Tells (StopsInPart stop (place_in shape) part) first
  pub placed : IsPlaced first
  pub counts : AreRaised (length part.tuples * length part.columns * steps) first before now

-- all parts are done
pub record MapsParts (stop : ℕ → ℤ → Option Stop) (h : ℕ → ℤ → ℤ) (shape : Shape) (parts new : List LayoutPart)
    (first : Option Misfit) (steps : ℕ) (before now : Counts) : Type 0 where
  pub values : new ≡ map (mapped_part h) parts
  pub tells : Tells (StopsInParts stop (place_in shape) parts (length parts)) first
  pub placed : IsPlaced first
  pub counts : AreRaised (values_of parts * steps) first before now

-- the rows and columns of a layout, or of its transpose
abbrev pub rows_as : Bool → Layout → ℕ
rows_as flipped layout = if flipped then layout.cols else layout.rows

abbrev pub cols_as : Bool → Layout → ℕ
cols_as flipped layout = if flipped then layout.rows else layout.cols

-- the second table has the rows, columns and codes of the first one, and these entries
pub record IsMappedTo {G : Type 0} (codes : G → List ℕ) (dictionary : G → List (List ℤ)) (entry : Entry)
    (m t : TableOf G) : Type 0 where
  pub skeleton : skeleton_of codes t ≡ skeleton_of codes m
  pub entries : (i j : ℕ) → i < rows_of_table m → j < cols_of_table m → table_entry codes dictionary t i j ≡ entry i j

-- the table with these entries, or the first fault; so many map evaluations are made
abbrev pub MapsTable : {G : Type 0} → (G → List ℕ) → (G → List (List ℤ)) → Entry → Option OpFault → ℕ → TableOf G
    → Result (TableOf G) Refused → Counts → Counts → Type 0
MapsTable codes dictionary entry fault n m (Ok t) before now =
    IsMappedTo codes dictionary entry m t × (fault ≡ None) × HasMaps n before now
MapsTable codes dictionary entry fault n m (Err (Op found)) before now = fault ≡ Some found
MapsTable codes dictionary entry fault n m (Err Memory) before now = Unit {0}
