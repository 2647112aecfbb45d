-- Which values of a table stop, and the first of them.
use Rattle.std.specs.Prelude.{◌≡◌, ℕ, ℤ, ◌+◌, ◌*◌, ◌<◌, ◌≤◌, List, length, map, Option, Some, None}
use Rattle.cla_spec.specs.Matrix.{most_cells}
use Rattle.cla_num.specs.declared.fault.What.{What}
use Rattle.cla_layout.specs.Groups.{value_of, first_row_of}
use Rattle.cla_layout.specs.Tuples.{tuples_of}
use Rattle.cla_layout.specs.Layouts.{LayoutPart, Layout, column_at, part_at}
use Rattle.cla_map.specs.declared.misfit.Stop.{Stop}
use Rattle.cla_map.specs.declared.misfit.Misfit.{Misfit}
use Rattle.cla_map.specs.Stops.{mapped_values}

-- what is less comes first: the step, and then the place
abbrev pub key_of : Misfit → ℕ
key_of m = m.op * most_cells + m.place

-- a cell that stops, of these rows and columns, with its key, and why; whether it stops may depend on the column
abbrev pub StopsIn : (ℕ → ℤ → Option Stop) → ℕ → ℕ → (ℕ → ℕ → ℕ) → (ℕ → ℕ → ℤ) → ℕ → What → Type 0
StopsIn stop rows cols place entry key what =
    (i : ℕ) × (j : ℕ) × (op : ℕ) × (i < rows) × (j < cols)
    × (stop j (entry i j) ≡ Some (record { op = op; what = what }))
    × (key ≡ op * most_cells + place i j)

-- the first of those that fail, if any does
abbrev pub Tells : (ℕ → What → Type 0) → Option Misfit → Type 0
Tells Fails None = (key : ℕ) (what : What) → Fails key what → ⊥
Tells Fails (Some m) = Fails (key_of m) m.what × ((key : ℕ) (what : What) → Fails key what → key_of m ≤ key)

-- one of the first n values of tuple t stops
abbrev pub StopsInTuple : (ℕ → ℤ → Option Stop) → (ℕ → ℕ → ℕ) → LayoutPart → ℕ → ℕ → ℕ → What → Type 0
StopsInTuple stop place part t n =
    StopsIn (λ c. stop (column_at part.columns c)) 1 n
    (λ i c. place (first_row_of part.codes t) (column_at part.columns c))
    (λ i c. value_of part.tuples t c)

-- a value of a part's tuples stops; it stands for the cell in its tuple's first row
abbrev pub StopsInPart : (ℕ → ℤ → Option Stop) → (ℕ → ℕ → ℕ) → LayoutPart → ℕ → What → Type 0
StopsInPart stop place part =
    StopsIn (λ c. stop (column_at part.columns c)) (length part.tuples) (length part.columns)
    (λ k c. place (first_row_of part.codes k) (column_at part.columns c)) (value_of part.tuples)

-- a value of one of the first n parts stops
abbrev pub StopsInParts : (ℕ → ℤ → Option Stop) → (ℕ → ℕ → ℕ) → List LayoutPart → ℕ → ℕ → What → Type 0
StopsInParts stop place parts n key what = (q : ℕ) × (q < n) × StopsInPart stop place (part_at parts q) key what

-- the first m values of a part's tuples, each mapped as its column asks
abbrev pub part_values : (ℕ → ℤ → ℤ) → LayoutPart → ℕ → List ℤ
part_values h part m = mapped_values (λ c. h (column_at part.columns c)) (length part.columns) part.tuples m

-- the same columns and codes, and each value mapped
abbrev pub mapped_part : (ℕ → ℤ → ℤ) → LayoutPart → LayoutPart
mapped_part h part = record part {
  tuples = tuples_of (length part.columns) (length part.tuples)
      (part_values h part (length part.tuples * length part.columns));
}

abbrev pub mapped_layout : (ℕ → ℤ → ℤ) → Layout → Layout
mapped_layout h layout = record layout { parts = map (mapped_part h) layout.parts }
