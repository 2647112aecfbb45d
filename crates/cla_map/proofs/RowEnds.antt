-- What a row over a table answers.
use Rattle.std.proofs.Common.{◌≡◌, false, ℕ, ℤ, ◌+◌, ◌*◌, ◌/◌, ◌%◌, ◌<◌, ◌≤◌, List, [], ◌∷◌, length, map, Option, Some}
use Rattle.std.proofs.Common.{None, refl, ap, sym, ◌∙◌, arith}
use Rattle.std.proofs.Math.Nat.{mul-le-mul_right}
use Rattle.cla_spec.specs.Matrix.{most_cells}
use Rattle.cla_spec.proofs.Entries.{cell_within}
use Rattle.cla_num.specs.declared.fault.What.{What}
use Rattle.cla_num.specs.Fault.{cell_fault, fault_of}
use Rattle.cla_layout.specs.Layouts.{Layout, IsWhole, entry_in}
use Rattle.cla_coded.specs.declared.part.Part.{Part}
use Rattle.cla_coded.specs.Parts.{parts_of}
use Rattle.cla_coded.specs.Tables.{TableOf, layout_of}
use Rattle.cla_meaning.specs.Chains.{StepValue, integer_of}
use Rattle.cla_meaning.proofs.Faults.{no_fault, fault_is}
use Rattle.cla_map.specs.declared.misfit.Stop.{Stop}
use Rattle.cla_map.specs.declared.misfit.Misfit.{Misfit}
use Rattle.cla_map.specs.Stops.{or_stop, stop_from, last_value, fault_of_misfit, place_in}
use Rattle.cla_map.specs.FirstStops.{StopsIn, Tells, StopsInParts, mapped_part}
use Rattle.cla_map.specs.Answers.{IsMappedTo}
use Rattle.cla_map.proofs.Chained.{last_is_end}
use Rattle.cla_map.proofs.Told.{tells_cells}
use Rattle.cla_map.proofs.Results.{mapped_entry}
use Rattle.cla_map.proofs.Ends.{last_ranged, none_stops, mapped_to}

-- a value stops at its one step
stop_is : (w : Option What) (s : Stop) → or_stop None 0 w ≡ Some s → (w ≡ Some s.what) × (s.op ≡ 0)
stop_is None s same = absurd (cc same)
stop_is (Some what) s same =
    let is : record { op = 0; what = what } ≡ s = cc same in
    (ap (λ (t : Stop). Some t.what) is, sym (ap (λ (t : Stop). t.op) is))

stop_goes : (w : Option What) → or_stop None 0 w ≡ None → w ≡ None
stop_goes None same = refl
stop_goes (Some what) same = absurd (cc same)

-- the steps of each column
abbrev pub ColumnStep : Type 0
ColumnStep = ℕ → StepValue

abbrev pub stop_of : ℕ → ColumnStep → ℕ → ℤ → Option Stop
stop_of bits f j = stop_from bits 0 (f j ∷ [])

abbrev pub last_of : ℕ → ColumnStep → ℕ → ℤ → ℤ
last_of bits f j = last_value bits (f j ∷ [])

-- the first cell that stops gives the fault
first_cell : (bits rows cols : ℕ) (f : ColumnStep) (entry : ℕ → ℕ → ℤ) (m : Misfit) → 1 ≤ cols
    → rows * cols ≤ most_cells → m.place < most_cells
    → Tells (StopsIn (stop_of bits f) rows cols (λ i j. i * cols + j) entry) (Some m)
    → fault_of bits rows cols (λ i j. f j (entry i j)) ≡ Some (fault_of_misfit cols m)
first_cell bits rows cols f entry m some few placed ((i, j, op, row, col, stops, is), least) =
    let here = stop_is (cell_fault bits (f j (entry i j))) (record { op = op; what = m.what }) stops in
    let within = cell_within rows cols i j row col in
    let step : 0 ≡ m.op = omega (arith, is, within, few, placed, here.1) in
    let place : i * cols + j ≡ m.place = omega (arith, is, within, few, placed, here.1) in
    fault_is bits rows cols (λ r c. f c (entry r c)) i j m.what some
    (record {
      row = row;
      col = col;
      faulty = here.0;
      least = λ r c w row' col' wrong.
          (let after = least (0 * most_cells + (r * cols + c)) w (r, c, 0, row', col', ap (or_stop None 0) wrong, refl)
          in
          omega (arith, after, is, here.1));
    })
    ∙ ap (λ (o : ℕ). Some (record {
      op = o;
      row = (i * cols + j) / cols + 1;
      col = (i * cols + j) % cols + 1;
      what =
          m.what;
    })) step
    ∙ ap (λ (p : ℕ). Some (record { op = m.op; row = p / cols + 1; col = p % cols + 1; what = m.what })) place

-- the place of a cell of a base that isn't flipped
abbrev pub plain_place : Layout → ℕ → ℕ → ℕ
plain_place base = place_in (record { rows = base.rows; cols = base.cols; flipped = false })

cells_tell : (bits : ℕ) (f : ColumnStep) (base : Layout) (first : Option Misfit) → IsWhole bits base
    → Tells (StopsInParts (stop_of bits f) (plain_place base) base.parts (length base.parts)) first
    → Tells (StopsIn (stop_of bits f) base.rows base.cols (λ i j. i * base.cols + j) (entry_in base.parts)) first
cells_tell bits f base first whole tells =
    tells_cells bits base (stop_of bits f) (λ i j. i * base.cols + j) first whole
    (λ i r j le. omega (arith, mul-le-mul_right base.cols le)) tells

pub row_stops : (bits : ℕ) (f : ColumnStep) (base : Layout) (m : Misfit) → IsWhole bits base → m.place < most_cells
    → Tells (StopsInParts (stop_of bits f) (plain_place base) base.parts (length base.parts)) (Some m)
    → fault_of bits base.rows base.cols (λ i j. f j (entry_in base.parts i j)) ≡ Some (fault_of_misfit base.cols m)
row_stops bits f base m whole placed tells =
    first_cell bits base.rows base.cols f (entry_in base.parts) m whole.a_col whole.few placed
    (cells_tell bits f base (Some m) whole tells)

none_of_cells : (bits : ℕ) (f : ColumnStep) (base : Layout) → IsWhole bits base
    → Tells (StopsInParts (stop_of bits f) (plain_place base) base.parts (length base.parts)) None
    → (i j : ℕ) → i < base.rows → j < base.cols → stop_of bits f j (entry_in base.parts i j) ≡ None
none_of_cells bits f base whole tells =
    none_stops (stop_of bits f) base.rows base.cols (λ i j. i * base.cols + j) (entry_in base.parts)
    (cells_tell bits f base None whole tells)

pub row_goes : (bits : ℕ) (f : ColumnStep) (base : Layout) → IsWhole bits base
    → Tells (StopsInParts (stop_of bits f) (plain_place base) base.parts (length base.parts)) None
    → fault_of bits base.rows base.cols (λ i j. f j (entry_in base.parts i j)) ≡ None
row_goes bits f base whole tells =
    no_fault bits base.rows base.cols (λ i j. f j (entry_in base.parts i j)) whole.a_col
    (λ i j row col. stop_goes (cell_fault bits (f j (entry_in base.parts i j)))
    (none_of_cells bits f base whole tells i j row col))

-- parts with each value mapped make the table of the results
pub row_mapped : {G : Type 0} (bits : ℕ) (codes : G → List ℕ) (dictionary : G → List (List ℤ)) (f : ColumnStep)
    (rows cols : ℕ) (old parts : List (Part G))
    → IsWhole bits (layout_of codes dictionary (record { rows = rows; cols = cols; flipped = false; parts = old }))
    → Tells (StopsInParts (stop_of bits f) (place_in (record { rows = rows; cols = cols; flipped = false }))
    (parts_of codes dictionary old) (length (parts_of codes dictionary old))) None
    → parts_of codes dictionary parts ≡ map (mapped_part (last_of bits f)) (parts_of codes dictionary old)
    → IsMappedTo codes dictionary (λ i j. integer_of (f j (entry_in (parts_of codes dictionary old) i j)))
    (record { rows = rows; cols = cols; flipped = false; parts = old })
    (record { rows = rows; cols = cols; flipped = false; parts = parts })
row_mapped {G} bits codes dictionary f rows cols old parts whole tells same =
    let m : TableOf G = record { rows = rows; cols = cols; flipped = false; parts = old } in
    let base = layout_of codes dictionary m in
    mapped_to codes dictionary (last_of bits f) (λ i j. integer_of (f j (entry_in base.parts i j))) m parts same
    (λ i j row col. mapped_entry bits (last_of bits f) base i j (λ c. last_ranged bits (f c ∷ [])) whole row col
    ∙ last_is_end bits 0 (f j ∷ []) (entry_in base.parts i j) (none_of_cells bits f base whole tells i j row col))
