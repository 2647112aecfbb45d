-- What a chain over a table answers.
use Rattle.std.proofs.Common.{◌≡◌, ◌⊎◌, Bool, true, false, ℕ, ℤ, ◌+◌, ◌*◌, ◌/◌, ◌%◌, ◌^◌, ◌<◌, ◌≤◌, List, [], ◌∷◌}
use Rattle.std.proofs.Common.{length, map, Option, Some, None, refl, ap, sym, ◌∙◌, arith, inl, inr}
use Rattle.std.proofs.Math.Nat.{mul_comm, mul-le-mul_right}
use Rattle.std.proofs.lemmas.Bool.{cases_lt, le-ltb}
use Rattle.std.specs.Int.RustNames.{unsigned_abs}
use Rattle.cla_spec.specs.Numbers.{InRange}
use Rattle.cla_spec.specs.Matrix.{most_cells}
use Rattle.cla_spec.proofs.Entries.{cell_within}
use Rattle.cla_num.specs.Counts.{Counts}
use Rattle.cla_num.specs.declared.fault.What.{What}
use Rattle.cla_num.specs.declared.fault.What.TheVariants.{Range, Zero}
use Rattle.cla_num.specs.Fault.{cell_fault}
use Rattle.cla_coded.specs.declared.part.Part.{Part}
use Rattle.cla_layout.specs.Layouts.{LayoutPart, Layout, IsWhole, layout_with, entry_in, entry_as}
use Rattle.cla_coded.specs.Parts.{parts_of}
use Rattle.cla_coded.specs.Tables.{TableOf, layout_of, table_entry}
use Rattle.cla_coded.specs.Skeletons.{PartSkeletonOf, part_skeleton_of}
use Rattle.cla_map.specs.Answers.{rows_as, cols_as}
use Rattle.cla_map.specs.declared.misfit.Stop.{Stop}
use Rattle.cla_map.specs.declared.misfit.Misfit.{Misfit}
use Rattle.cla_meaning.specs.Entries.{Entry}
use Rattle.cla_meaning.specs.Chains.{StepValue, integer_of, chain_fault, chain_value}
use Rattle.cla_map.specs.Stops.{stop_from, last_value, fault_of_misfit, place_in}
use Rattle.cla_meaning.specs.Counts.{AreRaised}
use Rattle.cla_map.specs.Answers.{IsMappedTo}
use Rattle.cla_map.specs.FirstStops.{key_of, StopsIn, Tells, StopsInParts, mapped_part, mapped_layout}
use Rattle.cla_meaning.proofs.Faults.{either_what}
use Rattle.cla_map.proofs.Chained.{chain_none, chain_first, last_is_end}
use Rattle.cla_map.proofs.Told.{tells_cells, tells_turned}
use Rattle.cla_map.proofs.Results.{mapped_entry}

none_is : {P : Type 0} (what : What) → Some what ≡ None → P
none_is what same = cc

good_number : (bits : ℕ) (cell : Option ℤ) → cell_fault bits cell ≡ None → InRange bits (integer_of cell)
good_number bits None good = none_is Zero good
good_number bits (Some v) good = elim (cases_lt (unsigned_abs v) (2 ^ bits)) [
  | inl within ↦ within
  | inr past ↦ none_is (Range v) (rw (le-ltb (unsigned_abs v) (2 ^ bits) past) at good)
]

-- a value is in range before each step
pub last_ranged : (bits : ℕ) (fs : List StepValue) (z : ℤ) → InRange bits z → InRange bits (last_value bits fs z)
last_ranged bits [] z ranged = ranged
last_ranged bits (f ∷ fs) z ranged = elim (either_what (cell_fault bits (f z))) [
  | inl goes ↦ rw goes (last_ranged bits fs (integer_of (f z)) (good_number bits (f z) goes))
  | inr fails ↦ rw fails.1 ranged
]

-- of the values of a table's parts, and so of its cells, flipped or not
pub tells_table : (bits : ℕ) (stop : ℤ → Option Stop) (base : Layout) (flipped : Bool) (first : Option Misfit)
    → IsWhole bits base
    → Tells (StopsInParts (λ j. stop) (place_in (record { rows = base.rows; cols = base.cols; flipped = flipped }))
    base.parts (length base.parts)) first
    → Tells (StopsIn (λ j. stop) (rows_as flipped base) (cols_as flipped base) (λ i j. i * cols_as flipped base + j)
    (entry_as flipped base)) first
tells_table bits stop base true first whole tells =
    tells_turned stop base.rows base.cols (λ i j. j * base.rows + i) (entry_in base.parts) first
    (tells_cells bits base (λ j. stop) (λ i j. j * base.rows + i) first whole (λ i r j le. omega (arith, le)) tells)
tells_table bits stop base false first whole tells =
    tells_cells bits base (λ j. stop) (λ i j. i * base.cols + j) first whole
    (λ i r j le. omega (arith, mul-le-mul_right base.cols le)) tells

either_stop : (s : Option Stop) → (s ≡ None) ⊎ ((stop : Stop) × (s ≡ Some stop))
either_stop None = inl refl
either_stop (Some stop) = inr (stop, refl)

-- none of the cells stops
pub none_stops : (stop : ℕ → ℤ → Option Stop) (rows cols : ℕ) (place : ℕ → ℕ → ℕ) (entry : ℕ → ℕ → ℤ)
    → Tells (StopsIn stop rows cols place entry) None → (i j : ℕ) → i < rows → j < cols → stop j (entry i j) ≡ None
none_stops stop rows cols place entry tells i j row col = elim (either_stop (stop j (entry i j))) [
  | inl goes ↦ goes
  | inr stops ↦ absurd (tells (stops.0.op * most_cells + place i j) stops.0.what
      (i, j, stops.0.op, row, col, stops.1, refl))
]

-- the first of those that stop gives the fault
first_stops : (bits rows cols : ℕ) (fs : List StepValue) (entry : ℕ → ℕ → ℤ) (m : Misfit) → 1 ≤ cols
    → rows * cols ≤ most_cells → m.place < most_cells
    → StopsIn (λ j. stop_from bits 0 fs) rows cols (λ i j. i * cols + j) entry (key_of m) m.what
    → ((key : ℕ) (what : What) → StopsIn (λ j. stop_from bits 0 fs) rows cols (λ i j. i * cols + j) entry key what
    → key_of m ≤ key)
    → chain_fault bits rows cols fs entry ≡ Some (fault_of_misfit cols m)
first_stops bits rows cols fs entry m some few placed (i, j, op, row, col, stops, is) least =
    let within = cell_within rows cols i j row col in
    let step : op ≡ m.op = omega (arith, is, within, few, placed) in
    let place : i * cols + j ≡ m.place = omega (arith, is, within, few, placed) in
    chain_first bits rows cols 0 fs entry i j op m.what some few row col stops
    (λ r c stop row' col' also. (let after =
    least (stop.op * most_cells + (r * cols + c)) stop.what (r, c, stop.op, row', col', also, refl) in
    omega (arith, after, is)))
    ∙ ap (λ (o : ℕ). Some (record {
      op = o;
      row = (i * cols + j) / cols + 1;
      col = (i * cols + j) % cols + 1;
      what =
          m.what;
    })) step
    ∙ ap (λ (p : ℕ). Some (record { op = m.op; row = p / cols + 1; col = p % cols + 1; what = m.what })) place

table_few : (bits : ℕ) (base : Layout) (flipped : Bool) → IsWhole bits base
    → (1 ≤ cols_as flipped base) × (rows_as flipped base * cols_as flipped base ≤ most_cells)
table_few bits base true whole = (whole.a_row, omega (arith, whole.few, mul_comm base.rows base.cols))
table_few bits base false whole = (whole.a_col, whole.few)

pub chain_stops : (bits : ℕ) (fs : List StepValue) (base : Layout) (flipped : Bool) (m : Misfit) → IsWhole bits base
    → m.place < most_cells
    → Tells (StopsInParts (λ j. stop_from bits 0 fs)
    (place_in (record { rows = base.rows; cols = base.cols; flipped = flipped })) base.parts (length base.parts))
    (Some m)
    → chain_fault bits (rows_as flipped base) (cols_as flipped base) fs (entry_as flipped base)
    ≡ Some (fault_of_misfit (cols_as flipped base) m)
chain_stops bits fs base flipped m whole placed tells =
    let told = tells_table bits (stop_from bits 0 fs) base flipped (Some m) whole tells in
    let few = table_few bits base flipped whole in
    first_stops bits _ _ fs (entry_as flipped base) m few.0 few.1 placed told.0 told.1

pub chain_goes : (bits : ℕ) (fs : List StepValue) (base : Layout) (flipped : Bool) → IsWhole bits base
    → Tells (StopsInParts (λ j. stop_from bits 0 fs)
    (place_in (record { rows = base.rows; cols = base.cols; flipped = flipped })) base.parts (length base.parts))
    None
    → chain_fault bits (rows_as flipped base) (cols_as flipped base) fs (entry_as flipped base) ≡ None
chain_goes bits fs base flipped whole tells =
    chain_none bits _ _ 0 fs (entry_as flipped base) (table_few bits base flipped whole).0
    (none_stops (λ j. stop_from bits 0 fs) _ _ _ (entry_as flipped base)
    (tells_table bits (stop_from bits 0 fs) base flipped None whole tells))

-- a part without its values
abbrev skeleton_in : LayoutPart → PartSkeletonOf
skeleton_in part = record { columns = part.columns; codes = part.codes }

skeletons_in : {G : Type 0} (codes : G → List ℕ) (dictionary : G → List (List ℤ)) (parts : List (Part G))
    → map (part_skeleton_of codes) parts ≡ map skeleton_in (parts_of codes dictionary parts)
skeletons_in codes dictionary [] = refl
skeletons_in codes dictionary (part ∷ parts) =
    ap (λ (ss : List PartSkeletonOf). part_skeleton_of codes part ∷ ss) (skeletons_in codes dictionary parts)

skeletons_kept : (h : ℕ → ℤ → ℤ) (parts : List LayoutPart)
    → map skeleton_in (map (mapped_part h) parts) ≡ map skeleton_in parts
skeletons_kept h [] = refl
skeletons_kept h (part ∷ parts) = ap (λ (ss : List PartSkeletonOf). skeleton_in part ∷ ss) (skeletons_kept h parts)

entries : (bits : ℕ) (fs : List StepValue) (base : Layout) (flipped : Bool) → IsWhole bits base
    → ((i j : ℕ) → i < rows_as flipped base → j < cols_as flipped base
    → stop_from bits 0 fs (entry_as flipped base i j) ≡ None)
    → (i j : ℕ) → i < rows_as flipped base → j < cols_as flipped base
    → entry_as flipped (mapped_layout (λ j. last_value bits fs) base) i j ≡ chain_value fs (entry_as flipped base i j)
entries bits fs base true whole goes i j row col =
    mapped_entry bits (λ j. last_value bits fs) base j i (λ j. last_ranged bits fs) whole col row
    ∙ last_is_end bits 0 fs (entry_in base.parts j i) (goes i j row col)
entries bits fs base false whole goes i j row col =
    mapped_entry bits (λ j. last_value bits fs) base i j (λ j. last_ranged bits fs) whole row col
    ∙ last_is_end bits 0 fs (entry_in base.parts i j) (goes i j row col)

-- parts of the same columns and codes, with each value mapped, make the table with these entries
pub mapped_to : {G : Type 0} (codes : G → List ℕ) (dictionary : G → List (List ℤ)) (h : ℕ → ℤ → ℤ) (entry : Entry)
    (m : TableOf G) (parts : List (Part G))
    → parts_of codes dictionary parts ≡ map (mapped_part h) (parts_of codes dictionary m.parts)
    → ((i j : ℕ) → i < rows_as m.flipped (layout_of codes dictionary m)
    → j < cols_as m.flipped (layout_of codes dictionary m)
    → entry_as m.flipped (mapped_layout h (layout_of codes dictionary m)) i j ≡ entry i j)
    → IsMappedTo codes dictionary entry m (record { rows = m.rows; cols = m.cols; flipped = m.flipped; parts = parts })
mapped_to codes dictionary h entry m parts same are =
    let old = parts_of codes dictionary m.parts in
    let kept : map (part_skeleton_of codes) parts ≡ map (part_skeleton_of codes) m.parts =
    skeletons_in codes dictionary parts ∙ ap (map skeleton_in) same ∙ skeletons_kept h old
    ∙ sym (skeletons_in codes dictionary m.parts) in
    record {
      skeleton = ap (λ (ss : List PartSkeletonOf). record {
        rows = m.rows;
        cols = m.cols;
        flipped = m.flipped;
        parts =
            ss;
      }) kept;
      entries = λ i j row col. ap (λ (ps : List LayoutPart). entry_as m.flipped (layout_with m.rows m.cols ps) i j) same
          ∙ are i j row col;
    }

-- the table after all steps
pub chained : {G : Type 0} (bits : ℕ) (codes : G → List ℕ) (dictionary : G → List (List ℤ)) (fs : List StepValue)
    (m : TableOf G) (parts : List (Part G))
    → IsWhole bits (layout_of codes dictionary m)
    → Tells (StopsInParts (λ j. stop_from bits 0 fs)
    (place_in (record { rows = m.rows; cols = m.cols; flipped = m.flipped })) (parts_of codes dictionary m.parts)
    (length (parts_of codes dictionary m.parts))) None
    → parts_of codes dictionary parts ≡ map (mapped_part (λ j. last_value bits fs)) (parts_of codes dictionary m.parts)
    → IsMappedTo codes dictionary (λ i j. chain_value fs (table_entry codes dictionary m i j)) m
    (record { rows = m.rows; cols = m.cols; flipped = m.flipped; parts = parts })
chained bits codes dictionary fs m parts whole tells same =
    let base = layout_of codes dictionary m in
    mapped_to codes dictionary (λ j. last_value bits fs) (λ i j. chain_value fs (table_entry codes dictionary m i j)) m
    parts same
    (entries bits fs base m.flipped whole
    (none_stops (λ j. stop_from bits 0 fs) _ _ _ (entry_as m.flipped base)
    (tells_table bits (stop_from bits 0 fs) base m.flipped None whole tells)))

pub counts_are : (n m : ℕ) (first : Option Misfit) (before now : Counts) → m ≡ n → first ≡ None
    → AreRaised m first before now → now ≡ record before { maps = before.maps + n }
counts_are n m first before now same none are =
    let maps : now.maps ≡ before.maps + n = omega (arith, are.all none, same) in
    ap (λ (k : ℕ). record { mults = k; maps = now.maps }) are.mults
    ∙ ap (λ (k : ℕ). record { mults = before.mults; maps = k }) maps
