-- What the reader keeps of the lines that were read, and what a line does to it.
use Rattle.std.specs.Prelude.{◌≡◌, ℕ, ◌+◌, ◌*◌, ◌≤◌, ◌<◌, List, drop, length, true, Option, Some, None, Result, Ok, Err}
use Rattle.cla_spec.specs.Matrix.{Matrix, most_cells}
use Rattle.cla_io.specs.Lines.{with_left}
use Rattle.cla_market.specs.declared.banner.Banner.{Banner}
use Rattle.cla_market.specs.declared.banner.Format.TheVariants.{Array}
use Rattle.cla_market.specs.declared.size.Size.{Size}
use Rattle.cla_market.specs.declared.fault.MtxFault.{MtxFault}
use Rattle.cla_market.specs.declared.fault.MtxFault.TheVariants as faults
use Rattle.cla_market.specs.Sizes.{is_square, array_entries}
use Rattle.cla_market.specs.Entries.{Triple, entries_added}
use Rattle.cla_market.specs.Texts.{Reading, AtBanner, AtSize, AtEntries, read_from, placed_lines, matrix_in}
use Rattle.cla_mtx.specs.declared.next_cell.Cell.{Cell}
use Rattle.cla_mtx.specs.declared.entries.Entries.{Entries}
use Rattle.cla_mtx.specs.declared.phase.Phase.{Phase}
use Rattle.cla_mtx.specs.declared.phase.Phase.TheVariants as phases
use Rattle.cla_mtx.specs.Cells.{IsNextCell}
use Rattle.cla_mtx.specs.Sums.{AreInRange, HasSums}
use Rattle.cla_mtx.specs.Reading.{IsOfText, ReadsTextWhereTold}

-- this is the cell of entry n, from 0, where a file gives no cells
abbrev pub IsNextOf : Banner → Size → ℕ → Cell → Type 0
IsNextOf banner size n cell = banner.format ≡ Array → n < size.entries
    → IsNextCell banner.symmetry size.rows size.cols n cell

-- the table has the shape of the size line, all its sums are in range, and an array file's next cell is known
pub record IsReady (bits : ℕ) (e : Entries Matrix) : Type 0 where
  pub same_rows : e.table.rows ≡ e.size.rows
  pub same_cols : e.table.cols ≡ e.size.cols
  pub a_row : 1 ≤ e.size.rows
  pub a_col : 1 ≤ e.size.cols
  pub few_cells : e.size.rows * e.size.cols ≤ most_cells
  pub square : is_square e.banner.symmetry e.size.rows e.size.cols ≡ true
  pub few : e.count ≤ e.size.entries
  pub in_range : AreInRange bits e.table
  pub array : e.banner.format ≡ Array → e.size.entries ≡ array_entries e.banner.symmetry e.size.rows e.size.cols
  pub next : IsNextOf e.banner e.size e.count e.next

abbrev pub size_of : Entries Matrix → Size
size_of e = e.size

abbrev pub IsReadyPhase : ℕ → Phase (Entries Matrix) → Type 0
IsReadyPhase bits phases.Banner = Unit {0}
IsReadyPhase bits (phases.Size banner) = Unit {0}
IsReadyPhase bits (phases.Entries e) = IsReady bits e

-- the triples of the entry lines so far are these
pub record HasTriples (e : Entries Matrix) (ts : List Triple) : Type 0 where
  pub count : e.count ≡ length ts
  pub sums : HasSums e.table (entries_added e.banner.symmetry ts)

abbrev pub HasRead : Phase (Entries Matrix) → List Triple → Type 0
HasRead phases.Banner ts = Unit {0}
HasRead (phases.Size banner) ts = Unit {0}
HasRead (phases.Entries e) ts = HasTriples e ts

-- what has been read, in the words of the definition
abbrev pub reading_of : Phase (Entries Matrix) → List Triple → Reading
reading_of phases.Banner ts = AtBanner
reading_of (phases.Size banner) ts = AtSize banner
reading_of (phases.Entries e) ts = AtEntries e.banner e.size ts

-- what a line did
abbrev pub TakesLine : Result (Unit {0}) MtxFault → Phase (Entries Matrix) → Result Reading MtxFault → Type 0
TakesLine (Ok u) phase read = (ts : List Triple) × (read ≡ Ok (reading_of phase ts)) × HasRead phase ts
TakesLine (Err fault) phase read = IsOfText fault → read ≡ Err fault

-- the same for an entry line
abbrev pub TakesTriple : Entries Matrix → Result Reading MtxFault → Type 0
TakesTriple e read = (ts : List Triple) × (read ≡ Ok (AtEntries e.banner e.size ts)) × HasTriples e ts

abbrev pub TakesEntry : Result (Unit {0}) MtxFault → Entries Matrix → Result Reading MtxFault → Type 0
TakesEntry (Ok u) e read = TakesTriple e read
TakesEntry (Err fault) e read = IsOfText fault → read ≡ Err fault

-- what the end of the text says
abbrev pub EndsAs : Result Matrix MtxFault → Result Matrix MtxFault → Type 0
EndsAs (Ok m) read = read ≡ Ok m
EndsAs (Err fault) read = IsOfText fault → read ≡ Err fault

-- no fault of reading
abbrev pub IsNotRead : MtxFault → Type 0
IsNotRead faults.Read = ⊥
IsNotRead faults.Memory = Unit {0}
IsNotRead faults.TooLong = Unit {0}
IsNotRead (faults.Banner n) = Unit {0}
IsNotRead (faults.Unsupported place) = Unit {0}
IsNotRead (faults.Size n) = Unit {0}
IsNotRead (faults.Entry n) = Unit {0}
IsNotRead (faults.Index n) = Unit {0}
IsNotRead (faults.Diagonal n) = Unit {0}
IsNotRead (faults.Range n) = Unit {0}
IsNotRead (faults.TooFew n) = Unit {0}
IsNotRead (faults.TooMany n) = Unit {0}
IsNotRead (faults.TooLarge rows cols) = Unit {0}

-- what is left decides: read on from what has been read, it gives what the whole text gives
abbrev pub LeftDecides : ℕ → ℕ → ℕ → ℕ → Phase (Entries Matrix) → Option (List ℕ) → Option (List ℕ) → Type 0
LeftDecides bits limit at n phase None whole = whole ≡ None
LeftDecides bits limit at n phase (Some bytes) None = ⊥
LeftDecides bits limit at n phase (Some bytes) (Some text) = (at ≤ limit) × ((ts : List Triple) × HasRead phase ts
    × (read_from bits limit n (reading_of phase ts) (placed_lines at bytes) ≡ matrix_in bits limit text))

-- what some lines did: what is left decides still, or one of them has the whole text's first fault
abbrev pub GoesOn : ℕ → ℕ → ℕ → ℕ → Phase (Entries Matrix) → Option (List ℕ) → Option (List ℕ) →
    Result (Unit {0}) MtxFault
    → Type 0
GoesOn bits limit at n phase here whole (Ok u) = LeftDecides bits limit at n phase here whole
GoesOn bits limit at n phase here whole (Err fault) = ReadsTextWhereTold bits limit whole here (Err fault)

-- the same among the entry lines
abbrev pub EntriesDecide : ℕ → ℕ → ℕ → ℕ → Entries Matrix → Option (List ℕ) → Option (List ℕ) → Type 0
EntriesDecide bits limit at n e here whole = LeftDecides bits limit at n (phases.Entries e) here whole

abbrev pub EntriesGoOn : ℕ → ℕ → ℕ → ℕ → Entries Matrix → Option (List ℕ) → Option (List ℕ)
    → Result (Unit {0}) MtxFault → Type 0
EntriesGoOn bits limit at n e here whole result = GoesOn bits limit at n (phases.Entries e) here whole result

-- so many entry lines were taken of the bytes that come next, none of which stands past the limit
abbrev pub DecidesOver : ℕ → Entries Matrix → Entries Matrix → List ℕ → ℕ → ℕ → Type 0
DecidesOver bits old new bytes count width = (limit at n : ℕ) (left whole : Option (List ℕ)) → at + length bytes ≤ limit
    → EntriesDecide bits limit at n old (with_left bytes left) whole
    → EntriesDecide bits limit (at + width) (n + count) new (with_left (drop width bytes) left) whole
