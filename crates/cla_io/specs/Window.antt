-- What an input holds of its file: a buffer, and the line that was taken last.
use Rattle.std.specs.Prelude.{ℕ, ◌≤◌, ◌^◌, List, length, slice_range}
use Rattle.cla_io.specs.declared.window.Window.{Window}
use Rattle.cla_io.specs.declared.last_line.LastLine.{LastLine}
use Rattle.cla_io.specs.declared.last_line.LastLine.TheVariants.{Held, Apart}

-- the bytes that are held and weren't taken
abbrev pub items : Window → List ℕ
items w = slice_range w.bytes.items w.start w.end

-- how many bytes a buffer has
abbrev pub size_of : Window → ℕ
size_of w = length w.bytes.items

-- the line that was taken last, over the bytes of a buffer
abbrev pub line_of : LastLine → List ℕ → List ℕ
line_of (Held start end) buffer = slice_range buffer start end
line_of (Apart bytes) buffer = bytes.items

-- it stands in a buffer of this size
abbrev pub StandsIn : LastLine → ℕ → Type 0
StandsIn (Held start end) size = (start ≤ end) × (end ≤ size)
StandsIn (Apart bytes) size = Unit {0}

-- the places and counts that an input keeps are in order
pub record IsInOrder (last : LastLine) (size limit at lines : ℕ) : Type 0 where
  pub limit_small : limit ≤ 2 ^ 32
  pub at_within : at ≤ limit
  pub counted : lines ≤ at
  pub line : StandsIn last size
