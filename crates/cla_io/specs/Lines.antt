-- Input line by line: what was taken of a file, and what stands ahead.
use Rattle.std.specs.Prelude.{◌≡◌, ℕ, ◌+◌, ◌-◌, ◌<◌, ◌≤◌, List, [], ◌++◌, take, drop, length, Option, Some, None}
use Rattle.std.specs.Prelude.{Bool, true, false, Result, Ok, Err, if◌then◌else◌}
use Rattle.std.specs.List.{position_or_len}
use Rattle.std.specs.declared.vec.Vec.{Vec}
use Rattle.std.specs.declared.alloc.Global.{Global}
use Rattle.cla_spec.specs.Lines.{is_lf, without_cr, first_line, after_line}
use Rattle.cla_io.specs.declared.stop.InFault.{InFault}
use Rattle.cla_io.specs.declared.stop.InFault.TheVariants.{Read, TooLong, Memory}
use Rattle.cla_io.specs.Counts.{Rose}
use Rattle.cla_io.specs.State.{left}

-- what an input holds: the bytes that were read and weren't taken yet, how many bytes were taken, the line that was
-- taken last, how many lines were taken, and whether the end was met
pub record Progress : Type 0 where
  pub ahead : List ℕ
  pub at : ℕ
  pub limit : ℕ
  pub line : List ℕ
  pub lines : ℕ
  pub ended : Bool

-- the number of the line that was taken last; at the end, the number of lines plus 1
abbrev pub line_number_of : Progress → ℕ
line_number_of p = p.lines + (if p.ended then 1 else 0)

-- bytes that are held, and behind them those that are left to read, where these are told
abbrev pub with_left : List ℕ → Option (List ℕ) → Option (List ℕ)
with_left held None = None
with_left held (Some bytes) = Some (held ++ bytes)

-- the bytes that weren't taken yet, where they are told
abbrev pub ahead_of : Progress → Option (List ℕ) → Option (List ℕ)
ahead_of p left = with_left p.ahead left

-- how many bytes the first line takes, with its end
abbrev pub line_width : List ℕ → ℕ
line_width bytes = length bytes - length (after_line bytes)

-- what next_line does to the bytes ahead
abbrev pub TakesLine : Progress → Progress → List ℕ → List ℕ → Result Bool InFault → Type 0
TakesLine old new bytes after (Ok true) = (0 < length bytes) × (new.line ≡ first_line bytes)
    × (after ≡ after_line bytes) × (new.at ≡ old.at + line_width bytes) × (new.at ≤ new.limit)
TakesLine old new bytes after (Ok false) = (bytes ≡ []) × (after ≡ []) × (new.at ≡ old.at) × (new.at ≤ new.limit)
TakesLine old new bytes after (Err TooLong) = new.limit < old.at + line_width bytes
TakesLine old new bytes after (Err Read) = Unit {0}
TakesLine old new bytes after (Err Memory) = Unit {0}

abbrev pub TakesLineWhereTold : Progress → Progress → Option (List ℕ) → Option (List ℕ) → Result Bool InFault → Type 0
TakesLineWhereTold old new None after result = after ≡ None
TakesLineWhereTold old new (Some bytes) None result = ⊥
TakesLineWhereTold old new (Some bytes) (Some after) result = TakesLine old new bytes after result

-- nothing was taken: only the bytes that are held changed
pub record OnlyHolds (old new : Progress) : Type 0 where
  pub at : new.at ≡ old.at
  pub limit : new.limit ≡ old.limit
  pub line : new.line ≡ old.line
  pub lines : new.lines ≡ old.lines
  pub ended : new.ended ≡ old.ended

-- how next_line counts; the line that was taken last stands at the end of the file, and an error takes nothing
abbrev pub CountsLine : Progress → Progress → Result Bool InFault → Type 0
CountsLine old new (Ok true) = (new.lines ≡ old.lines + 1) × (new.ended ≡ false)
CountsLine old new (Ok false) = (new.lines ≡ old.lines) × (new.ended ≡ true) × (new.line ≡ old.line)
CountsLine old new (Err e) = OnlyHolds old new

-- what whole does to the bytes ahead: all of them are taken as they are, or one past the limit is among them
abbrev pub TakesAll : ℕ → List ℕ → List ℕ → Result (Vec ℕ Global) InFault → Type 0
TakesAll limit bytes after (Ok taken) = (taken.items ≡ bytes) × (after ≡ [])
TakesAll limit bytes after (Err TooLong) = limit < length bytes
TakesAll limit bytes after (Err Read) = Unit {0}
TakesAll limit bytes after (Err Memory) = Unit {0}

abbrev pub TakesAllWhereTold : ℕ → Option (List ℕ) → Option (List ℕ) → Result (Vec ℕ Global) InFault → Type 0
TakesAllWhereTold limit None after result = after ≡ None
TakesAllWhereTold limit (Some bytes) None result = ⊥
TakesAllWhereTold limit (Some bytes) (Some after) result = TakesAll limit bytes after result

abbrev pub TakesWholeWhereTold : Progress → Progress → Option (List ℕ) → Option (List ℕ) → Result (Vec ℕ Global) InFault
    → Type 0
TakesWholeWhereTold old new bytes after result = TakesAllWhereTold new.limit bytes after result

-- where whole stands afterwards: behind all bytes, within the limit; an error takes nothing
abbrev pub CountsWhole : Progress → Progress → Result (Vec ℕ Global) InFault → Type 0
CountsWhole old new (Ok taken) = (new.at ≡ length taken.items) × (new.at ≤ new.limit)
CountsWhole old new (Err e) = OnlyHolds old new

-- Read comes only where a count of faults rose, and the count stays with every other answer
abbrev pub InCause : {T : Type 0} → ℕ → ℕ → Result T InFault → Type 0
InCause before now (Err Read) = Rose before now
InCause before now (Err TooLong) = now ≡ before
InCause before now (Err Memory) = now ≡ before
InCause before now (Ok x) = now ≡ before

-- where the next LF stands among these bytes, if there is one
abbrev pub IsLfPlace : List ℕ → Option ℕ → Type 0
IsLfPlace bytes None = position_or_len is_lf bytes ≡ length bytes
IsLfPlace bytes (Some k) = (k < length bytes) × (position_or_len is_lf bytes ≡ k)

-- the first of these lines ends at `end`, and with its end has `width` bytes
pub record EndsAt (bytes : List ℕ) (end width : ℕ) : Type 0 where
  pub in_width : end ≤ width
  pub within : width ≤ length bytes
  pub line : first_line bytes ≡ without_cr (take end bytes)
  pub rest : after_line bytes ≡ drop width bytes
  pub is_width : line_width bytes ≡ width
  pub all : width ≡ 0 → bytes ≡ []

-- there is no LF among these bytes
abbrev pub HasNoLf : List ℕ → Type 0
HasNoLf bytes = position_or_len is_lf bytes ≡ length bytes

-- the bytes of the file stay the same, those that are held and those that are left to read together
abbrev pub SameBytes : List ℕ → Option (List ℕ) → List ℕ → Option (List ℕ) → Type 0
SameBytes held None held' left' = left' ≡ None
SameBytes held (Some left) held' None = ⊥
SameBytes held (Some left) held' (Some left') = held' ++ left' ≡ held ++ left

-- the next line was gathered, with its end it has so many bytes, and there is room for it
abbrev pub Gathers : ℕ → List ℕ → List ℕ → List ℕ → Result ℕ InFault → Type 0
Gathers room line bytes after (Ok width) = EndsAt bytes (length line) width × (line ≡ take (length line) bytes)
    × (after ≡ drop width bytes)
Gathers room line bytes after (Err TooLong) = room < line_width bytes
Gathers room line bytes after (Err Read) = Unit {0}
Gathers room line bytes after (Err Memory) = Unit {0}

abbrev pub GathersWhereTold : ℕ → List ℕ → Option (List ℕ) → Option (List ℕ) → Result ℕ InFault → Type 0
GathersWhereTold room line None after result = after ≡ None
GathersWhereTold room line (Some bytes) None result = ⊥
GathersWhereTold room line (Some bytes) (Some after) result = Gathers room line bytes after result

-- a line that was gathered is no longer than there was room for
abbrev pub InRoom : ℕ → List ℕ → Result ℕ InFault → Type 0
InRoom room line (Ok width) = (width ≤ room) × (length line ≤ width) × (width ≤ length line + 1)
InRoom room line (Err e) = Unit {0}

-- nothing is left to read, where that is told
abbrev pub IsAllRead : Option (List ℕ) → Type 0
IsAllRead None = Unit {0}
IsAllRead (Some bytes) = bytes ≡ []

-- a line that is held is refused for its length alone
abbrev pub OnlyTooLong : Result Bool InFault → Type 0
OnlyTooLong (Ok more) = Unit {0}
OnlyTooLong (Err TooLong) = Unit {0}
OnlyTooLong (Err Read) = ⊥
OnlyTooLong (Err Memory) = ⊥

-- reading on meets no limit
abbrev pub IsOther : InFault → Type 0
IsOther TooLong = ⊥
IsOther Read = Unit {0}
IsOther Memory = Unit {0}

abbrev pub IsNotTooLong : {T : Type 0} → Result T InFault → Type 0
IsNotTooLong (Ok x) = Unit {0}
IsNotTooLong (Err fault) = IsOther fault
