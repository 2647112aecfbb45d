-- What the calls that read do to files.
use Rattle.std.specs.Prelude.{◌≡◌, ℕ, ◌+◌, ◌≤◌, min, List, [], take, drop, length, Option, Some, None, IsSome, Bool}
use Rattle.std.specs.Prelude.{true, false, Result, Ok, Err}
use Rattle.std.specs.FinMap as fin
use Rattle.cla_spec.specs.Files.{Told}
use Rattle.cla_io.specs.State.{State, Reading, left}
use Rattle.cla_io.specs.Counts.{Rose, counter_end}
use Rattle.cla_io.specs.declared.stop.Stop.{Stop}

-- nothing but the file that is being read and counts of reading changed
pub record OnlyReads (old new : State) : Type 0 where
  pub told : new.told ≡ old.told
  pub writing : new.writing ≡ old.writing
  pub steady : new.steady ≡ old.steady
  pub read_faults : old.read_faults ≤ new.read_faults
  pub write_faults : new.write_faults ≡ old.write_faults
  pub misses : old.misses ≤ new.misses

-- a name is there, and one is absent, where that is told
abbrev pub IsPresent : Option Told → List ℕ → Type 0
IsPresent None name = Unit {0}
IsPresent (Some told) name = IsSome (fin.get told name)

abbrev pub IsAbsent : Option Told → List ℕ → Type 0
IsAbsent None name = Unit {0}
IsAbsent (Some told) name = fin.get told name ≡ None

-- what begin_read answers
abbrev pub BeginsRead : List ℕ → State → State → Result Bool Stop → Type 0
BeginsRead name old new (Ok true) = (new.reading ≡ Some (record { name = name; place = 0 })) × IsPresent old.told name
    × (new.misses ≡ old.misses)
BeginsRead name old new (Ok false) = (new.reading ≡ None) × Rose old.misses new.misses × IsAbsent old.told name
BeginsRead name old new (Err e) = (new.reading ≡ None) × (new.misses ≡ old.misses)

-- n more bytes of a file were taken; an untold place stands still at a counter's last number
abbrev pub moved : Option Told → Reading → ℕ → Reading
moved None r n = record r { place = min (r.place + n) counter_end }
moved (Some told) r n = record r { place = r.place + n }

abbrev pub MovesOn : Option Told → Option Reading → Option Reading → ℕ → Type 0
MovesOn told None new n = ⊥
MovesOn told (Some r) new n = new ≡ Some (moved told r n)

-- the first n bytes of a buffer are the next ones of a file, and n is 0 only at its end
abbrev pub Takes : Option (List ℕ) → List ℕ → ℕ → Option (List ℕ) → Type 0
Takes None into n after = Unit {0}
Takes (Some bytes) into n after = (after ≡ Some (drop n bytes)) × (take n into ≡ take n bytes) × (n ≤ length bytes)
    × (n ≡ 0 → bytes ≡ [])

-- what read answers
abbrev pub Reads : State → State → List ℕ → Result ℕ Stop → Type 0
Reads old new into (Ok n) = (n ≤ length into) × MovesOn old.told old.reading new.reading n
    × Takes (left old) into n (left new)
Reads old new into (Err e) = new.reading ≡ old.reading
