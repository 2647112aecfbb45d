-- What files in memory tell.
use Rattle.std.specs.Prelude.{◌≡◌, ℕ, min, List, map, length, Option, Some, None, Result, Ok, Err}
use Rattle.std.specs.FinMap as fin
use Rattle.std.specs.declared.vec.Vec.{Vec}
use Rattle.std.specs.declared.alloc.Global.{Global}
use Rattle.cla_spec.specs.Files.{Told}
use Rattle.cla_io.specs.declared.stop.Stop.{Stop}

-- the files as lists of bytes, by the bytes of their names
abbrev pub told_items : List (List ℕ × Vec ℕ Global) → List (List ℕ × List ℕ)
told_items entries = map (λ (e : List ℕ × Vec ℕ Global). (e.0, e.1.items)) entries

-- what they hold
abbrev pub told_of : List (List ℕ × Vec ℕ Global) → Told
told_of entries = fin.from_entries (told_items entries)

-- the bytes at a name, where they are told and the name is there
abbrev pub told_at : Option Told → List ℕ → Option (List ℕ)
told_at None name = None
told_at (Some told) name = fin.get told name

-- a read gives as many bytes as are left and as there is room for
abbrev pub TakesMost : Option (List ℕ) → ℕ → Result ℕ Stop → Type 0
TakesMost None room result = Unit {0}
TakesMost (Some bytes) room (Ok n) = n ≡ min (length bytes) room
TakesMost (Some bytes) room (Err e) = Unit {0}
