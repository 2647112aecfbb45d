-- What reading the tuples of a group gives.
use Rattle.std.specs.Prelude.{◌≡◌, ℕ, ℤ, List, ◌++◌, length, map, Bool, ◌&&◌, not, Result, Ok, Err}
use Rattle.std.specs.declared.vec.Vec.{Vec}
use Rattle.std.specs.declared.alloc.Global.{Global}
use Rattle.cla_layout.specs.Listed.{is_zero}
use Rattle.cla_layout.specs.Tuples.{tuples_of}
use Rattle.cla_packed.specs.declared.fault.PackFault.{PackFault}
use Rattle.cla_packed.specs.Values.{tuple_at, tuples_at, is_among}
use Rattle.cla_pack_reader.specs.Places.{Places, Took, Refused}

-- a tuple that may stand behind others: none of them, and where it is listed not the one of zeros
abbrev pub fits_tuple : Bool → List (List ℤ) → List ℤ → Bool
fits_tuple listed before tuple = not (is_among before tuple) && not (listed && is_zero tuple)

-- one tuple more, or the fault
abbrev pub GivesNext : {N : Type 0} → (N → ℤ) → ℕ → ℕ → ℕ → ℕ → Bool → List (List ℤ) → Places → Places
    → List N → List N → Result (Unit {0}) PackFault → Type 0
GivesNext value k bits group width listed before b a old new (Ok u) = (tuple : List ℤ)
    × (map value new ≡ map value old ++ tuple) × (length tuple ≡ width)
    × Took b a (tuple_at k bits group width (fits_tuple listed before)) tuple
GivesNext value k bits group width listed before b a old new (Err e) =
    Refused b (tuple_at k bits group width (fits_tuple listed before)) e

-- all tuples, or the fault
abbrev pub GivesTuples : {N : Type 0} → (N → ℤ) → ℕ → ℕ → ℕ → ℕ → Bool → ℕ → Places → Places
    → Result (Vec N Global) PackFault → Type 0
GivesTuples value k bits group width listed n b a (Ok values) =
    Took b a (tuples_at k bits group width (λ left before. fits_tuple listed before) n)
    (tuples_of width n (map value values.items))
GivesTuples value k bits group width listed n b a (Err e) =
    Refused b (tuples_at k bits group width (λ left before. fits_tuple listed before) n) e
