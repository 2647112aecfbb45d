-- What reading values gives.
use Rattle.std.specs.Prelude.{◌≡◌, ℕ, ℤ, List, [], ◌∷◌, ◌++◌, length, map, Bool, true, false, Result, Ok, Err}
use Rattle.cla_packed.specs.declared.fault.PackFault.{PackFault}
use Rattle.cla_packed.specs.declared.fault.PackFault.TheVariants.{Field}
use Rattle.cla_packed.specs.declared.fault.FieldName.TheVariants.{Value}
use Rattle.cla_packed.specs.Values.{value_at, tuple_at}
use Rattle.cla_pack_reader.specs.Places.{Places, Took, Refused}
use Rattle.cla_spec.specs.Numbers.{in_range}

-- a test that passes no value out of range
abbrev pub TestsRange : ℕ → (ℤ → Bool) → Type 0
TestsRange bits test = (v : ℤ) → in_range bits v ≡ false → test v ≡ false

-- a value, which passes a test or is the fault
abbrev pub GivesValue : {N : Type 0} → (N → ℤ) → ℕ → (ℤ → Bool) → ℕ → Places → Places → ℕ → Result N PackFault → Type 0
GivesValue value k test group b a at (Ok v) = (test (value v) ≡ true → Took b a (value_at k test group) (value v))
    × (test (value v) ≡ false → Refused b (value_at k test group) (Field group Value at))
GivesValue value k test group b a at (Err e) = Refused b (value_at k test group) e

-- one value more, which is in range, behind those that were there
abbrev pub GivesPushed : {N : Type 0} → (N → ℤ) → ℕ → ℕ → (ℤ → Bool) → ℕ → Places → Places → ℕ → List N → List N
    → Result (Unit {0}) PackFault → Type 0
GivesPushed value k bits test group b a at old new (Ok u) = (v : ℤ) × (map value new ≡ map value old ++ v ∷ [])
    × (in_range bits v ≡ true) × (test v ≡ true → Took b a (value_at k test group) v)
    × (test v ≡ false → Refused b (value_at k test group) (Field group Value at))
GivesPushed value k bits test group b a at old new (Err e) = Refused b (value_at k test group) e

-- the values of a tuple more; a test decides whether the tuple stands here, or its last value, which is at this offset,
-- is the fault
abbrev pub GivesTuple : {N : Type 0} → (N → ℤ) → ℕ → ℕ → ℕ → ℕ → (List ℤ → Bool) → Places → Places → ℕ → List N → List N
    → Result (Unit {0}) PackFault → Type 0
GivesTuple value k bits group width whole b a last old new (Ok u) = (tuple : List ℤ)
    × (map value new ≡ map value old ++ tuple) × (length tuple ≡ width)
    × (whole tuple ≡ true → Took b a (tuple_at k bits group width whole) tuple)
    × (whole tuple ≡ false → Refused b (tuple_at k bits group width whole) (Field group Value last))
GivesTuple value k bits group width whole b a last old new (Err e) = Refused b (tuple_at k bits group width whole) e
