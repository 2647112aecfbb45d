-- Where an input stands in its file, and what reading fields does to its files.
use Rattle.std.specs.Prelude.{◌≡◌, ℕ, List, [], ◌++◌, Option, Some, None, IsSome, Bool, true, false, Result, Ok, Err}
use Rattle.cla_io.specs.Counts.{Rose}
use Rattle.cla_io.specs.State.{State, left}
use Rattle.cla_io.specs.Lines.{Progress}
use Rattle.cla_packed.specs.declared.fault.PackFault.{PackFault}
use Rattle.cla_packed.specs.declared.fault.PackFault.TheVariants.{Field, Trailing, TooLarge, TooLong, Memory}
use Rattle.cla_packed.specs.declared.fault.PackFault.TheVariants as faults
use Rattle.cla_packed.specs.Fields.{Place, Read, IsBytes, Fails}

-- bytes that are told
abbrev pub told_bytes : Option (List ℕ) → List ℕ
told_bytes None = []
told_bytes (Some bytes) = bytes

-- where an input stands in its file, which tells its bytes
abbrev pub place_at : Progress → Option (List ℕ) → Place
place_at p left = record { offset = p.at; limit = p.limit; rest = p.ahead ++ told_bytes left }

abbrev pub place_of : Progress → State → Place
place_of p s = place_at p (left s)

-- the files tell what they hold
abbrev pub IsTold : State → Type 0
IsTold s = IsSome s.told

-- a fault of reading comes only where a count of them rose, and the count stays with every other fault
abbrev pub HasFaultCause : ℕ → ℕ → PackFault → Type 0
HasFaultCause before now faults.Read = Rose before now
HasFaultCause before now (Field group name at) = now ≡ before
HasFaultCause before now (Trailing at) = now ≡ before
HasFaultCause before now (TooLarge rows cols) = now ≡ before
HasFaultCause before now TooLong = now ≡ before
HasFaultCause before now Memory = now ≡ before

abbrev pub HasReadCause : {T : Type 0} → ℕ → ℕ → Result T PackFault → Type 0
HasReadCause before now (Ok x) = now ≡ before
HasReadCause before now (Err fault) = HasFaultCause before now fault

-- where an input may stand: the one place that its files tell (true), or any with its offset and limit (false)
abbrev pub Places : Type 1
Places = Bool → Place → Type 0

abbrev pub places_of : Progress → State → Places
places_of p s true place = IsTold s × (place ≡ place_of p s)
places_of p s false place = (place.offset ≡ p.at) × (place.limit ≡ p.limit) × IsBytes place.rest

-- what was read: whichever bytes are behind it, there are bytes that read as it
abbrev pub Took : {A : Type 0} → Places → Places → (Place → Read A) → A → Type 0
Took before after read a = (told : Bool) (q : Place) → after told q → (p : Place) × before told p
    × (read p ≡ Ok (a, q))

-- what is wrong where the files tell their bytes
abbrev pub Refused : {A : Type 0} → Places → (Place → Read A) → PackFault → Type 0
Refused before read e = (p : Place) → before true p → Fails e (read p)

-- what a function returned, seen by view, was read, or is what is wrong
abbrev pub Reads : {X Y : Type 0} → Places → Places → (X → Y) → Result X PackFault → (Place → Read Y) → Type 0
Reads before after view (Ok x) read = Took before after read (view x)
Reads before after view (Err e) read = Refused before read e
