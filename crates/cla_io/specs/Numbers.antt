-- Numbers that are taken of a file, and the bytes at its start.
use Rattle.std.specs.Prelude.{◌≡◌, ◌≢◌, ℕ, ◌+◌, ◌*◌, ◌^◌, ◌<◌, ◌≤◌, min, List, [], ◌∷◌, take, drop, length, Option}
use Rattle.std.specs.Prelude.{Some, None, Bool, true, false, ◌==◌, ◌||◌, Result, Ok, Err}
use Rattle.cla_spec.specs.Bytes.{number_of}
use Rattle.cla_io.specs.declared.stop.InFault.{InFault}
use Rattle.cla_io.specs.declared.stop.InFault.TheVariants.{Read, TooLong, Memory}
use Rattle.cla_io.specs.Lines.{Progress, OnlyHolds}

-- a number has 1, 2, 4 or 8 bytes
abbrev pub is_number_width : ℕ → Bool
is_number_width n = n == 1 || n == 2 || n == 4 || n == 8

-- what take does to the bytes ahead: the number of the next n, or there are fewer, or one past the limit is among them
abbrev pub TakesNumber : ℕ → Progress → List ℕ → List ℕ → Result (Option ℕ) InFault → Type 0
TakesNumber n old bytes after (Ok (Some k)) = (n ≤ length bytes) × (k ≡ number_of (take n bytes))
    × (after ≡ drop n bytes) × (old.at + n ≤ old.limit)
TakesNumber n old bytes after (Ok None) = (length bytes < n) × (after ≡ bytes) × (old.at + length bytes ≤ old.limit)
TakesNumber n old bytes after (Err TooLong) = old.limit < old.at + min n (length bytes)
TakesNumber n old bytes after (Err Read) = Unit {0}
TakesNumber n old bytes after (Err Memory) = Unit {0}

abbrev pub TakesNumberWhereTold : ℕ → Progress → Option (List ℕ) → Option (List ℕ) → Result (Option ℕ) InFault → Type 0
TakesNumberWhereTold n old None after result = after ≡ None
TakesNumberWhereTold n old (Some bytes) None result = ⊥
TakesNumberWhereTold n old (Some bytes) (Some after) result = TakesNumber n old bytes after result

-- how take counts; without a number it takes nothing
abbrev pub CountsNumber : ℕ → Progress → Progress → Result (Option ℕ) InFault → Type 0
CountsNumber n old new (Ok (Some k)) = (new.at ≡ old.at + n) × (new.at ≤ new.limit) × (k < 256 ^ n)
CountsNumber n old new (Ok None) = OnlyHolds old new
CountsNumber n old new (Err e) = OnlyHolds old new

-- whether these bytes begin so
abbrev pub Begins : List ℕ → List ℕ → List ℕ → Result Bool InFault → Type 0
Begins magic bytes after (Ok true) = (after ≡ bytes) × (take (length magic) bytes ≡ magic)
Begins magic bytes after (Ok false) = (after ≡ bytes) × (take (length magic) bytes ≢ magic)
Begins magic bytes after (Err TooLong) = ⊥
Begins magic bytes after (Err Read) = Unit {0}
Begins magic bytes after (Err Memory) = Unit {0}

abbrev pub BeginsWhereTold : List ℕ → Option (List ℕ) → Option (List ℕ) → Result Bool InFault → Type 0
BeginsWhereTold magic None after result = after ≡ None
BeginsWhereTold magic (Some bytes) None result = ⊥
BeginsWhereTold magic (Some bytes) (Some after) result = Begins magic bytes after result

-- a number of bytes that are held is refused for its place alone
abbrev pub OnlyTooLongNumber : Result (Option ℕ) InFault → Type 0
OnlyTooLongNumber (Ok taken) = Unit {0}
OnlyTooLongNumber (Err TooLong) = Unit {0}
OnlyTooLongNumber (Err Read) = ⊥
OnlyTooLongNumber (Err Memory) = ⊥
