-- What reading a whole packed file gives.
use Rattle.std.specs.Prelude.{◌≡◌, ℕ, List, length, Option, Some, None, Result}
use Rattle.cla_packed.specs.declared.fault.PackFault.{PackFault}
use Rattle.cla_packed.specs.Fields.{IsBytes, Gives, whole_at}
use Rattle.cla_packed.specs.Files.{PackedLayout, file_at}

-- the layout that a file holds, or what is wrong with it, where the bytes are told
abbrev pub GivesFileWhereTold : {X : Type 0} → (X → PackedLayout) → ℕ → ℕ → Option (List ℕ) → Result X PackFault
    → Type 0
GivesFileWhereTold view bits limit None result = Unit {0}
GivesFileWhereTold view bits limit (Some bytes) result = Gives view result (whole_at (file_at 8 bits) limit bytes)

-- these are the bytes of the whole file, where they are told
abbrev pub IsEncodingWhereTold : Option (List ℕ) → List ℕ → Type 0
IsEncodingWhereTold None encoding = Unit {0}
IsEncodingWhereTold (Some bytes) encoding = IsBytes bytes → encoding ≡ bytes

-- the whole file has so many bytes, where they are told
abbrev pub HasLengthWhereTold : Option (List ℕ) → ℕ → Type 0
HasLengthWhereTold None n = Unit {0}
HasLengthWhereTold (Some bytes) n = n ≡ length bytes
