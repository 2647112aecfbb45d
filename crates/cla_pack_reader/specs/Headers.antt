-- What the fields before the groups give.
use Rattle.std.specs.Prelude.{◌≡◌, ℕ, List, [], Bool, Result, Ok, Err}
use Rattle.cla_packed.specs.declared.fault.PackFault.{PackFault}
use Rattle.cla_packed.specs.Fields.{Place, Read, list_at, ◌>>=◌}
use Rattle.cla_packed.specs.Files.{PackedLayout, PackedGroup, file_at, group_at}
use Rattle.cla_pack_reader.specs.declared.header.Header.{Header}
use Rattle.cla_pack_reader.specs.Places.{Places, Refused}

-- groups in a layout of so many rows and columns
abbrev pub layout_with : ℕ → ℕ → Read (List PackedGroup) → Read PackedLayout
layout_with rows cols groups = groups >>= λ x. Ok (record { rows = rows; cols = cols; groups = x.0 }, x.1)

-- a file is what its groups are behind the header, or the header's fault
abbrev pub GivesHeader : ℕ → ℕ → Places → Places → Result Header PackFault → Type 0
GivesHeader k bits b a (Ok h) = (told : Bool) (q : Place) → a told q → (p : Place) × b told p
    × (file_at k bits p ≡ layout_with h.rows h.cols (list_at (group_at k bits h.rows h.cols) h.groups [] q))
GivesHeader k bits b a (Err e) = Refused b (file_at k bits) e
