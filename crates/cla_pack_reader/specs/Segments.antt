-- What reading rows gives, with the state that it leaves.
use Rattle.std.specs.Prelude.{◌≡◌, ℕ, ◌<◌, List, [], ◌∷◌, ◌++◌, length, Bool, true, eqb, Result, Ok, Err}
use Rattle.std.specs.List.{IsDistinct}
use Rattle.cla_packed.specs.declared.fault.PackFault.{PackFault}
use Rattle.cla_packed.specs.Codes.{has}
use Rattle.cla_packed.specs.Fields.{Place, Read}
use Rattle.cla_packed.specs.Offsets.{fits_row, joined}
use Rattle.cla_pack_reader.specs.declared.walk.Walk.{Walk}
use Rattle.cla_pack_reader.specs.Walks.{IsState, at_start}
use Rattle.cla_pack_reader.specs.Places.{Places, Took, Refused}

-- behind some rows of a tuple, where the rows of all are kept one behind the other
pub record IsOffsetState (earlier : List (List ℕ)) (so_far : List ℕ) (marks : List Bool) (places : List ℕ) (walk : Walk)
    (floor : ℕ) : Type 0 where
  pub state : IsState earlier so_far marks walk floor
  pub kept : places ≡ joined earlier ++ so_far
  pub once : IsDistinct eqb places
  pub within : (i : ℕ) → has places i ≡ true → i < length marks

-- one row more, which fits, or the fault
abbrev pub GivesRow : List (List ℕ) → List ℕ → Result ℕ PackFault → Places → Places → (Place → Read ℕ) → Type 0
GivesRow earlier so_far (Ok row) b a read = Took b a read row × (fits_row earlier so_far row ≡ true)
GivesRow earlier so_far (Err e) b a read = Refused b read e

-- some rows more, or the fault
abbrev pub GivesRows : List (List ℕ) → List ℕ → List Bool → List ℕ → ℕ → Result Walk PackFault → Places → Places
    → (Place → Read (List ℕ)) → Type 0
GivesRows earlier so_far marks places floor (Ok walk) b a read = (list : List ℕ) × Took b a read list
    × IsOffsetState earlier (so_far ++ list) marks places walk floor
GivesRows earlier so_far marks places floor (Err e) b a read = Refused b read e

-- one list more, or the fault
abbrev pub GivesList : List (List ℕ) → List Bool → List ℕ → Result ℕ PackFault → Places → Places
    → (Place → Read (List ℕ)) → Type 0
GivesList earlier marks places (Ok floor) b a read = (list : List ℕ) × Took b a read list
    × IsOffsetState (earlier ++ list ∷ []) [] marks places at_start floor
GivesList earlier marks places (Err e) b a read = Refused b read e
