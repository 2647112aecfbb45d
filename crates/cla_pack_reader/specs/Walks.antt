-- How far lists were read, with a mark for each row that one of them has.
use Rattle.std.specs.Prelude.{◌≡◌, ℕ, ◌<◌, List, length, Bool, true, false, ◌||◌, nat_lt, slice_index_or, if◌then◌else◌}
use Rattle.cla_packed.specs.Codes.{has}
use Rattle.cla_packed.specs.Lists.{next_from, first_of, floor_of, named}
use Rattle.cla_pack_reader.specs.declared.walk.Walk.{Walk}

-- behind earlier lists and some rows of the next one
pub record IsState (earlier : List (List ℕ)) (so_far : List ℕ) (marks : List Bool) (walk : Walk)
    (floor : ℕ) : Type 0 where
  pub each : (i : ℕ) → i < length marks → slice_index_or marks i false ≡ (named earlier i || has so_far i)
  pub below : (i : ℕ) → has so_far i ≡ true → i < walk.next
  pub started : walk.started ≡ nat_lt 0 (length so_far)
  pub first : walk.first ≡ first_of so_far
  pub next : walk.next ≡ next_from 0 so_far
  pub floor_is : floor ≡ floor_of earlier

-- no row of a tuple was read yet
abbrev pub at_start : Walk
at_start = record { started = false; first = 0; next = 0 }

-- the rows from `begin` to before `end` more
abbrev pub past : Walk → ℕ → ℕ → Walk
past walk begin end = record { started = true; first = if walk.started then walk.first else begin; next = end }
