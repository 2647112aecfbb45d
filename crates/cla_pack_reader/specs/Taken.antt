-- The columns of the groups so far, as the reader keeps them.
use Rattle.std.specs.Prelude.{◌≡◌, ℕ, ◌≤◌, List, length, false}
use Rattle.cla_packed.specs.Codes.{has}
use Rattle.cla_pack_reader.specs.declared.marks.TakenColumns.{TakenColumns}
use Rattle.cla_pack_reader.specs.Marks.{AreMarks, IsLeast}

-- of so many columns these are taken
pub record HasTaken (cols : ℕ) (columns : List ℕ) (taken : TakenColumns) : Type 0 where
  pub places : length taken.marks ≡ cols
  pub marks : AreMarks cols columns taken.marks
  pub within : (c : ℕ) → cols ≤ c → has columns c ≡ false
  pub count : length columns ≡ taken.count
  pub least : IsLeast columns taken.least
