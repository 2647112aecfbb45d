-- Some of a group's rows, with the tuples that they name.
use Rattle.std.specs.Prelude.{◌≡◌, ℕ, ◌-◌, ◌<◌, ◌≤◌, List, length, take, drop}
use Rattle.cla_layout.specs.Groups.{IsGroup}
use Rattle.cla_group.specs.Rows.{AreRowsFrom}
use Rattle.cla_layout.specs.Groups.{AreNumbered}
use Rattle.cla_group.specs.Dictionaries.{DictionaryOf}

-- the rows with these codes of a dictionary, with new codes of a dictionary without the tuples that none of them names:
-- whichever group they were cut from, they are a group, and are its rows
pub record AreKeptRows (bits : ℕ) (codes : List ℕ) (from : DictionaryOf) (codes' : List ℕ) (kept : DictionaryOf) : Type
    0 where
  pub width : kept.width ≡ from.width
  pub few : length kept.tuples ≤ length from.tuples
  pub numbered : AreNumbered codes' (length kept.tuples)
  pub group : (a b : ℕ) (all : List ℕ) → a < b → b ≤ length all → codes ≡ take (b - a) (drop a all) →
      IsGroup bits from.width all from.tuples → IsGroup bits kept.width codes' kept.tuples
  pub rows : (a b : ℕ) (all : List ℕ) → a < b → b ≤ length all → codes ≡ take (b - a) (drop a all) →
      IsGroup bits from.width all from.tuples → AreRowsFrom a (b - a) from.width all from.tuples codes' kept.tuples
