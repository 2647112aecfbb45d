-- Groups that are being made: their tuples and their best kinds are those of their columns, counted from the matrix.
use Rattle.std.specs.Prelude.{◌≡◌, ℕ, ◌+◌, ◌-◌, ◌<◌, ◌≤◌, ◌^◌, All, List, [], ◌∷◌, ◌++◌, length, map, nat_lt}
use Rattle.std.specs.Prelude.{if◌then◌else◌}
use Rattle.cla_spec.specs.Matrix.{Matrix}
use Rattle.cla_grouping.specs.Tuples.{tuples_in, joined}
use Rattle.cla_grouping.specs.Sizes.{figures_of, best_of, best_bytes, IsLeast}
use Rattle.cla_grouping.specs.Grouping.{GroupOf, best_in, choice_of}
use Rattle.cla_cocode.specs.Listing.{IsListing}
use Rattle.cla_cocode.specs.declared.kept.Kept.{Kept}
use Rattle.cla_cocode.specs.declared.choice.Chosen.{Chosen}

-- bytes that may be added, the figures of the tuples, and the rows that they list, where these are kept
pub record IsFit (k : Kept) : Type 0 where
  pub small : k.best.bytes < 2 ^ 30
  pub figures : k.figures ≡ figures_of k.tuples
  pub listing : IsListing k.tuples k.listing

-- a group is counted from the matrix
pub record IsCounted (m : Matrix) (k : Kept) : Type 0 where
  pub tuples : k.tuples ≡ tuples_in m k.columns.items
  pub best : k.best ≡ best_in m k.columns.items
  pub least : IsLeast (figures_of k.tuples) k.best
  pub fit : IsFit k

-- a group in its best kind
abbrev pub kept_seen : Kept → GroupOf
kept_seen k = record { columns = k.columns.items; kind = k.best.kind; bytes = k.best.bytes }

-- the columns of groups
abbrev pub columns_of : List Kept → List (List ℕ)
columns_of ks = map (λ k. k.columns.items) ks

-- all groups are counted from the matrix, and none has more columns than were taken in
pub record AreCounted (m : Matrix) (done : ℕ) (ks : List Kept) : Type 0 where
  pub each : All (IsCounted m) ks
  pub narrow : All (λ k. length k.columns.items ≤ done) ks

-- a group that has taken in a column, by their codes
pub record IsJoined (group single : Kept) (c : ℕ) (k : Kept) : Type 0 where
  pub columns : k.columns.items ≡ group.columns.items ++ c ∷ []
  pub tuples : k.tuples ≡ joined group.tuples single.tuples
  pub best : k.best ≡ best_of (figures_of k.tuples)
  pub least : IsLeast (figures_of k.tuples) k.best
  pub fit : IsFit k

-- the bytes that a group saves by taking in another, by their codes
abbrev pub code_saving : Kept → Kept → ℕ
code_saving group single =
    group.best.bytes + single.best.bytes - best_bytes (figures_of (joined group.tuples single.tuples))

-- the better of two, and the first of equals
abbrev pub better : ℕ → ℕ → Chosen → Chosen
better place saving best = if nat_lt best.saving saving then record { place = place; saving = saving } else best

-- the choice by these savings of so many groups
pub record IsChosen (groups : ℕ) (savings : List ℕ) (c : Chosen) : Type 0 where
  pub saving : c.saving ≡ (choice_of savings).saving
  pub place : 0 < c.saving → c.place ≡ (choice_of savings).place
  pub within : 0 < c.saving → c.place < groups
