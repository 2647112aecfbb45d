-- What operators count.
use Rattle.std.specs.Prelude.{◌≡◌, ℕ, ◌+◌, ◌≤◌, Option, None, Result, Ok, Err}
use Rattle.cla_num.specs.Counts.{Counts}

-- so many map evaluations were made, and no multiplications
abbrev pub HasMaps : ℕ → Counts → Counts → Type 0
HasMaps n before now = now ≡ record before { maps = before.maps + n }

-- so many multiplications, and no map evaluations
abbrev pub HasMults : ℕ → Counts → Counts → Type 0
HasMults n before now = now ≡ record before { mults = before.mults + n }

-- n map evaluations were made, or at most as many where something stopped
pub record AreRaised {X : Type 0} (n : ℕ) (stop : Option X) (before now : Counts) : Type 0 where
  pub mults : now.mults ≡ before.mults
  pub least : before.maps ≤ now.maps
  pub most : now.maps ≤ before.maps + n
  pub all : stop ≡ None → now.maps ≡ before.maps + n

-- at most so many map evaluations were made, and no multiplications
pub record HasMapsUpTo (n : ℕ) (before now : Counts) : Type 0 where
  pub mults : now.mults ≡ before.mults
  pub least : before.maps ≤ now.maps
  pub most : now.maps ≤ before.maps + n

-- at most so many multiplications were made, and no map evaluations
pub record HasMultsUpTo (n : ℕ) (before now : Counts) : Type 0 where
  pub maps : now.maps ≡ before.maps
  pub least : before.mults ≤ now.mults
  pub most : now.mults ≤ before.mults + n

-- the multiplications of a call that was done; where it was refused, at most as many
abbrev pub HasMultsOf : {X E : Type 0} → ℕ → Result X E → Counts → Counts → Type 0
HasMultsOf n (Ok x) before now = HasMults n before now
HasMultsOf n (Err e) before now = HasMultsUpTo n before now
