-- Texts of which a sink has the first bytes.
use Rattle.std.specs.Prelude.{◌≡◌, ℕ, List, ◌++◌, Option, Result, Ok, Err}
use Rattle.cla_spec.specs.Effects.{grown}
use Rattle.cla_io.specs.declared.stop.Stop.{Stop}

-- the first bytes of a text were sent to a sink, and the others are held back
pub record IsParted (text : List ℕ) (old new : Option (List ℕ)) (held : List ℕ) : Type 0 where
  pub sent : List ℕ
  pub whole : text ≡ sent ++ held
  pub out : new ≡ grown old sent

-- a sink has the first bytes of a text
abbrev pub HasFront : List ℕ → Option (List ℕ) → Option (List ℕ) → Type 0
HasFront text old new = (rest : List ℕ) × IsParted text old new rest

-- a text is parted between a sink and what is held back; after an error only the sink's part is known
abbrev pub Parts : {U : Type 0} → List ℕ → Option (List ℕ) → Option (List ℕ) → List ℕ → Result U Stop → Type 0
Parts text old new held (Ok u) = IsParted text old new held
Parts text old new held (Err e) = HasFront text old new
