-- Memory for the parts that a map makes.
use Rattle.std.specs.Prelude.{◌≡◌, ℕ, List, []}

-- a part's columns once more, and no values yet
pub record IsRoom {N : Type 0} (columns held : List ℕ) (values : List N) : Type 0 where
  pub same : held ≡ columns
  pub none_yet : values ≡ []
