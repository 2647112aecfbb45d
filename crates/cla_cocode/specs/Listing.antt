-- The rows of groups of columns whose tuples are listed.
use Rattle.std.specs.Prelude.{◌≡◌, ℕ, List, ◌++◌, length, Vec, Option, Some, None, ⊤}
use Rattle.std.specs.List.{filter}
use Rattle.std.specs.declared.alloc.Global.{Global}
use Rattle.cla_layout.specs.Groups.{code_of}
use Rattle.cla_layout.specs.Listed.{is_rest, rows_where}
use Rattle.cla_grouping.specs.Tuples.{TuplesOf}
use Rattle.cla_grouping.specs.Sizes.{is_listed}

-- the rows with a tuple that is listed, in rising order
abbrev pub listing_of : TuplesOf → List ℕ
listing_of t = rows_where (is_listed t.zero t.codes) (length t.codes)

-- these rows, or none, where they aren't kept
abbrev pub IsListing : TuplesOf → Option (Vec ℕ Global) → Type 0
IsListing t None = ⊤
IsListing t (Some rows) = rows.items ≡ listing_of t

-- the rows with a pair that is listed: those that the second lists, and of those that the first does the others
abbrev pub either_of : TuplesOf → TuplesOf → List ℕ
either_of a b = listing_of b ++ filter (λ i. is_rest b.zero (code_of b.codes i)) (listing_of a)
