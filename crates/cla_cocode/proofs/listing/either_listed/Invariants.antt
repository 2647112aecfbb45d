use Rattle.std.proofs.Common.{◌≡◌, ◌++◌, ℕ, Bool, drop}
use Rattle.std.specs.List.{filter}
use Rattle.cla_layout.specs.Groups.{code_of}
use Rattle.cla_layout.specs.Listed.{is_rest}
use Rattle.cla_cocode.proofs.listing.either_listed.Given as goal

-- the rows so far and those that are still to be taken are all rows
abbrev pub invariant-loop-row : goal.invariant-loop-row
invariant-loop-row l = let other : ℕ → Bool = λ i. is_rest l.zero (code_of l.codes i) in record {
  rows : l.rows.items ++ filter other (drop l.row-index l.second) ≡ l.first ++ filter other l.second;
}
