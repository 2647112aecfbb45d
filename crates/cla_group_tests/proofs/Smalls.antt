-- Integers that are no larger than numbers are.
use Rattle.std.proofs.Common.{ℕ, ℤ, pos, ◌<◌, ◌≤◌, List, [], ◌∷◌, ◌++◌, length, arith, inl, inr}
use Rattle.std.specs.Int.RustNames.{unsigned_abs}
use Rattle.std.proofs.lemmas.Bool.{cases_lt}
use Rattle.std.proofs.lemmas.List.{get_or_append_left, get_or_push, length_push}
use Rattle.cla_num.specs.Bits.{value_bound}
use Rattle.cla_layout.specs.Groups.{at}

-- the integers are no larger than numbers are
abbrev pub AreSmall : List ℤ → Type 0
AreSmall items = (i : ℕ) → i < length items → unsigned_abs (at items i) ≤ value_bound

pub small_push : (items : List ℤ) (z : ℤ) → AreSmall items → unsigned_abs z ≤ value_bound → AreSmall (items ++ z ∷ [])
small_push items z are small i there = elim (cases_lt i (length items)) [
  | inl before ↦ rw (get_or_append_left items (z ∷ []) (pos 0) i before) (are i before)
  | inr past ↦ rw (get_or_push items z (pos 0) i (omega (arith, there, past, length_push items z))) small
]
