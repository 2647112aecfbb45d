-- What files hold.
use Rattle.std.specs.Prelude.{ℕ, List, [], unwrap_or}
use Rattle.std.specs.Ordering.{nat_cmp}
use Rattle.std.specs.Cmp.Lexicographic.{slice_cmp}
use Rattle.std.specs.FinMap as fin

-- the bytes of files, by the bytes of their names
abbrev pub Told : Type 0
Told = fin.FinMap (slice_cmp nat_cmp) (List ℕ)

-- the bytes at a name; none where it is absent
abbrev pub bytes_at : Told → List ℕ → List ℕ
bytes_at told name = unwrap_or (fin.get told name) []
