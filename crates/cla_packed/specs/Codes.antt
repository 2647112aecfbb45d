-- Codes, one per row, numbered by first row.
use Rattle.std.specs.Prelude.{ℕ, ◌+◌, List, [], ◌∷◌, ◌++◌, Bool, ◌==◌, ◌&&◌, ◌||◌, nat_lt, nat_le, if◌then◌else◌}
use Rattle.std.specs.List.{list_any}
use Rattle.cla_packed.specs.declared.fault.FieldName.TheVariants.{Code}
use Rattle.cla_packed.specs.Fields.{Place, Read, field_at, list_at}

-- whether a number stands in a list
abbrev pub has : List ℕ → ℕ → Bool
has list n = list_any (λ m. m == n) list

-- how many of these numbers stand neither before nor earlier among them
abbrev pub different_behind : List ℕ → List ℕ → ℕ
different_behind before [] = 0
different_behind before (k ∷ ks) = (if has before k then 0 else 1) + different_behind (before ++ k ∷ []) ks

-- how many different numbers a list has
unfoldable pub different : List ℕ → ℕ
different ks = different_behind [] ks

-- below d and at most the number of different codes before it; at the last row all d codes have occurred
abbrev pub fits_code : ℕ → ℕ → List ℕ → ℕ → Bool
fits_code d left so_far k = nat_lt k d && nat_le k (different so_far)
    && (nat_lt 0 left || different (so_far ++ k ∷ []) == d)

-- how many bytes a code takes among d
abbrev pub code_bytes : ℕ → ℕ
code_bytes d = if nat_le d 256 then 1 else if nat_le d 65536 then 2 else 4

abbrev pub codes_at : ℕ → ℕ → ℕ → ℕ → Place → Read (List ℕ)
codes_at k group d rows p = list_at (λ left so_far. field_at k (fits_code d left so_far) group Code) rows [] p
