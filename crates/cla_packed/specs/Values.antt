-- Values and tuples of values.
use Rattle.std.specs.Prelude.{◌≡◌, ℕ, ℤ, pos, negsuc, suc, ◌-◌, ◌*◌, ◌<◌, ◌≤◌, List, [], ◌∷◌, ◌++◌, length, Bool}
use Rattle.std.specs.Prelude.{true, ◌&&◌, ◌||◌, nat_lt, if◌then◌else◌}
use Rattle.std.specs.List.{flat_map, list_any, AllByRecursion}
use Rattle.std.specs.Ordering.{int_eq}
use Rattle.std.specs.Cmp.Lexicographic.{pointwise}
use Rattle.cla_spec.specs.Bytes.{Holds, signed_of, value_bytes}
use Rattle.cla_packed.specs.declared.fault.FieldName.TheVariants.{Value}
use Rattle.cla_packed.specs.Fields.{Place, Read, field_at, as_at, list_at}
use Rattle.cla_spec.specs.Numbers.{in_range}

-- a value of k bytes that passes a test
unfoldable pub value_at : ℕ → (ℤ → Bool) → ℕ → Place → Read ℤ
value_at k test group p = as_at (signed_of k) (field_at k (λ n. test (signed_of k n)) group Value) p

abbrev pub tuple_bytes : ℕ → List ℤ → List ℕ
tuple_bytes k tuple = flat_map (value_bytes k) tuple

-- in range, and at a tuple's last value the tuple passes a test
abbrev pub fits_value : ℕ → (List ℤ → Bool) → ℕ → List ℤ → ℤ → Bool
fits_value bits whole left so_far v = in_range bits v && (nat_lt 0 left || whole (so_far ++ v ∷ []))

-- the values of a tuple that passes a test
abbrev pub tuple_at : ℕ → ℕ → ℕ → ℕ → (List ℤ → Bool) → Place → Read (List ℤ)
tuple_at k bits group width whole p =
    list_at (λ left so_far. value_at k (fits_value bits whole left so_far) group) width [] p

-- tuples: `whole` says which one may stand behind those so far, before so many
abbrev pub tuples_at : ℕ → ℕ → ℕ → ℕ → (ℕ → List (List ℤ) → List ℤ → Bool) → ℕ → Place → Read (List (List ℤ))
tuples_at k bits group width whole n p =
    list_at (λ left so_far. tuple_at k bits group width (whole left so_far)) n [] p

-- one of the tuples is this one
abbrev pub is_among : List (List ℤ) → List ℤ → Bool
is_among tuples tuple = list_any (pointwise int_eq tuple) tuples

-- what a tuple must be whichever others there are
pub record IsTuple (k bits width : ℕ) (tuple : List ℤ) : Type 0 where
  pub full : length tuple ≡ width
  pub each : AllByRecursion (λ v. Holds k v × (in_range bits v ≡ true)) tuple
