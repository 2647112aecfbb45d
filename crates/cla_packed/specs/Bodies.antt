-- What stands behind the columns of a group.
use Rattle.std.specs.Prelude.{◌≡◌, ℕ, ℤ, List, ◌++◌, length, Bool, ◌&&◌, not, nat_le}
use Rattle.std.specs.List.{flat_map, AllByRecursion}
use Rattle.cla_spec.specs.Bytes.{bytes_of}
use Rattle.cla_packed.specs.declared.fault.FieldName.TheVariants.{Tuples}
use Rattle.cla_packed.specs.Fields.{Place, Read, field_at, then_at, as_at}
use Rattle.cla_layout.specs.GroupLaws.{AreCodesOf}
use Rattle.cla_layout.specs.Groups.{AreNumbered}
use Rattle.cla_layout.specs.Canonical.{AreDistinct}
use Rattle.cla_packed.specs.Values.{tuple_bytes, tuples_at, is_among, IsTuple}
use Rattle.cla_packed.specs.Codes.{code_bytes, codes_at}

-- the code of each row, and the tuples
pub record Body : Type 0 where
  pub codes : List ℕ
  pub tuples : List (List ℤ)

-- each of these codes has a row, and they are numbered by first row
pub record AreCanonical (d : ℕ) (codes : List ℕ) : Type 0 where
  pub codes_are : AreCodesOf d codes
  pub numbered : AreNumbered codes d

-- a body of distinct tuples that are numbered by first row
pub record IsBody (k bits rows width : ℕ) (body : Body) : Type 0 where
  pub a_code_each : length body.codes ≡ rows
  pub canonical : AreCanonical (length body.tuples) body.codes
  pub each : AllByRecursion (IsTuple k bits width) body.tuples
  pub distinct : AreDistinct body.tuples

-- a tuple that differs from all before
abbrev pub is_new : ℕ → List (List ℤ) → List ℤ → Bool
is_new left before tuple = not (is_among before tuple)

-- as many as there are rows, and one at least
abbrev pub fits_tuples : ℕ → ℕ → Bool
fits_tuples rows d = nat_le 1 d && nat_le d rows

-- a number of tuples, the tuples and the codes as a body, and back
abbrev pub body_of : ℕ × (List (List ℤ) × List ℕ) → Body
body_of x = record { codes = x.1.1; tuples = x.1.0 }

abbrev pub parts_of : Body → ℕ × (List (List ℤ) × List ℕ)
parts_of body = (length body.tuples, (body.tuples, body.codes))

-- tuples, and a code for each row
abbrev pub coded_at : ℕ → ℕ → ℕ → ℕ → ℕ → Place → Read Body
coded_at k bits group rows width p = as_at body_of
    (then_at (field_at 4 (fits_tuples rows) group Tuples) (λ d. then_at (tuples_at k bits group width is_new d)
    (λ tuples. codes_at (code_bytes d) group d rows))) p

abbrev pub coded_bytes : ℕ → Body → List ℕ
coded_bytes k body = bytes_of 4 (length body.tuples) ++ (flat_map (tuple_bytes k) body.tuples
    ++ flat_map (bytes_of (code_bytes (length body.tuples))) body.codes)
