-- The rest: the tuple whose rows no list names.
use Rattle.std.specs.Prelude.{ℕ, ℤ, pos, ◌+◌, ◌-◌, ◌<◌, ◌≤◌, List, [], ◌∷◌, ◌++◌, length, map, take, drop, replicate}
use Rattle.std.specs.Prelude.{Option, None, Some, Bool, ◌==◌, ◌&&◌, not, nat_lt, nat_le, if◌then◌else◌}
use Rattle.std.specs.List.{list_all, flat_map, position_or_len, range_with_len}
use Rattle.cla_spec.specs.Bytes.{bytes_of}
use Rattle.cla_packed.specs.declared.fault.FieldName.TheVariants.{Tuples, Rest, Cover}
use Rattle.cla_packed.specs.Fields.{Place, Read, field_at, checked_at, then_at, list_at, as_at}
use Rattle.cla_layout.specs.Groups.{first_row_of}
use Rattle.cla_layout.specs.Listed.{is_zero, rest_of}
use Rattle.cla_packed.specs.Values.{tuple_bytes, tuples_at, is_among}
use Rattle.cla_packed.specs.Lists.{named, owners_of, lists_of}
use Rattle.cla_packed.specs.Bodies.{Body}

-- the code of an owner, where d owners have a list and the rest has code r; and back
abbrev pub with_rest : ℕ → ℕ → ℕ → ℕ
with_rest d r o = if o == d then r else if nat_lt o r then o else o + 1

abbrev pub without_rest : ℕ → ℕ → ℕ → ℕ
without_rest d r c = if c == r then d else if nat_lt c r then c else c - 1

-- r is the code of the rest among codes that are numbered by first row
pub record IsRestCode (d r : ℕ) (owners : List ℕ) : Type 0 where
  pub within : r ≤ d
  pub before : (k : ℕ) → k < r → first_row_of owners k < first_row_of owners d
  pub behind : (k : ℕ) → r ≤ k → k < d → first_row_of owners d < first_row_of owners k

-- how many owners have their first row before the rest
unfoldable pub rest_code : ℕ → List ℕ → ℕ
rest_code d owners = position_or_len (λ k. nat_lt (first_row_of owners d) (first_row_of owners k))
    (range_with_len 0 d)

-- whether each row is named
abbrev pub all_named : ℕ → List (List ℕ) → Bool
all_named rows lists = list_all (named lists) (range_with_len 0 rows)

-- ---- the rest is the tuple of zeros, which isn't there

abbrev pub fits_listed : ℕ → List (List ℤ) → List ℤ → Bool
fits_listed left before tuple = not (is_among before tuple) && not (is_zero tuple)

abbrev pub with_tuple : ℕ → List ℤ → List (List ℤ) → List (List ℤ)
with_tuple r tuple tuples = take r tuples ++ tuple ∷ drop r tuples

abbrev pub without_tuple : ℕ → List (List ℤ) → List (List ℤ)
without_tuple r tuples = take r tuples ++ drop (r + 1) tuples

-- the tuples that are listed, whether there is a rest, and the lists
abbrev pub Parts : Type 0
Parts = ℕ × (ℕ × (List (List ℤ) × (List (List ℕ) × Unit {0})))

abbrev pub body_with : ℕ → ℕ → List (List ℤ) → List ℕ → ℕ → Body
body_with width d tuples owners rest = if rest == 0 then record { codes = owners; tuples = tuples }
    else record {
      codes = map (with_rest d (rest_code d owners)) owners;
      tuples =
          with_tuple (rest_code d owners) (replicate width (pos 0)) tuples;
    }

abbrev pub body_of_parts : ℕ → ℕ → Parts → Body
body_of_parts rows width x = body_with width x.0 x.1.1.0 (owners_of rows x.1.1.1.0) x.1.0

-- a body as it is listed: the tuple of code r, which is the rest, isn't there
abbrev pub parts_by : Option ℕ → Body → Parts
parts_by None body = (length body.tuples, (0, (body.tuples, (lists_of (length body.tuples) body.codes, tt))))
parts_by (Some r) body = (
  length body.tuples - 1,
  (
    1,
    (
      without_tuple r body.tuples,
      (lists_of (length body.tuples - 1) (map (without_rest (length body.tuples - 1) r) body.codes), tt),
    ),
  ),
)

abbrev pub parts_in : Body → Parts
parts_in body = parts_by (rest_of body.codes body.tuples) body

-- a body of listed tuples: how one tuple's rows are read behind the lists of others is `one`
abbrev pub listed_parts_at : (List (List ℕ) → Place → Read (List ℕ)) → ℕ → ℕ → ℕ → ℕ → ℕ → Place → Read Parts
listed_parts_at one k bits group rows width p =
    then_at (field_at 4 (λ d. nat_le d rows) group Tuples)
    (λ d. then_at (field_at 1 (λ rest. nat_lt rest 2) group Rest)
    (λ rest. then_at (tuples_at k bits group width fits_listed d)
    (λ tuples. then_at (list_at (λ left earlier. one earlier) d [])
    (λ lists. checked_at (if rest == 0 then all_named rows lists
    else not (all_named rows lists)) group Cover)))) p

abbrev pub listed_at : (List (List ℕ) → Place → Read (List ℕ)) → ℕ → ℕ → ℕ → ℕ → ℕ → Place → Read Body
listed_at one k bits group rows width p =
    as_at (body_of_parts rows width) (listed_parts_at one k bits group rows width) p

abbrev pub parts_bytes : (List ℕ → List ℕ) → ℕ → Parts → List ℕ
parts_bytes bytes k x = bytes_of 4 x.0
    ++ (bytes_of 1 x.1.0 ++ (flat_map (tuple_bytes k) x.1.1.0 ++ (flat_map bytes x.1.1.1.0 ++ [])))

abbrev pub listed_bytes : (List ℕ → List ℕ) → ℕ → Body → List ℕ
listed_bytes bytes k body = parts_bytes bytes k (parts_in body)
