-- Packed files that were written down by hand, cut short at each byte, and with a byte of a field changed: what they
-- hold
-- is found by computing.
use Rattle.std.proofs.Common.{◌≡◌, ℕ, ◌+◌, pos, neg_ℤ, List, [], ◌∷◌, ◌++◌, Some, None, refl, drop, map}
use Rattle.std.specs.Prelude.{codes, take, replicate, Option}
use Rattle.std.specs.List.{range_with_len}
use Rattle.cla_layout.specs.declared.kind.Kind.TheVariants as kind
use Rattle.cla_layout.specs.Layouts.{Layout}
use Rattle.cla_packed.specs.declared.fault.FieldName.TheVariants as names
use Rattle.cla_packed.specs.declared.fault.PackFault.{PackFault}
use Rattle.cla_packed.specs.declared.fault.PackFault.TheVariants.{Field, Trailing, TooLong, TooLarge}
use Rattle.cla_packed.specs.Fields.{number_at, field_at, refused_at, checked_at, then_at, list_at, as_at, whole_at}
use Rattle.cla_packed.specs.Values.{value_at}
use Rattle.cla_packed.specs.Codes.{different}
use Rattle.cla_packed.specs.Rests.{rest_code}
use Rattle.cla_packed.specs.Layouts.{encoded, first_bad_field}

-- what is wrong with a file's first n bytes, for each n up to the file's length
abbrev cut_short : ℕ → List ℕ → List (Option PackFault)
cut_short length file = map (λ n. first_bad_field 8 47 1000 (take n file)) (range_with_len 0 length)

abbrev with_byte : List ℕ → ℕ × ℕ → List ℕ
with_byte file change = take change.0 file ++ change.1 ∷ drop (change.0 + 1) file

-- what is wrong with a file where one byte, at this offset, is another
abbrev damaged : List ℕ → List (ℕ × ℕ) → List (Option PackFault)
damaged file changes = map (λ change. first_bad_field 8 47 1000 (with_byte file change)) changes

-- ---- a thousand rows of 0, as offsets: the tuple of zeros isn't listed

zeros : Layout
zeros = record {
  rows = 1000;
  cols = 1;
  parts = record {
    columns = 0 ∷ [];
    codes = replicate 1000 0;
    tuples = (pos 0 ∷ []) ∷ [];
  } ∷ [];
}

zeros_file : List ℕ
zeros_file = codes "CLAGRP01"
    ++ (232 ∷ 3 ∷ 0 ∷ 0 ∷ 1 ∷ 0 ∷ 0 ∷ 0 ∷ 1 ∷ 0 ∷ 0 ∷ 0 ∷ 3 ∷ 1 ∷ 0 ∷ 0 ∷ 0 ∷ 0 ∷ 0 ∷ 0 ∷ 0 ∷ 0 ∷ 0 ∷ 0 ∷ 0 ∷ 1 ∷ [])

zeros_written : encoded 8 zeros (kind.Offsets ∷ []) ≡ zeros_file
unfolding zeros zeros_file rest_code
zeros_written = refl

zeros_read : first_bad_field 8 47 1000 zeros_file ≡ None
unfolding zeros_file whole_at number_at field_at refused_at checked_at then_at list_at as_at value_at different
    rest_code
zeros_read = refl

-- ---- five hundred rows of 7, and five hundred of 9, as runs

halves : Layout
halves = record {
  rows = 1000;
  cols = 1;
  parts = record {
    columns = 0 ∷ [];
    codes = replicate 500 0 ++ replicate 500 1;
    tuples = (pos 7 ∷ []) ∷ (pos 9 ∷ []) ∷ [];
  } ∷ [];
}

halves_file : List ℕ
halves_file = codes "CLAGRP01"
    ++ (232 ∷ 3 ∷ 0 ∷ 0 ∷ 1 ∷ 0 ∷ 0 ∷ 0 ∷ 1 ∷ 0 ∷ 0 ∷ 0 ∷ 4 ∷ 1 ∷ 0 ∷ 0 ∷ 0 ∷ 0 ∷ 0 ∷ 0 ∷ 0 ∷ 2 ∷ 0 ∷ 0 ∷ 0 ∷ 0 ∷
    7 ∷ 0 ∷ 0 ∷ 0 ∷ 0 ∷ 0 ∷ 0 ∷ 0 ∷ 9 ∷ 0 ∷ 0 ∷ 0 ∷ 0 ∷ 0 ∷ 0 ∷ 0 ∷ 1 ∷ 0 ∷ 0 ∷ 0 ∷ 0 ∷ 0 ∷ 0 ∷ 0 ∷ 244 ∷ 1 ∷
    0 ∷ 0 ∷ 1 ∷ 0 ∷ 0 ∷ 0 ∷ 244 ∷ 1 ∷ 0 ∷ 0 ∷ 244 ∷ 1 ∷ 0 ∷ 0 ∷ [])

halves_written : encoded 8 halves (kind.Runs ∷ []) ≡ halves_file
unfolding halves halves_file rest_code
halves_written = refl

halves_read : first_bad_field 8 47 1000 halves_file ≡ None
unfolding halves_file whole_at number_at field_at refused_at checked_at then_at list_at as_at value_at different
    rest_code
halves_read = refl

-- ---- two rows, 5 and -7, as they are

plain : Layout
plain = record {
  rows = 2;
  cols = 1;
  parts = record {
    columns = 0 ∷ [];
    codes = 0 ∷ 1 ∷ [];
    tuples = (pos 5 ∷ []) ∷ (neg_ℤ (pos 7) ∷ []) ∷ [];
  } ∷ [];
}

plain_file : List ℕ
plain_file = codes "CLAGRP01"
    ++ (2 ∷ 0 ∷ 0 ∷ 0 ∷ 1 ∷ 0 ∷ 0 ∷ 0 ∷ 1 ∷ 0 ∷ 0 ∷ 0 ∷ 1 ∷ 1 ∷ 0 ∷ 0 ∷ 0 ∷ 0 ∷ 0 ∷ 0 ∷ 0 ∷ 5 ∷ 0 ∷ 0 ∷ 0 ∷ 0 ∷
    0 ∷ 0 ∷ 0 ∷ 249 ∷ 255 ∷ 255 ∷ 255 ∷ 255 ∷ 255 ∷ 255 ∷ 255 ∷ [])

plain_written : encoded 8 plain (kind.Plain ∷ []) ≡ plain_file
unfolding plain plain_file rest_code
plain_written = refl

plain_read : first_bad_field 8 47 1000 plain_file ≡ None
unfolding plain_file whole_at number_at field_at refused_at checked_at then_at list_at as_at value_at different
    rest_code
plain_read = refl

plain_cut : cut_short 45 plain_file ≡ replicate 8 (Some (Field 0 names.Magic 0))
    ++ replicate 4 (Some (Field 0 names.Rows 8)) ++
    replicate 4 (Some (Field 0 names.Columns 12)) ++ replicate 4 (Some (Field 0 names.Groups 16)) ++
    Some (Field 1 names.Kind 20) ∷ replicate 4 (Some (Field 1 names.Width 21)) ++
    replicate 4 (Some (Field 1 names.Column 25)) ++ replicate 8 (Some (Field 1 names.Value 29)) ++
    replicate 8 (Some (Field 1 names.Value 37)) ++ []
unfolding plain_file whole_at number_at field_at refused_at checked_at then_at list_at as_at value_at different
    rest_code
plain_cut = refl

plain_damaged : damaged plain_file ((0, 68) ∷ (8, 0) ∷ (11, 128) ∷ (12, 0) ∷ (11, 4) ∷ (16, 0) ∷ (16, 2) ∷ (
  20,
  0,
) ∷ (20, 5) ∷ (21, 0) ∷
    (21, 2) ∷ (25, 1) ∷ (34, 128) ∷ (42, 127) ∷ [])
    ≡ Some (Field 0 names.Magic 0) ∷ Some (Field 0 names.Rows 8) ∷ Some (Field 0 names.Rows 8) ∷
    Some (Field 0 names.Columns 12) ∷ Some (TooLarge 67108866 1) ∷ Some (Field 0 names.Groups 16) ∷
    Some (Field 0 names.Groups 16) ∷ Some (Field 1 names.Kind 20) ∷ Some (Field 1 names.Kind 20) ∷
    Some (Field 1 names.Width 21) ∷ Some (Field 1 names.Width 21) ∷ Some (Field 1 names.Column 25) ∷
    Some (Field 1 names.Value 29) ∷ Some (Field 1 names.Value 37) ∷ []
unfolding plain_file whole_at number_at field_at refused_at checked_at then_at list_at as_at value_at different
    rest_code
plain_damaged = refl

plain_longer : first_bad_field 8 47 1000 (plain_file ++ 7 ∷ []) ≡ Some (Trailing 45)
unfolding plain_file whole_at number_at field_at refused_at checked_at then_at list_at as_at value_at different
    rest_code
plain_longer = refl

plain_past : (first_bad_field 8 47 44 plain_file ≡ Some TooLong) × (first_bad_field 8 47 45 (plain_file ++ 7 ∷ [])
    ≡ Some TooLong)
unfolding plain_file whole_at number_at field_at refused_at checked_at then_at list_at as_at value_at different
    rest_code
plain_past = (refl, refl)

-- ---- three rows of 5, as codes

fives : Layout
fives = record {
  rows = 3;
  cols = 1;
  parts = record {
    columns = 0 ∷ [];
    codes = 0 ∷ 0 ∷ 0 ∷ [];
    tuples = (pos 5 ∷ []) ∷ [];
  } ∷ [];
}

fives_file : List ℕ
fives_file = codes "CLAGRP01"
    ++ (3 ∷ 0 ∷ 0 ∷ 0 ∷ 1 ∷ 0 ∷ 0 ∷ 0 ∷ 1 ∷ 0 ∷ 0 ∷ 0 ∷ 2 ∷ 1 ∷ 0 ∷ 0 ∷ 0 ∷ 0 ∷ 0 ∷ 0 ∷ 0 ∷ 1 ∷ 0 ∷ 0 ∷ 0 ∷ 5 ∷
    0 ∷ 0 ∷ 0 ∷ 0 ∷ 0 ∷ 0 ∷ 0 ∷ 0 ∷ 0 ∷ 0 ∷ [])

fives_written : encoded 8 fives (kind.Codes ∷ []) ≡ fives_file
unfolding fives fives_file rest_code
fives_written = refl

fives_read : first_bad_field 8 47 1000 fives_file ≡ None
unfolding fives_file whole_at number_at field_at refused_at checked_at then_at list_at as_at value_at different
    rest_code
fives_read = refl

fives_cut : cut_short 44 fives_file ≡ replicate 8 (Some (Field 0 names.Magic 0))
    ++ replicate 4 (Some (Field 0 names.Rows 8)) ++
    replicate 4 (Some (Field 0 names.Columns 12)) ++ replicate 4 (Some (Field 0 names.Groups 16)) ++
    Some (Field 1 names.Kind 20) ∷ replicate 4 (Some (Field 1 names.Width 21)) ++
    replicate 4 (Some (Field 1 names.Column 25)) ++ replicate 4 (Some (Field 1 names.Tuples 29)) ++
    replicate 8 (Some (Field 1 names.Value 33)) ++ Some (Field 1 names.Code 41) ∷
    Some (Field 1 names.Code 42) ∷ Some (Field 1 names.Code 43) ∷ []
unfolding fives_file whole_at number_at field_at refused_at checked_at then_at list_at as_at value_at different
    rest_code
fives_cut = refl

fives_damaged : damaged fives_file ((29, 0) ∷ (29, 4) ∷ (38, 128) ∷ (40, 1) ∷ (41, 1) ∷ (43, 1) ∷ [])
    ≡ Some (Field 1 names.Tuples 29) ∷ Some (Field 1 names.Tuples 29) ∷ Some (Field 1 names.Value 33) ∷
    Some (Field 1 names.Value 33) ∷ Some (Field 1 names.Code 41) ∷ Some (Field 1 names.Code 43) ∷ []
unfolding fives_file whole_at number_at field_at refused_at checked_at then_at list_at as_at value_at different
    rest_code
fives_damaged = refl

fives_longer : first_bad_field 8 47 1000 (fives_file ++ 7 ∷ []) ≡ Some (Trailing 44)
unfolding fives_file whole_at number_at field_at refused_at checked_at then_at list_at as_at value_at different
    rest_code
fives_longer = refl

fives_past : (first_bad_field 8 47 43 fives_file ≡ Some TooLong) × (first_bad_field 8 47 44 (fives_file ++ 7 ∷ [])
    ≡ Some TooLong)
unfolding fives_file whole_at number_at field_at refused_at checked_at then_at list_at as_at value_at different
    rest_code
fives_past = (refl, refl)

-- ---- two rows, 0 and 5, as offsets

listed : Layout
listed = record {
  rows = 2;
  cols = 1;
  parts = record {
    columns = 0 ∷ [];
    codes = 0 ∷ 1 ∷ [];
    tuples = (pos 0 ∷ []) ∷ (pos 5 ∷ []) ∷ [];
  } ∷ [];
}

listed_file : List ℕ
listed_file = codes "CLAGRP01"
    ++ (2 ∷ 0 ∷ 0 ∷ 0 ∷ 1 ∷ 0 ∷ 0 ∷ 0 ∷ 1 ∷ 0 ∷ 0 ∷ 0 ∷ 3 ∷ 1 ∷ 0 ∷ 0 ∷ 0 ∷ 0 ∷ 0 ∷ 0 ∷ 0 ∷ 1 ∷ 0 ∷ 0 ∷ 0 ∷ 1 ∷
    5 ∷ 0 ∷ 0 ∷ 0 ∷ 0 ∷ 0 ∷ 0 ∷ 0 ∷ 1 ∷ 0 ∷ 1 ∷ 0 ∷ [])

listed_written : encoded 8 listed (kind.Offsets ∷ []) ≡ listed_file
unfolding listed listed_file rest_code
listed_written = refl

listed_read : first_bad_field 8 47 1000 listed_file ≡ None
unfolding listed_file whole_at number_at field_at refused_at checked_at then_at list_at as_at value_at different
    rest_code
listed_read = refl

listed_cut : cut_short 46 listed_file ≡ replicate 8 (Some (Field 0 names.Magic 0))
    ++ replicate 4 (Some (Field 0 names.Rows 8)) ++
    replicate 4 (Some (Field 0 names.Columns 12)) ++ replicate 4 (Some (Field 0 names.Groups 16)) ++
    Some (Field 1 names.Kind 20) ∷ replicate 4 (Some (Field 1 names.Width 21)) ++
    replicate 4 (Some (Field 1 names.Column 25)) ++ replicate 4 (Some (Field 1 names.Tuples 29)) ++
    Some (Field 1 names.Rest 33) ∷ replicate 8 (Some (Field 1 names.Value 34)) ++
    replicate 2 (Some (Field 1 names.Count 42)) ++ replicate 2 (Some (Field 1 names.Offset 44)) ++ []
unfolding listed_file whole_at number_at field_at refused_at checked_at then_at list_at as_at value_at different
    rest_code
listed_cut = refl

listed_damaged : damaged listed_file ((29, 3) ∷ (33, 2) ∷ (34, 0) ∷ (42, 0) ∷ (42, 3) ∷ (42, 2) ∷ (44, 2) ∷ (
  33,
  0,
) ∷ [])
    ≡ Some (Field 1 names.Tuples 29) ∷ Some (Field 1 names.Rest 33) ∷ Some (Field 1 names.Value 34) ∷
    Some (Field 1 names.Count 42) ∷ Some (Field 1 names.Count 42) ∷ Some (Field 1 names.Offset 46) ∷
    Some (Field 1 names.Offset 44) ∷ Some (Field 1 names.Cover 46) ∷ []
unfolding listed_file whole_at number_at field_at refused_at checked_at then_at list_at as_at value_at different
    rest_code
listed_damaged = refl

listed_longer : first_bad_field 8 47 1000 (listed_file ++ 7 ∷ []) ≡ Some (Trailing 46)
unfolding listed_file whole_at number_at field_at refused_at checked_at then_at list_at as_at value_at different
    rest_code
listed_longer = refl

listed_past : (first_bad_field 8 47 45 listed_file ≡ Some TooLong) × (first_bad_field 8 47 46 (listed_file ++ 7 ∷ [])
    ≡ Some TooLong)
unfolding listed_file whole_at number_at field_at refused_at checked_at then_at list_at as_at value_at different
    rest_code
listed_past = (refl, refl)

-- ---- three rows, 5, 0 and 5, as runs

runs : Layout
runs = record {
  rows = 3;
  cols = 1;
  parts = record {
    columns = 0 ∷ [];
    codes = 0 ∷ 1 ∷ 0 ∷ [];
    tuples = (pos 5 ∷ []) ∷ (pos 0 ∷ []) ∷ [];
  } ∷ [];
}

runs_file : List ℕ
runs_file = codes "CLAGRP01"
    ++ (3 ∷ 0 ∷ 0 ∷ 0 ∷ 1 ∷ 0 ∷ 0 ∷ 0 ∷ 1 ∷ 0 ∷ 0 ∷ 0 ∷ 4 ∷ 1 ∷ 0 ∷ 0 ∷ 0 ∷ 0 ∷ 0 ∷ 0 ∷ 0 ∷ 1 ∷ 0 ∷ 0 ∷ 0 ∷ 1 ∷
    5 ∷ 0 ∷ 0 ∷ 0 ∷ 0 ∷ 0 ∷ 0 ∷ 0 ∷ 2 ∷ 0 ∷ 0 ∷ 0 ∷ 0 ∷ 0 ∷ 0 ∷ 0 ∷ 1 ∷ 0 ∷ 0 ∷ 0 ∷ 1 ∷ 0 ∷ 0 ∷ 0 ∷ 1 ∷ 0 ∷
    0 ∷ 0 ∷ [])

runs_written : encoded 8 runs (kind.Runs ∷ []) ≡ runs_file
unfolding runs runs_file rest_code
runs_written = refl

runs_read : first_bad_field 8 47 1000 runs_file ≡ None
unfolding runs_file whole_at number_at field_at refused_at checked_at then_at list_at as_at value_at different rest_code
runs_read = refl

runs_cut : cut_short 62 runs_file ≡ replicate 8 (Some (Field 0 names.Magic 0))
    ++ replicate 4 (Some (Field 0 names.Rows 8)) ++
    replicate 4 (Some (Field 0 names.Columns 12)) ++ replicate 4 (Some (Field 0 names.Groups 16)) ++
    Some (Field 1 names.Kind 20) ∷ replicate 4 (Some (Field 1 names.Width 21)) ++
    replicate 4 (Some (Field 1 names.Column 25)) ++ replicate 4 (Some (Field 1 names.Tuples 29)) ++
    Some (Field 1 names.Rest 33) ∷ replicate 8 (Some (Field 1 names.Value 34)) ++
    replicate 4 (Some (Field 1 names.Runs 42)) ++ replicate 4 (Some (Field 1 names.Gap 46)) ++
    replicate 4 (Some (Field 1 names.Length 50)) ++ replicate 4 (Some (Field 1 names.Gap 54)) ++
    replicate 4 (Some (Field 1 names.Length 58)) ++ []
unfolding runs_file whole_at number_at field_at refused_at checked_at then_at list_at as_at value_at different rest_code
runs_cut = refl

runs_damaged : damaged runs_file ((29, 4) ∷ (33, 2) ∷ (34, 0) ∷ (42, 0) ∷ (42, 4) ∷ (46, 3) ∷ (50, 0) ∷ (
  50,
  4,
) ∷ (54, 0) ∷ (54, 2) ∷
    (58, 0) ∷ (58, 2) ∷ (33, 0) ∷ [])
    ≡ Some (Field 1 names.Tuples 29) ∷ Some (Field 1 names.Rest 33) ∷ Some (Field 1 names.Value 34) ∷
    Some (Field 1 names.Runs 42) ∷ Some (Field 1 names.Runs 42) ∷ Some (Field 1 names.Gap 46) ∷
    Some (Field 1 names.Length 50) ∷ Some (Field 1 names.Length 50) ∷ Some (Field 1 names.Gap 54) ∷
    Some (Field 1 names.Gap 54) ∷ Some (Field 1 names.Length 58) ∷ Some (Field 1 names.Length 58) ∷
    Some (Field 1 names.Cover 62) ∷ []
unfolding runs_file whole_at number_at field_at refused_at checked_at then_at list_at as_at value_at different rest_code
runs_damaged = refl

runs_longer : first_bad_field 8 47 1000 (runs_file ++ 7 ∷ []) ≡ Some (Trailing 62)
unfolding runs_file whole_at number_at field_at refused_at checked_at then_at list_at as_at value_at different rest_code
runs_longer = refl

runs_past : (first_bad_field 8 47 61 runs_file ≡ Some TooLong) × (first_bad_field 8 47 62 (runs_file ++ 7 ∷ [])
    ≡ Some TooLong)
unfolding runs_file whole_at number_at field_at refused_at checked_at then_at list_at as_at value_at different rest_code
runs_past = (refl, refl)
