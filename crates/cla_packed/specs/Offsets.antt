-- Offset lists: the rows of a tuple, segment by segment.
use Rattle.std.specs.Prelude.{ℕ, zero, suc, ◌+◌, ◌-◌, ◌*◌, ◌/◌, ◌%◌, List, [], ◌∷◌, ◌++◌, length, take, drop, min}
use Rattle.std.specs.Prelude.{Bool, ◌&&◌, ◌||◌, not, nat_lt, nat_le}
use Rattle.std.specs.List.{flat_map, prefix_len}
use Rattle.cla_spec.specs.Bytes.{bytes_of}
use Rattle.cla_packed.specs.declared.fault.FieldName.TheVariants.{Count, Offset}
use Rattle.cla_packed.specs.Fields.{Place, Read, field_at, then_at, list_at, as_at}
use Rattle.cla_packed.specs.Lists.{next_from, named, floor_of}

-- a row that may stand behind these rows of its tuple: above them, in no list before, and if it is the first one then
-- above the first row of the list before
abbrev pub fits_row : List (List ℕ) → List ℕ → ℕ → Bool
fits_row earlier so_far i = nat_le (next_from 0 so_far) i && not (named earlier i)
    && (nat_lt 0 (length so_far) || nat_le (floor_of earlier) i)

-- the rows of all segments
abbrev pub joined : List (List ℕ) → List ℕ
joined [] = []
joined (segment ∷ more) = segment ++ joined more

-- how many rows a segment has
abbrev pub segment_rows : ℕ → ℕ → ℕ → ℕ
segment_rows size rows s = min size (rows - s * size)

-- at most the segment's rows; and a tuple has a row
abbrev pub fits_count : ℕ → ℕ → ℕ → List (List ℕ) → ℕ → Bool
fits_count size rows left before n = nat_le n (segment_rows size rows (length before))
    && (nat_lt 0 left || nat_lt 0 (length (joined before) + n))

-- below the segment's rows, and the row fits
abbrev pub fits_offset : ℕ → ℕ → List (List ℕ) → List (List ℕ) → List ℕ → ℕ → Bool
fits_offset size rows earlier before so_far o = nat_lt o (segment_rows size rows (length before))
    && fits_row earlier (joined before ++ so_far) (length before * size + o)

-- the row of an offset in segment s
abbrev pub row_at : ℕ → ℕ → ℕ → List (List ℕ) → List (List ℕ) → List ℕ → Place → Read ℕ
row_at size rows group earlier before so_far p =
    as_at (λ o. length before * size + o) (field_at 2 (fits_offset size rows earlier before so_far) group Offset) p

-- the rows of a segment: their number, and each of them
abbrev pub segment_at : ℕ → ℕ → ℕ → List (List ℕ) → ℕ → List (List ℕ) → Place → Read (List ℕ)
segment_at size rows group earlier left before p = as_at (λ x. x.1)
    (then_at (field_at 2 (fits_count size rows left before) group Count)
    (λ n. list_at (λ left so_far. row_at size rows group earlier before so_far) n [])) p

-- how many segments there are
abbrev pub segments : ℕ → ℕ → ℕ
segments size rows = (rows + (size - 1)) / size

-- the rows of a tuple
abbrev pub offsets_at : ℕ → ℕ → ℕ → List (List ℕ) → Place → Read (List ℕ)
offsets_at size rows group earlier p =
    as_at joined (list_at (segment_at size rows group earlier) (segments size rows) []) p

-- rising rows parted into n segments, of which the first one ends before row `end`
abbrev pub parted : ℕ → ℕ → ℕ → List ℕ → List (List ℕ)
parted size end zero list = []
parted size end (suc n) list = let front = prefix_len (λ i. nat_lt i end) list in take front list ∷ parted size
    (end + size) n (drop front list)

abbrev pub segment_bytes : ℕ → List ℕ → List ℕ
segment_bytes size segment = bytes_of 2 (length segment) ++ flat_map (λ i. bytes_of 2 (i % size)) segment

abbrev pub offsets_bytes : ℕ → ℕ → List ℕ → List ℕ
offsets_bytes size rows list = flat_map (segment_bytes size) (parted size size (segments size rows) list)
