-- Rows that are kept as lists of offsets, by segments of rows (PVLDB 9(12), section 3, offset-list encoding).
use Rattle.std.specs.Prelude.{◌≡◌, ℕ, suc, zero, ◌+◌, ◌-◌, ◌*◌, ◌/◌, ◌%◌, ◌<◌, ◌≤◌, List, [], ◌∷◌, ◌++◌}
use Rattle.std.specs.Prelude.{length, map, take, drop, ◌==◌, not, if◌then◌else◌}
use Rattle.std.specs.List.{range_with_len, list_any}
use Rattle.cla_spec.specs.Matrix.{most_cells}
use Rattle.cla_rows.specs.declared.row_counts.Occurrences.{Occurrences}
use Rattle.cla_rows.specs.Chains.{lists_to, begins_to}
use Rattle.cla_layout.specs.Groups.{code_of}
use Rattle.cla_rows.specs.Counted.{AreCounted}
use Rattle.cla_layout.specs.Listed.{rows_of, rows_where}
use Rattle.cla_offsets.specs.declared.lists.Lists.{Lists}
use Rattle.cla_offsets.specs.Rows.{OffsetsOf}

-- how many rows a segment has, if it isn't the last
abbrev pub segment_rows : ℕ
segment_rows = 32768

-- how many segments there are
abbrev pub segments_of : ℕ → ℕ
segments_of rows = (rows + 32767) / segment_rows

-- the codes of segment s
abbrev pub segment_of : List ℕ → ℕ → List ℕ
segment_of codes s = take segment_rows (drop (s * segment_rows) codes)

-- the rows of segment s that have code k, counted from its first row
abbrev pub segment_offsets : List ℕ → ℕ → ℕ → List ℕ
segment_offsets codes k s = rows_of (segment_of codes s) k

-- the rows that are listed of code k: those that have it, and none of the rest
abbrev pub listed : List ℕ → ℕ → ℕ → List ℕ
listed codes rest k = if k == rest then [] else rows_of codes k

-- the rows that are listed of all codes, in rising order, and the codes that they have
abbrev pub listed_rows : List ℕ → ℕ → List ℕ
listed_rows codes rest = rows_where (λ i. not (code_of codes i == rest)) (length codes)

pub record AreListedRows (codes : List ℕ) (rest : ℕ) (rows keys : List ℕ) : Type 0 where
  pub rows_are : rows ≡ listed_rows codes rest
  pub keys_are : keys ≡ map (code_of codes) rows

-- the list of each code in segment s
abbrev pub list_of : OffsetsOf → ℕ → ℕ → List ℕ
list_of v s = listed (segment_of v.codes s) v.rest

-- all lists of segment s, and where each of them begins and the last one ends
abbrev pub lists_of : OffsetsOf → ℕ → List ℕ
lists_of v s = lists_to (list_of v s) v.tuples

abbrev pub starts_of : OffsetsOf → ℕ → List ℕ
starts_of v s = begins_to (list_of v s) (v.tuples + 1)

-- the lists of the first n segments are kept
pub record AreLists (n : ℕ) (v : OffsetsOf) (l : Lists) : Type 0 where
  pub bases : l.bases.items ≡ begins_to (lists_of v) n
  pub starts : l.starts.items ≡ lists_to (starts_of v) n
  pub offsets : l.offsets.items ≡ lists_to (lists_of v) n

-- the lists of one more segment, whose rows have these codes
pub record AreAdded (codes : List ℕ) (tuples rest : ℕ) (old new : Lists) : Type 0 where
  pub bases : new.bases.items ≡ old.bases.items ++ length old.offsets.items ∷ []
  pub starts : new.starts.items ≡ old.starts.items ++ begins_to (listed codes rest) (tuples + 1)
  pub offsets : new.offsets.items ≡ old.offsets.items ++ lists_to (listed codes rest) tuples

-- where the list of code k in segment s begins: after those of the segments before it, and of the codes before it
abbrev pub list_begin : OffsetsOf → ℕ → ℕ → ℕ
list_begin v s k = length (lists_to (lists_of v) s) + length (lists_to (list_of v s) k)

-- where it begins as that is kept, and what is kept of it
abbrev pub begin_kept : ℕ → Lists → ℕ → ℕ → ℕ
begin_kept tuples l s k = code_of l.bases.items s + code_of l.starts.items (s * (tuples + 1) + k)

abbrev pub list_kept : ℕ → Lists → ℕ → ℕ → List ℕ
list_kept tuples l s k =
    let begin = begin_kept tuples l s k in
    take (begin_kept tuples l s (k + 1) - begin) (drop begin l.offsets.items)

-- the code of the row with offset j, by the lists of the first n codes: the one whose list has it, or else the rest
unfoldable pub code_by : ℕ → (ℕ → List ℕ) → ℕ → ℕ → ℕ
code_by rest lists zero j = rest
code_by rest lists (suc k) j = if list_any (λ o. o == j) (lists k) then k else code_by rest lists k j

-- the rows that are kept by these lists
unfoldable pub codes_kept : ℕ → ℕ → ℕ → Lists → List ℕ
codes_kept rows tuples rest l =
    map (λ i. code_by rest (list_kept tuples l (i / segment_rows)) tuples (i % segment_rows)) (range_with_len 0 rows)

abbrev pub rows_kept : ℕ → ℕ → ℕ → Lists → OffsetsOf
rows_kept rows tuples rest l = record { codes = codes_kept rows tuples rest l; tuples = tuples; rest = rest }

-- what is kept of rows
pub record AreKept (v : OffsetsOf) (rows tuples rest : ℕ) (l : Lists) (o : Occurrences) : Type 0 where
  pub count : rows ≡ length v.codes
  pub tuples_are : tuples ≡ v.tuples
  pub rest_is : rest ≡ v.rest
  pub few : rows ≤ most_cells
  pub few_tuples : tuples ≤ most_cells
  pub in_tuples : (i : ℕ) → i < length v.codes → code_of v.codes i < v.tuples
  pub lists : AreLists (segments_of rows) v l
  pub counted : AreCounted v.codes v.tuples o.counts.items o.first_rows.items
