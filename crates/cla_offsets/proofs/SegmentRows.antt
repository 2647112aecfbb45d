-- The rows of a segment.
use Rattle.std.proofs.Common.{◌≡◌, ℕ, ◌+◌, ◌-◌, ◌*◌, ◌/◌, ◌%◌, ◌<◌, ◌≤◌, ◌++◌, List, length, take, drop, length-take}
use Rattle.std.proofs.Common.{length-append}
use Rattle.std.proofs.Common.{ap, sym, ◌∙◌, arith, inl, inr}
use Rattle.std.specs.Prelude.{min, max}
use Rattle.std.proofs.Math.Seq.{take-add}
use Rattle.std.proofs.lemmas.Slice.{take-put_mid}
use borrow.Rule.Slice.PartMut.{put_mid}
use Rattle.std.proofs.lemmas.Bool.{cases_lt}
use Rattle.std.proofs.lemmas.List.{length-drop, get_or-take, get_or-drop, take_all, take-take, drop-take, drop-drop}
use Rattle.cla_layout.specs.Groups.{code_of}
use Rattle.cla_offsets.specs.Segments.{segment_rows, segment_of, segments_of}

pub segment_size : (codes : List ℕ) (s : ℕ) → length (segment_of codes s)
    ≡ min segment_rows (length codes - s * segment_rows)
segment_size codes s =
    length-take segment_rows (drop (s * segment_rows) codes)
    ∙ ap (min segment_rows) (length-drop (s * segment_rows) codes)

-- the codes of a segment are those of the rows from its first one on
pub segment_row : (codes : List ℕ) (s j : ℕ) → j < length (segment_of codes s) →
    (j < segment_rows) × (s * segment_rows + j < length codes)
    × (code_of (segment_of codes s) j ≡ code_of codes (s * segment_rows + j))
segment_row codes s j there =
    let rows = drop (s * segment_rows) codes in
    let within : j < segment_rows = omega (arith, there, segment_size codes s) in
    let is = get_or-take segment_rows rows j 0 within ∙ get_or-drop (s * segment_rows) codes j 0 in
    (within, omega (arith, there, segment_size codes s), is)

-- the segment of a row, and its place there
pub row_in_segment : (codes : List ℕ) (i : ℕ) → i < length codes →
    (i % segment_rows < length (segment_of codes (i / segment_rows)))
    × (code_of (segment_of codes (i / segment_rows)) (i % segment_rows) ≡ code_of codes i)
row_in_segment codes i row =
    let s = i / segment_rows in
    let place : s * segment_rows + i % segment_rows ≡ i = omega arith in
    let inside : i % segment_rows < length (segment_of codes s) = omega (arith, segment_size codes s, place, row) in
    (inside, (segment_row codes s (i % segment_rows) inside).2 ∙ ap (code_of codes) place)

-- a segment that begins within the rows is one of them
pub segment_there : (rows s : ℕ) → s * segment_rows < rows → s < segments_of rows
segment_there rows s begins = omega (arith, begins)

-- the rows of a segment, cut out
pub segment_cut : (codes : List ℕ) (s n : ℕ) → n ≡ min segment_rows (length codes - s * segment_rows) →
    take n (drop (s * segment_rows) codes) ≡ segment_of codes s
segment_cut codes s n is = elim (cases_lt (length codes - s * segment_rows) segment_rows) [
  | inl fewer ↦
      let from = drop (s * segment_rows) codes in
      let size = length-drop (s * segment_rows) codes in
      take_all n from (omega (arith, is, fewer, size)) ∙ sym (take_all segment_rows from (omega (arith, fewer, size)))
  | inr full ↦ (let all : n ≡ segment_rows = omega (arith, is, full) in
      ap (λ (m : ℕ). take m (drop (s * segment_rows) codes)) all)
]

-- the part of a buffer that holds a segment, and the buffer with the segment in it
pub buffer_part : (codes : List ℕ) (s : ℕ) (buffer : List ℕ) (n : ℕ) → length buffer ≡ segment_rows →
    n ≡ min (length codes - s * segment_rows) segment_rows → length (take n buffer) ≡ length (segment_of codes s)
buffer_part codes s buffer n room is = omega (arith, length-take n buffer, segment_size codes s, is, room)

pub buffer_kept : (codes : List ℕ) (s : ℕ) (buffer segment : List ℕ) (n : ℕ) → length buffer ≡ segment_rows →
    n ≡ min (length codes - s * segment_rows) segment_rows → segment ≡ segment_of codes s →
    length (segment ++ drop n buffer) ≡ segment_rows
buffer_kept codes s buffer segment n room is holds =
    omega (
      arith,
      length-append segment (drop n buffer),
      length-drop n buffer,
      ap length holds,
      segment_size codes s,
      is,
      room,
    )

-- some of a segment's codes
segment_part : (codes : List ℕ) (s begin m : ℕ) → begin + m ≤ segment_rows →
    take m (drop begin (segment_of codes s)) ≡ take m (drop (s * segment_rows + begin) codes)
segment_part codes s begin m within =
    let rows = drop (s * segment_rows) codes in
    let whole : begin + (segment_rows - begin) ≡ segment_rows = omega (arith, within) in
    ap (λ (n : ℕ). take m (drop begin (take n rows))) (sym whole)
    ∙ ap (take m) (drop-take begin (segment_rows - begin) rows)
    ∙ take-take m (segment_rows - begin) (drop begin rows) (omega (arith, within))
    ∙ ap (take m) (drop-drop begin (s * segment_rows) codes)

-- the codes from row a to before row b, as far as they stand before segment s
abbrev pub codes_to : List ℕ → ℕ → ℕ → ℕ → List ℕ
codes_to codes a b s = take (min b (max a (s * segment_rows)) - a) (drop a codes)

pub codes_more : (codes : List ℕ) (a b s begin end : ℕ) → a < b → s * segment_rows < b → a < (s + 1) * segment_rows →
    begin ≡ max a (s * segment_rows) - s * segment_rows →
    end ≡ min b (s * segment_rows + segment_rows) - s * segment_rows →
    codes_to codes a b s ++ take (end - begin) (drop begin (segment_of codes s)) ≡ codes_to codes a b (s + 1)
codes_more codes a b s begin end some s_before a_before begins ends =
    let n = min b (max a (s * segment_rows)) - a in
    let m = end - begin in
    let place : s * segment_rows + begin ≡ a + n = omega (arith, some, s_before, begins) in
    let size : n + m ≡ min b (max a ((s + 1) * segment_rows)) - a =
    omega (arith, some, s_before, a_before, begins, ends) in
    let part = segment_part codes s begin m (omega (arith, begins, ends, a_before))
    ∙ ap (λ (x : ℕ). take m (drop x codes)) place in
    ap (λ (xs : List ℕ). codes_to codes a b s ++ xs) (part ∙ sym (ap (take m) (drop-drop n a codes)))
    ∙ sym (take-add n m (drop a codes)) ∙ ap (λ (x : ℕ). take x (drop a codes)) size

-- codes with those of segment s written behind the segments before
pub codes_written : (codes : List ℕ) (s end : ℕ) (into segment : List ℕ) → s * segment_rows < length codes →
    length into ≡ length codes →
    end ≡ min (length codes) (s * segment_rows + segment_rows) → segment ≡ segment_of codes s →
    take (min (length codes) (s * segment_rows)) into ≡ take (min (length codes) (s * segment_rows)) codes →
    take (min (length codes) ((s + 1) * segment_rows)) (put_mid (s * segment_rows) (end - s * segment_rows) into
    segment)
    ≡ take (min (length codes) ((s + 1) * segment_rows)) codes
codes_written codes s end into segment begins size ends is before =
    let first = s * segment_rows in
    let m = end - first in
    let front : min (length codes) first ≡ first = omega (arith, begins) in
    let whole : first + m ≡ min (length codes) ((s + 1) * segment_rows) = omega (arith, begins, ends) in
    let cut = segment_cut codes s m (omega (arith, begins, ends)) in
    let count : min (length codes) ((s + 1) * segment_rows) ≡ first + length segment =
    omega (arith, ap length is, segment_size codes s, begins, ends) in
    take-put_mid first m into segment (min (length codes) ((s + 1) * segment_rows)) count (omega (arith, begins, size))
    ∙ ap (λ (xs : List ℕ). xs ++ segment) (rw front at before)
    ∙ ap (λ (xs : List ℕ). take first codes ++ xs) (is ∙ sym cut)
    ∙ sym (take-add first m codes) ∙ ap (λ (n : ℕ). take n codes) whole
