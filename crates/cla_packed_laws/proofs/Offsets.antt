-- Offset lists, both ways.
use Rattle.std.proofs.Common.{◌≡◌, ℕ, zero, suc, ◌+◌, ◌-◌, ◌*◌, ◌%◌, ◌<◌, ◌≤◌, true, List, [], ◌∷◌, ◌++◌, length}
use Rattle.std.proofs.Common.{take, drop, min, refl, sym, ap, subst, ◌∙◌, arith, inl, inr}
use Rattle.std.specs.Prelude.{nat_lt, nat_le, ◌||◌}
use Rattle.std.specs.List.{flat_map, prefix_len, AllByRecursion}
use Rattle.std.proofs.lemmas.Bool.{cases_lt, lt-ltb, le-ltb, ltb-true, leb-true, le-leb, and_parts, and_from}
use Rattle.std.proofs.lemmas.List.{length-append, take-append-drop, take_at, drop_at}
use Rattle.std.proofs.lemmas.Nat.{mod-mul-add, div-add-mod', mod_below}
use Rattle.std.proofs.Math.Nat.{suc-mul}
use Rattle.cla_spec.specs.Bytes.{bytes_of, past}
use Rattle.cla_packed.specs.declared.fault.FieldName.TheVariants.{Count, Offset}
use Rattle.cla_packed.specs.Fields.{field_at, then_at, list_at, EachIs}
use Rattle.cla_packed.specs.Lists.{next_from, RisingFrom, IsList}
use Rattle.cla_packed.specs.Offsets.{fits_row, joined, segment_rows, fits_count, fits_offset, row_at, segment_at}
use Rattle.cla_packed.specs.Offsets.{segments, offsets_at, parted, segment_bytes, offsets_bytes}
use Rattle.cla_packed_laws.proofs.Forms.{IsForm, field_form, then_form, list_form, as_form}
use Rattle.cla_packed_laws.proofs.Tests.{at_last, from_last, each_by}
use Rattle.cla_packed_laws.proofs.Lists.{rising_next}
use Rattle.cla_packed_laws.proofs.RowTests.{EachHere, list_from, rows_fit_list, joined-append, join_each, part_each}

-- ---- one offset

record IsRow (size rows : ℕ) (earlier before : List (List ℕ)) (so_far : List ℕ) (i : ℕ) : Type 0 where
  above : length before * size ≤ i
  below : i < length before * size + segment_rows size rows (length before)
  fits : fits_row earlier (joined before ++ so_far) i ≡ true

row_form : (size rows group : ℕ) (earlier before : List (List ℕ)) (so_far : List ℕ) → size < past 2
    → IsForm (row_at size rows group earlier before so_far) (IsRow size rows earlier before so_far)
    (λ i. bytes_of 2 (i % size))
row_form size rows group earlier before so_far small =
    let base = length before * size in
    as_form (field_at 2 (fits_offset size rows earlier before so_far) group Offset) (λ o. (o < past 2)
    × (fits_offset size rows earlier before so_far o ≡ true)) (bytes_of 2)
    (λ o. base + o) (λ i. i % size) (IsRow size rows earlier before so_far)
    (field_form 2 (fits_offset size rows earlier before so_far) group Offset)
    (λ o h.
    let p = and_parts (nat_lt o (segment_rows size rows (length before))) (fits_row earlier (joined before
    ++ so_far) (base + o)) h.1 in
    let lt : o < segment_rows size rows (length before) = ltb-true o (segment_rows size rows (length before)) p.0 in (
      record { above = omega arith; below = omega (arith, lt); fits = p.1 },
      mod-mul-add (length before) size o (omega (arith, lt)),
    ))
    (λ i h.
    let lt : i - base < size = omega (arith, h.above, h.below) in
    let same : i ≡ base + (i - base) = omega (arith, h.above) in
    let rest : i % size ≡ i - base = ap (λ (n : ℕ). n % size) same ∙ mod-mul-add (length before) size (i - base) lt in
    let back : base + i % size ≡ i = omega (arith, rest, h.above) in (
      (
        omega (arith, rest, lt, small),
        and_from (nat_lt (i % size) (segment_rows size rows (length before))) (fits_row earlier (joined before
            ++ so_far) (base + i % size))
            (lt-ltb (i % size) (segment_rows size rows (length before)) (omega (arith, rest, h.above, h.below)))
            (ap (fits_row earlier (joined before ++ so_far)) back ∙ h.fits),
      ),
      back,
    ))

-- ---- one segment

record IsSegment (size rows : ℕ) (earlier : List (List ℕ)) (left : ℕ) (before : List (List ℕ))
    (segment : List ℕ) : Type 0 where
  count : fits_count size rows left before (length segment) ≡ true
  each : EachHere (λ so_far i. IsRow size rows earlier before so_far i) [] segment

abbrev back_of : List ℕ → ℕ × List ℕ
back_of segment = (length segment, segment)

segment_form : (size rows group : ℕ) (earlier : List (List ℕ)) (left : ℕ) (before : List (List ℕ)) → size < past 2
    → IsForm (segment_at size rows group earlier left before) (IsSegment size rows earlier left before)
    (segment_bytes size)
segment_form size rows group earlier left before small =
    let Good = λ (n : ℕ). (n < past 2) × (fits_count size rows left before n ≡ true) in
    let Each = λ (n : ℕ) (segment : List ℕ). (length segment ≡ n)
    × EachHere (λ so_far i. IsRow size rows earlier before so_far i) [] segment in
    as_form (then_at (field_at 2 (fits_count size rows left before) group Count)
    (λ n. list_at (λ left so_far. row_at size rows group earlier before so_far) n []))
    (λ x. Good x.0 × Each x.0 x.1) (λ x. bytes_of 2 x.0 ++ flat_map (λ i. bytes_of 2 (i % size)) x.1)
    (λ (x : ℕ × List ℕ). x.1) back_of (IsSegment size rows earlier left before)
    (then_form (field_at 2 (fits_count size rows left before) group Count) Good (bytes_of 2)
    (λ n. list_at (λ left so_far. row_at size rows group earlier before so_far) n []) Each
    (λ n. flat_map (λ i. bytes_of 2 (i % size)))
    (field_form 2 (fits_count size rows left before) group Count)
    (λ n h. list_form (λ left so_far. row_at size rows group earlier before so_far) (λ left so_far i.
    IsRow size rows earlier before so_far i) (λ i. bytes_of 2 (i % size)) (λ left so_far.
    row_form size rows group earlier before so_far small) n))
    (λ x h. (
      record { count = ap (fits_count size rows left before) h.1.0 ∙ h.0.1; each = h.1.1 },
      ap (λ (n : ℕ). (n, x.1)) h.1.0,
    ))
    (λ segment h.
    let c = and_parts (nat_le (length segment) (segment_rows size rows (length before))) (nat_lt 0 left
    || nat_lt 0 (length (joined before) + length segment)) h.count in (
      (
        (omega (arith, leb-true (length segment) (segment_rows size rows (length before)) c.0, small), h.count),
        (refl, h.each),
      ),
      refl,
    ))

-- ---- rows parted and joined

abbrev Within : ℕ → ℕ → List ℕ → Type 0
Within lo hi list = AllByRecursion (λ i. (lo ≤ i) × (i < hi)) list

abbrev InSegments : ℕ → ℕ → List (List ℕ) → Type 0
InSegments size base [] = Unit {0}
InSegments size base (segment ∷ more) = Within base (base + size) segment × InSegments size (base + size) more

abbrev IsPast : ℕ → List ℕ → Type 0
IsPast e [] = Unit {0}
IsPast e (i ∷ rest) = e ≤ i

past_sooner : (a b : ℕ) (list : List ℕ) → a ≤ b → IsPast b list → IsPast a list
past_sooner a b [] le h = tt
past_sooner a b (i ∷ list) le h = omega (arith, le, h)

within_sooner : (a b e : ℕ) (list : List ℕ) → a ≤ b → Within b e list → Within a e list
within_sooner a b e [] le h = tt
within_sooner a b e (i ∷ list) le h = ((omega (arith, le, h.0.0), h.0.1), within_sooner a b e list le h.1)

-- the first row that is no more below the end
front_all : (lo e : ℕ) (front rest : List ℕ) → Within lo e front → IsPast e rest
    → prefix_len (λ i. nat_lt i e) (front ++ rest) ≡ length front
front_all lo e [] [] h g = refl
front_all lo e [] (i ∷ rest) h g = rw (le-ltb i e g) refl
front_all lo e (i ∷ front) rest h g = rw (lt-ltb i e h.0.1, front_all lo e front rest h.1 g) (omega arith)

past_joined : (size base : ℕ) (segs : List (List ℕ)) → InSegments size base segs → IsPast base (joined segs)
past_joined size base [] h = tt
past_joined size base ([] ∷ segs) h = past_sooner base (base + size) (joined segs) (omega arith)
    (past_joined size (base + size) segs h.1)
past_joined size base ((i ∷ segment) ∷ segs) h = h.0.0.0

parted_joined : (size base : ℕ) (segs : List (List ℕ)) → InSegments size base segs
    → parted size (base + size) (length segs) (joined segs) ≡ segs
parted_joined size base [] h = refl
parted_joined size base (segment ∷ segs) h =
    let front = front_all base (base + size) segment (joined segs) h.0 (past_joined size (base + size) segs h.1) in
    rw (
      front,
      take_at segment (joined segs) (length segment) refl,
      drop_at segment (joined segs) (length segment) refl,
    ) (ap (λ (s : List (List ℕ)). segment ∷ s)
    (parted_joined size (base + size) segs h.1))

-- a rising list behind the rows that are below its end
behind_front : (a e : ℕ) (list : List ℕ) → RisingFrom a list
    → RisingFrom e (drop (prefix_len (λ i. nat_lt i e) list) list)
    × (next_from e (drop (prefix_len (λ i. nat_lt i e) list) list) ≤ e + (next_from a list - e))
    × RisingFrom a (take (prefix_len (λ i. nat_lt i e) list) list)
    × Within a e (take (prefix_len (λ i. nat_lt i e) list) list)
    × (a ≤ e → next_from a (take (prefix_len (λ i. nat_lt i e) list) list) ≤ e)
    × (next_from a (take (prefix_len (λ i. nat_lt i e) list) list) ≤ next_from a list)
behind_front a e [] h = (tt, omega arith, tt, tt, λ le. le, omega arith)
behind_front a e (i ∷ list) h = elim (cases_lt i e) [
  | inl lt ↦
      let more = behind_front (i + 1) e list h.1 in
      let one : 1 + prefix_len (λ i. nat_lt i e) list ≡ suc (prefix_len (λ i. nat_lt i e) list) = omega arith in
      rw (lt-ltb i e lt) (rw one (
        more.0,
        more.1,
        (h.0, more.2),
        (
          (h.0, lt),
          within_sooner a (i + 1) e (take (prefix_len (λ i. nat_lt i e) list) list)
              (omega (arith, h.0)) more.3,
        ),
        λ le. more.4 (omega (arith, lt)),
        more.5,
      ))
  | inr ge ↦ rw (le-ltb i e ge) (
    (ge, h.1),
    omega (arith, rising_next (i + 1) list h.1, ge),
    tt,
    tt,
    λ le. le,
    omega (arith, rising_next (i + 1) list h.1, h.0),
  )
]

-- ---- all segments

more_size : (before : List (List ℕ)) (segment : List ℕ) (size : ℕ) → length (before ++ segment ∷ []) * size
    ≡ length before * size + size
more_size before segment size =
    let one : length (before ++ segment ∷ []) ≡ suc (length before) =
    omega (arith, length-append before (segment ∷ [])) in
    ap (λ (n : ℕ). n * size) one ∙ suc-mul (length before) size

within_row : (size rows : ℕ) (earlier before : List (List ℕ)) (so_far list : List ℕ)
    → EachHere (λ so_far i. IsRow size rows earlier before so_far i) so_far list
    → Within (length before * size) (length before * size + size) list × AllByRecursion (λ i. i < rows) list
within_row size rows earlier before so_far [] h = (tt, tt)
within_row size rows earlier before so_far (i ∷ list) h =
    let more = within_row size rows earlier before (so_far ++ i ∷ []) list h.1 in
    (((h.0.above, omega (arith, h.0.below)), more.0), (omega (arith, h.0.above, h.0.below), more.1))

pub all-append : (P : ℕ → Type 0) (xs ys : List ℕ) → AllByRecursion P xs → AllByRecursion P ys
    → AllByRecursion P (xs ++ ys)
all-append P [] ys h g = g
all-append P (x ∷ xs) ys h g = (h.0, all-append P xs ys h.1 g)

segments_within : (size rows : ℕ) (earlier before segs : List (List ℕ))
    → EachIs (IsSegment size rows earlier) before segs → InSegments size (length before * size) segs
    × AllByRecursion (λ i. i < rows) (joined segs)
segments_within size rows earlier before [] h = (tt, tt)
segments_within size rows earlier before (segment ∷ segs) h =
    let one = within_row size rows earlier before [] segment h.0.each in
    let more = segments_within size rows earlier (before ++ segment ∷ []) segs h.1 in (
      (one.0, subst (λ (b : ℕ). InSegments size b segs) (more_size before segment size) more.0),
      all-append (λ i. i < rows) segment (joined segs) one.1 more.1,
    )

pub next_within : (a rows : ℕ) (list : List ℕ) → a ≤ rows → AllByRecursion (λ i. i < rows) list
    → next_from a list ≤ rows
next_within a rows [] le h = le
next_within a rows (i ∷ list) le h = next_within (i + 1) rows list (omega (arith, h.0)) h.1

pub rising_few : (a : ℕ) (list : List ℕ) → RisingFrom a list → a + length list ≤ next_from a list
rising_few a [] h = omega arith
rising_few a (i ∷ list) h = omega (arith, h.0, rising_few (i + 1) list h.1)

rising_in : (a e : ℕ) (list : List ℕ) → RisingFrom a list → next_from a list ≤ e → Within a e list
rising_in a e [] h le = tt
rising_in a e (i ∷ list) h le = (
  (h.0, omega (arith, rising_next (i + 1) list h.1, le)),
  within_sooner a (i + 1) e list (omega (arith, h.0)) (rising_in (i + 1) e list h.1 le),
)

abbrev InRows : ℕ → ℕ → ℕ → List (List ℕ) → Type 0
InRows size rows base [] = Unit {0}
InRows size rows base (segment ∷ more) = Within base (base + min size (rows - base)) segment
    × (length segment ≤ min size (rows - base)) × InRows size rows (base + size) more

parted_in : (size rows base n : ℕ) (list : List ℕ) → RisingFrom base list
    → next_from base list ≤ base + (rows - base) → InRows size rows base (parted size (base + size) n list)
parted_in size rows base zero list h le = tt
parted_in size rows base (suc n) list h le =
    let b = behind_front base (base + size) list h in
    let front = take (prefix_len (λ i. nat_lt i (base + size)) list) list in
    let ends : next_from base front ≤ base + min size (rows - base) = omega (arith, b.4 (omega arith), b.5, le) in (
      rising_in base (base + min size (rows - base)) front b.2 ends,
      omega (arith, rising_few base front b.2, ends),
      parted_in size rows (base + size) n (drop (prefix_len (λ i. nat_lt i (base + size)) list) list) b.0
          (omega (arith, b.1, le)),
    )

joined_parted : (size base n : ℕ) (list : List ℕ) → RisingFrom base list → next_from base list ≤ base + n * size
    → joined (parted size (base + size) n list) ≡ list
joined_parted size base zero [] h le = refl
joined_parted size base zero (i ∷ list) h le = absurd (omega (arith, h.0, rising_next (i + 1) list h.1, le))
joined_parted size base (suc n) list h le =
    let b = behind_front base (base + size) list h in
    let k = prefix_len (λ i. nat_lt i (base + size)) list in
    ap (λ (l : List ℕ). take k list ++ l) (joined_parted size (base + size) n (drop k list) b.0
    (omega (arith, b.1, le, suc-mul n size))) ∙ take-append-drop k list

length-parted : (size e n : ℕ) (list : List ℕ) → length (parted size e n list) ≡ n
length-parted size e zero list = refl
length-parted size e (suc n) list =
    ap suc (length-parted size (e + size) n (drop (prefix_len (λ i. nat_lt i e) list) list))

rows_are : (size rows : ℕ) (earlier before : List (List ℕ)) (so_far list : List ℕ)
    → Within (length before * size) (length before * size + segment_rows size rows (length before)) list
    → EachHere (λ so_far i. fits_row earlier (joined before ++ so_far) i ≡ true) so_far list
    → EachHere (λ so_far i. IsRow size rows earlier before so_far i) so_far list
rows_are size rows earlier before so_far [] h g = tt
rows_are size rows earlier before so_far (i ∷ list) h g = (
  record { above = h.0.0; below = h.0.1; fits = g.0 },
  rows_are size rows earlier before (so_far ++ i ∷ []) list h.1 g.1,
)

segments_are : (size rows : ℕ) (earlier before segs : List (List ℕ)) → InRows size rows (length before * size) segs
    → EachHere (λ before segment. EachHere (λ so_far i. fits_row earlier (joined before ++ so_far) i
    ≡ true) [] segment) before segs
    → EachIs (λ left before segment. Unit {0}
    × ((nat_lt 0 left || nat_lt 0 (length (joined (before ++ segment ∷ [])))) ≡ true)) before segs
    → EachIs (IsSegment size rows earlier) before segs
segments_are size rows earlier before [] h g l = tt
segments_are size rows earlier before (segment ∷ segs) h g l =
    let count : length (joined (before ++ segment ∷ [])) ≡ length (joined before) + length segment =
    ap (λ (list : List ℕ). length list) (joined-append before segment) ∙ length-append (joined before) segment in (
      record {
        count = and_from (nat_le (length segment) (segment_rows size rows (length before))) (nat_lt 0 (length segs)
            || nat_lt 0 (length (joined before) + length segment))
            (le-leb (length segment) (segment_rows size rows (length before)) h.1)
            (ap (λ (n : ℕ). nat_lt 0 (length segs) || nat_lt 0 n) (sym count) ∙ l.0.1);
        each = rows_are size rows earlier before [] segment h.0 g.0;
      },
      segments_are size rows earlier (before ++ segment ∷ []) segs (subst (λ (b : ℕ). InRows size rows b segs)
          (sym (more_size before segment size)) h.2) g.1 l.1,
    )

units : (segs : List (List ℕ)) → AllByRecursion (λ segment. Unit {0}) segs
units [] = tt
units (segment ∷ segs) = (tt, units segs)

zero_times : (size : ℕ) → 0 * size ≡ 0
zero_times size = omega arith

some_segment : (n size : ℕ) → 0 < n * size → 0 < n
some_segment zero size h = absurd (omega (arith, h, zero_times size))
some_segment (suc n) size h = omega arith

counted : (size rows left : ℕ) (before : List (List ℕ)) (segment : List ℕ)
    → fits_count size rows left before (length segment) ≡ true
    → (nat_lt 0 left || nat_lt 0 (length (joined (before ++ segment ∷ [])))) ≡ true
counted size rows left before segment h =
    let count : length (joined (before ++ segment ∷ [])) ≡ length (joined before) + length segment =
    ap (λ (list : List ℕ). length list) (joined-append before segment) ∙ length-append (joined before) segment in
    ap (λ (n : ℕ). nat_lt 0 left || nat_lt 0 n) count
    ∙ (and_parts (nat_le (length segment) (segment_rows size rows (length before))) (nat_lt 0 left
    || nat_lt 0 (length (joined before) + length segment)) h).1

pub offsets_form : (size rows group : ℕ) (earlier : List (List ℕ)) → 0 < size → size < past 2 → 0 < rows
    → IsForm (offsets_at size rows group earlier) (IsList rows earlier) (offsets_bytes size rows)
offsets_form size rows group earlier some small a_row =
    let S = segments size rows in
    let covers : rows ≤ S * size = omega (
      arith,
      div-add-mod' (rows + (size - 1)) size,
      mod_below (rows + (size - 1)) size some,
      some,
    ) in
    let one : 0 < S = some_segment S size (omega (arith, covers, a_row)) in
    let test = λ (segs : List (List ℕ)). nat_lt 0 (length (joined segs)) in
    as_form (list_at (segment_at size rows group earlier) S []) (λ segs. (length segs ≡ S)
    × EachIs (IsSegment size rows earlier) [] segs) (flat_map (segment_bytes size)) joined (parted size size S)
    (IsList rows earlier)
    (list_form (segment_at size rows group earlier) (IsSegment size rows earlier) (segment_bytes size)
    (λ left before. segment_form size rows group earlier left before small) S)
    (λ segs h.
    let w = segments_within size rows earlier [] segs h.1 in
    let fits = join_each (λ so_far i. fits_row earlier so_far i ≡ true) [] segs
    (each_by (IsSegment size rows earlier) (λ left before segment.
    EachHere (λ so_far i. fits_row earlier (joined before ++ so_far) i ≡ true) [] segment)
    (λ left before segment g. each_by (λ l so_far i. IsRow size rows earlier before so_far i) (λ l so_far i.
    fits_row earlier (joined before ++ so_far) i ≡ true) (λ l so_far i r.
    r.fits) [] segment g.each) [] segs h.1) in
    let last = at_last (λ segment. Unit {0}) test [] segs (omega (arith, h.0, one))
    (each_by (IsSegment size rows earlier) (λ left before segment. Unit {0}
    × ((nat_lt 0 left || test (before ++ segment ∷ [])) ≡ true))
    (λ left before segment g. (tt, counted size rows left before segment g.count)) [] segs h.1) in (
      list_from rows earlier (joined segs) (ltb-true 0 (length (joined segs)) last.1)
          (next_within 0 rows (joined segs) (omega arith) w.1) fits,
      (let zero_is : 0 + size ≡ size =
          omega arith in rw (← h.0) (subst (λ (e : ℕ). parted size e (length segs) (joined segs) ≡ segs) zero_is
          (parted_joined size 0 segs (subst (λ (b : ℕ). InSegments size b segs) (zero_times size) w.0)))),
    ))
    (λ list h.
    let zero_is : 0 + size ≡ size = omega arith in
    let segs = parted size size S list in
    let whole : joined segs ≡ list = subst (λ (e : ℕ). joined (parted size e S list) ≡ list) zero_is
    (joined_parted size 0 S list h.rising (omega (arith, h.within, covers))) in
    let inside : InRows size rows 0 segs = subst (λ (e : ℕ). InRows size rows 0 (parted size e S list)) zero_is
    (parted_in size rows 0 S list h.rising (omega (arith, h.within))) in
    let fits = part_each (λ so_far i. fits_row earlier so_far i ≡ true) [] segs
    (subst (λ (l : List ℕ). EachHere (λ so_far i. fits_row earlier so_far i ≡ true) [] l) (sym whole)
    (rows_fit_list rows earlier list h)) in
    let last = from_last (λ segment. Unit {0}) test [] segs (units segs)
    (lt-ltb 0 (length (joined segs)) (omega (arith, h.some, ap (λ (l : List ℕ). length l) whole))) in (
      (
        length-parted size size S list,
        segments_are size rows earlier [] segs (subst (λ (b : ℕ). InRows size rows b segs)
            (sym (zero_times size)) inside) fits last,
      ),
      whole,
    ))
