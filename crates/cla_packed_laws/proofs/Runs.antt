-- Runs, both ways.
use Rattle.std.proofs.Common.{◌≡◌, ℕ, zero, suc, ◌+◌, ◌-◌, ◌<◌, ◌≤◌, true, false, List, [], ◌∷◌, ◌++◌, length, refl}
use Rattle.std.proofs.Common.{sym, ap, subst, ◌∙◌, arith, inl, inr}
use Rattle.std.specs.Prelude.{nat_lt, nat_le, ◌||◌, ◌&&◌, not, ◌==◌}
use Rattle.std.specs.List.{flat_map, list_all, range_with_len, AllByRecursion}
use Rattle.std.proofs.lemmas.Bool.{cases_lt, cases_eq, lt-ltb, ltb-true, leb-true, le-leb, eqb-true, eq-eqb, ne_eqb}
use Rattle.std.proofs.lemmas.Bool.{and_parts, and_from, or_left, or_right, or_cases, not-true, not_from_false}
use Rattle.std.proofs.lemmas.List.{length-append}
use Rattle.cla_spec.specs.Bytes.{bytes_of, past}
use Rattle.cla_packed.specs.declared.fault.FieldName.TheVariants.{Runs, Gap, Length}
use Rattle.cla_packed.specs.Fields.{field_at, then_at, list_at, EachIs}
use Rattle.cla_packed.specs.Lists.{next_from, RisingFrom, named, first_of, floor_of, IsList}
use Rattle.cla_packed.specs.Runs.{Run, end_of, rows_of_runs, one_more_row, runs_of_rows, fits_gap, fits_length}
use Rattle.cla_packed.specs.Runs.{run_at, fits_runs, runs_at, run_bytes, runs_bytes}
use Rattle.cla_packed_laws.proofs.Forms.{IsForm, field_form, then_form, list_form, as_form}
use Rattle.cla_packed_laws.proofs.Lists.{rising_next, rises_sooner}
use Rattle.cla_packed_laws.proofs.Offsets.{all-append, next_within, rising_few}

-- ---- the reader's form

IsRun : ℕ → List (List ℕ) → ℕ → List Run → Run → Type 0
IsRun rows earlier left so_far run = ((run.0 < past 4) × (fits_gap rows earlier so_far run.0 ≡ true))
    × ((run.1 < past 4) × (fits_length rows earlier so_far run.0 run.1 ≡ true))

run_form : (rows group : ℕ) (earlier : List (List ℕ)) (left : ℕ) (so_far : List Run)
    → IsForm (run_at rows group earlier so_far) (IsRun rows earlier left so_far) run_bytes
unfolding IsRun
run_form rows group earlier left so_far =
    then_form (field_at 4 (fits_gap rows earlier so_far) group Gap) (λ gap. (gap < past 4)
    × (fits_gap rows earlier so_far gap ≡ true)) (bytes_of 4)
    (λ gap. field_at 4 (fits_length rows earlier so_far gap) group Length) (λ gap n. (n < past 4)
    × (fits_length rows earlier so_far gap n ≡ true)) (λ gap. bytes_of 4)
    (field_form 4 (fits_gap rows earlier so_far) group Gap)
    (λ gap h. field_form 4 (fits_length rows earlier so_far gap) group Length)

-- ---- rows and runs

rising_range : (a j n : ℕ) (rest : List ℕ) → a ≤ j → RisingFrom (j + n) rest
    → RisingFrom a (range_with_len j n ++ rest)
rising_range a j zero rest le h = rises_sooner a (j + 0) rest (omega (arith, le)) h
rising_range a j (suc n) rest le h =
    let same : j + suc n ≡ (j + 1) + n = omega arith in
    (le, rising_range (j + 1) (j + 1) n rest (omega arith) (subst (λ (b : ℕ). RisingFrom b rest) same h))

runs_rise : (a : ℕ) (runs : List Run) → RisingFrom a (rows_of_runs a runs)
runs_rise a [] = tt
runs_rise a (run ∷ runs) = rising_range a (a + run.0) run.1 (rows_of_runs (a + run.0 + run.1) runs) (omega arith)
    (runs_rise (a + run.0 + run.1) runs)

-- no run is empty, and each but the first has a gap
abbrev LaterOk : List Run → Type 0
LaterOk runs = AllByRecursion (λ run. (0 < run.1) × (0 < run.0)) runs

abbrev RunsOk : List Run → Type 0
RunsOk [] = Unit {0}
RunsOk (run ∷ more) = (0 < run.1) × LaterOk more

joins : (gap : ℕ) (more : List Run) → LaterOk more → one_more_row gap more ≡ (gap, 1) ∷ more
joins gap [] h = refl
joins gap (run ∷ more) h = rw (ne_eqb run.0 0 (λ e. omega (arith, e, h.0.1))) refl

one_run : (a j gap n : ℕ) (rest : List ℕ) (more : List Run) → j ≡ a + gap → runs_of_rows (j + suc n) rest ≡ more
    → LaterOk more → runs_of_rows a (range_with_len j (suc n) ++ rest) ≡ (gap, suc n) ∷ more
one_run a j gap zero rest more e h ok =
    let gap_is : j - a ≡ gap = omega (arith, e) in
    rw (gap_is, h) (joins gap more ok)
one_run a j gap (suc n) rest more e h ok =
    let gap_is : j - a ≡ gap = omega (arith, e) in
    let same : (j + 1) + suc n ≡ j + suc (suc n) = omega arith in
    let later = one_run (j + 1) (j + 1) 0 n rest more (omega arith) (subst (λ (b : ℕ). runs_of_rows b rest
    ≡ more) (sym same) h) ok in
    rw (gap_is, later) refl

later_ok : (runs : List Run) → LaterOk runs → RunsOk runs
later_ok [] h = tt
later_ok (run ∷ runs) h = (h.0.0, h.1)

runs_again : (a : ℕ) (runs : List Run) → RunsOk runs → runs_of_rows a (rows_of_runs a runs) ≡ runs
runs_again a [] h = refl
runs_again a (run ∷ runs) h =
    let n = run.1 - 1 in
    let n_is : run.1 ≡ suc n = omega (arith, h.0) in
    let more = runs_again (a + run.0 + suc n) runs (later_ok runs h.1) in
    let one = one_run a (a + run.0) run.0 n (rows_of_runs (a + run.0 + suc n) runs) runs refl more h.1 in
    subst (λ (m : ℕ). runs_of_rows a (range_with_len (a + run.0) m ++ rows_of_runs (a + run.0 + m) runs)
    ≡ run ∷ runs) (sym n_is) (one ∙ ap (λ (m : ℕ). (run.0, m) ∷ runs) (sym n_is))

rows_of_one_more : (a gap : ℕ) (runs : List Run) → rows_of_runs a (one_more_row gap runs)
    ≡ (a + gap) ∷ rows_of_runs (a + gap + 1) runs
rows_of_one_more a gap [] = refl
rows_of_one_more a gap (run ∷ runs) = elim (cases_eq run.0 0) [
  | inl none ↦
      let from : (a + gap + 1) + run.0 ≡ a + gap + 1 = omega (arith, none) in
      let end : a + gap + suc run.1 ≡ (a + gap + 1) + run.1 = omega arith in
      rw (eq-eqb run.0 0 none) (rw (from, end) refl)
  | inr some ↦ rw (ne_eqb run.0 0 some) refl
]

rows_again : (a : ℕ) (list : List ℕ) → RisingFrom a list → rows_of_runs a (runs_of_rows a list) ≡ list
rows_again a [] h = refl
rows_again a (i ∷ list) h =
    let at : a + (i - a) ≡ i = omega (arith, h.0) in
    rows_of_one_more a (i - a) (runs_of_rows (i + 1) list)
    ∙ rw at (ap (λ (l : List ℕ). i ∷ l) (rows_again (i + 1) list h.1))

one_more_ok : (gap : ℕ) (runs : List Run) → RunsOk runs → RunsOk (one_more_row gap runs)
one_more_ok gap [] h = (omega arith, tt)
one_more_ok gap (run ∷ runs) h = elim (cases_eq run.0 0) [
  | inl none ↦ rw (eq-eqb run.0 0 none) (omega arith, h.1)
  | inr some ↦ rw (ne_eqb run.0 0 some) (omega arith, ((h.0, omega (arith, some)), h.1))
]

runs_ok : (a : ℕ) (list : List ℕ) → RunsOk (runs_of_rows a list)
runs_ok a [] = tt
runs_ok a (i ∷ list) = one_more_ok (i - a) (runs_of_rows (i + 1) list) (runs_ok (i + 1) list)

one_more_count : (gap : ℕ) (runs : List Run) → (0 < length (one_more_row gap runs))
    × (length (one_more_row gap runs) ≤ suc (length runs))
one_more_count gap [] = (omega arith, omega arith)
one_more_count gap (run ∷ runs) = elim (cases_eq run.0 0) [
  | inl none ↦ rw (eq-eqb run.0 0 none) (omega arith, omega arith)
  | inr some ↦ rw (ne_eqb run.0 0 some) (omega arith, omega arith)
]

runs_count : (a : ℕ) (list : List ℕ) → length (runs_of_rows a list) ≤ length list
runs_count a [] = omega arith
runs_count a (i ∷ list) = omega (
  arith,
  (one_more_count (i - a) (runs_of_rows (i + 1) list)).1,
  runs_count (i + 1) list,
)

runs_some : (a : ℕ) (list : List ℕ) → 0 < length list → 0 < length (runs_of_rows a list)
runs_some a [] h = absurd (omega (arith, h))
runs_some a (i ∷ list) h = (one_more_count (i - a) (runs_of_rows (i + 1) list)).0

-- ---- what the tests say

end_push : (a : ℕ) (runs : List Run) (run : Run) → end_of a (runs ++ run ∷ []) ≡ end_of a runs + run.0 + run.1
end_push a [] run = refl
end_push a (r ∷ runs) run = end_push (a + r.0 + r.1) runs run

gap_parts : (rows : ℕ) (earlier : List (List ℕ)) (so_far : List Run) (gap : ℕ) → fits_gap rows earlier so_far gap
    ≡ true
    → ((nat_lt 0 gap || (length so_far == 0)) ≡ true) × (end_of 0 so_far + gap < rows)
    × ((nat_lt 0 (length so_far) || nat_le (floor_of earlier) (end_of 0 so_far + gap)) ≡ true)
gap_parts rows earlier so_far gap h =
    let a = and_parts ((nat_lt 0 gap || (length so_far == 0)) && nat_lt (end_of 0 so_far + gap) rows)
    (nat_lt 0 (length so_far) || nat_le (floor_of earlier) (end_of 0 so_far + gap)) h in
    let b = and_parts (nat_lt 0 gap || (length so_far == 0)) (nat_lt (end_of 0 so_far + gap) rows) a.0 in
    (b.0, ltb-true (end_of 0 so_far + gap) rows b.1, a.1)

length_parts : (rows : ℕ) (earlier : List (List ℕ)) (so_far : List Run) (gap n : ℕ)
    → fits_length rows earlier so_far gap n ≡ true
    → (0 < n) × (end_of 0 so_far + gap + n ≤ rows)
    × (list_all (λ i. not (named earlier i)) (range_with_len (end_of 0 so_far + gap) n) ≡ true)
length_parts rows earlier so_far gap n h =
    let j = end_of 0 so_far + gap in
    let a = and_parts (nat_lt 0 n && nat_le (j + n) rows) (list_all (λ i. not (named earlier i))
    (range_with_len j n)) h in
    let b = and_parts (nat_lt 0 n) (nat_le (j + n) rows) a.0 in
    (ltb-true 0 n b.0, leb-true (j + n) rows b.1, a.1)

apart_from : (earlier : List (List ℕ)) (list : List ℕ) → list_all (λ i. not (named earlier i)) list ≡ true
    → AllByRecursion (λ i. named earlier i ≡ false) list
apart_from earlier [] h = tt
apart_from earlier (i ∷ list) h =
    let p = and_parts (not (named earlier i)) (list_all (λ i. not (named earlier i)) list) h in
    (not-true (named earlier i) p.0, apart_from earlier list p.1)

apart_test : (earlier : List (List ℕ)) (list : List ℕ) → AllByRecursion (λ i. named earlier i ≡ false) list
    → list_all (λ i. not (named earlier i)) list ≡ true
apart_test earlier [] h = refl
apart_test earlier (i ∷ list) h = and_from (not (named earlier i)) (list_all (λ i. not (named earlier i)) list)
    (not_from_false (named earlier i) h.0) (apart_test earlier list h.1)

range_below : (j n rows : ℕ) → j + n ≤ rows → AllByRecursion (λ i. i < rows) (range_with_len j n)
range_below j zero rows le = tt
range_below j (suc n) rows le = (omega (arith, le), range_below (j + 1) n rows (omega (arith, le)))

below_range : (j n rows : ℕ) → j ≤ rows → AllByRecursion (λ i. i < rows) (range_with_len j n) → j + n ≤ rows
below_range j zero rows le h = omega (arith, le)
below_range j (suc n) rows le h = omega (arith, below_range (j + 1) n rows (omega (arith, h.0)) h.1)

all-parts : (P : ℕ → Type 0) (xs ys : List ℕ) → AllByRecursion P (xs ++ ys) → AllByRecursion P xs
    × AllByRecursion P ys
all-parts P [] ys h = (tt, h)
all-parts P (x ∷ xs) ys h = (let more = all-parts P xs ys h.1 in ((h.0, more.0), more.1))

starts_at : (j n : ℕ) (rest : List ℕ) → 0 < n → first_of (range_with_len j n ++ rest) ≡ j
starts_at j zero rest some = absurd (omega (arith, some))
starts_at j (suc n) rest some = refl

below_first : (rows j n : ℕ) → 0 < n → AllByRecursion (λ i. i < rows) (range_with_len j n) → j < rows
below_first rows j zero some h = absurd (omega (arith, some))
below_first rows j (suc n) some h = h.0

range_count : (j n : ℕ) → length (range_with_len j n) ≡ n
range_count j zero = refl
range_count j (suc n) = ap suc (range_count (j + 1) n)

rising_all : (a rows : ℕ) (list : List ℕ) → RisingFrom a list → next_from a list ≤ rows
    → AllByRecursion (λ i. i < rows) list
rising_all a rows [] h le = tt
rising_all a rows (i ∷ list) h le = (
  omega (arith, rising_next (i + 1) list h.1, le),
  rising_all (i + 1) rows list h.1 le,
)

runs_say : (rows : ℕ) (earlier : List (List ℕ)) (so_far runs : List Run) → EachIs (IsRun rows earlier) so_far runs
    → AllByRecursion (λ i. i < rows) (rows_of_runs (end_of 0 so_far) runs) × AllByRecursion (λ i. named earlier i
    ≡ false) (rows_of_runs (end_of 0 so_far) runs) × (0 < length so_far → LaterOk runs)
unfolding IsRun
runs_say rows earlier so_far [] h = (tt, tt, λ some. tt)
runs_say rows earlier so_far (run ∷ runs) h =
    let j = end_of 0 so_far + run.0 in
    let g = gap_parts rows earlier so_far run.0 h.0.0.1 in
    let l = length_parts rows earlier so_far run.0 run.1 h.0.1.1 in
    let more = runs_say rows earlier (so_far ++ run ∷ []) runs h.1 in
    let end = end_push 0 so_far run in
    let longer : 0 < length (so_far ++ run ∷ []) = omega (arith, length-append so_far (run ∷ [])) in (
      all-append (λ i. i < rows) (range_with_len j run.1) (rows_of_runs (j + run.1) runs)
          (range_below j run.1 rows l.1)
          (subst (λ (e : ℕ). AllByRecursion (λ i. i < rows) (rows_of_runs e runs)) end more.0),
      all-append (λ i. named earlier i ≡ false) (range_with_len j run.1) (rows_of_runs (j + run.1) runs)
          (apart_from earlier (range_with_len j run.1) l.2)
          (subst (λ (e : ℕ). AllByRecursion (λ i. named earlier i ≡ false) (rows_of_runs e runs)) end more.1),
      λ some. (
        (
          l.0,
          elim (or_cases (nat_lt 0 run.0) (length so_far == 0) g.0) [
            | inl gap ↦ ltb-true 0 run.0 gap
            | inr none ↦ absurd (omega (arith, some, eqb-true (length so_far) 0 none))
          ],
        ),
        more.2 longer,
      ),
    )

runs_are : (rows : ℕ) (earlier : List (List ℕ)) (so_far runs : List Run) → rows < past 4 → end_of 0 so_far ≤ rows
    → AllByRecursion (λ i. i < rows) (rows_of_runs (end_of 0 so_far) runs) → AllByRecursion (λ i. named earlier i
    ≡ false) (rows_of_runs (end_of 0 so_far) runs)
    → RunsOk runs → (0 < length so_far → LaterOk runs) → (length so_far ≡ 0 → 0 < length runs
    → floor_of earlier ≤ first_of (rows_of_runs (end_of 0 so_far) runs)) → EachIs (IsRun rows earlier) so_far runs
unfolding IsRun
runs_are rows earlier so_far [] small near below apart ok later first = tt
runs_are rows earlier so_far (run ∷ runs) small near below apart ok later first =
    let a = end_of 0 so_far in
    let j = a + run.0 in
    let b = all-parts (λ i. i < rows) (range_with_len j run.1) (rows_of_runs (j + run.1) runs) below in
    let p = all-parts (λ i. named earlier i ≡ false) (range_with_len j run.1) (rows_of_runs (j + run.1) runs) apart in
    let starts = starts_at j run.1 (rows_of_runs (j + run.1) runs) ok.0 in
    let start : j < rows = below_first rows j run.1 ok.0 b.0 in
    let ends : j + run.1 ≤ rows = below_range j run.1 rows (omega (arith, start)) b.0 in
    let end = end_push 0 so_far run in (
      (
        (
          omega (arith, start, small),
          and_from ((nat_lt 0 run.0 || (length so_far == 0)) && nat_lt j rows) (nat_lt 0 (length so_far)
              || nat_le (floor_of earlier) j)
              (and_from (nat_lt 0 run.0 || (length so_far == 0)) (nat_lt j rows)
              (elim (cases_lt 0 (length so_far)) [
                | inl some ↦ or_left (nat_lt 0 run.0) (length so_far == 0) (lt-ltb 0 run.0 (later some).0.1)
                | inr none ↦ or_right (nat_lt 0 run.0) (length so_far == 0)
                    (eq-eqb (length so_far) 0 (omega (arith, none)))
              ]) (lt-ltb j rows start))
              (elim (cases_lt 0 (length so_far)) [
                | inl some ↦ or_left (nat_lt 0 (length so_far)) (nat_le (floor_of earlier) j)
                    (lt-ltb 0 (length so_far) some)
                | inr none ↦ or_right (nat_lt 0 (length so_far)) (nat_le (floor_of earlier) j)
                    (le-leb (floor_of earlier) j (omega (arith, first (omega (arith, none)) (omega arith), starts)))
              ]),
        ),
        (
          omega (arith, ends, small),
          and_from (nat_lt 0 run.1 && nat_le (j + run.1) rows) (list_all (λ i. not (named earlier i))
              (range_with_len j run.1))
              (and_from (nat_lt 0 run.1) (nat_le (j + run.1) rows) (lt-ltb 0 run.1 ok.0)
              (le-leb (j + run.1) rows ends)) (apart_test earlier (range_with_len j run.1) p.0),
        ),
      ),
      runs_are rows earlier (so_far ++ run ∷ []) runs small (omega (arith, end, ends))
          (subst (λ (e : ℕ). AllByRecursion (λ i. i < rows) (rows_of_runs e runs)) (sym end) b.1)
          (subst (λ (e : ℕ). AllByRecursion (λ i. named earlier i ≡ false) (rows_of_runs e runs)) (sym end) p.1)
          (later_ok runs ok.1) (λ some. ok.1) (λ none some.
          absurd (omega (arith, none, length-append so_far (run ∷ [])))),
    )

-- ---- the form

abbrev counted : List ℕ → ℕ × List Run
counted list = (length (runs_of_rows 0 list), runs_of_rows 0 list)

first_run_some : (rows : ℕ) (earlier : List (List ℕ)) (runs : List Run) → 0 < length runs
    → EachIs (IsRun rows earlier) [] runs → (0 < length (rows_of_runs 0 runs))
    × (floor_of earlier ≤ first_of (rows_of_runs 0 runs)) × RunsOk runs
unfolding IsRun
first_run_some rows earlier [] some h = absurd (omega (arith, some))
first_run_some rows earlier (run ∷ runs) some h =
    let g = gap_parts rows earlier [] run.0 h.0.0.1 in
    let l = length_parts rows earlier [] run.0 run.1 h.0.1.1 in
    let starts = starts_at (0 + run.0) run.1 (rows_of_runs (0 + run.0 + run.1) runs) l.0 in (
      omega (
        arith,
        l.0,
        length-append (range_with_len (0 + run.0) run.1) (rows_of_runs (0 + run.0 + run.1) runs),
        range_count (0 + run.0) run.1,
      ),
      omega (arith, starts, leb-true (floor_of earlier) (0 + run.0) g.2),
      (l.0, (runs_say rows earlier ([] ++ run ∷ []) runs h.1).2 (omega arith)),
    )

pub runs_form : (rows group : ℕ) (earlier : List (List ℕ)) → rows < past 4
    → IsForm (runs_at rows group earlier) (IsList rows earlier) runs_bytes
runs_form rows group earlier small =
    let Good = λ (n : ℕ). (n < past 4) × (fits_runs rows n ≡ true) in
    let Each = λ (n : ℕ) (runs : List Run). (length runs ≡ n) × EachIs (IsRun rows earlier) [] runs in
    as_form (then_at (field_at 4 (fits_runs rows) group Runs)
    (λ n. list_at (λ left so_far. run_at rows group earlier so_far) n [])) (λ x. Good x.0 × Each x.0 x.1)
    (λ x. bytes_of 4 x.0 ++ flat_map run_bytes x.1)
    (λ (x : ℕ × List Run). rows_of_runs 0 x.1) counted (IsList rows earlier)
    (then_form (field_at 4 (fits_runs rows) group Runs) Good (bytes_of 4)
    (λ n. list_at (λ left so_far. run_at rows group earlier so_far) n []) Each (λ n. flat_map run_bytes)
    (field_form 4 (fits_runs rows) group Runs) (λ n h. list_form (λ left so_far. run_at rows group earlier so_far)
    (IsRun rows earlier) run_bytes (λ left so_far. run_form rows group earlier left so_far) n))
    (λ x h.
    let n = and_parts (nat_le 1 x.0) (nat_le x.0 rows) h.0.1 in
    let f = first_run_some rows earlier x.1 (omega (arith, h.1.0, leb-true 1 x.0 n.0)) h.1.1 in
    let s = runs_say rows earlier [] x.1 h.1.1 in
    let back = runs_again 0 x.1 f.2 in (
      record {
        some = f.0;
        rising = runs_rise 0 x.1;
        within =
            next_within 0 rows (rows_of_runs 0 x.1) (omega arith) s.0;
        apart = s.1;
        first = f.1;
      },
      λ i. ((ap (λ (rs : List Run). length rs) back ∙ h.1.0) i, back i),
    ))
    (λ list h.
    let runs = runs_of_rows 0 list in
    let whole = rows_again 0 list h.rising in
    let few : length runs ≤ rows = omega (arith, runs_count 0 list, rising_few 0 list h.rising, h.within) in
    let some = runs_some 0 list h.some in (
      (
        (
          omega (arith, few, small),
          and_from (nat_le 1 (length runs)) (nat_le (length runs) rows)
              (le-leb 1 (length runs) some) (le-leb (length runs) rows few),
        ),
        (
          refl,
          runs_are rows earlier [] runs small (omega arith) (subst (λ (l : List ℕ). AllByRecursion (λ i. i < rows) l)
              (sym whole) (rising_all 0 rows list h.rising h.within))
              (subst (λ (l : List ℕ). AllByRecursion (λ i. named earlier i ≡ false) l) (sym whole) h.apart)
              (runs_ok 0 list) (λ some. absurd (omega (arith, some))) (λ none some.
              subst (λ (l : List ℕ). floor_of earlier ≤ first_of l) (sym whole) h.first),
        ),
      ),
      whole,
    ))
