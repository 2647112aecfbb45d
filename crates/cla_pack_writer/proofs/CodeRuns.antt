-- The runs of a code are the maximal runs of its rows.
use Rattle.std.proofs.Common.{◌≡◌, ℕ, zero, suc, ◌+◌, ◌-◌, ◌<◌, ◌≤◌, Bool, true, false, eqb, List, [], ◌∷◌, ◌++◌}
use Rattle.std.proofs.Common.{length, drop, map, get_or, refl, sym, ap, subst, ◌∙◌, append_assoc, length-append}
use Rattle.std.proofs.Common.{arith, inl, inr}
use Rattle.std.specs.Prelude.{◌&&◌, ◌||◌, not}
use Rattle.std.specs.List.{range_with_len, filter}
use Rattle.std.proofs.lemmas.Bool.{cases_Bool, cases_lt, cases_eq, eqb-true, eq-eqb, ne_eqb, and_parts, and_from}
use Rattle.std.proofs.lemmas.Bool.{false≢true}
use Rattle.std.proofs.lemmas.List.{append-nil, drop_more, length-map}
use Rattle.std.proofs.Math.ListN.{drop_of_length-le}
use Rattle.cla_layout.specs.Groups.{code_of}
use Rattle.cla_layout.specs.Listed.{begins_run, run_begins, rows_of}
use Rattle.cla_layout.proofs.Listings.{are_rows_where, rows_where_few}
use Rattle.cla_rows.specs.CodeRuns.{IsMaximalRun, listed_begins, listed_keys}
use Rattle.cla_runs.specs.Rows.{RowsOf}
use Rattle.cla_packed.specs.Lists.{rows_from}
use Rattle.cla_packed.specs.Runs.{Run, one_more_row, runs_of_rows}
use Rattle.cla_pack_writer.specs.Listed.{IsListOf}
use Rattle.cla_pack_writer.proofs.Segments.{IsPast, rows_past}

-- the rows of code k from row e on
abbrev pub behind : List ℕ → ℕ → ℕ → List ℕ
behind codes k e = rows_from e (drop e codes) k

row_here : (codes : List ℕ) (k e : ℕ) → e < length codes → code_of codes e ≡ k
    → behind codes k e ≡ e ∷ behind codes k (e + 1)
row_here codes k e lt same =
    ap (λ (t : List ℕ). rows_from e t k) (drop_more codes e 0 lt) ∙ rw (eq-eqb (code_of codes e) k same) refl

row_not : (codes : List ℕ) (k e : ℕ) → e < length codes → (code_of codes e ≡ k → ⊥)
    → behind codes k e ≡ behind codes k (e + 1)
row_not codes k e lt other =
    ap (λ (t : List ℕ). rows_from e t k) (drop_more codes e 0 lt) ∙ rw (ne_eqb (code_of codes e) k other) refl

rows_end : (codes : List ℕ) (k e : ℕ) → length codes ≤ e → behind codes k e ≡ []
rows_end codes k e le = ap (λ (t : List ℕ). rows_from e t k) (drop_of_length-le codes {i = e} le)

-- n rows without the code, and n with it
skipped : (codes : List ℕ) (k e n : ℕ) → e + n ≤ length codes
    → ((i : ℕ) → e ≤ i → i < e + n → code_of codes i ≡ k → ⊥) → behind codes k e ≡ behind codes k (e + n)
skipped codes k e zero le none = let z : e ≡ e + 0 = omega arith in ap (behind codes k) z
skipped codes k e (suc n) le none =
    let s : (e + 1) + n ≡ e + suc n = omega arith in
    row_not codes k e (omega (arith, le)) (none e (omega arith) (omega arith))
    ∙ skipped codes k (e + 1) n (omega (arith, le)) (λ i from to. none i (omega (arith, from)) (omega (arith, to)))
    ∙ ap (behind codes k) s

taken : (codes : List ℕ) (k e n : ℕ) → e + n ≤ length codes → ((i : ℕ) → e ≤ i → i < e + n → code_of codes i ≡ k)
    → behind codes k e ≡ range_with_len e n ++ behind codes k (e + n)
taken codes k e zero le all = let z : e ≡ e + 0 = omega arith in ap (behind codes k) z
taken codes k e (suc n) le all =
    let s : (e + 1) + n ≡ e + suc n = omega arith in
    row_here codes k e (omega (arith, le)) (all e (omega arith) (omega arith))
    ∙ ap (λ (t : List ℕ). e ∷ t)
    (taken codes k (e + 1) n (omega (arith, le)) (λ i from to. all i (omega (arith, from)) (omega (arith, to))))
    ∙ ap (λ (b : ℕ). e ∷ (range_with_len (e + 1) n ++ behind codes k b)) s

-- ---- runs of rows

abbrev IsGapped : List Run → Type 0
IsGapped [] = Unit {0}
IsGapped (run ∷ more) = 0 < run.0

gapped_more : (gap : ℕ) (runs : List Run) → 0 < gap → IsGapped (one_more_row gap runs)
gapped_more gap [] some = some
gapped_more gap (run ∷ more) some = elim (cases_Bool (eqb run.0 0)) [
  | inl here ↦ rw here some
  | inr other ↦ rw other some
]

gapped : (t : ℕ) (list : List ℕ) → IsPast (t + 1) list → IsGapped (runs_of_rows t list)
gapped t [] past = tt
gapped t (i ∷ list) past = gapped_more (i - t) (runs_of_rows (i + 1) list) (omega (arith, past))

joins : (gap : ℕ) (more : List Run) → IsGapped more → one_more_row gap more ≡ (gap, 1) ∷ more
joins gap [] h = refl
joins gap (run ∷ more) h = rw (ne_eqb run.0 0 (λ e. omega (arith, e, h))) refl

one_run : (e b n : ℕ) (rest : List ℕ) → IsGapped (runs_of_rows (b + suc n) rest)
    → runs_of_rows e (range_with_len b (suc n) ++ rest) ≡ (b - e, suc n) ∷ runs_of_rows (b + suc n) rest
one_run e b zero rest ok = joins (b - e) (runs_of_rows (b + 1) rest) ok
one_run e b (suc n) rest ok =
    let same : b + suc (suc n) ≡ (b + 1) + suc n = omega arith in
    let none : (b + 1) - (b + 1) ≡ 0 = omega arith in
    let later = one_run (b + 1) (b + 1) n rest (subst (λ (t : ℕ). IsGapped (runs_of_rows t rest)) same ok) in
    ap (one_more_row (b - e)) later
    ∙ rw none (ap (λ (t : ℕ). (b - e, suc (suc n)) ∷ runs_of_rows t rest) (sym same))

-- where the code isn't, one row further
past_end : (codes : List ℕ) (k t : ℕ) → (t < length codes → code_of codes t ≡ k → ⊥) → IsPast (t + 1) (behind codes k t)
past_end codes k t last = elim (cases_lt t (length codes)) [
  | inl lt ↦ subst (IsPast (t + 1)) (sym (row_not codes k t lt (last lt)))
      (rows_past (t + 1) (t + 1) (drop (t + 1) codes) k (omega arith))
  | inr le ↦ subst (IsPast (t + 1)) (sym (rows_end codes k t le)) tt
]

pub runs_step : (codes : List ℕ) (k e b t : ℕ) → e ≤ b → ((i : ℕ) → e ≤ i → i < b → code_of codes i ≡ k → ⊥)
    → IsMaximalRun codes k b t
    → runs_of_rows e (behind codes k e) ≡ (b - e, t - b) ∷ runs_of_rows t (behind codes k t)
runs_step codes k e b t le none run =
    let n = t - b - 1 in
    let size : t - b ≡ suc n = omega (arith, run.not_empty) in
    let end : b + suc n ≡ t = omega (arith, run.not_empty) in
    let gap : e + (b - e) ≡ b = omega (arith, le) in
    let skip = skipped codes k e (b - e) (omega (arith, run.within, run.not_empty, le))
    (λ i from to. none i from (omega (arith, to, le)))
    ∙ ap (behind codes k) gap in
    let all = taken codes k b (suc n) (omega (arith, end, run.within))
    (λ i from to. run.same i from (omega (arith, to, end))) in
    let ok : IsGapped (runs_of_rows (b + suc n) (behind codes k (b + suc n))) =
    subst (λ (m : ℕ). IsGapped (runs_of_rows m (behind codes k m))) (sym end)
    (gapped t (behind codes k t) (past_end codes k t run.last)) in
    ap (runs_of_rows e) (skip ∙ all) ∙ one_run e b n (behind codes k (b + suc n)) ok
    ∙ ap (λ (m : ℕ). (b - e, m) ∷ runs_of_rows (b + suc n) (behind codes k (b + suc n))) (sym size)
    ∙ ap (λ (m : ℕ). (b - e, t - b) ∷ runs_of_rows m (behind codes k m)) end

-- ---- where runs begin

-- the first one that passes a test, and those behind it
record IsFirst (p : ℕ → Bool) (e n b : ℕ) (more : List ℕ) : Type 0 where
  from : e ≤ b
  within : b < e + n
  passes : p b ≡ true
  none : (i : ℕ) → e ≤ i → i < b → p i ≡ false
  others : filter p (range_with_len (b + 1) ((e + n) - (b + 1))) ≡ more

filter_first : (p : ℕ → Bool) (e n b : ℕ) (more : List ℕ) → filter p (range_with_len e n) ≡ b ∷ more
    → IsFirst p e n b more
filter_first p e zero b more h = let none : 0 ≡ suc (length more) = ap length h in absurd (omega (arith, none))
filter_first p e (suc n) b more h = elim (cases_Bool (p e)) [
  | inl yes_it ↦
      let here : e ∷ filter p (range_with_len (e + 1) n) ≡ b ∷ more = rw yes_it at h in
      let same : e ≡ b = ap (λ (l : List ℕ). get_or l 0 0) here in
      let left : n ≡ (e + suc n) - (e + 1) = omega arith in
      subst (λ (b : ℕ). IsFirst p e (suc n) b more) same (record {
        from = omega arith;
        within = omega arith;
        passes = yes_it;
        none = λ i le lt. absurd (omega (arith, le, lt));
        others = ap (λ (m : ℕ). filter p (range_with_len (e + 1) m)) (sym left)
            ∙ ap (drop 1) here;
      })
  | inr not_it ↦
      let f = filter_first p (e + 1) n b more (rw not_it at h) in
      let left : (e + 1 + n) - (b + 1) ≡ (e + suc n) - (b + 1) = omega arith in
      record {
        from = omega (arith, f.from);
        within = omega (arith, f.within);
        passes = f.passes;
        none = λ i le lt. elim (cases_eq i e) [
          | inl here ↦ ap p here ∙ not_it
          | inr later ↦ f.none i (omega (arith, le, later)) lt
        ];
        others = ap (λ (m : ℕ). filter p (range_with_len (b + 1) m)) (sym left) ∙ f.others;
      }
]

filter_skip : (p : ℕ → Bool) (e m n : ℕ) → ((i : ℕ) → e ≤ i → i < e + m → p i ≡ false)
    → filter p (range_with_len e (m + n)) ≡ filter p (range_with_len (e + m) n)
filter_skip p e zero n none =
    let z : e ≡ e + 0 = omega arith in
    let k : 0 + n ≡ n = omega arith in
    ap (λ (x : ℕ). filter p (range_with_len e x)) k ∙ ap (λ (x : ℕ). filter p (range_with_len x n)) z
filter_skip p e (suc m) n none =
    let z : (e + 1) + m ≡ e + suc m = omega arith in
    let k : suc m + n ≡ suc (m + n) = omega arith in
    ap (λ (x : ℕ). filter p (range_with_len e x)) k
    ∙ rw (none e (omega arith) (omega arith))
    (filter_skip p (e + 1) m n (λ i le lt. none i (omega (arith, le)) (omega (arith, lt)))
    ∙ ap (λ (x : ℕ). filter p (range_with_len x n)) z)

-- ---- the runs of a code, one after the other

-- before run n, whose rows stand behind row e: where the runs begin that are left, and the runs that are done
pub record IsAtRun (codes begins numbers : List ℕ) (k n e : ℕ) (done : List Run) : Type 0 where
  pub within : e ≤ length codes
  pub apart : 0 < e → e < length codes → code_of codes e ≡ k → ⊥
  pub left : filter (begins_run codes k) (range_with_len e (length codes - e)) ≡ map (code_of begins) (drop n numbers)
  pub runs : runs_of_rows 0 (rows_from 0 codes k) ≡ done ++ runs_of_rows e (behind codes k e)
  pub count : length done ≡ n
  pub few : n ≤ length numbers

pub at_start : (codes begins numbers : List ℕ) (k : ℕ) → run_begins codes k ≡ map (code_of begins) numbers
    → IsAtRun codes begins numbers k 0 0 []
at_start codes begins numbers k same = record {
  within = omega arith;
  apart = λ some lt e. omega (arith, some);
  left = let z : length codes - 0 ≡ length codes = omega arith in
      ap (λ (m : ℕ). filter (begins_run codes k) (range_with_len 0 m)) z ∙ same;
  runs = refl;
  count = refl;
  few = omega arith;
}

first_left : (codes begins numbers : List ℕ) (k n e : ℕ) (done : List Run) → IsAtRun codes begins numbers k n e done
    → n < length numbers → IsFirst (begins_run codes k) e (length codes - e) (code_of begins (code_of numbers n))
    (map (code_of begins) (drop (n + 1) numbers))
first_left codes begins numbers k n e done h lt =
    filter_first (begins_run codes k) e (length codes - e) (code_of begins (code_of numbers n))
    (map (code_of begins) (drop (n + 1) numbers))
    (h.left ∙ ap (map (code_of begins)) (drop_more numbers n 0 lt))

-- a row that begins no run, where the row before it hasn't the code
begins_not : (codes : List ℕ) (k i : ℕ) → begins_run codes k i ≡ false → (0 < i → code_of codes (i - 1) ≡ k → ⊥)
    → code_of codes i ≡ k → ⊥
begins_not codes k i none before same = false≢true
    (sym none ∙ and_from (eqb (code_of codes i) k) (eqb i 0 || not (eqb (code_of codes (i - 1)) k))
    (eq-eqb (code_of codes i) k same) (elim (cases_eq i 0) [
      | inl first ↦ rw (eq-eqb i 0 first) refl
      | inr later ↦ rw (ne_eqb i 0 later, ne_eqb (code_of codes (i - 1)) k (before (omega (arith, later)))) refl
    ]))

no_code : (codes begins numbers : List ℕ) (k n e b m : ℕ) (done : List Run) → IsAtRun codes begins numbers k n e done
    → ((i : ℕ) → e ≤ i → i < b → begins_run codes k i ≡ false) → e + m < b → b ≤ length codes
    → code_of codes (e + m) ≡ k → ⊥
no_code codes begins numbers k n e b zero done h none lt within =
    let z : e + 0 ≡ e = omega arith in
    elim (cases_eq e 0) [
      | inl first ↦ begins_not codes k (e + 0) (none (e + 0) (omega arith) lt) (λ some same. omega (arith, some, first))
      | inr later ↦ λ same. h.apart (omega (arith, later)) (omega (arith, lt, within)) (ap (code_of codes) (sym z)
          ∙ same)
    ]
no_code codes begins numbers k n e b (suc m) done h none lt within =
    let z : (e + suc m) - 1 ≡ e + m = omega arith in
    begins_not codes k (e + suc m) (none (e + suc m) (omega arith) lt)
    (λ some same. no_code codes begins numbers k n e b m done h none (omega (arith, lt)) within
    (ap (code_of codes) (sym z) ∙ same))

filter_none : (p : ℕ → Bool) (e n : ℕ) → filter p (range_with_len e n) ≡ [] → (i : ℕ) → e ≤ i → i < e + n → p i ≡ false
filter_none p e zero h i from to = absurd (omega (arith, from, to))
filter_none p e (suc n) h i from to = elim (cases_Bool (p e)) [
  | inl here ↦
      let more : e ∷ filter p (range_with_len (e + 1) n) ≡ [] = rw here at h in
      let none : suc (length (filter p (range_with_len (e + 1) n))) ≡ 0 = ap length more in absurd (omega (arith, none))
  | inr other ↦ elim (cases_eq i e) [
    | inl same ↦ ap p same ∙ other
    | inr later ↦ filter_none p (e + 1) n (rw other at h) i (omega (arith, from, later)) (omega (arith, to))
  ]
]

-- where the next run begins
pub record IsNextBegin (codes : List ℕ) (k e b : ℕ) : Type 0 where
  pub from : e ≤ b
  pub within : b < length codes
  pub same : code_of codes b ≡ k

pub at_first : (codes begins numbers : List ℕ) (k n e : ℕ) (done : List Run) → IsAtRun codes begins numbers k n e done
    → n < length numbers → IsNextBegin codes k e (code_of begins (code_of numbers n))
at_first codes begins numbers k n e done h lt =
    let f = first_left codes begins numbers k n e done h lt in
    let b = code_of begins (code_of numbers n) in
    let parts = and_parts (eqb (code_of codes b) k) (eqb b 0 || not (eqb (code_of codes (b - 1)) k)) f.passes in
    record { from = f.from; within = omega (arith, f.within, h.within); same = eqb-true (code_of codes b) k parts.0 }

-- rows of a run but the first one begin none
inner : (codes : List ℕ) (k i : ℕ) → 0 < i → code_of codes i ≡ k → code_of codes (i - 1) ≡ k
    → begins_run codes k i ≡ false
inner codes k i some here before =
    rw (
      eq-eqb (code_of codes i) k here,
      ne_eqb i 0 (λ e. omega (arith, e, some)),
      eq-eqb
          (code_of codes (i - 1)) k before,
    ) refl

pub at_next : (codes begins numbers : List ℕ) (k n e t : ℕ) (done : List Run) → IsAtRun codes begins numbers k n e done
    → n < length numbers → IsMaximalRun codes k (code_of begins (code_of numbers n)) t
    → IsAtRun codes begins numbers k (n + 1) t
    (done ++ (code_of begins (code_of numbers n) - e, t - code_of begins (code_of numbers n)) ∷ [])
at_next codes begins numbers k n e t done h lt run =
    let f = first_left codes begins numbers k n e done h lt in
    let b = code_of begins (code_of numbers n) in
    let p = begins_run codes k in
    let some = run.not_empty in
    let within = run.within in
    let up : (b + 1) + (t - (b + 1)) ≡ t = omega (arith, some) in
    let size : (e + (length codes - e)) - (b + 1) ≡ (t - (b + 1)) + (length codes - t) = omega
    (arith, some, within, h.within) in
    let skip = filter_skip p (b + 1) (t - (b + 1)) (length codes - t)
    (λ i from to. inner codes k i (omega (arith, from))
    (run.same i (omega (arith, from)) (omega (arith, to, up)))
    (run.same (i - 1) (omega (arith, from)) (omega (arith, to, up, from)))) in
    record {
      within = run.within;
      apart = λ some lt same. run.last lt same;
      left = ap (λ (a : ℕ). filter p (range_with_len a (length codes - t))) (sym up) ∙ sym skip
          ∙ ap (λ (m : ℕ). filter p (range_with_len (b + 1) m)) (sym size) ∙ f.others;
      runs = h.runs ∙ ap (λ (l : List Run). done ++ l) (runs_step codes k e b t f.from (λ i from to.
          let z : e + (i - e) ≡ i = omega (arith, from) in
          λ same. no_code codes begins numbers k n e b (i - e) done h f.none (omega (arith, to, from))
          (omega (arith, some, within))
          (ap (code_of codes) z ∙ same)) run)
          ∙ sym (append_assoc done ((b - e, t - b) ∷ []) (runs_of_rows t (behind codes k t)));
      count = let more = length-append done ((b - e, t - b) ∷ []) in omega (arith, more, h.count);
      few = omega (arith, lt);
    }

pub at_end : (codes begins numbers : List ℕ) (k n e : ℕ) (done : List Run) → IsAtRun codes begins numbers k n e done
    → length numbers ≤ n → runs_of_rows 0 (rows_from 0 codes k) ≡ done
at_end codes begins numbers k n e done h over =
    let p = begins_run codes k in
    let size = length codes - e in
    let all : e + size ≡ length codes = omega (arith, h.within) in
    let nothing = h.left ∙ ap (map (code_of begins)) (drop_of_length-le numbers {i = n} over) in
    let none = filter_none p e size nothing in
    let rest = skipped codes k e size (omega (arith, all)) (λ i from to.
    let z : e + (i - e) ≡ i = omega (arith, from) in
    λ same. no_code codes begins numbers k n e (e + size) (i - e) done h none (omega (arith, to, from))
    (omega (arith, all))
    (ap (code_of codes) z ∙ same)) ∙ rows_end codes k (e + size) (omega (arith, all)) in
    h.runs ∙ ap (λ (l : List ℕ). done ++ runs_of_rows e l) rest ∙ append-nil done

-- ---- the numbers of the runs

-- the numbers of a code's runs are numbers of runs
pub number_there : (rows : RowsOf) (k n : ℕ) (numbers : List ℕ) → IsListOf rows k numbers → n < length numbers
    → code_of numbers n < length (listed_begins rows.codes rows.rest)
number_there rows k n numbers is lt =
    let begins = listed_begins rows.codes rows.rest in
    let keys = listed_keys rows.codes rows.rest in
    let few = ap length is.numbers_are in
    let there : n < length (rows_of keys k) = omega (arith, lt, few) in
    let row = (are_rows_where (λ (i : ℕ). eqb (code_of keys i) k) (length keys)).below n there in
    omega (arith, row, ap (λ (l : List ℕ). code_of l n) is.numbers_are, length-map begins (code_of rows.codes))

-- a code has no more runs than there are rows
pub numbers_few : (rows : RowsOf) (k : ℕ) (numbers : List ℕ) → IsListOf rows k numbers
    → length numbers ≤ length rows.codes
numbers_few rows k numbers is =
    let begins = listed_begins rows.codes rows.rest in
    let keys = listed_keys rows.codes rows.rest in
    let test = λ (i : ℕ). not (eqb (code_of rows.codes i) rows.rest)
    && begins_run rows.codes (code_of rows.codes i) i in
    omega (
      arith,
      ap length is.numbers_are,
      rows_where_few (λ (i : ℕ). eqb (code_of keys i) k) (length keys),
      length-map begins (code_of rows.codes),
      rows_where_few test (length rows.codes),
    )
