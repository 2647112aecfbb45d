-- What is known of rows by their runs.
use Rattle.std.proofs.Common.{◌≡◌, ℕ, zero, suc, ◌+◌, ◌-◌, ◌*◌, ◌/◌, ◌%◌, ◌<◌, ◌≤◌, Bool, cond, List, length, ltb}
use Rattle.std.proofs.Common.{refl, ap, sym, ◌∙◌}
use Rattle.std.proofs.Common.{arith, inl, inr}
use Rattle.std.specs.List.{position_or_len}
use Rattle.std.proofs.lemmas.Bool.{cases_eq, cases_lt, eq-eqb, ne_eqb, lt-ltb, le-ltb, le-leb, lt-leb, ltb-true}
use Rattle.std.proofs.lemmas.Bool.{ltb-false}
use Rattle.std.proofs.lemmas.List.{ext_get_or}
use Rattle.std.proofs.lemmas.List.FromFn.{length-map-range_with_len, get_or-map-range_with_len}
use Rattle.std.proofs.lemmas.List.Sums.{position_or_len_is, fails_before_first, passes_at_first}
use Rattle.cla_layout.specs.Groups.{code_of}
use Rattle.cla_rows.specs.RunBounds.{IsStretch, AreRuns, edge, stretch_code, ended_by, code_in_runs, codes_in_runs}

-- where row i stands by the runs: run n hasn't ended by it, but all before have
pub record IsAtRun (ends : List ℕ) (runs i n : ℕ) : Type 0 where
  pub there : n ≤ runs
  pub from : code_of ends n ≤ i
  pub before : n < runs → i < code_of ends (n + 1)

module _ {rows : ℕ} {codes : List ℕ} {rest : ℕ} {begins ends keys : List ℕ}
    (are : AreRuns rows codes rest begins ends keys) where
  ends_grow : (n d : ℕ) → n + d ≤ length keys → code_of ends n ≤ code_of ends (n + d)
  ends_grow n zero within = let e : n + 0 ≡ n = omega arith in rw e (omega arith)
  ends_grow n (suc d) within =
      let e : n + suc d ≡ n + d + 1 = omega arith in
      let there : n + d < length keys = omega (arith, within) in
      rw e (omega (
        arith,
        ends_grow n d (omega (arith, there)),
        are.rising (n + d) (omega (arith, there)),
        are.not_empty (n + d) there,
      ))

  pub ends_rise : (m n : ℕ) → m ≤ n → n ≤ length keys → code_of ends m ≤ code_of ends n
  ends_rise m n before within =
      let e : m + (n - m) ≡ n = omega (arith, before) in
      omega (arith, ends_grow m (n - m) (omega (arith, before, within)), ap (code_of ends) e)

  -- there are no more runs than rows
  ends_past : (n : ℕ) → n ≤ length keys → n ≤ code_of ends n
  ends_past zero within = omega arith
  ends_past (suc n) within =
      let e : suc n ≡ n + 1 = omega arith in
      rw e (omega (
        arith,
        ends_past n (omega (arith, within)),
        are.rising n (omega (arith, within)),
        are.not_empty n
            (omega (arith, within)),
      ))

  pub runs_few : length keys ≤ rows
  runs_few = omega (arith, ends_past (length keys) (omega arith), are.rising (length keys) (omega arith), are.last)

  -- the rows before a run, and those of it
  end_within : (n : ℕ) → n ≤ length keys → code_of ends n ≤ rows
  end_within n there =
      omega (arith, ends_rise n (length keys) there (omega arith), are.rising (length keys) (omega arith), are.last)

  pub begin_within : (n : ℕ) → n ≤ length keys → code_of begins n ≤ rows
  begin_within n there = elim (cases_lt n (length keys)) [
    | inl before ↦ omega (arith, are.not_empty n before, end_within (n + 1) (omega (arith, before)))
    | inr past ↦ (let e : n ≡ length keys = omega (arith, past, there) in
        omega (arith, ap (code_of begins) e, are.last))
  ]

  -- a run begins before row b, if it is none past the last
  pub run_there : (n b : ℕ) → n ≤ length keys → code_of begins n < b → b ≤ rows → n < length keys
  run_there n b there before within = elim (cases_lt n (length keys)) [
    | inl below ↦ below
    | inr past ↦ (let e : n ≡ length keys = omega (arith, past, there) in
        absurd (omega (arith, before, within, are.last, ap (code_of begins) e)))
  ]

  -- run n, and all stretches of rows
  pub run_stretch : rows ≤ length codes → (n : ℕ) → n < length keys →
      IsStretch codes (code_of keys n) (code_of begins n) (code_of ends (n + 1))
  run_stretch few n there = record {
    order = omega (arith, are.not_empty n there);
    within = omega (arith, few, end_within (n + 1) (omega (arith, there)));
    same = λ i from before. are.in_run n i there from before;
  }

  pub stretch_is : rows ≤ length codes → (s : ℕ) → s < 2 * length keys + 1 →
      IsStretch codes (stretch_code rest keys s) (edge begins ends s) (edge begins ends (s + 1))
  stretch_is few s there =
      let n = s / 2 in
      elim (cases_eq (s % 2) 0) [
        | inl even ↦
            let gap : n ≤ length keys = omega (arith, there, even) in
            let next : (s + 1) / 2 ≡ n = omega (arith, even) in
            rw (eq-eqb (s % 2) 0 even, ne_eqb ((s + 1) % 2) 0 (λ e. omega (arith, e, even)), next)
            (record {
              order = are.rising n gap;
              within = omega (arith, few, begin_within n gap);
              same =
                  λ i from before. are.in_gap n i gap from before;
            })
        | inr odd ↦
            let next : (s + 1) / 2 ≡ n + 1 = omega (arith, odd) in
            rw (ne_eqb (s % 2) 0 odd, eq-eqb ((s + 1) % 2) 0 (omega (arith, odd)), next)
            (run_stretch few n (omega (arith, there, odd)))
      ]

  -- the first stretch begins at row 0, and the last ends with the rows
  pub edge_last : edge begins ends (2 * length keys + 1) ≡ rows
  edge_last =
      let m = length keys in
      let half : (2 * m + 1) / 2 ≡ m = omega arith in
      rw (ne_eqb ((2 * m + 1) % 2) 0 (λ e. omega (arith, e)), half) are.last

  pub edge_even : (n : ℕ) → edge begins ends (2 * n) ≡ code_of ends n
  edge_even n = let half : 2 * n / 2 ≡ n = omega arith in rw (eq-eqb (2 * n % 2) 0 (omega arith), half) refl

  -- a stretch begins before row b, if it is none past the last
  pub stretch_there : (s b : ℕ) → s ≤ 2 * length keys + 1 → edge begins ends s < b → b ≤ rows → s < 2 * length keys + 1
  stretch_there s b there before within = elim (cases_lt s (2 * length keys + 1)) [
    | inl below ↦ below
    | inr past ↦ (let e : s ≡ 2 * length keys + 1 = omega (arith, past, there) in
        absurd (omega (arith, before, within, edge_last, ap (edge begins ends) e)))
  ]

  -- what holds of all codes holds of the keys
  pub key_below : {tuples : ℕ} → rows ≤ length codes → ((i : ℕ) → i < length codes → code_of codes i < tuples) →
      (n : ℕ) →
      n < length keys → code_of keys n < tuples
  key_below few below n there =
      let run = run_stretch few n there in
      let some = are.not_empty n there in
      omega (
        arith,
        below (code_of begins n) (omega (arith, some, run.within)),
        run.same (code_of begins n) (omega arith) some,
      )

  -- each row stands at a run
  pub ended_is : (i n : ℕ) → IsAtRun ends (length keys) i n → position_or_len (λ end. ltb i end) ends ≡ n + 1
  ended_is i n is =
      position_or_len_is (λ end. ltb i end) ends (n + 1) 0 (omega (arith, is.there, are.an_end_each))
      (λ k before. le-ltb i (code_of ends k) (omega (arith, is.from, ends_rise k n (omega (arith, before)) is.there)))
      (λ more. lt-ltb i (code_of ends (n + 1)) (is.before (omega (arith, more, are.an_end_each))))

  pub at_run : (i : ℕ) → IsAtRun ends (length keys) i (ended_by ends i)
  at_run i =
      let p = position_or_len (λ end. ltb i end) ends in
      let few : p ≤ length ends = (elim (cases_lt p (length ends)) [
        | inl below ↦ omega (arith, below)
        | inr above ↦
            let fails = λ (k : ℕ) (before : k < length ends). fails_before_first (λ end. ltb i end) ends k 0
            (omega (arith, before, above)) in
            omega (
              arith,
              position_or_len_is (λ end. ltb i end) ends (length ends) 0 (omega arith) fails
                  (λ more. absurd (omega (arith, more))),
            )
      ]) in
      let some : 0 < p = (elim (cases_lt 0 p) [
        | inl some ↦ some
        | inr none ↦
            let e : p ≡ 0 = omega (arith, none) in
            let passes = passes_at_first (λ end. ltb i end) ends 0 (omega (arith, e, are.an_end_each)) in
            absurd (omega (arith, ltb-true i (code_of ends p) passes, ap (code_of ends) e, are.first))
      ]) in
      let next : p - 1 + 1 ≡ p = omega (arith, some) in
      record {
        there = omega (arith, some, few, are.an_end_each);
        from =
            ltb-false i (code_of ends (p - 1))
            (fails_before_first (λ end. ltb i end) ends (p - 1) 0 (omega (arith, some)));
        before = λ more. rw next (ltb-true i (code_of ends p)
            (passes_at_first (λ end. ltb i end) ends 0 (omega (arith, next, more, are.an_end_each))));
      }

  -- a row that stands in a run has its code, and another has the rest
  pub code_in_run : (i n : ℕ) → i < rows → IsAtRun ends (length keys) i n → code_of begins n ≤ i →
      (n < length keys) × (code_of codes i ≡ code_of keys n)
  code_in_run i n row is from =
      let there = run_there n (i + 1) is.there (omega (arith, from)) (omega (arith, row)) in
      (there, are.in_run n i there from (is.before there))

  pub code_in_gap : (i n : ℕ) → IsAtRun ends (length keys) i n → i < code_of begins n → code_of codes i ≡ rest
  code_in_gap i n is before = are.in_gap n i is.there is.from before

  code_is : (i : ℕ) → i < rows → code_in_runs rest begins ends keys i ≡ code_of codes i
  code_is i row =
      let n = ended_by ends i in
      elim (cases_lt i (code_of begins n)) [
        | inl gap ↦ ap (λ (b : Bool). cond b (code_of keys n) rest) (lt-leb (code_of begins n) i gap)
            ∙ sym (code_in_gap i n (at_run i) gap)
        | inr run ↦ ap (λ (b : Bool). cond b (code_of keys n) rest) (le-leb (code_of begins n) i run)
            ∙ sym ((code_in_run i n row (at_run i) run).1)
      ]

  -- so the runs tell the codes
  pub codes_are : rows ≡ length codes → codes_in_runs rest begins ends keys ≡ codes
  unfolding codes_in_runs
  codes_are all =
      let test = code_in_runs rest begins ends keys in
      let count = length-map-range_with_len test 0 (code_of begins (length keys)) in
      ext_get_or 0 (codes_in_runs rest begins ends keys) codes (count ∙ are.last ∙ all)
      (λ i lt. (let row : i < code_of begins (length keys) = rw count at lt in
      get_or-map-range_with_len test 0 (code_of begins (length keys)) i i 0 row (omega arith)
      ∙ code_is i (omega (arith, row, are.last))))
