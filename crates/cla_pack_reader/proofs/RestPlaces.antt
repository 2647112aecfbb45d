-- The code of the rest, by the first rows of tuples.
use Rattle.std.proofs.Common.{◌≡◌, ℕ, ◌+◌, ◌<◌, ◌≤◌, max, eqb, List, [], length, get_or, sym, ap, subst, ◌∙◌, arith}
use Rattle.std.proofs.Common.{inl, inr}
use Rattle.std.specs.List.{Contains}
use Rattle.std.proofs.lemmas.Bool.{cases_lt, eq-eqb, eqb-true, false≢true}
use Rattle.std.proofs.lemmas.List.{get_or_default}
use Rattle.std.proofs.lemmas.List.Sums.{fails_before_first}
use Rattle.cla_layout.specs.Groups.{code_of, first_row_of}
use Rattle.cla_layout.specs.Listed.{rows_of}
use Rattle.cla_packed.specs.Codes.{has}
use Rattle.cla_packed.specs.Lists.{lists_of, rows_from}
use Rattle.cla_packed.specs.Rests.{rest_code}
use Rattle.cla_packed_laws.proofs.Codes.{first_among, first_holds, numbered_apart}
use Rattle.cla_packed_laws.proofs.Lists.{in_map, rows_first, rows_test}
use Rattle.cla_packed_laws.proofs.Rests.{rest_code_is}
use Rattle.cla_rows.specs.Chains.{lists_to}
use Rattle.cla_rows.proofs.Chains.{begins_count, begin_at, list_item, list_within_all}
use Rattle.cla_runs.specs.declared.run_list.KeyedRun.{KeyedRun}
use Rattle.cla_pack_reader.specs.ListedParts.{HasRest}
use Rattle.cla_pack_reader.specs.ListedRows.{list_in, AreListsOf, AreRunsOf}
use Rattle.cla_pack_reader.proofs.ListedCodes.{rest_has}
use Rattle.cla_pack_reader.proofs.ListsTaken.{list_count, by_owner}
use Rattle.cla_pack_reader.proofs.Renumbered.{rows_are}

-- no row before the first one has the code
first_least : (owners : List ℕ) (k i : ℕ) → code_of owners i ≡ k → first_row_of owners k ≤ i
first_least owners k i is = elim (cases_lt i (first_row_of owners k)) [
  | inl before ↦ absurd (false≢true (sym (fails_before_first (λ c. eqb c k) owners i 0 before)
      ∙ eq-eqb (code_of owners i) k is))
  | inr good ↦ good
]

module _ (rows d first : ℕ) (owners : List ℕ) (h : HasRest rows d owners first) where
  -- a tuple doesn't begin at the first row that is in no list
  apart : (t : ℕ) → t < d → first_row_of owners t ≡ first → ⊥
  apart t lt e =
      let o = h.owners_are in
      let same : t ≡ d = sym (first_holds owners t (o.used t lt)) ∙ ap (code_of owners) (e ∙ h.first_is)
      ∙ first_holds owners d (rest_has rows d first owners h) in
      omega (arith, same, lt)

  pub row_before : (t : ℕ) → t < d → first_row_of owners t ≤ first → first_row_of owners t < first
  row_before t lt le = (let other = apart t lt in omega (arith, le, other))

  -- so many tuples begin before that row
  pub code_found : (r : ℕ) → r ≤ d → ((k : ℕ) → k < r → first_row_of owners k < first)
      → (r < d → first < first_row_of owners r) → r ≡ rest_code d owners
  code_found r fits before next = sym (rest_code_is d r owners (record {
    within = fits;
    before = λ k lt. omega (arith, before k lt, h.first_is);
    behind = λ k le lt. elim (cases_lt r k) [
      | inl later ↦ omega (
        arith,
        next (omega (arith, le, lt)),
        numbered_apart owners d h.owners_are.numbered r k later lt,
        h.first_is,
      )
      | inr here ↦
          let same : r ≡ k = omega (arith, here, le) in
          omega (arith, next (omega (arith, le, lt)), ap (first_row_of owners) same, h.first_is)
    ];
  }))

-- ---- by lists

module _ (rows d first : ℕ) (owners starts places : List ℕ) (h : HasRest rows d owners first)
    (s : AreListsOf (lists_of d owners) starts places) where
  some_row : (t : ℕ) → t < d → (0 < length (rows_of owners t)) × (code_of (rows_of owners t) 0 ≡ first_row_of owners t)
  some_row t lt =
      let f = rows_first 0 owners t (h.owners_are.used t lt) in
      let Is = λ (l : List ℕ). (0 < length l) × (code_of l 0 ≡ first_row_of owners t) in
      subst Is (rows_are owners t) (f.0, f.1 ∙ omega arith)

  -- the first row of tuple t
  pub list_begins : (t : ℕ) → t < d → (t < length starts) × (code_of starts t < length places)
      × (code_of places (code_of starts t) ≡ first_row_of owners t)
  list_begins t lt =
      let f = rows_of owners in
      let by = by_owner d owners starts places s in
      let row = some_row t lt in
      let start : code_of starts t ≡ length (lists_to f t) = ap (λ (l : List ℕ). code_of l t) by.0
      ∙ begin_at f t (d + 1) (omega (arith, lt)) in
      let place : length (lists_to f t) + 0 ≡ length (lists_to f t) = omega arith in (
        omega (arith, ap (λ (l : List ℕ). length l) by.0, begins_count f (d + 1), lt),
        omega (
          arith,
          start,
          row.0,
          list_within_all f t d lt,
          ap (λ (l : List ℕ). length l) by.1,
        ),
        ap (code_of places) start ∙ ap (λ (l : List ℕ). code_of l (length (lists_to f t))) by.1
            ∙ ap (code_of (lists_to f d)) (sym place) ∙ list_item f t d 0 lt row.0 ∙ row.1,
      )

  pub starts_size : length starts ≡ d + 1
  starts_size = ap (λ (l : List ℕ). length l) (by_owner d owners starts places s).0
      ∙ begins_count (rows_of owners) (d + 1)

-- ---- by runs

module _ (rows d first : ℕ) (owners : List ℕ) (runs : List KeyedRun) (h : HasRest rows d owners first)
    (s : AreRunsOf rows (lists_of d owners) runs) where
  size : length (lists_of d owners) ≡ d
  size = list_count d owners

  list_test : (t i : ℕ) → t < d → i < rows → has (list_in (lists_of d owners) t) i ≡ eqb (code_of owners i) t
  list_test t i lt row = ap (λ (l : List ℕ). has l i) (in_map (rows_from 0 owners) d t [] lt)
      ∙ rows_test owners t i (omega (arith, row, h.owners_are.count))

  -- a run has a tuple, which begins with it or before
  run_tuple : (run : KeyedRun) → Contains runs run → (run.key < d) × (first_row_of owners run.key ≤ run.begin)
  run_tuple run there =
      let e = s.each run there in
      let lt : run.key < d = omega (arith, e.0, size) in
      let row : run.begin < rows = omega (arith, e.1.not_empty, e.1.within) in (
        lt,
        first_least owners run.key run.begin (eqb-true (code_of owners run.begin) run.key
            (sym (list_test run.key run.begin lt row) ∙ e.1.same run.begin (omega arith) e.1.not_empty)),
      )

  -- the run that a tuple begins with
  tuple_run : (t : ℕ) → t < d → (run : KeyedRun) × Contains runs run × (run.key ≡ t)
      × (run.begin ≤ first_row_of owners t)
  tuple_run t lt =
      let i = first_row_of owners t in
      let there = h.owners_are.used t lt in
      let row : i < rows = omega (arith, (first_among owners [] t there).1, h.owners_are.count) in
      let run = s.all t i (omega (arith, lt, size)) (list_test t i lt row
      ∙ eq-eqb (code_of owners i) t (first_holds owners t there)) in
      (run.0, run.1, run.2, run.3)

  pub run_keys : (n : ℕ) (run : KeyedRun) → n < length runs → (get_or runs n run).key < d
  run_keys n run lt =
      (run_tuple (get_or runs n run) (n, lt, get_or_default runs n (get_or runs n run) run lt)).0

  -- behind i runs: r tuples begin before that row, and so far no other does
  abbrev pub SoFar : ℕ → ℕ → Type 0
  SoFar i r = (r ≤ d) × ((k : ℕ) → k < r → first_row_of owners k < first)
      × ((n : ℕ) (run : KeyedRun) → n < i → (get_or runs n run).begin < first → (get_or runs n run).key < r)

  -- one run more, which begins before that row
  pub run_taken : (i r : ℕ) (e : KeyedRun) → i < length runs → SoFar i r → (get_or runs i e).begin < first
      → SoFar (i + 1) (max r ((get_or runs i e).key + 1))
  run_taken i r e lt inv begins =
      let run = get_or runs i e in
      let t = run_tuple run (i, lt, get_or_default runs i run e lt) in (
        omega (arith, inv.0, t.0),
        λ k below. elim (cases_lt k r) [
          | inl before ↦ inv.1 k before
          | inr later ↦ elim (cases_lt k run.key) [
            | inl sooner ↦ omega
                (arith, numbered_apart owners d h.owners_are.numbered k run.key sooner t.0, t.1, begins)
            | inr here ↦
                let same : k ≡ run.key = omega (arith, below, later, here) in
                omega (arith, ap (first_row_of owners) same, t.1, begins)
          ]
        ],
        λ n x below early. elim (cases_lt n i) [
          | inl before ↦ omega (arith, inv.2 n x before early)
          | inr last ↦
              let same : n ≡ i = omega (arith, below, last) in
              let key =
              ap (λ (y : KeyedRun). y.key) (ap (λ (m : ℕ). get_or runs m x) same ∙ get_or_default runs i x e lt)
              in omega (arith, key)
        ],
      )

  -- one that doesn't
  pub run_left : (i r : ℕ) (e : KeyedRun) → i < length runs → SoFar i r → first ≤ (get_or runs i e).begin
      → SoFar (i + 1) r
  run_left i r e lt inv late = (
    inv.0,
    inv.1,
    λ n x below early. elim (cases_lt n i) [
      | inl before ↦ inv.2 n x before early
      | inr last ↦
          let same : n ≡ i = omega (arith, below, last) in
          let begin = ap (λ (y : KeyedRun). y.begin) (ap (λ (m : ℕ). get_or runs m x) same
          ∙ get_or_default runs i x e lt) in
          absurd (omega (arith, begin, early, late))
    ],
  )

  -- behind all runs
  pub all_runs : (i r : ℕ) → length runs ≤ i → SoFar i r → r ≡ rest_code d owners
  all_runs i r done inv = code_found rows d first owners h r inv.0 inv.1 (λ lt.
      elim (cases_lt first (first_row_of owners r)) [
        | inl good ↦ good
        | inr le ↦
            let before = row_before rows d first owners h r lt le in
            let run = tuple_run r lt in
            let there = run.1 in
            let begin = ap (λ (y : KeyedRun). y.begin) there.2 in
            let key = ap (λ (y : KeyedRun). y.key) there.2 in
            let early = inv.2 there.0 run.0 (omega (arith, there.1, done)) (omega (arith, begin, run.3, before)) in
            absurd (omega (arith, early, key, run.2))
      ])
