-- Rows that are listed by code.
use Rattle.std.proofs.Common.{◌≡◌, true, false, Bool, ℕ, ℤ, pos, zero, suc, ◌+◌, ◌<◌, ◌≤◌, ◌+ℤ◌, List, [], ◌∷◌, ◌++◌}
use Rattle.std.proofs.Common.{length, map, take}
use Rattle.std.proofs.Common.{cond, eqb, refl, ap, subst, sym, ◌∙◌, append_assoc, arith, inl, inr}
use Rattle.std.specs.List.{filter, range_with_len, list_any, count_by}
use Rattle.std.proofs.lemmas.Bool.{cases_Bool, cases_lt, cases_eq, eq-eqb, ne_eqb, both_ways, or_from}
use Rattle.std.proofs.lemmas.List.{map-id, append-nil, length_push, get_or_push, get_or_append_left, length-append}
use Rattle.std.proofs.lemmas.List.{map-append, take_all}
use Rattle.std.proofs.lemmas.List.Folds.{list_any_at}
use Rattle.std.proofs.lemmas.List.FromFn.{filter_of_map_range_with_len_more}
use Rattle.std.proofs.lemmas.List.Sums.{count_by_more_yes, count_by_more_no}
use Rattle.cla_spec.specs.Numbers.{sum_to}
use Rattle.cla_spec.proofs.Sums.{plus_zero, sum_to-same}
use Rattle.cla_layout.specs.Groups.{code_of, occurrences_of}
use Rattle.cla_layout.specs.Listed.{rows_where, rows_of}

-- one more row
pub rows_where_more : (test : ℕ → Bool) (n : ℕ) → rows_where test (n + 1) ≡ rows_where test n
    ++ cond (test n) (n ∷ []) []
rows_where_more test n =
    ap (filter test) (sym (map-id (range_with_len 0 (n + 1))))
    ∙ filter_of_map_range_with_len_more test (λ i. i) 0 n n (omega arith)
    ∙ ap (λ (xs : List ℕ). filter test xs ++ cond (test n) (n ∷ []) []) (map-id (range_with_len 0 n))

pub rows_where_yes : (test : ℕ → Bool) (n : ℕ) → test n ≡ true → rows_where test (n + 1) ≡ rows_where test n ++ n ∷ []
rows_where_yes test n holds = rows_where_more test n ∙ ap (λ (b : Bool). rows_where test n ++ cond b (n ∷ []) []) holds

pub rows_where_no : (test : ℕ → Bool) (n : ℕ) → test n ≡ false → rows_where test (n + 1) ≡ rows_where test n
rows_where_no test n fails =
    rows_where_more test n ∙ ap (λ (b : Bool). rows_where test n ++ cond b (n ∷ []) []) fails
    ∙ append-nil (rows_where test n)

-- rows that pass a test, in rising order and below n
pub record AreRowsWhere (test : ℕ → Bool) (n : ℕ) (rows : List ℕ) : Type 0 where
  pub below : (a : ℕ) → a < length rows → code_of rows a < n
  pub passes : (a : ℕ) → a < length rows → test (code_of rows a) ≡ true
  pub rising : (a b : ℕ) → a < b → b < length rows → code_of rows a < code_of rows b

rows_push : (test : ℕ → Bool) (n : ℕ) (rows : List ℕ) → test n ≡ true → AreRowsWhere test n rows
    → AreRowsWhere test (n + 1) (rows ++ n ∷ [])
rows_push test n rows holds are =
    let longer : length (rows ++ n ∷ []) ≡ length rows + 1 = length_push rows n in
    record {
      below = λ a there. elim (cases_lt a (length rows)) [
        | inl before ↦ omega (arith, get_or_append_left rows (n ∷ []) 0 a before, are.below a before)
        | inr past ↦ omega (arith, get_or_push rows n 0 a (omega (arith, past, there, longer)))
      ];
      passes = λ a there. elim (cases_lt a (length rows)) [
        | inl before ↦ ap test (get_or_append_left rows (n ∷ []) 0 a before) ∙ are.passes a before
        | inr past ↦ ap test (get_or_push rows n 0 a (omega (arith, past, there, longer))) ∙ holds
      ];
      rising = λ a b order there. elim (cases_lt b (length rows)) [
        | inl before ↦
            omega (
              arith,
              get_or_append_left rows (n ∷ []) 0 a (omega (arith, order, before)),
              get_or_append_left rows
                  (n ∷ []) 0 b before,
              are.rising a b order before,
            )
        | inr past ↦
            let a_before : a < length rows = omega (arith, order, there, longer) in
            omega (
              arith,
              get_or_append_left rows (n ∷ []) 0 a a_before,
              get_or_push rows n 0 b (omega (arith, past, there, longer)),
              are.below a a_before,
            )
      ];
    }

rows_pass : (test : ℕ → Bool) (n : ℕ) (rows : List ℕ) → AreRowsWhere test n rows → AreRowsWhere test (n + 1) rows
rows_pass test n rows are = record {
  below = λ a there. omega (arith, are.below a there);
  passes = are.passes;
  rising = are.rising;
}

pub are_rows_where : (test : ℕ → Bool) (n : ℕ) → AreRowsWhere test n (rows_where test n)
are_rows_where test zero = record {
  below = λ a there. absurd (omega (arith, there));
  passes = λ a there. absurd (omega (arith, there));
  rising = λ a b order there. absurd (omega (arith, there));
}
are_rows_where test (suc n) =
    let next : n + 1 ≡ suc n = omega arith in
    subst (λ (m : ℕ). AreRowsWhere test m (rows_where test m)) next (elim (cases_Bool (test n)) [
      | inl holds ↦ subst (AreRowsWhere test (n + 1)) (sym (rows_where_yes test n holds))
          (rows_push test n (rows_where test n) holds (are_rows_where test n))
      | inr fails ↦ subst (AreRowsWhere test (n + 1)) (sym (rows_where_no test n fails))
          (rows_pass test n (rows_where test n) (are_rows_where test n))
    ])

mapped_if : (f : ℕ → ℕ) (b : Bool) (m : ℕ) → map f (cond b (m ∷ []) []) ≡ cond b (f m ∷ []) []
mapped_if f true m = refl
mapped_if f false m = refl

-- the rows before row a, and then those from it on
pub rows_where_from : (test : ℕ → Bool) (a m : ℕ)
    → rows_where test (a + m) ≡ rows_where test a ++ map (λ j. a + j) (rows_where (λ j. test (a + j)) m)
rows_where_from test a zero = ap (rows_where test) (omega arith) ∙ sym (append-nil (rows_where test a))
rows_where_from test a (suc m) =
    let later = λ (j : ℕ). test (a + j) in
    let move = λ (j : ℕ). a + j in
    let next : a + suc m ≡ (a + m) + 1 = omega arith in
    let next_later : suc m ≡ m + 1 = omega arith in
    let last = cond (test (a + m)) (m ∷ []) [] in
    let moved : map move (rows_where later (suc m)) ≡ map move (rows_where later m)
    ++ cond (test (a + m)) ((a + m) ∷ []) [] =
    ap (λ (k : ℕ). map move (rows_where later k)) next_later ∙ ap (map move) (rows_where_more later m)
    ∙ map-append move (rows_where later m) last
    ∙ ap (λ (xs : List ℕ). map move (rows_where later m) ++ xs) (mapped_if move (test (a + m)) m) in
    ap (rows_where test) next ∙ rows_where_more test (a + m)
    ∙ ap (λ (xs : List ℕ). xs ++ cond (test (a + m)) ((a + m) ∷ []) []) (rows_where_from test a m)
    ∙ append_assoc (rows_where test a) (map move (rows_where later m)) (cond (test (a + m)) ((a + m) ∷ []) [])
    ∙ ap (λ (xs : List ℕ). rows_where test a ++ xs) (sym moved)

-- there are fails more than n
pub rows_where_few : (test : ℕ → Bool) (n : ℕ) → length (rows_where test n) ≤ n
rows_where_few test zero = omega arith
rows_where_few test (suc n) =
    let next : n + 1 ≡ suc n = omega arith in
    subst (λ (m : ℕ). length (rows_where test m) ≤ m) next (elim (cases_Bool (test n)) [
      | inl holds ↦ omega (
        arith,
        ap (λ (xs : List ℕ). length xs) (rows_where_yes test n holds),
        length_push (rows_where test n) n,
        rows_where_few test n,
      )
      | inr fails ↦ omega (arith, ap (λ (xs : List ℕ). length xs) (rows_where_no test n fails), rows_where_few test n)
    ])

pub rows_where_none : (test : ℕ → Bool) (n : ℕ) → ((i : ℕ) → i < n → test i ≡ false) → rows_where test n ≡ []
rows_where_none test zero fails = refl
rows_where_none test (suc n) fails =
    let next : suc n ≡ n + 1 = omega arith in
    ap (rows_where test) next ∙ rows_where_no test n (fails n (omega arith))
    ∙ rows_where_none test n (λ i row. fails i (omega (arith, row)))

-- a row that passes stands behind those before it that pass
pub row_place : (test : ℕ → Bool) (n i : ℕ) → i < n → test i ≡ true
    → (length (rows_where test i) < length (rows_where test n))
    × (code_of (rows_where test n) (length (rows_where test i)) ≡ i)
row_place test zero i row holds = absurd (omega (arith, row))
row_place test (suc n) i row holds =
    let next : n + 1 ≡ suc n = omega arith in
    let Is = λ (xs : List ℕ). (length (rows_where test i) < length xs)
    × (code_of xs (length (rows_where test i)) ≡ i) in
    subst (λ (m : ℕ). Is (rows_where test m)) next (elim (cases_eq i n) [
      | inl same ↦
          let here : test n ≡ true = ap test (sym same) ∙ holds in
          let rows = rows_where test n in
          let count : length (rows_where test i) ≡ length rows = ap (λ (j : ℕ). length (rows_where test j)) same in
          subst Is (sym (rows_where_yes test n here)) (
            omega (arith, count, length_push rows n),
            get_or_push rows n 0 (length (rows_where test i)) (sym count)
                ∙ sym same,
          )
      | inr other ↦
          let before : i < n = omega (arith, row, other) in
          let rows = rows_where test n in
          let place = row_place test n i before holds in
          let more = get_or_append_left rows (cond (test n) (n ∷ []) []) 0 (length (rows_where test i)) place.0 in
          subst Is (sym (rows_where_more test n))
          (omega (arith, place.0, length-append rows (cond (test n) (n ∷ []) [])), more ∙ place.1)
    ])

-- a row is listed exactly where it passes
no_item : (p : ℕ → Bool) (xs : List ℕ) → ((a : ℕ) → a < length xs → p (code_of xs a) ≡ false) → list_any p xs ≡ false
no_item p [] fails = refl
no_item p (x ∷ xs) fails = or_from (p x) (list_any p xs) (fails 0 (omega arith))
    (no_item p xs (λ a there. fails (suc a) (omega (arith, there))))

pub row_listed : (test : ℕ → Bool) (n i : ℕ) → i < n → list_any (λ row. eqb row i) (rows_where test n) ≡ test i
row_listed test n i row = elim (cases_Bool (test i)) [
  | inl holds ↦
      let place = row_place test n i row holds in
      list_any_at (λ r. eqb r i) (rows_where test n) (length (rows_where test i)) 0 place.0 (eq-eqb _ _ place.1)
      ∙ sym holds
  | inr fails ↦
      let are = are_rows_where test n in
      no_item (λ r. eqb r i) (rows_where test n)
      (λ a there. ne_eqb (code_of (rows_where test n) a) i (λ same. both_ways (test i) fails (ap test (sym same)
      ∙ are.passes a there)))
      ∙ sym fails
]

-- as many rows have a code as it occurs
pub rows_count_to : (codes : List ℕ) (k n : ℕ) → n ≤ length codes
    → length (rows_where (λ i. eqb (code_of codes i) k) n) ≡ count_by (λ code. eqb code k) (take n codes)
rows_count_to codes k zero within = refl
rows_count_to codes k (suc n) within =
    let next : n + 1 ≡ suc n = omega arith in
    let test = λ (i : ℕ). eqb (code_of codes i) k in
    let so_far = rows_count_to codes k n (omega (arith, within)) in
    subst (λ (m : ℕ). length (rows_where (λ i. eqb (code_of codes i) k) m)
    ≡ count_by (λ code. eqb code k) (take m codes)) next
    (elim (cases_Bool (eqb (code_of codes n) k)) [
      | inl holds ↦
          ap (λ (xs : List ℕ). length xs) (rows_where_yes test n holds) ∙ length_push (rows_where test n) n
          ∙ ap (λ (m : ℕ). m + 1) so_far
          ∙ sym (count_by_more_yes (λ code. eqb code k) codes n 0 (omega (arith, within)) holds)
      | inr fails ↦
          ap (λ (xs : List ℕ). length xs) (rows_where_no test n fails) ∙ so_far
          ∙ sym (count_by_more_no (λ code. eqb code k) codes n 0 (omega (arith, within)) fails)
    ])

pub rows_of_count : (codes : List ℕ) (k : ℕ) → length (rows_of codes k) ≡ occurrences_of codes k
rows_of_count codes k =
    rows_count_to codes k (length codes) (omega arith)
    ∙ ap (λ (cs : List ℕ). count_by (λ code. eqb code k) cs) (take_all (length codes) codes (omega arith))

-- what some rows add up to
abbrev pub sum_over : (ℕ → ℤ) → List ℕ → ℤ
sum_over f rows = sum_to (λ a. f (code_of rows a)) (length rows)

pub sum_over_push : (f : ℕ → ℤ) (rows : List ℕ) (i : ℕ) → sum_over f (rows ++ i ∷ []) ≡ sum_over f rows +ℤ f i
sum_over_push f rows i =
    let n = length rows in
    let more = rows ++ i ∷ [] in
    let longer : length more ≡ suc n = omega (arith, length_push rows i) in
    ap (sum_to (λ a. f (code_of more a))) longer
    ∙ ap (λ (z : ℤ). z +ℤ f (code_of more n))
    (sum_to-same (λ a. f (code_of more a)) (λ a. f (code_of rows a)) n
    (λ a there. ap f (get_or_append_left rows (i ∷ []) 0 a there)))
    ∙ ap (λ (j : ℕ). sum_over f rows +ℤ f j) (get_or_push rows i 0 n refl)

pub sum_where : (f : ℕ → ℤ) (test : ℕ → Bool) (n : ℕ) → sum_over f (rows_where test n)
    ≡ sum_to (λ i. cond (test i) (f i) (pos 0)) n
sum_where f test zero = refl
sum_where f test (suc n) =
    let next : suc n ≡ n + 1 = omega arith in
    let so_far = sum_where f test n in
    ap (λ (m : ℕ). sum_over f (rows_where test m)) next ∙ elim (cases_Bool (test n)) [
      | inl holds ↦
          ap (sum_over f) (rows_where_yes test n holds) ∙ sum_over_push f (rows_where test n) n
          ∙ ap (λ (z : ℤ). z +ℤ f n) so_far
          ∙ ap (λ (b : Bool). sum_to (λ i. cond (test i) (f i) (pos 0)) n +ℤ cond b (f n) (pos 0)) (sym holds)
      | inr fails ↦
          ap (sum_over f) (rows_where_no test n fails) ∙ so_far
          ∙ plus_zero (sum_to (λ i. cond (test i) (f i) (pos 0)) n)
          ∙ ap (λ (b : Bool). sum_to (λ i. cond (test i) (f i) (pos 0)) n +ℤ cond b (f n) (pos 0)) (sym fails)
    ]
