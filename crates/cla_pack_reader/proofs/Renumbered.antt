-- Owners of rows under other numbers, and the rows of each.
use Rattle.std.proofs.Common.{◌≡◌, ℕ, zero, suc, ◌+◌, ◌<◌, ◌≤◌, Bool, cond, eqb, List, [], ◌∷◌, ◌++◌, length, map}
use Rattle.std.proofs.Common.{refl, sym, ap, ◌∙◌, arith, inl, inr}
use Rattle.std.specs.List.{filter, range_with_len}
use Rattle.std.proofs.lemmas.Bool.{cases_Bool, cases_eq, eq-eqb, ne_eqb}
use Rattle.std.proofs.lemmas.List.{get_or-map, length-map}
use Rattle.cla_layout.specs.Groups.{code_of, first_row_of}
use Rattle.cla_layout.specs.Listed.{rows_where, rows_of}
use Rattle.cla_layout.proofs.Listings.{rows_where_more}
use Rattle.cla_packed.specs.Lists.{rows_from, AreOwners}
use Rattle.cla_packed.specs.Rests.{with_rest, without_rest}
use Rattle.cla_packed_laws.proofs.Rests.{there_back, first_row_map, alike_from, all_at}

-- ---- rows that pass a test

-- the rows with a code, as those of a range that pass a test
rows_by : (test : ℕ → Bool) (a : ℕ) (codes : List ℕ) (k : ℕ)
    → ((i : ℕ) → i < length codes → test (a + i) ≡ eqb (code_of codes i) k)
    → filter test (range_with_len a (length codes)) ≡ rows_from a codes k
rows_by test a [] k same = refl
rows_by test a (c ∷ codes) k same =
    let z : a ≡ a + 0 = omega arith in
    let here : test a ≡ eqb c k = ap test z ∙ same 0 (omega arith) in
    let more = rows_by test (a + 1) codes k (λ i lt.
    let s : (a + 1) + i ≡ a + suc i = omega arith in
    ap test s ∙ same (suc i) (omega (arith, lt))) in
    elim (cases_Bool (eqb c k)) [
      | inl yes_it ↦ rw (here, yes_it) (ap (λ (t : List ℕ). a ∷ t) more)
      | inr not_it ↦ rw (here, not_it) more
    ]

pub rows_are : (codes : List ℕ) (k : ℕ) → rows_from 0 codes k ≡ rows_of codes k
rows_are codes k = sym (rows_by (λ i. eqb (code_of codes i) k) 0 codes k (λ i lt.
    let z : 0 + i ≡ i = omega arith in
    ap (λ (j : ℕ). eqb (code_of codes j) k) z))

rows_where_same : (p q : ℕ → Bool) (n : ℕ) → ((i : ℕ) → i < n → p i ≡ q i) → rows_where p n ≡ rows_where q n
rows_where_same p q zero same = refl
rows_where_same p q (suc n) same =
    let next : suc n ≡ n + 1 = omega arith in
    ap (rows_where p) next ∙ rows_where_more p n
    ∙ ap (λ (l : List ℕ). l ++ cond (p n) (n ∷ []) []) (rows_where_same p q n (λ i lt. same i (omega (arith, lt))))
    ∙ ap (λ (b : Bool). rows_where q n ++ cond b (n ∷ []) []) (same n (omega arith))
    ∙ sym (ap (rows_where q) next ∙ rows_where_more q n)

-- ---- other numbers

-- these codes are owners, of which there are d and none, under the numbers that f gives
pub record AreRenumbered (d : ℕ) (f : ℕ → ℕ) (owners codes : List ℕ) : Type 0 where
  pub count : length codes ≡ length owners
  pub is : (i : ℕ) → i < length owners → code_of codes i ≡ f (code_of owners i)
  pub each : (i : ℕ) → i < length owners → code_of owners i ≤ d
  pub apart : (o t : ℕ) → o ≤ d → t ≤ d → f o ≡ f t → o ≡ t

module _ (d : ℕ) (f : ℕ → ℕ) (owners codes : List ℕ) (s : AreRenumbered d f owners codes) where
  pub code_test : (i t : ℕ) → i < length owners → t ≤ d → eqb (code_of codes i) (f t) ≡ eqb (code_of owners i) t
  code_test i t lt le = elim (cases_eq (code_of owners i) t) [
    | inl same ↦ eq-eqb (code_of codes i) (f t) (s.is i lt ∙ ap f same) ∙ sym (eq-eqb (code_of owners i) t same)
    | inr other ↦ ne_eqb (code_of codes i) (f t)
        (λ e. other (s.apart (code_of owners i) t (s.each i lt) le (sym (s.is i lt) ∙ e)))
        ∙ sym (ne_eqb (code_of owners i) t other)
  ]

  pub code_rows : (t : ℕ) → t ≤ d → rows_of codes (f t) ≡ rows_of owners t
  code_rows t le =
      ap (rows_where (λ i. eqb (code_of codes i) (f t))) s.count
      ∙ rows_where_same (λ i. eqb (code_of codes i) (f t)) (λ i. eqb (code_of owners i) t) (length owners)
      (λ i lt. code_test i t lt le)

-- owners as they are
pub own_numbers : (rows d : ℕ) (owners : List ℕ) → AreOwners rows d owners
    → AreRenumbered d (λ o. o) owners owners
own_numbers rows d owners o = record {
  count = refl;
  is = λ i lt. refl;
  each = λ i lt. o.each i (omega (arith, lt, o.count));
  apart = λ a b le_a le_b e. e;
}

module _ (rows d r : ℕ) (owners : List ℕ) (o : AreOwners rows d owners) (fits : r ≤ d) where
  -- the rest has code r
  pub rest_numbers : AreRenumbered d (with_rest d r) owners (map (with_rest d r) owners)
  rest_numbers = record {
    count = length-map owners (with_rest d r);
    is = λ i lt. get_or-map (with_rest d r) owners i 0 0 lt;
    each = λ i lt. o.each i (omega (arith, lt, o.count));
    apart = λ a b le_a le_b e. sym (there_back d r a fits le_a) ∙ ap (without_rest d r) e
        ∙ there_back d r b fits le_b;
  }

  -- its first row is the first that has no list
  pub rest_first : first_row_of (map (with_rest d r) owners) r ≡ first_row_of owners d
  rest_first =
      let all = all_at d owners (λ i lt. o.each i (omega (arith, lt, o.count))) in
      let rest : with_rest d r d ≡ r = rw (eq-eqb d d refl) refl in
      ap (λ (k : ℕ). first_row_of (map (with_rest d r) owners) k) (sym rest)
      ∙ (first_row_map (with_rest d r) d owners
      (alike_from d (with_rest d r) (without_rest d r) d owners (λ c le. there_back d r c fits le) (omega arith)
      all)).0
