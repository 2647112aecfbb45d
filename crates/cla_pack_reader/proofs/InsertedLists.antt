-- One more list, an empty one, among others.
use Rattle.std.proofs.Common.{◌≡◌, ℕ, suc, zero, ◌+◌, ◌-◌, ◌<◌, ◌≤◌, List, [], ◌∷◌, ◌++◌, length, refl, sym, ap, ◌∙◌}
use Rattle.std.proofs.Common.{arith, inl, inr}
use Rattle.std.specs.List.{insert}
use Rattle.std.proofs.lemmas.Bool.{cases_eq, cases_lt}
use Rattle.std.proofs.lemmas.List.{append-nil, ext_get_or}
use Rattle.std.proofs.lemmas.List.Edits.{length-insert, get_or-insert_at, get_or-insert_below, get_or-insert_above}
use Rattle.cla_layout.specs.Groups.{code_of}
use Rattle.cla_rows.specs.Chains.{lists_to, begins_to}
use Rattle.cla_rows.proofs.Chains.{lists_more, begins_count, begin_at}

-- the first n lists alone decide
pub lists_same : (f g : ℕ → List ℕ) (n : ℕ) → ((k : ℕ) → k < n → f k ≡ g k) → lists_to f n ≡ lists_to g n
unfolding lists_to
lists_same f g zero each = refl
lists_same f g (suc n) each =
    ap (λ (l : List ℕ). l ++ f n) (lists_same f g n (λ k lt. each k (omega (arith, lt))))
    ∙ ap (λ (l : List ℕ). lists_to g n ++ l) (each n (omega arith))

pub begins_same : (f g : ℕ → List ℕ) (n : ℕ) → ((k : ℕ) → k < n → f k ≡ g k)
    → begins_to f (n + 1) ≡ begins_to g (n + 1)
begins_same f g n each =
    lists_same (λ i. length (lists_to f i) ∷ []) (λ i. length (lists_to g i) ∷ []) (n + 1) (λ i lt.
    ap (λ (l : List ℕ). length l ∷ []) (lists_same f g i (λ k below. each k (omega (arith, below, lt)))))

-- the lists f are the d lists g with an empty one in place r
pub record IsPut (f g : ℕ → List ℕ) (r d : ℕ) : Type 0 where
  pub within : r ≤ d
  pub before : (k : ℕ) → k < r → f k ≡ g k
  pub here : f r ≡ []
  pub behind : (k : ℕ) → r ≤ k → k < d → f (k + 1) ≡ g k

module _ (f g : ℕ → List ℕ) (r d : ℕ) (put : IsPut f g r d) where
  lists_before : (k : ℕ) → k ≤ r → lists_to f k ≡ lists_to g k
  lists_before k le = lists_same f g k (λ j lt. put.before j (omega (arith, lt, le)))

  lists_here : lists_to f (r + 1) ≡ lists_to g r
  lists_here = lists_more f r ∙ ap (λ (l : List ℕ). lists_to f r ++ l) put.here ∙ append-nil (lists_to f r)
      ∙ lists_before r (omega arith)

  lists_behind : (n : ℕ) → r + n ≤ d → lists_to f ((r + n) + 1) ≡ lists_to g (r + n)
  lists_behind zero le = (let same : r + 0 ≡ r = omega arith in rw same lists_here)
  lists_behind (suc n) le =
      let next : r + suc n ≡ (r + n) + 1 = omega arith in
      rw next (lists_more f ((r + n) + 1)
      ∙ ap (λ (l : List ℕ). l ++ f ((r + n) + 1)) (lists_behind n (omega (arith, le)))
      ∙ ap (λ (l : List ℕ). lists_to g (r + n) ++ l) (put.behind (r + n) (omega arith) (omega (arith, le)))
      ∙ sym (lists_more g (r + n)))

  -- all of them are the same items
  pub put_lists : lists_to f (d + 1) ≡ lists_to g d
  put_lists = (let all : r + (d - r) ≡ d = omega (arith, put.within) in
      ap (λ (n : ℕ). lists_to f (n + 1)) (sym all) ∙ lists_behind (d - r) (omega (arith, all)) ∙ ap (lists_to g) all)

  size_behind : (k : ℕ) → r ≤ k → k ≤ d → length (lists_to f (k + 1)) ≡ length (lists_to g k)
  size_behind k le lt =
      let all : r + (k - r) ≡ k = omega (arith, le) in
      ap (λ (n : ℕ). length (lists_to f (n + 1))) (sym all)
      ∙ ap (λ (l : List ℕ). length l) (lists_behind (k - r) (omega (arith, all, lt)))
      ∙ ap (λ (n : ℕ). length (lists_to g n)) all

  -- and they begin where those do, the empty one where the one behind it does
  pub put_begins : begins_to f ((d + 1) + 1)
      ≡ insert (begins_to g (d + 1)) r (code_of (begins_to g (d + 1)) r)
  put_begins =
      let old = begins_to g (d + 1) in
      let start = code_of old r in
      let count : length old ≡ d + 1 = begins_count g (d + 1) in
      let fits : r ≤ length old = omega (arith, count, put.within) in
      let more : length (begins_to f ((d + 1) + 1)) ≡ (d + 1) + 1 = begins_count f ((d + 1) + 1) in
      ext_get_or 0 (begins_to f ((d + 1) + 1)) (insert old r start)
      (omega (arith, more, count, length-insert old r start fits)) (λ i there.
      let lt : i < (d + 1) + 1 = omega (arith, there, more) in
      begin_at f i ((d + 1) + 1) lt ∙ elim (cases_lt i r) [
        | inl before ↦ ap (λ (l : List ℕ). length l) (lists_before i (omega (arith, before)))
            ∙ sym (get_or-insert_below old r start 0 i before fits
            ∙ begin_at g i (d + 1) (omega (arith, before, put.within)))
        | inr from ↦ elim (cases_eq i r) [
          | inl same ↦ ap (λ (k : ℕ). length (lists_to f k)) same
              ∙ ap (λ (l : List ℕ). length l) (lists_before r (omega arith))
              ∙ sym (ap (λ (k : ℕ). code_of (insert old r start) k) same ∙ get_or-insert_at old r start 0 fits
              ∙ begin_at g r (d + 1) (omega (arith, put.within)))
          | inr other ↦
              let next : (i - 1) + 1 ≡ i = omega (arith, from, other) in
              ap (λ (k : ℕ). length (lists_to f k)) (sym next)
              ∙ size_behind (i - 1) (omega (arith, from, other)) (omega (arith, lt))
              ∙ sym (ap (λ (k : ℕ). code_of (insert old r start) k) (sym next)
              ∙ get_or-insert_above old r start 0 (i - 1) (omega (arith, from, other)) fits
              ∙ begin_at g (i - 1) (d + 1) (omega (arith, lt, next)))
        ]
      ])
