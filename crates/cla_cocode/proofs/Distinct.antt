-- How many different numbers there are, in whatever order they come.
use Rattle.std.proofs.Common.{◌≡◌, ℕ, zero, suc, ◌+◌, ◌<◌, Bool, true, false, cond, ◌||◌, nat_eq, List, [], ◌∷◌}
use Rattle.std.proofs.Common.{length}
use Rattle.std.proofs.Common.{refl, sym, ap, ◌∙◌, arith, eq-eqb, inl, inr}
use Rattle.std.specs.List.{list_any}
use Rattle.std.proofs.lemmas.Bool.{cases_lt, ne_eqb}
use Rattle.cla_layout.specs.Listed.{rows_where}
use Rattle.cla_layout.proofs.Listings.{rows_where_none}
use Rattle.cla_grouping.specs.Numbering.{with_item, firsts_from}
use Rattle.cla_cocode.proofs.FigureLemmas.{rows_more}
use Rattle.cla_cocode.proofs.Unions.{rows-same}
use Rattle.cla_cocode.proofs.Marks.{any-with, length-with}

none-more : (x : Bool) → x ≡ (x || false)
none-more true = refl
none-more false = refl

regrouped : (e s x : Bool) → ((e || s) || x) ≡ (s || (e || x))
regrouped true true x = refl
regrouped true false x = refl
regrouped false s x = refl

or_right : (x y : Bool) → y ≡ true → (x || y) ≡ true
or_right true y h = refl
or_right false y h = h

-- what stands among the first of equal numbers was seen before, or comes
firsts-any : (seen xs : List ℕ) (r : ℕ) → list_any (nat_eq r) (firsts_from nat_eq seen xs)
    ≡ (list_any (nat_eq r) seen || list_any (nat_eq r) xs)
firsts-any seen [] r = none-more (list_any (nat_eq r) seen)
firsts-any seen (x ∷ xs) r =
    firsts-any (with_item nat_eq seen x) xs r ∙ ap (λ b. b || list_any (nat_eq r) xs) (any-with seen x r)
    ∙ regrouped (nat_eq r x) (list_any (nat_eq r) seen) (list_any (nat_eq r) xs)

abbrev pub once : Bool → ℕ
once b = cond b 1 0

abbrev pub fresh : Bool → ℕ
fresh b = cond b 0 1

either-way : (b : Bool) → once b + fresh b ≡ 1
either-way true = refl
either-way false = refl

-- a test that passes one more row
pub rows-added : (p q : ℕ → Bool) (n x : ℕ) → x < n → ((r : ℕ) → q r ≡ (nat_eq r x || p r))
    → length (rows_where q n) ≡ length (rows_where p n) + fresh (p x)
rows-added p q zero x h e = absurd (omega (arith, h))
rows-added p q (suc n) x h e =
    let next : suc n ≡ n + 1 = omega arith in
    let ps = ap (λ m. length (rows_where p m)) next ∙ rows_more p n in
    let qs = ap (λ m. length (rows_where q m)) next ∙ rows_more q n in
    elim (cases_lt x n) [
      | inl before ↦
          let other = ne_eqb n x (λ s. absurd (omega (arith, s, before))) in
          let same : once (q n) ≡ once (p n) = ap once (e n ∙ ap (λ b. b || p n) other) in
          omega (arith, ps, qs, rows-added p q n x before e, same)
      | inr past ↦
          let last : x ≡ n = omega (arith, h, past) in
          let before = rows-same q p n (λ i row. e i
          ∙ ap (λ b. b || p i) (ne_eqb i x (λ s. absurd (omega (arith, s, last, row))))) in
          let here : once (q n) ≡ 1 =
          ap once (e n ∙ ap (λ b. b || p n) (eq-eqb n x (sym last))) in
          let there : once (p n) + fresh (p x) ≡ 1 =
          ap (λ y. once (p n) + fresh (p y)) last ∙ either-way (p n) in
          omega (arith, ps, qs, before, here, there)
    ]

-- there are as many different numbers below n as n has places of them
distinct-from : (n : ℕ) (xs seen : List ℕ) → ((r : ℕ) → list_any (nat_eq r) xs ≡ true → r < n)
    → length seen ≡ length (rows_where (λ p. list_any (nat_eq p) seen) n)
    → length (firsts_from nat_eq seen xs)
    ≡ length (rows_where (λ p. list_any (nat_eq p) (firsts_from nat_eq seen xs)) n)
distinct-from n [] seen below h = h
distinct-from n (x ∷ xs) seen below h =
    let within : x < n = below x (ap (λ b. b || list_any (nat_eq x) xs) (eq-eqb x x refl)) in
    distinct-from n xs (with_item nat_eq seen x) (λ r is. below r (or_right (nat_eq r x) (list_any (nat_eq r) xs) is))
    (length-with seen x ∙ ap (λ k. k + fresh (list_any (nat_eq x) seen)) h
    ∙ sym (rows-added (λ p. list_any (nat_eq p) seen) (λ p. list_any (nat_eq p) (with_item nat_eq seen x)) n x within
    (any-with seen x)))

pub distinct-places : (n : ℕ) (xs : List ℕ) → ((r : ℕ) → list_any (nat_eq r) xs ≡ true → r < n)
    → length (firsts_from nat_eq [] xs) ≡ length (rows_where (λ p. list_any (nat_eq p) xs) n)
distinct-places n xs below =
    distinct-from n xs [] below (sym (ap length (rows_where_none (λ p. false) n (λ i row. refl))))
    ∙ rows-same _ _ n (λ r row. firsts-any [] xs r)
