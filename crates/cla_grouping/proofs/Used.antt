-- Each code names one of the tuples, and each of them is the code of some row.
use Rattle.std.proofs.Common.{◌≡◌, ℕ, zero, suc, ◌+◌, ◌<◌, ◌≤◌, Bool, true, false, cond, not, ◌||◌, List, [], ◌∷◌, ◌++◌}
use Rattle.std.proofs.Common.{length, get_or, refl, sym, ap, ◌∙◌, arith, length-append, ◌⊎◌, inl, inr}
use Rattle.std.specs.List.{position_or_len, list_any}
use Rattle.cla_grouping.specs.Numbering.{with_item, codes_from, firsts_from}
use Rattle.cla_grouping.proofs.CodeLemmas.{position-within}

pub position-none : {A : Type 0} (p : A → Bool) (xs : List A) → list_any p xs ≡ false → position_or_len p xs ≡ length xs
position-none p [] h = refl
position-none p (y ∷ ys) h = at (p y) (λ e. position-none p ys e) h
  where
    at : (b : Bool) → (list_any p ys ≡ false → position_or_len p ys ≡ length ys) → (b || list_any p ys) ≡ false
        → cond (not b) (1 + position_or_len p ys) 0 ≡ suc (length ys)
    at true k e = absurd (cc)
    at false k e = ap (λ n. 1 + n) (k e) ∙ omega arith

pub more-firsts : {A : Type 0} (eq : A → A → Bool) (seen xs : List A) → length seen ≤ length (firsts_from eq seen xs)
more-firsts eq seen [] = omega arith
more-firsts eq seen (x ∷ xs) =
    let rest = more-firsts eq (with_item eq seen x) xs in
    let here = by (list_any (eq x) seen) in
    omega (arith, rest, here)
  where
    by : (b : Bool) → length seen ≤ length (cond b seen (seen ++ x ∷ []))
    by true = omega arith
    by false = omega (arith, length-append seen (x ∷ []))

-- each code is one of the tuples
pub codes-below : {A : Type 0} (eq : A → A → Bool) (seen xs : List A) (i : ℕ) → i < length xs
    → get_or (codes_from eq seen xs) i 0 < length (firsts_from eq seen xs)
codes-below eq seen [] i h = absurd (omega arith)
codes-below eq seen (x ∷ xs) (suc i) h = codes-below eq (with_item eq seen x) xs i (omega arith)
codes-below eq seen (x ∷ xs) zero h = by (list_any (eq x) seen) refl
  where
    more : length (with_item eq seen x) ≤ length (firsts_from eq (with_item eq seen x) xs)
    more = more-firsts eq (with_item eq seen x) xs

    by : (b : Bool) → list_any (eq x) seen ≡ b
        → position_or_len (eq x) seen < length (firsts_from eq (with_item eq seen x) xs)
    by true e =
        let here = position-within (eq x) seen e in
        let same = ap (λ b. length (cond b seen (seen ++ x ∷ []))) e in
        omega (arith, here, same, more)
    by false e =
        let here = position-none (eq x) seen e in
        let same = ap (λ b. length (cond b seen (seen ++ x ∷ []))) e in
        omega (arith, here, same, more, length-append seen (x ∷ []))

-- each tuple is the code of some row
pub codes-used : {A : Type 0} (eq : A → A → Bool) (seen xs : List A) (k : ℕ) → length seen ≤ k
    → k < length (firsts_from eq seen xs) → (i : ℕ) × (i < length xs) × (get_or (codes_from eq seen xs) i 0 ≡ k)
codes-used eq seen [] k l h = absurd (omega arith)
codes-used {A} eq seen (x ∷ xs) k l h =
    by (λ m. codes-used eq (with_item eq seen x) xs k m h) (list_any (eq x) seen) refl
  where
    later : (i : ℕ) × (i < length xs) × (get_or (codes_from eq (with_item eq seen x) xs) i 0 ≡ k)
        → (i : ℕ) × (i < suc (length xs)) × (get_or (codes_from eq seen (x ∷ xs)) i 0 ≡ k)
    later r = (suc r.0, omega (arith, r.1), r.2)

    by : (length (with_item eq seen x) ≤ k
        → (i : ℕ) × (i < length xs) × (get_or (codes_from eq (with_item eq seen x) xs) i 0 ≡ k)) →
        (b : Bool) → list_any (eq x) seen ≡ b
        → (i : ℕ) × (i < suc (length xs)) × (get_or (codes_from eq seen (x ∷ xs)) i 0 ≡ k)
    by go true e = later (go (omega (arith, l, ap (λ b. length (cond b seen (seen ++ x ∷ []))) e)))
    by go false e = at (split k (length seen) l)
      where
        split : (a b : ℕ) → b ≤ a → (a ≡ b) ⊎ (b + 1 ≤ a)
        split a b h = grind arith

        at : ((k ≡ length seen) ⊎ (length seen + 1 ≤ k))
            → (i : ℕ) × (i < suc (length xs)) × (get_or (codes_from eq seen (x ∷ xs)) i 0 ≡ k)
        at (inl s) = (0, omega arith, position-none (eq x) seen e ∙ sym s)
        at (inr m) =
            later
            (go (omega (arith, m, ap (λ b. length (cond b seen (seen ++ x ∷ []))) e, length-append seen (x ∷ []))))

-- there are no more tuples than rows
pub few-firsts : {A : Type 0} (eq : A → A → Bool) (seen xs : List A)
    → length (firsts_from eq seen xs) ≤ length seen + length xs
few-firsts eq seen [] = omega arith
few-firsts eq seen (x ∷ xs) = omega (arith, few-firsts eq (with_item eq seen x) xs, by (list_any (eq x) seen))
  where
    by : (b : Bool) → length (cond b seen (seen ++ x ∷ [])) ≤ length seen + 1
    by true = omega arith
    by false = omega (arith, length-append seen (x ∷ []))
