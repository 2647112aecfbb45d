-- Rows that are numbered by first row, and pairs of numbers.
use Rattle.std.proofs.Common.{◌≡◌, ℕ, zero, suc, ◌+◌, ◌<◌, ◌≤◌, Bool, true, false, cond, not, ◌&&◌, ◌||◌, ◌==◌, List}
use Rattle.std.proofs.Common.{[], ◌∷◌, ◌++◌, get_or, refl, sym, ap, ◌∙◌, arith}
use Rattle.std.specs.List.{position_or_len, list_any, range_with_len}
use Rattle.std.specs.Cmp.{IsEquivalence}
use Rattle.std.proofs.lemmas.List.FromFn.{get_or-range_with_len, get_or-map-range_with_len, length-range_with_len}
use Rattle.cla_layout.specs.Groups.{code_of}
use Rattle.cla_grouping.specs.Numbering.{with_item, codes_from, firsts_from, codes_by, first_rows_by, same_pair}
use Rattle.cla_grouping.proofs.CodeLemmas.{codes-places, any-item, code-equal}

-- each item is below n (std's All goes by index, which suits no recursion)
abbrev pub AllBelow : ℕ → List ℕ → Type 0
AllBelow n [] = Unit {0}
AllBelow n (x ∷ xs) = (x < n) × AllBelow n xs

list_any-same : (p q : ℕ → Bool) (n : ℕ) → ((j : ℕ) → j < n → p j ≡ q j) → (xs : List ℕ) → AllBelow n xs
    → list_any p xs ≡ list_any q xs
list_any-same p q n h [] a = refl
list_any-same p q n h (x ∷ xs) a = ap (λ b. b || list_any p xs) (h x a.0)
    ∙ ap (λ b. q x || b) (list_any-same p q n h xs a.1)

position-same : (p q : ℕ → Bool) (n : ℕ) → ((j : ℕ) → j < n → p j ≡ q j) → (xs : List ℕ) → AllBelow n xs
    → position_or_len p xs ≡ position_or_len q xs
position-same p q n h [] a = refl
position-same p q n h (x ∷ xs) a = ap (λ b. cond (not b) (1 + position_or_len p xs) 0) (h x a.0)
    ∙ ap (λ m. cond (not (q x)) (1 + m) 0) (position-same p q n h xs a.1)

All-with : (e : ℕ → ℕ → Bool) (n : ℕ) (seen : List ℕ) (x : ℕ) → AllBelow n seen → x < n
    → AllBelow n (with_item e seen x)
All-with e n seen x a h = by (list_any (e x) seen)
  where
    push : (xs : List ℕ) → AllBelow n xs → AllBelow n (xs ++ x ∷ [])
    push [] t = (h, tt)
    push (y ∷ ys) t = (t.0, push ys t.1)

    by : (b : Bool) → AllBelow n (cond b seen (seen ++ x ∷ []))
    by true = a
    by false = push seen a

-- tests that agree on the rows give the same codes
pub codes_from-same : (e f : ℕ → ℕ → Bool) (n : ℕ) → ((i j : ℕ) → i < n → j < n → e i j ≡ f i j)
    → (seen : List ℕ) (k a : ℕ) → a + k ≤ n → AllBelow n seen →
    codes_from e seen (range_with_len a k) ≡ codes_from f seen (range_with_len a k)
codes_from-same e f n h seen zero a l s = refl
codes_from-same e f n h seen (suc k) a l s =
    let here : a < n = omega arith in
    ap (λ m. m ∷ codes_from e (with_item e seen a) (range_with_len (a + 1) k))
    (position-same (e a) (f a) n (λ j. h a j here) seen s)
    ∙ ap (λ b. position_or_len (f a) seen ∷ codes_from e (cond b seen (seen ++ a ∷ [])) (range_with_len (a + 1) k))
    (list_any-same (e a) (f a) n (λ j. h a j here) seen s)
    ∙ ap (λ t. position_or_len (f a) seen ∷ t)
    (codes_from-same e f n h (with_item f seen a) k (a + 1) (omega arith) (All-with f n seen a s here))

pub codes_by-same : (e f : ℕ → ℕ → Bool) (n : ℕ) → ((i j : ℕ) → i < n → j < n → e i j ≡ f i j)
    → codes_by e n ≡ codes_by f n
codes_by-same e f n h = codes_from-same e f n h [] n 0 (omega arith) tt

pub code-place : (e : ℕ → ℕ → Bool) → IsEquivalence e → (n i : ℕ) → i < n
    → code_of (codes_by e n) i ≡ position_or_len (e i) (firsts_from e [] (range_with_len 0 n))
code-place e is n i h =
    ap (λ t. code_of t i) (codes-places e is [] (range_with_len 0 n))
    ∙ get_or-map-range_with_len (λ x. position_or_len (e x) (firsts_from e [] (range_with_len 0 n))) 0 n i i 0 h
    (omega arith)

-- two rows have equal codes exactly where they are the same
pub same-code : (e : ℕ → ℕ → Bool) → IsEquivalence e → (n i j : ℕ) → i < n → j < n
    → (code_of (codes_by e n) i == code_of (codes_by e n) j) ≡ e i j
same-code e is n i j hi hj =
    ap (λ m. m == code_of (codes_by e n) j) (code-place e is n i hi)
    ∙ ap (λ m. position_or_len (e i) (firsts_from e [] (range_with_len 0 n)) == m) (code-place e is n j hj)
    ∙ code-equal e is (firsts_from e [] (range_with_len 0 n)) i j (there i hi) (there j hj)
  where
    there : (x : ℕ) → x < n → list_any (e x) (firsts_from e [] (range_with_len 0 n)) ≡ true
    there x h =
        let at : get_or (range_with_len 0 n) x 0 ≡ x = get_or-range_with_len 0 n x 0 h ∙ omega arith in
        let found : list_any (e (get_or (range_with_len 0 n) x 0)) (firsts_from e [] (range_with_len 0 n)) ≡ true =
        any-item e is [] (range_with_len 0 n) x 0 (omega (arith, length-range_with_len 0 n)) in
        sym (ap (λ y. list_any (e y) (firsts_from e [] (range_with_len 0 n))) at) ∙ found

-- the codes of the pairs of codes are those of the rows that are the same by both tests
pub codes-joined : (e f : ℕ → ℕ → Bool) → IsEquivalence e → IsEquivalence f → (n : ℕ) →
    codes_by (same_pair (codes_by e n) (codes_by f n)) n ≡ codes_by (λ i j. e i j && f i j) n
codes-joined e f is_e is_f n = codes_by-same _ _ n (λ i j hi hj.
    ap (λ b. b && (code_of (codes_by f n) i == code_of (codes_by f n) j)) (same-code e is_e n i j hi hj)
    ∙ ap (λ b. e i j && b) (same-code f is_f n i j hi hj))

firsts_from-same : (e f : ℕ → ℕ → Bool) (n : ℕ) → ((i j : ℕ) → i < n → j < n → e i j ≡ f i j)
    → (seen : List ℕ) (k a : ℕ) → a + k ≤ n → AllBelow n seen →
    firsts_from e seen (range_with_len a k) ≡ firsts_from f seen (range_with_len a k)
firsts_from-same e f n h seen zero a l s = refl
firsts_from-same e f n h seen (suc k) a l s =
    let here : a < n = omega arith in
    ap (λ b. firsts_from e (cond b seen (seen ++ a ∷ [])) (range_with_len (a + 1) k))
    (list_any-same (e a) (f a) n (λ j. h a j here) seen s)
    ∙ firsts_from-same e f n h (with_item f seen a) k (a + 1) (omega arith) (All-with f n seen a s here)

pub first_rows-same : (e f : ℕ → ℕ → Bool) (n : ℕ) → ((i j : ℕ) → i < n → j < n → e i j ≡ f i j)
    → first_rows_by e n ≡ first_rows_by f n
first_rows-same e f n h = firsts_from-same e f n h [] n 0 (omega arith) tt
