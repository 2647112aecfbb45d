-- Sums over an index.
use Rattle.std.proofs.Common.{◌≡◌, ℕ, ℤ, pos, zero, suc, ◌+◌, ◌*◌, ◌<◌, ◌≤◌, ◌+ℤ◌, ◌*ℤ◌, Bool, true, false, cond, eqb}
use Rattle.std.proofs.Common.{refl, ap, sym, ◌∙◌, arith, inl, inr}
use Rattle.std.proofs.Math.IntN.{zero-*ℤ}
use Rattle.std.proofs.lemmas.Bool.{cases_eq, ne_eqb}
use Rattle.std.proofs.lemmas.Int.{ints}
use Rattle.std.specs.Int.RustNames.{unsigned_abs}
use borrow.Author.Differences.{up, down, sum_is_lem}
use Rattle.cla_spec.specs.Numbers.{sum_to}
use Rattle.cla_spec.specs.Matrix.{sum_of_entries}

plus_more : (a b c : ℤ) → a +ℤ (b +ℤ c) ≡ (a +ℤ b) +ℤ c
plus_more a b c = omega (arith, ints)

pub plus_zero : (a : ℤ) → a ≡ a +ℤ pos 0
plus_zero a = omega (arith, ints)

pub zero_plus : (a : ℤ) → pos 0 +ℤ a ≡ a
zero_plus a = omega (arith, ints)

-- a sum in two parts
pub sum_to-split : (f : ℕ → ℤ) (a b : ℕ) → sum_to f (a + b) ≡ sum_to f a +ℤ sum_to (λ j. f (a + j)) b
sum_to-split f a zero = let same : a + zero ≡ a = omega arith in ap (sum_to f) same ∙ plus_zero (sum_to f a)
sum_to-split f a (suc b) =
    let next : a + suc b ≡ suc (a + b) = omega arith in
    ap (sum_to f) next ∙ ap (λ (z : ℤ). z +ℤ f (a + b)) (sum_to-split f a b)
    ∙ sym (plus_more (sum_to f a) (sum_to (λ j. f (a + j)) b) (f (a + b)))

-- the same summands give the same sum
pub sum_to-same : (f g : ℕ → ℤ) (n : ℕ) → ((k : ℕ) → k < n → f k ≡ g k) → sum_to f n ≡ sum_to g n
sum_to-same f g zero same = refl
sum_to-same f g (suc n) same = ap (λ (z : ℤ). z +ℤ f n) (sum_to-same f g n (λ k lt. same k (omega arith)))
    ∙ ap (λ (z : ℤ). sum_to g n +ℤ z) (same n (omega arith))

-- a sum over all cells is one over the rows of sums over their columns
pub sum_to-rows : (f : ℕ → ℤ) (rows cols : ℕ) → sum_to f (rows * cols)
    ≡ sum_to (λ i. sum_to (λ j. f (i * cols + j)) cols) rows
sum_to-rows f zero cols = let none : zero * cols ≡ zero = omega arith in ap (sum_to f) none
sum_to-rows f (suc rows) cols =
    let next : suc rows * cols ≡ rows * cols + cols = omega arith in
    ap (sum_to f) next ∙ sum_to-split f (rows * cols) cols ∙ ap (λ (z : ℤ). z +ℤ sum_to (λ j. f (rows * cols + j)) cols)
    (sum_to-rows f rows cols)

swap_middle : (a b c d : ℤ) → (a +ℤ b) +ℤ (c +ℤ d) ≡ (a +ℤ c) +ℤ (b +ℤ d)
swap_middle a b c d = omega (arith, ints)

pub times_sum : (a b c : ℤ) → (a +ℤ b) *ℤ c ≡ (a *ℤ c) +ℤ (b *ℤ c)
times_sum a b c = omega (arith, ints, ap (λ x. x * up c) (sum_is_lem a b), ap (λ x. x * down c) (sum_is_lem a b))

-- a sum of nothing but zeros
pub sum_to-zero : (n : ℕ) → sum_to (λ k. pos 0) n ≡ pos 0
sum_to-zero zero = refl
sum_to-zero (suc n) = ap (λ (z : ℤ). z +ℤ pos 0) (sum_to-zero n)

-- a sum of sums
pub sum_to-add : (f g : ℕ → ℤ) (n : ℕ) → sum_to (λ k. f k +ℤ g k) n ≡ sum_to f n +ℤ sum_to g n
sum_to-add f g zero = refl
sum_to-add f g (suc n) = ap (λ (z : ℤ). z +ℤ (f n +ℤ g n)) (sum_to-add f g n)
    ∙ swap_middle (sum_to f n) (sum_to g n) (f n) (g n)

-- a factor of every summand is one of the sum
pub sum_to-times : (f : ℕ → ℤ) (c : ℤ) (n : ℕ) → sum_to (λ k. f k *ℤ c) n ≡ sum_to f n *ℤ c
sum_to-times f c zero = sym (zero-*ℤ c)
sum_to-times f c (suc n) = ap (λ (z : ℤ). z +ℤ f n *ℤ c) (sum_to-times f c n) ∙ sym (times_sum (sum_to f n) (f n) c)

-- sums in either order
pub sum_to-swap : (f : ℕ → ℕ → ℤ) (n m : ℕ) → sum_to (λ i. sum_to (λ j. f i j) m) n
    ≡ sum_to (λ j. sum_to (λ i. f i j) n) m
sum_to-swap f zero m = sym (sum_to-zero m)
sum_to-swap f (suc n) m = ap (λ (z : ℤ). z +ℤ sum_to (f n) m) (sum_to-swap f n m)
    ∙ sym (sum_to-add (λ j. sum_to (λ i. f i j) n) (f n) m)

-- of summands of which one place counts alone
pub sum_to-miss : (f : ℕ → ℤ) (k n : ℕ) → n ≤ k → sum_to (λ i. cond (eqb k i) (f i) (pos 0)) n ≡ pos 0
sum_to-miss f k zero past = refl
sum_to-miss f k (suc n) past =
    let other : eqb k n ≡ false = grind arith in
    ap (λ (z : ℤ). z +ℤ cond (eqb k n) (f n) (pos 0)) (sum_to-miss f k n (omega (arith, past)))
    ∙ ap (λ (b : Bool). pos 0 +ℤ cond b (f n) (pos 0)) other

pub sum_to-pick : (f : ℕ → ℤ) (k n : ℕ) → k < n → sum_to (λ i. cond (eqb k i) (f i) (pos 0)) n ≡ f k
sum_to-pick f k zero there = absurd (omega (arith, there))
sum_to-pick f k (suc n) there = elim (cases_eq k n) [
  | inl same ↦
      let here : eqb k n ≡ true = grind (arith, same) in
      ap (λ (z : ℤ). z +ℤ cond (eqb k n) (f n) (pos 0)) (sum_to-miss f k n (omega (arith, same)))
      ∙ ap (λ (b : Bool). pos 0 +ℤ cond b (f n) (pos 0)) here ∙ zero_plus (f n) ∙ ap f (sym same)
  | inr other ↦
      let elsewhere : eqb k n ≡ false = ne_eqb k n other in
      ap (λ (z : ℤ). z +ℤ cond (eqb k n) (f n) (pos 0)) (sum_to-pick f k n (grind (arith, there, other)))
      ∙ ap (λ (b : Bool). f k +ℤ cond b (f n) (pos 0)) elsewhere ∙ sym (plus_zero (f k))
]

-- how large a sum can be
pub sum_to-size : (f : ℕ → ℤ) (b n : ℕ) → ((k : ℕ) → k < n → unsigned_abs (f k) ≤ b) → unsigned_abs (sum_to f n) ≤ n * b
sum_to-size f b zero small = omega arith
sum_to-size f b (suc n) small =
    let before : unsigned_abs (sum_to f n) ≤ n * b = sum_to-size f b n (λ k lt. small k (omega (arith, lt))) in
    let next : unsigned_abs (f n) ≤ b = small n (omega arith) in
    omega (arith, ints, before, next)

-- the same entries give the same sum
pub sum_of_entries-same : (rows cols : ℕ) (f g : ℕ → ℕ → ℤ) → ((i j : ℕ) → i < rows → j < cols → f i j ≡ g i j) →
    sum_of_entries rows cols f ≡ sum_of_entries rows cols g
sum_of_entries-same rows cols f g same = sum_to-same (λ i. sum_to (f i) cols) (λ i. sum_to (g i) cols) rows
    (λ i row. sum_to-same (f i) (g i) cols (λ j col. same i j row col))
