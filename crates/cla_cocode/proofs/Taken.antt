-- Columns that are taken in one by one.
use Rattle.std.proofs.Common.{◌≡◌, ℕ, zero, suc, ◌+◌, ◌-◌, ◌<◌, List, [], ◌∷◌, length, get_or, sym, ap, ◌∙◌, arith}
use Rattle.std.specs.List.{range_with_len, fold}
use Rattle.std.proofs.lemmas.List.FromFn.{length-map-range_with_len}
use Rattle.cla_spec.specs.Matrix.{Matrix}
use Rattle.cla_grouping.specs.Tuples.{TuplesOf, tuples_in}
use Rattle.cla_stats.specs.Coded.{tuples_of_each}

fold_range : {Y : Type 0} (f : Y → ℕ → Y) (n s : ℕ) (a : Y)
    → fold f a (range_with_len s (suc n)) ≡ f (fold f a (range_with_len s n)) (s + n)
fold_range f zero s a = ap (f a) (omega arith)
fold_range f (suc n) s a =
    fold_range f n (s + 1) (f a s) ∙ ap (f (fold f (f a s) (range_with_len (s + 1) n))) (omega arith)

pub one_more : {Y : Type 0} (f : Y → ℕ → Y) (n : ℕ) (a : Y)
    → f (fold f a (range_with_len 0 n)) n ≡ fold f a (range_with_len 0 (n + 1))
one_more f n a =
    let more : n + 1 ≡ suc n = omega arith in
    let from_zero : 0 + n ≡ n = omega arith in
    sym (ap (λ m. fold f a (range_with_len 0 m)) more ∙ fold_range f n 0 a
    ∙ ap (f (fold f a (range_with_len 0 n))) from_zero)

pub each-count : (m : Matrix) (first n : ℕ) → length (tuples_of_each m first n) ≡ n
each-count m first n = length-map-range_with_len (λ c. tuples_in m (c ∷ [])) first n

abbrev tail : List TuplesOf → List TuplesOf
tail [] = []
tail (t ∷ ts) = ts

-- the tuples of the next column, and those of the others
pub each-next : (m : Matrix) (first n : ℕ) (t : TuplesOf) (after : List TuplesOf)
    → t ∷ after ≡ tuples_of_each m first n
    → (0 < n) × (t ≡ tuples_in m (first ∷ [])) × (after ≡ tuples_of_each m (first + 1) (n - 1))
each-next m first zero t after e = absurd (omega (arith, ap length e))
each-next m first (suc n) t after e =
    let less : n ≡ suc n - 1 = omega arith in
    (omega arith, ap (λ l. get_or l 0 t) e, ap tail e ∙ ap (tuples_of_each m (first + 1)) less)
