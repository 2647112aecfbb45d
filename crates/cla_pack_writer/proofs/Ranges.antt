-- Ranges of numbers, and things that are put one by one.
use Rattle.std.proofs.Common.{◌≡◌, ℕ, zero, suc, ◌+◌, ◌<◌, List, [], ◌∷◌, ◌++◌, refl, sym, ap, ◌∙◌, arith}
use Rattle.std.specs.List.{flat_map, range_with_len}

from_here : (a b n : ℕ) → a ≡ b → range_with_len a n ≡ range_with_len b n
from_here a b n e = ap (λ (m : ℕ). range_with_len m n) e

pub range_parts : (a n m : ℕ) → range_with_len a (n + m) ≡ range_with_len a n ++ range_with_len (a + n) m
range_parts a zero m =
    let e : a ≡ a + 0 = omega arith in
    let z : 0 + m ≡ m = omega arith in
    ap (range_with_len a) z ∙ from_here a (a + 0) m e
range_parts a (suc n) m =
    let e : (a + 1) + n ≡ a + suc n = omega arith in
    let s : suc n + m ≡ suc (n + m) = omega arith in
    ap (range_with_len a) s ∙ ap (λ (t : List ℕ). a ∷ t)
    (range_parts (a + 1) n m
    ∙ ap (λ (t : List ℕ). range_with_len (a + 1) n ++ t) (from_here ((a + 1) + n) (a + suc n) m e))

-- one more number of a range
pub range_more : (a n : ℕ) → range_with_len a (n + 1) ≡ range_with_len a n ++ (a + n) ∷ []
range_more a n = range_parts a n 1

-- the same pieces in another range
pub pieces_moved : {A : Type 0} (f g : ℕ → List A) (a b n : ℕ) → ((i : ℕ) → i < n → f (a + i) ≡ g (b + i))
    → flat_map f (range_with_len a n) ≡ flat_map g (range_with_len b n)
pieces_moved f g a b zero same = refl
pieces_moved f g a b (suc n) same =
    let x : a ≡ a + 0 = omega arith in
    let y : b + 0 ≡ b = omega arith in
    let first : f a ≡ g b = ap f x ∙ same 0 (omega arith) ∙ ap g y in
    let more = pieces_moved f g (a + 1) (b + 1) n (λ i lt.
    let p : (a + 1) + i ≡ a + (i + 1) = omega arith in
    let q : b + (i + 1) ≡ (b + 1) + i = omega arith in
    ap f p ∙ same (i + 1) (omega (arith, lt)) ∙ ap g q) in
    rw (first, more) refl

pub range_next : (n : ℕ) → range_with_len 0 n ++ n ∷ [] ≡ range_with_len 0 (n + 1)
range_next n =
    let z : n ≡ 0 + n = omega arith in
    ap (λ (m : ℕ). range_with_len 0 n ++ m ∷ []) z ∙ sym (range_more 0 n)
