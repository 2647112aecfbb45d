-- The rest of the tuples of a group.
use Rattle.std.proofs.Common.{◌≡◌, true, false, Bool, Some, None, ℕ, ℤ, ◌<◌, List, [], length, get_or, cond, ltb}
use Rattle.std.proofs.Common.{refl, ap, sym, ◌∙◌, arith}
use Rattle.std.specs.List.{position_or_len}
use Rattle.std.specs.Option.{unwrap_or}
use Rattle.std.proofs.lemmas.Bool.{lt-ltb, le-ltb}
use Rattle.std.proofs.lemmas.List.Sums.{position_or_len_is}
use Rattle.cla_layout.specs.Listed.{is_zero, rest_of, numbered_rest}

-- the first tuple of zeros is the rest
pub rest_found : (codes : List ℕ) (tuples : List (List ℤ)) (k : ℕ) → k < length tuples
    → ((j : ℕ) → j < k → is_zero (get_or tuples j []) ≡ false) → is_zero (get_or tuples k []) ≡ true →
    Some k ≡ rest_of codes tuples
rest_found codes tuples k there others zero =
    let place = position_or_len_is is_zero tuples k [] (omega (arith, there)) others (λ _. zero) in
    sym (ap (numbered_rest (length tuples)) place
    ∙ ap (λ (b : Bool). cond b (Some k) None) (lt-ltb k (length tuples) there))

-- and where there is none, there is no rest
pub rest_missed : (codes : List ℕ) (tuples : List (List ℤ)) →
    ((j : ℕ) → j < length tuples → is_zero (get_or tuples j []) ≡ false)
    → None ≡ rest_of codes tuples
rest_missed codes tuples others =
    let n = length tuples in
    let place = position_or_len_is is_zero tuples n [] (omega arith) others (λ there. absurd (omega (arith, there))) in
    sym (ap (numbered_rest n) place ∙ ap (λ (b : Bool). cond b (Some n) None) (le-ltb n n (omega arith)))

kept_if : (k n : ℕ) (b : Bool) → ltb k n ≡ b → numbered_rest n (unwrap_or (cond b (Some k) None) n)
    ≡ cond b (Some k) None
kept_if k n true is = ap (λ (t : Bool). cond t (Some k) None) is
kept_if k n false is = ap (λ (t : Bool). cond t (Some n) None) (le-ltb n n (omega arith))

-- the rest, kept as a number
pub rest_kept : (codes : List ℕ) (tuples : List (List ℤ)) →
    numbered_rest (length tuples) (unwrap_or (rest_of codes tuples) (length tuples)) ≡ rest_of codes tuples
rest_kept codes tuples = let k = position_or_len is_zero tuples in
    kept_if k (length tuples) (ltb k (length tuples)) refl
