-- There are no more tuples than rows.
use Rattle.std.proofs.Common.{◌≡◌, ℕ, zero, suc, ◌+◌, ◌<◌, ◌≤◌, List, [], ◌∷◌, length, cond, eqb, ltb, refl, ap, arith}
use Rattle.std.proofs.lemmas.Bool.Decides.{nat_tests}
use Rattle.std.specs.List.{count_by}
use Rattle.std.proofs.lemmas.List.Sums.{sum_by-cons, count_by-le-length}
use Rattle.cla_layout.specs.Groups.{occurrences_of}

-- 1 where a code is this one
abbrev pub one_if : ℕ → ℕ → ℕ
one_if k code = cond (eqb code k) 1 0

-- 1 where a code is below this one
abbrev pub below_if : ℕ → ℕ → ℕ
below_if n code = cond (ltb code n) 1 0

below_or_here : (code n : ℕ) → below_if (n + 1) code ≡ below_if n code + one_if n code
below_or_here code n = grind (arith, nat_tests)

-- the codes below the next one
pub below_more : (codes : List ℕ) (n : ℕ)
    → count_by (λ code. ltb code (n + 1)) codes ≡ count_by (λ code. ltb code n) codes + occurrences_of codes n
below_more [] n = refl
below_more (code ∷ codes) n =
    omega (
      arith,
      sum_by-cons (below_if (n + 1)) code codes,
      sum_by-cons (below_if n) code codes,
      sum_by-cons (one_if n) code codes,
      below_or_here code n,
      below_more codes n,
    )

pub used_below : (codes : List ℕ) (n : ℕ) → ((k : ℕ) → k < n → 0 < occurrences_of codes k) →
    n ≤ count_by (λ code. ltb code n) codes
used_below codes zero used = omega arith
used_below codes (suc n) used =
    let next : suc n ≡ n + 1 = omega arith in
    let more = ap (λ (m : ℕ). count_by (λ code. ltb code m) codes) next in
    omega (
      arith,
      more,
      used_below codes n (λ k there. used k (omega (arith, there))),
      used n (omega arith),
      below_more codes n,
    )

-- where each tuple has a row, there are no more tuples than rows
pub used_few : (codes : List ℕ) (n : ℕ) → ((k : ℕ) → k < n → 0 < occurrences_of codes k) → n ≤ length codes
used_few codes n used = omega (arith, used_below codes n used, count_by-le-length (λ code. ltb code n) codes)
