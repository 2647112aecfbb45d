-- The first row that passes a test, found row by row.
use Rattle.std.proofs.Common.{◌≡◌, ℕ, ◌<◌, Bool, true, false, cond, nat_lt, lt-ltb, List, length, sym, ap, ◌∙◌, arith}
use Rattle.std.proofs.Common.{Some, None}
use Rattle.std.specs.List.{position_or_len, range_with_len}
use Rattle.std.proofs.lemmas.List.Sums.{position_or_len_is}
use Rattle.std.proofs.lemmas.List.FromFn.{length-range_with_len, get_or-range_with_len}
use Rattle.cla_layout.specs.Groups.{code_of}
use Rattle.cla_grouping.specs.Tuples.{code_where}

row_is : (n i : ℕ) → i < n → code_of (range_with_len 0 n) i ≡ i
row_is n i h = get_or-range_with_len 0 n i 0 h ∙ omega arith

-- the first row that passes
pub found_at : (test : ℕ → Bool) (codes : List ℕ) (i : ℕ) → i < length codes → ((j : ℕ) → j < i → test j ≡ false)
    → test i ≡ true → Some (code_of codes i) ≡ code_where test codes
found_at test codes i row before here =
    let n = length codes in
    let first : position_or_len test (range_with_len 0 n) ≡ i =
    position_or_len_is test (range_with_len 0 n) i 0 (omega (arith, row, length-range_with_len 0 n))
    (λ j lt. ap test (row_is n j (omega (arith, lt, row))) ∙ before j lt)
    (λ _. ap test (row_is n i row) ∙ here) in
    ap (λ b. cond b (Some (code_of codes i)) None) (sym (lt-ltb i n row))
    ∙ ap (λ j. cond (nat_lt j n) (Some (code_of codes j)) None) (sym first)

-- none passes
pub found_none : (test : ℕ → Bool) (codes : List ℕ) → ((j : ℕ) → j < length codes → test j ≡ false)
    → None ≡ code_where test codes
found_none test codes before =
    let n = length codes in
    let first : position_or_len test (range_with_len 0 n) ≡ n =
    position_or_len_is test (range_with_len 0 n) n 0 (omega (arith, length-range_with_len 0 n))
    (λ j lt. ap test (row_is n j lt) ∙ before j lt)
    (λ there. absurd (omega (arith, there, length-range_with_len 0 n))) in
    ap (λ b. cond b (Some (code_of codes n)) None) (sym (not_less n))
    ∙ ap (λ j. cond (nat_lt j n) (Some (code_of codes j)) None) (sym first)
  where
    not_less : (n : ℕ) → nat_lt n n ≡ false
    not_less n = grind arith
