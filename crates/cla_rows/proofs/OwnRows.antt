-- Groups that have as many tuples as rows: each row has a tuple of its own.
use Rattle.std.proofs.Common.{◌≡◌, ℕ, zero, suc, ◌+◌, ◌<◌, ◌≤◌, List, length, ap, arith, inl, inr}
use Rattle.std.proofs.lemmas.Bool.{cases_eq, cases_lt}
use Rattle.cla_layout.proofs.Counts.{below_more, used_below}
use Rattle.cla_layout.specs.Groups.{code_of, occurrences_of, first_row_of}
use Rattle.cla_rows.specs.Grouped.{below, rank}
use Rattle.cla_rows.proofs.Ranks.{below_few, rank_below, ranks_apart}
use Rattle.cla_layout.proofs.Regroup.{first_row_there, code_of_first_row, first_row_least}

-- rows for n codes that are all used, and those of one of them
one_below : (codes : List ℕ) (n k : ℕ) → ((j : ℕ) → j < n → 0 < occurrences_of codes j) → k < n
    → n + occurrences_of codes k ≤ below codes n + 1
one_below codes zero k used there = absurd (omega (arith, there))
one_below codes (suc n) k used there =
    let next : suc n ≡ n + 1 = omega arith in
    let more = ap (below codes) next in
    let before : (j : ℕ) → j < n → 0 < occurrences_of codes j = λ j lt. used j (omega (arith, lt)) in
    elim (cases_eq k n) [
      | inl same ↦ (let count = ap (occurrences_of codes) same in
          omega (arith, more, count, below_more codes n, used_below codes n before))
      | inr other ↦ (let earlier : k < n = grind (arith, there, other) in
          omega (arith, more, below_more codes n, used n (omega arith), one_below codes n k before earlier))
    ]

-- so no code has two rows, and the first row of a row's code is the row
pub own_row : (codes : List ℕ) (n r : ℕ) → ((k : ℕ) → k < n → 0 < occurrences_of codes k) → n ≡ length codes →
    r < length codes
    → ((i : ℕ) → i < length codes → code_of codes i < n) → first_row_of codes (code_of codes r) ≡ r
own_row codes n r used own row in_tuples =
    let k = code_of codes r in
    let f = first_row_of codes k in
    let some : 0 < occurrences_of codes k = used k (in_tuples r row) in
    let once : occurrences_of codes k ≤ 1 = omega (
      arith,
      one_below codes n k used (in_tuples r row),
      below_few codes n,
      own,
    ) in
    elim (cases_lt f r) [
      | inl before ↦
          let same : code_of codes f ≡ k = code_of_first_row codes k some in
          let start = ap (below codes) same in
          let count = ap (occurrences_of codes) same in
          let next = ap (λ (j : ℕ). below codes (j + 1)) same in
          let first : rank codes f < below codes (k + 1) =
          omega (arith, rank_below codes f (first_row_there codes k some), next) in
          let this : rank codes r < below codes (k + 1) = rank_below codes r row in
          let ranks : rank codes f ≡ rank codes r = omega (arith, first, this, start, below_more codes k, once) in
          absurd (ranks_apart codes f r before row ranks)
      | inr after ↦ omega (arith, after, first_row_least codes r)
    ]
