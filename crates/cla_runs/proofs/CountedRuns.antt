-- Rows that are counted run by run.
use Rattle.std.proofs.Common.{◌≡◌, ℕ, zero, suc, ◌+◌, ◌-◌, ◌<◌, ◌≤◌, List, length, drop, set}
use Rattle.std.proofs.Common.{ap, subst, sym, ◌∙◌, arith}
use Rattle.std.proofs.lemmas.List.{get_or-set_same, set-set, length-drop}
use Rattle.std.proofs.lemmas.List.Sums.{count_by-le-length}
use Rattle.std.specs.Prelude.{nat_eq}
use Rattle.cla_layout.specs.Groups.{code_of, occurrences_of}
use Rattle.cla_rows.specs.RunBounds.{IsStretch}
use Rattle.cla_rows.proofs.CountedRows.{AreCountedFrom, counted_more}

-- m + 1 rows with one code are counted at once
pub run_counted : (codes : List ℕ) (tuples : ℕ) (counts first_rows : List ℕ) (code m i : ℕ) → i + m + 1 ≤ length codes →
    ((j : ℕ) → i ≤ j → j < i + m + 1 → code_of codes j ≡ code) → code < tuples →
    AreCountedFrom (i + m + 1) codes tuples counts first_rows →
    AreCountedFrom i codes tuples (set counts code (code_of counts code + (m + 1))) (set first_rows code i)
run_counted codes tuples counts first_rows code zero i within same below are =
    let one : i + 0 + 1 ≡ i + 1 = omega arith in
    counted_more i codes tuples counts first_rows code (omega (arith, within))
    (sym (same i (omega arith) (omega arith)))
    below (subst (λ (n : ℕ). AreCountedFrom n codes tuples counts first_rows) one are)
run_counted codes tuples counts first_rows code (suc m) i within same below are =
    let next : i + suc m + 1 ≡ (i + 1) + m + 1 = omega arith in
    let count = code_of counts code + (m + 1) in
    let all = code_of counts code + (suc m + 1) in
    let so_far = run_counted codes tuples counts first_rows code m (i + 1) (omega (arith, within))
    (λ j from to. same j (omega (arith, from)) (omega (arith, to))) below
    (subst (λ (n : ℕ). AreCountedFrom n codes tuples counts first_rows) next are) in
    let more = counted_more i codes tuples (set counts code count) (set first_rows code (i + 1)) code
    (omega (arith, within)) (sym (same i (omega arith) (omega arith))) below so_far in
    let read : code_of (set counts code count) code + 1 ≡ all =
    omega (arith, get_or-set_same counts code count 0 (omega (arith, below, are.a_count_each))) in
    let counts_are : set (set counts code count) code (code_of (set counts code count) code + 1) ≡ set counts code all =
    ap (set (set counts code count) code) read ∙ set-set counts code count all in
    subst (λ (xs : List ℕ). AreCountedFrom i codes tuples xs (set first_rows code i)) counts_are
    (subst (AreCountedFrom i codes tuples (set (set counts code count) code (code_of (set counts code count) code + 1)))
    (set-set first_rows code (i + 1) i) more)

-- the rows from row a to before row b, which have one code, are counted at once
pub stretch_counted : (codes : List ℕ) (tuples : ℕ) (counts first_rows : List ℕ) (code a b : ℕ) → a < b →
    IsStretch codes code a b → code < tuples → AreCountedFrom b codes tuples counts first_rows →
    AreCountedFrom a codes tuples (set counts code (code_of counts code + (b - a))) (set first_rows code a)
stretch_counted codes tuples counts first_rows code a b some is below are =
    let m = b - (a + 1) in
    let size : b - a ≡ m + 1 = omega (arith, some) in
    let up : b ≡ a + m + 1 = omega (arith, some) in
    subst (λ (n : ℕ). AreCountedFrom a codes tuples (set counts code (code_of counts code + n)) (set first_rows code a))
    (sym size)
    (run_counted codes tuples counts first_rows code m a (omega (arith, up, is.within)) (λ j from to. is.same j from
    (omega (arith, to, up))) below (subst (λ (n : ℕ). AreCountedFrom n codes tuples counts first_rows) up are))

-- a count fits where the number of rows does
pub stretch_fits : (codes : List ℕ) (k a b : ℕ) → a ≤ b → b ≤ length codes →
    occurrences_of (drop b codes) k + (b - a) ≤ length codes
stretch_fits codes k a b order within =
    omega (arith, count_by-le-length (λ code. nat_eq code k) (drop b codes), length-drop b codes, order, within)
