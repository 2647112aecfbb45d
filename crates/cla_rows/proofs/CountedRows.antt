-- Counts of rows, and first rows.
use Rattle.std.proofs.Common.{◌≡◌, Bool, not, ℕ, ◌+◌, ◌<◌, ◌≤◌, List, length, drop, set, cond, eqb, ap}
use Rattle.std.proofs.Common.{sym, ◌∙◌, arith, inl, inr}
use Rattle.std.proofs.lemmas.Bool.{cases_eq, eq-eqb, ne_eqb}
use Rattle.std.proofs.lemmas.List.{get_or-set_same, get_or-set_other, length-set, length-drop}
use Rattle.std.proofs.lemmas.List.Sums.{sum_by-drop_more, prefix_len-drop_yes, prefix_len-drop_no, count_by-le-length}
use Rattle.cla_layout.proofs.Counts.{one_if}
use Rattle.cla_layout.specs.Groups.{code_of, occurrences_of, first_row_of}

-- the rows from row i on are counted
pub record AreCountedFrom (i : ℕ) (codes : List ℕ) (tuples : ℕ) (counts first_rows : List ℕ) : Type 0 where
  pub a_count_each : length counts ≡ tuples
  pub a_row_each : length first_rows ≡ tuples
  pub count : (k : ℕ) → k < tuples → code_of counts k ≡ occurrences_of (drop i codes) k
  pub first_row : (k : ℕ) → k < tuples → code_of first_rows k ≡ i + first_row_of (drop i codes) k

-- what the row before has to do with each code
count_more : (i : ℕ) (codes : List ℕ) (k : ℕ) → i < length codes
    → occurrences_of (drop i codes) k ≡ one_if k (code_of codes i) + occurrences_of (drop (i + 1) codes) k
count_more i codes k row = sum_by-drop_more (one_if k) codes i 0 row

first_here : (i : ℕ) (codes : List ℕ) (k : ℕ) → i < length codes → code_of codes i ≡ k → first_row_of (drop i codes) k
    ≡ 0
first_here i codes k row same =
    prefix_len-drop_no (λ code. not (eqb code k)) codes i 0 row (ap not (eq-eqb (code_of codes i) k same))

first_later : (i : ℕ) (codes : List ℕ) (k : ℕ) → i < length codes → (code_of codes i ≡ k → ⊥)
    → first_row_of (drop i codes) k ≡ 1 + first_row_of (drop (i + 1) codes) k
first_later i codes k row other =
    prefix_len-drop_yes (λ code. not (eqb code k)) codes i 0 row (ap not (ne_eqb (code_of codes i) k other))

-- a count fits where the number of rows does
pub count_size : (i : ℕ) (codes : List ℕ) (k : ℕ) → occurrences_of (drop i codes) k ≤ length codes
count_size i codes k = omega (arith, count_by-le-length (λ code. eqb code k) (drop i codes), length-drop i codes)

-- the row before is counted
pub counted_more : (i : ℕ) (codes : List ℕ) (tuples : ℕ) (counts first_rows : List ℕ) (code : ℕ) → i < length codes
    → code ≡ code_of codes i → code < tuples →
    AreCountedFrom (i + 1) codes tuples counts first_rows →
    AreCountedFrom i codes tuples (set counts code (code_of counts code + 1))
    (set first_rows code i)
counted_more i codes tuples counts first_rows code row is below are = record {
  a_count_each = length-set counts code (code_of counts code + 1) ∙ are.a_count_each;
  a_row_each = length-set first_rows code i ∙ are.a_row_each;
  count = λ k there. elim (cases_eq k code) [
    | inl same ↦
        let on : one_if k (code_of codes i) ≡ 1 =
        ap (λ (b : Bool). cond b 1 0) (eq-eqb (code_of codes i) k (sym is ∙ sym same)) in
        ap (code_of (set counts code (code_of counts code + 1))) same
        ∙ get_or-set_same counts code (code_of counts code + 1) 0 (omega (arith, below, are.a_count_each))
        ∙ omega (arith, on, count_more i codes k row, are.count k there, ap (code_of counts) same)
    | inr other ↦
        let off : one_if k (code_of codes i) ≡ 0 =
        ap (λ (b : Bool). cond b 1 0) (ne_eqb (code_of codes i) k (λ same. other (sym same ∙ sym is))) in
        get_or-set_other counts code k (code_of counts code + 1) 0 other
        ∙ omega (arith, off, count_more i codes k row, are.count k there)
  ];
  first_row = λ k there. elim (cases_eq k code) [
    | inl same ↦
        ap (code_of (set first_rows code i)) same
        ∙ get_or-set_same first_rows code i 0 (omega (arith, below, are.a_row_each))
        ∙ omega (arith, first_here i codes k row (sym is ∙ sym same))
    | inr other ↦
        get_or-set_other first_rows code k i 0 other
        ∙ omega (arith, first_later i codes k row (λ same. other (sym same ∙ sym is)), are.first_row k there)
  ];
}
