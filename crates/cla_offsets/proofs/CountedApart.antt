-- Rows that are counted by code: those of the rest apart from the table of the others.
use Rattle.std.proofs.Common.{◌≡◌, Bool, not, ℕ, ◌+◌, ◌<◌, ◌≤◌, List, length, drop, set, cond, eqb, ap}
use Rattle.std.proofs.Common.{sym, ◌∙◌, arith, inl, inr}
use Rattle.std.proofs.lemmas.Bool.{cases_eq, eq-eqb, ne_eqb}
use Rattle.std.proofs.lemmas.List.{get_or-set_same, get_or-set_other, length-set}
use Rattle.std.proofs.lemmas.List.Sums.{sum_by-drop_more, prefix_len-drop_yes, prefix_len-drop_no}
use Rattle.cla_layout.proofs.Counts.{one_if}
use Rattle.cla_layout.specs.Groups.{code_of, occurrences_of, first_row_of}
use Rattle.cla_rows.specs.Counted.{AreCounted}

-- the rows from row i on are counted
pub record AreCountedApart (i : ℕ) (codes : List ℕ) (tuples rest : ℕ) (counts first_rows : List ℕ)
    (unlisted first_unlisted : ℕ) : Type 0 where
  pub a_count_each : length counts ≡ tuples
  pub a_row_each : length first_rows ≡ tuples
  pub count : (k : ℕ) → k < tuples → (k ≡ rest → ⊥) → code_of counts k ≡ occurrences_of (drop i codes) k
  pub first_row : (k : ℕ) → k < tuples → (k ≡ rest → ⊥) → code_of first_rows k ≡ i + first_row_of (drop i codes) k
  pub unlisted_are : unlisted ≡ occurrences_of (drop i codes) rest
  pub first_unlisted_is : first_unlisted ≡ i + first_row_of (drop i codes) rest

-- what the row before has to do with a code
module _ (i : ℕ) (codes : List ℕ) (k : ℕ) (row : i < length codes) where
  count_more : occurrences_of (drop i codes) k ≡ one_if k (code_of codes i) + occurrences_of (drop (i + 1) codes) k
  count_more = sum_by-drop_more (one_if k) codes i 0 row

  count_here : code_of codes i ≡ k → occurrences_of (drop i codes) k ≡ 1 + occurrences_of (drop (i + 1) codes) k
  count_here same =
      let on : one_if k (code_of codes i) ≡ 1 = ap (λ (b : Bool). cond b 1 0) (eq-eqb (code_of codes i) k same) in
      omega (arith, on, count_more)

  count_other : (code_of codes i ≡ k → ⊥) → occurrences_of (drop i codes) k ≡ occurrences_of (drop (i + 1) codes) k
  count_other other =
      let off : one_if k (code_of codes i) ≡ 0 = ap (λ (b : Bool). cond b 1 0) (ne_eqb (code_of codes i) k other) in
      omega (arith, off, count_more)

  first_here : code_of codes i ≡ k → first_row_of (drop i codes) k ≡ 0
  first_here same =
      prefix_len-drop_no (λ code. not (eqb code k)) codes i 0 row (ap not (eq-eqb (code_of codes i) k same))

  first_other : (code_of codes i ≡ k → ⊥) → first_row_of (drop i codes) k ≡ 1 + first_row_of (drop (i + 1) codes) k
  first_other other =
      prefix_len-drop_yes (λ code. not (eqb code k)) codes i 0 row (ap not (ne_eqb (code_of codes i) k other))

-- the row before is of the rest
pub apart_rest : (i : ℕ) (codes : List ℕ) (tuples rest : ℕ) (counts first_rows : List ℕ) (unlisted first_unlisted : ℕ)
    → i < length codes → code_of codes i ≡ rest
    → AreCountedApart (i + 1) codes tuples rest counts first_rows unlisted first_unlisted
    → AreCountedApart i codes tuples rest counts first_rows (unlisted + 1) i
apart_rest i codes tuples rest counts first_rows unlisted first_unlisted row is are = record {
  a_count_each = are.a_count_each;
  a_row_each = are.a_row_each;
  count = λ k there other. are.count k there other ∙ sym (count_other i codes k row (λ same. other (sym same ∙ is)));
  first_row = λ k there other.
      (let later = first_other i codes k row (λ same. other (sym same ∙ is)) in
      omega (arith, later, are.first_row k there other));
  unlisted_are = omega (arith, are.unlisted_are, count_here i codes rest row is);
  first_unlisted_is = omega (arith, first_here i codes rest row is);
}

-- it has another code
pub apart_other : (i : ℕ) (codes : List ℕ) (tuples rest : ℕ) (counts first_rows : List ℕ) (unlisted first_unlisted : ℕ)
    → i < length codes → (code_of codes i ≡ rest → ⊥) → code_of codes i < tuples
    → AreCountedApart (i + 1) codes tuples rest counts first_rows unlisted first_unlisted
    → AreCountedApart i codes tuples rest (set counts (code_of codes i) (code_of counts (code_of codes i) + 1))
    (set first_rows (code_of codes i) i) unlisted first_unlisted
apart_other i codes tuples rest counts first_rows unlisted first_unlisted row differs below are =
    let code = code_of codes i in
    let more = code_of counts code + 1 in
    record {
      a_count_each = length-set counts code more ∙ are.a_count_each;
      a_row_each = length-set first_rows code i ∙ are.a_row_each;
      count = λ k there other. elim (cases_eq k code) [
        | inl same ↦
            ap (code_of (set counts code more)) same
            ∙ get_or-set_same counts code more 0 (omega (arith, below, are.a_count_each))
            ∙ omega (arith, count_here i codes k row (sym same), are.count k there other, ap (code_of counts) same)
        | inr apart ↦
            get_or-set_other counts code k more 0 apart ∙ are.count k there other
            ∙ sym (count_other i codes k row (λ same. apart (sym same)))
      ];
      first_row = λ k there other. elim (cases_eq k code) [
        | inl same ↦
            ap (code_of (set first_rows code i)) same
            ∙ get_or-set_same first_rows code i 0 (omega (arith, below, are.a_row_each))
            ∙ omega (arith, first_here i codes k row (sym same))
        | inr apart ↦
            get_or-set_other first_rows code k i 0 apart
            ∙ omega (arith, first_other i codes k row (λ same. apart (sym same)), are.first_row k there other)
      ];
      unlisted_are = are.unlisted_are ∙ sym (count_other i codes rest row differs);
      first_unlisted_is = omega (arith, are.first_unlisted_is, first_other i codes rest row differs);
    }

-- all rows are counted, and those of the rest are put into the table
pub apart_put : (codes : List ℕ) (tuples rest : ℕ) (counts first_rows : List ℕ) (unlisted first_unlisted : ℕ)
    → rest < tuples → AreCountedApart 0 codes tuples rest counts first_rows unlisted first_unlisted
    → AreCounted codes tuples (set counts rest unlisted) (set first_rows rest first_unlisted)
apart_put codes tuples rest counts first_rows unlisted first_unlisted within are = record {
  a_count_each = length-set counts rest unlisted ∙ are.a_count_each;
  a_row_each = length-set first_rows rest first_unlisted ∙ are.a_row_each;
  count = λ k there. elim (cases_eq k rest) [
    | inl same ↦
        ap (code_of (set counts rest unlisted)) same
        ∙ get_or-set_same counts rest unlisted 0 (omega (arith, within, are.a_count_each))
        ∙ are.unlisted_are ∙ ap (occurrences_of codes) (sym same)
    | inr other ↦ get_or-set_other counts rest k unlisted 0 other ∙ are.count k there other
  ];
  first_row = λ k there. elim (cases_eq k rest) [
    | inl same ↦
        ap (code_of (set first_rows rest first_unlisted)) same
        ∙ get_or-set_same first_rows rest first_unlisted 0 (omega (arith, within, are.a_row_each))
        ∙ omega (arith, are.first_unlisted_is, ap (first_row_of codes) same)
    | inr other ↦
        get_or-set_other first_rows rest k first_unlisted 0 other ∙ omega (arith, are.first_row k there other)
  ];
}

-- there is no rest
pub apart_none : (codes : List ℕ) (tuples rest : ℕ) (counts first_rows : List ℕ) (unlisted first_unlisted : ℕ)
    → tuples ≤ rest → AreCountedApart 0 codes tuples rest counts first_rows unlisted first_unlisted
    → AreCounted codes tuples counts first_rows
apart_none codes tuples rest counts first_rows unlisted first_unlisted past are = record {
  a_count_each = are.a_count_each;
  a_row_each = are.a_row_each;
  count = λ k there. are.count k there (λ same. absurd (omega (arith, same, there, past)));
  first_row = λ k there. (let listed = are.first_row k there (λ same. absurd (omega (arith, same, there, past))) in
      omega (arith, listed));
}
