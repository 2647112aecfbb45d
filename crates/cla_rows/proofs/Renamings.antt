-- New codes for the rows that are kept.
use Rattle.std.proofs.Common.{◌≡◌, Bool, ℕ, ◌+◌, ◌<◌, ◌≤◌, List, [], ◌∷◌, ◌++◌, length, set, cond, eqb}
use Rattle.std.proofs.Common.{refl, ap, sym, ◌∙◌, arith, inl, inr}
use Rattle.std.proofs.lemmas.Bool.{cases_eq, cases_lt, eq-eqb, ne_eqb}
use Rattle.std.proofs.lemmas.List.{get_or-set_same, get_or-set_other, length-set, length_push, get_or_push}
use Rattle.std.proofs.lemmas.List.{get_or_append_left}
use Rattle.std.proofs.lemmas.List.Folds.{position_or_len_push}
use Rattle.std.proofs.lemmas.List.Sums.{position_or_len_is, sum_by_push, sum_by-set, get_or-le-sum_by}
use Rattle.cla_layout.proofs.Counts.{one_if}
use Rattle.cla_layout.specs.Groups.{code_of, occurrences_of, first_row_of}
use Rattle.cla_rows.specs.Renaming.{AreNames, IsName}

here : (code k : ℕ) → code ≡ k → one_if k code ≡ 1
here code k same = ap (λ (b : Bool). cond b 1 0) (eq-eqb code k same)

elsewhere : (code k : ℕ) → (code ≡ k → ⊥) → one_if k code ≡ 0
elsewhere code k other = ap (λ (b : Bool). cond b 1 0) (ne_eqb code k other)

-- how many rows have a code, with one more row
pub occurrences_push : (codes : List ℕ) (code k : ℕ) → occurrences_of (codes ++ code ∷ []) k ≡ occurrences_of codes k
    + one_if k code
occurrences_push codes code k = sum_by_push (one_if k) codes code

-- there is a name left for a code that has none
pub name_left : (none : ℕ) (fresh order : List ℕ) (k : ℕ) → AreNames none fresh order → k < length fresh →
    code_of fresh k ≡ none
    → length order < none
name_left none fresh order k are there without =
    omega (
      arith,
      are.count,
      are.few,
      get_or-le-sum_by (one_if none) fresh k 0 there,
      here (code_of fresh k) none without,
    )

-- the next name is given to a code that has none
pub name_given : (none : ℕ) (fresh order : List ℕ) (k : ℕ) → AreNames none fresh order → k < length fresh →
    code_of fresh k ≡ none
    → AreNames none (set fresh k (length order)) (order ++ k ∷ [])
name_given none fresh order k are there without =
    let m = length order in
    let left : m < none = name_left none fresh order k are there without in
    let size : length (set fresh k m) ≡ length fresh = length-set fresh k m in
    let longer : length (order ++ k ∷ []) ≡ m + 1 = length_push order k in
    let last : code_of (order ++ k ∷ []) m ≡ k = get_or_push order k 0 m refl in
    let set_here : code_of (set fresh k m) k ≡ m = get_or-set_same fresh k m 0 there in
    record {
      names = λ j j_there j_named. elim (cases_eq j k) [
        | inl same ↦
            let is : code_of (set fresh k m) j ≡ m = ap (code_of (set fresh k m)) same ∙ set_here in
            (omega (arith, is, longer), ap (code_of (order ++ k ∷ [])) is ∙ last ∙ sym same)
        | inr other ↦
            let is : code_of (set fresh k m) j ≡ code_of fresh j = get_or-set_other fresh k j m 0 other in
            let old = are.names j (omega (arith, j_there, size)) (omega (arith, j_named, is)) in (
              omega (arith, is, longer, old.0),
              ap (code_of (order ++ k ∷ [])) is ∙ get_or_append_left order (k ∷ []) 0
                  (code_of fresh j) old.0 ∙ old.1,
            )
      ];
      named = λ n n_there. elim (cases_eq n m) [
        | inl same ↦
            let is : code_of (order ++ k ∷ []) n ≡ k = ap (code_of (order ++ k ∷ [])) same ∙ last in
            (omega (arith, is, size, there), ap (code_of (set fresh k m)) is ∙ set_here ∙ sym same)
        | inr other ↦
            let before : n < m = grind (arith, n_there, longer, other) in
            let old = are.named n before in
            let is : code_of (order ++ k ∷ []) n ≡ code_of order n = get_or_append_left order (k ∷ []) 0 n before in
            let apart =
            (λ (same : code_of order n ≡ k). absurd
            (omega (arith, ap (code_of fresh) same, old.1, without, left, before))) in (
              omega (arith, is, size, old.0),
              ap (code_of (set fresh k m)) is
                  ∙ get_or-set_other fresh k (code_of order n) m 0 apart ∙ old.1,
            )
      ];
      count = (let off : one_if none m ≡ 0 = elsewhere m none (λ same. absurd (omega (arith, same, left))) in
          let on : one_if none (code_of fresh k) ≡ 1 = here (code_of fresh k) none without in
          omega (arith, are.count, size, longer, off, on, sum_by-set (one_if none) fresh k m 0 there));
      few = omega (arith, are.few, size);
    }

-- the first i rows are renamed
pub record AreRenamedTo (i : ℕ) (old new order : List ℕ) : Type 0 where
  pub rows : length new ≡ i
  pub named : (j : ℕ) → j < i → code_of new j < length order
  pub same : (j : ℕ) → j < i → code_of order (code_of new j) ≡ code_of old j
  pub used : (n : ℕ) → n < length order → 0 < occurrences_of new n
  pub there : (n : ℕ) → n < length order → first_row_of new n < length new
  pub rising : (m n : ℕ) → m < n → n < length order → first_row_of new m < first_row_of new n

-- a code that has a row keeps its first
first_kept : (codes : List ℕ) (code k : ℕ) → first_row_of codes k < length codes
    → first_row_of (codes ++ code ∷ []) k ≡ first_row_of codes k
first_kept codes code k there =
    position_or_len_push (λ x. eqb x k) codes code
    ∙ ap (λ (b : Bool). cond b (length codes + cond (eqb code k) 0 1) (first_row_of codes k))
    (ne_eqb (first_row_of codes k) (length codes) (λ same. absurd (omega (arith, there, same))))

-- a code above all others has its first row at the end
first_last : (codes : List ℕ) (k : ℕ) → ((j : ℕ) → j < length codes → code_of codes j < k) →
    first_row_of (codes ++ k ∷ []) k ≡ length codes
first_last codes k below =
    position_or_len_is (λ x. eqb x k) (codes ++ k ∷ []) (length codes) 0 (omega (arith, length_push codes k))
    (λ j row. ne_eqb (code_of (codes ++ k ∷ []) j) k (λ same. absurd
    (omega (arith, same, below j row, get_or_append_left codes (k ∷ []) 0 j row))))
    (λ _. eq-eqb (code_of (codes ++ k ∷ []) (length codes)) k (get_or_push codes k 0 (length codes) refl))

-- one more row is renamed
pub renamed_more : (i : ℕ) (old new order order' : List ℕ) (name : ℕ) → AreRenamedTo i old new order
    → IsName (code_of old i) order order' name → AreRenamedTo (i + 1) old (new ++ name ∷ []) order'
renamed_more i old new order order' name are is =
    let kept : (n : ℕ) → n < length order → first_row_of (new ++ name ∷ []) n ≡ first_row_of new n =
    (λ n before. first_kept new name n (are.there n before)) in
    let fresh : length order ≤ name → first_row_of (new ++ name ∷ []) name ≡ length new =
    (λ past. first_last new name (λ j row. omega (arith, past, are.named j (omega (arith, row, are.rows))))) in
    let last : code_of (new ++ name ∷ []) i ≡ name = get_or_push new name 0 i are.rows in
    record {
      rows = omega (arith, are.rows, length_push new name);
      named = λ j there. elim (cases_eq j i) [
        | inl same ↦ omega (arith, ap (code_of (new ++ name ∷ [])) same, last, is.named)
        | inr other ↦
            let before : j < i = grind (arith, there, other) in
            omega (
              arith,
              are.named j before,
              is.longer,
              get_or_append_left new (name ∷ []) 0 j (omega (arith, before, are.rows)),
            )
      ];
      same = λ j there. elim (cases_eq j i) [
        | inl same ↦ ap (code_of order') (ap (code_of (new ++ name ∷ [])) same ∙ last) ∙ is.same
            ∙ ap (code_of old) (sym same)
        | inr other ↦
            let before : j < i = grind (arith, there, other) in
            ap (code_of order') (get_or_append_left new (name ∷ []) 0 j (omega (arith, before, are.rows)))
            ∙ is.kept (code_of new j) (are.named j before) ∙ are.same j before
      ];
      used = λ n there. elim (cases_lt n (length order)) [
        | inl before ↦ omega (arith, are.used n before, occurrences_push new name n)
        | inr past ↦ omega (arith, occurrences_push new name n, here name n (sym (is.alone n past there)))
      ];
      there = λ n there. elim (cases_lt n (length order)) [
        | inl before ↦ omega (arith, kept n before, are.there n before, length_push new name)
        | inr past ↦
            let is_name : n ≡ name = is.alone n past there in
            omega (
              arith,
              ap (first_row_of (new ++ name ∷ [])) is_name,
              fresh (omega (arith, past, is_name)),
              length_push new name,
            )
      ];
      rising = λ m n lower there. elim (cases_lt n (length order)) [
        | inl before ↦ omega (arith, kept m (omega (arith, lower, before)), kept n before, are.rising m n lower before)
        | inr past ↦
            let is_name : n ≡ name = is.alone n past there in
            elim (cases_lt m (length order)) [
              | inl before ↦ omega (
                arith,
                kept m before,
                are.there m before,
                ap (first_row_of (new ++ name ∷ [])) is_name,
                fresh
                    (omega (arith, past, is_name)),
              )
              | inr both ↦ absurd (omega (arith, lower, is_name, is.alone m both (omega (arith, lower, there))))
            ]
      ];
    }
