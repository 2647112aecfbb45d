-- Columns whose entries are gathered row by row.
use Rattle.std.proofs.Common.{◌≡◌, ℕ, ℤ, ◌+◌, ◌-◌, ◌<◌, ◌≤◌, Bool, true, false, cond, nat_lt, lt-ltb, List, [], ◌∷◌}
use Rattle.std.proofs.Common.{◌++◌, map, length, get_or, set, refl, sym, ap, ◌∙◌, subst, arith, inl, inr, Vec, All}
use Rattle.std.specs.declared.alloc.Global.{Global}
use Rattle.std.specs.List.{range_with_len}
use Rattle.std.proofs.lemmas.Bool.{cases_eq}
use Rattle.std.proofs.lemmas.List.{length-set, get_or-set_same, get_or-set_other, map-append}
use Rattle.std.proofs.lemmas.List.FromFn.{map-range_with_len_more}
use Rattle.cla_spec.specs.Matrix.{Matrix, entry}
use Rattle.cla_numbering.specs.Columns.{AreGathered}

-- the columns before the k-th have one entry more
abbrev pub taken_to : ℕ → ℕ → ℕ → ℕ
taken_to k i q = cond (nat_lt q k) (i + 1) i

not_less : (n : ℕ) → nat_lt n n ≡ false
not_less n = grind arith

-- no entries are taken yet
pub gathered-none : {N : Type 0} (value : N → ℤ) (m : Matrix) (first : ℕ) (columns : List (Vec N Global))
    → All (λ column. column.items ≡ []) columns
    → AreGathered value m first (λ _. 0) columns
gathered-none value m first columns none q d h = ap (map value) (none q d h)

-- the k-th column takes its entry of row i
pub gathered-more : {N : Type 0} (value : N → ℤ) (m : Matrix) (first i k : ℕ) (columns : List (Vec N Global))
    (old new : Vec N Global) (x : N) → k < length columns
    → old ≡ get_or columns k old → new.items ≡ old.items ++ x ∷ [] → value x ≡ entry m i (first + k)
    → AreGathered value m first (taken_to k i) columns
    → AreGathered value m first (taken_to (k + 1) i) (set columns k new)
gathered-more {N} value m first i k columns old new x there is push value_is before q d h = elim (cases_eq q k) [
  | inl same ↦ subst
      (λ r. map value (get_or (set columns k new) r d).items
      ≡ map (λ j. entry m j (first + r)) (range_with_len 0 (taken_to (k + 1) i r))) (sym same) own
  | inr other ↦ ap (λ c. map value c.items) (get_or-set_other columns k q new d other)
      ∙ before q d (omega (arith, h, length-set columns k new))
      ∙ ap (λ t. map (λ j. entry m j (first + q)) (range_with_len 0 (cond t (i + 1) i))) (beside other)
]
  where
    at : ℕ → ℤ
    at j = entry m j (first + k)

    beside : (q ≡ k → ⊥) → nat_lt q k ≡ nat_lt q (k + 1)
    beside other = grind (arith, other)

    own : map value (get_or (set columns k new) k d).items ≡ map at (range_with_len 0 (taken_to (k + 1) i k))
    own =
        ap (λ c. map value c.items) (get_or-set_same columns k new d there)
        ∙ ap (map value) push
        ∙ map-append value old.items (x ∷ [])
        ∙ ap (λ c. map value c.items ++ value x ∷ []) is
        ∙ ap (λ l. l ++ value x ∷ []) (before k old there)
        ∙ ap (λ t. map at (range_with_len 0 (cond t (i + 1) i)) ++ value x ∷ []) (not_less k)
        ∙ ap (λ z. map at (range_with_len 0 i) ++ z ∷ []) value_is
        ∙ sym (map-range_with_len_more at 0 i i (omega arith))
        ∙ ap (λ t. map at (range_with_len 0 (cond t (i + 1) i))) (sym (lt-ltb k (k + 1) (omega arith)))

-- the same, where the column is j of the matrix
pub gathered-next : {N : Type 0} (value : N → ℤ) (m : Matrix) (first i j : ℕ) (columns : List (Vec N Global))
    (old new : Vec N Global) (x : N) → first ≤ j → j - first < length columns → old ≡ get_or columns (j - first) old
    → new.items ≡ old.items ++ x ∷ [] → value x ≡ entry m i j
    → AreGathered value m first (taken_to (j - first) i) columns
    → AreGathered value m first (taken_to (j + 1 - first) i) (set columns (j - first) new)
gathered-next value m first i j columns old new x order there is push value_is before =
    let step : j - first + 1 ≡ j + 1 - first = omega (arith, order) in
    let same : first + (j - first) ≡ j = omega (arith, order) in
    subst (λ n. AreGathered value m first (taken_to n i) (set columns (j - first) new)) step
    (gathered-more value m first i (j - first) columns old new x there is push (value_is ∙ ap (entry m i) (sym same))
    before)

-- before the first column, and behind the last
pub gathered-before : {N : Type 0} (value : N → ℤ) (m : Matrix) (first i : ℕ) (columns : List (Vec N Global))
    → AreGathered value m first (λ _. i) columns → AreGathered value m first (taken_to 0 i) columns
gathered-before value m first i columns all q d h =
    all q d h ∙ ap (λ t. map (λ j. entry m j (first + q)) (range_with_len 0 (cond t (i + 1) i))) (sym (none q))
  where
    none : (q : ℕ) → nat_lt q 0 ≡ false
    none q = grind arith

pub gathered-behind : {N : Type 0} (value : N → ℤ) (m : Matrix) (first i k : ℕ) (columns : List (Vec N Global))
    → length columns ≡ k → AreGathered value m first (taken_to k i) columns
    → AreGathered value m first (λ _. i + 1) columns
gathered-behind value m first i k columns whole all q d h =
    all q d h ∙ ap (λ t. map (λ j. entry m j (first + q)) (range_with_len 0 (cond t (i + 1) i)))
    (lt-ltb q k (omega (arith, h, whole)))
