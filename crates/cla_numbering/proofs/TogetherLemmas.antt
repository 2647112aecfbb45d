-- Columns that stand side by side, numbered row by row.
use Rattle.std.proofs.Common.{◌≡◌, ℕ, ◌+◌, ◌-◌, ◌<◌, ◌≤◌, false, cond, nat_eq, nat_lt, lt-ltb, List, [], ◌∷◌, ◌++◌}
use Rattle.std.proofs.Common.{length, get_or, set, refl, sym, ap, ◌∙◌, subst, arith, inl, inr}
use Rattle.std.specs.List.{position_or_len}
use Rattle.std.proofs.lemmas.Bool.{cases_eq}
use Rattle.std.proofs.lemmas.List.{length-set, get_or-set_same, get_or-set_other}
use Rattle.std.proofs.lemmas.List.FromFn.{map-range_with_len_more, length-map-range_with_len}
use Rattle.cla_spec.specs.Matrix.{Matrix, entry}
use Rattle.cla_grouping.specs.Numbering.{with_item, codes_from, firsts_from}
use Rattle.cla_grouping.proofs.Used.{few-firsts}
use Rattle.cla_numbering.specs.Columns.{place_in}
use Rattle.cla_numbering.specs.Tables.{no_number, number_put, table_put, next_put}
use Rattle.cla_numbering.specs.Together.{number_or, IsNumberedTo, places_to, AreNumberedTo}
use Rattle.cla_numbering.specs.declared.numbered.NumberedColumn.{NumberedColumn}
use Rattle.cla_numbering.proofs.TableLemmas.{IsNumbered, numbered_next, numbered_whole}
use Rattle.cla_numbering.proofs.GatherLemmas.{taken_to}

-- one more item at the end
codes_from-more : (seen xs : List ℕ) (p : ℕ) → codes_from nat_eq seen (xs ++ p ∷ [])
    ≡ codes_from nat_eq seen xs ++ position_or_len (nat_eq p) (firsts_from nat_eq seen xs) ∷ []
codes_from-more seen [] p = refl
codes_from-more seen (x ∷ xs) p =
    ap (λ l. position_or_len (nat_eq x) seen ∷ l) (codes_from-more (with_item nat_eq seen x) xs p)

firsts_from-more : (seen xs : List ℕ) (p : ℕ) → firsts_from nat_eq seen (xs ++ p ∷ [])
    ≡ with_item nat_eq (firsts_from nat_eq seen xs) p
firsts_from-more seen [] p = refl
firsts_from-more seen (x ∷ xs) p = firsts_from-more (with_item nat_eq seen x) xs p

-- one more row of a column
pub row-more : (places : List ℕ) (p code : ℕ) (old new : NumberedColumn) → IsNumberedTo places old
    → p < length old.table.items → old.distinct < no_number → code ≡ number_put old.table.items old.distinct p
    → new.table.items ≡ table_put old.table.items old.distinct p
    → new.distinct ≡ next_put old.table.items old.distinct p → new.codes.items ≡ old.codes.items ++ code ∷ []
    → IsNumberedTo (places ++ p ∷ []) new
row-more places p code old new is within few code_is table_is next_is push =
    let all = places ++ p ∷ [] in
    let seen = firsts_from nat_eq [] places in
    let before : IsNumbered old.table.items old.codes.items old.distinct (p ∷ []) all = record {
      seen = seen;
      holds = is.table;
      count = is.distinct;
      so_far = ap (λ l. l ++ position_or_len (nat_eq p) seen ∷ []) is.codes ∙ sym (codes_from-more [] places p);
      firsts = sym (firsts_from-more [] places p);
    } in
    let after = numbered_next old.table.items old.codes.items new.table.items new.codes.items old.distinct new.distinct
    code p [] (p ∷ []) all before refl within few code_is table_is next_is push in
    let whole = numbered_whole new.table.items new.codes.items new.distinct [] all refl after in
    record {
      codes = whole.0;
      distinct = whole.1;
      table = λ r. after.holds r ∙ ap (λ s. number_or s r) after.firsts;
    }

-- no more numbers than rows
pub few-numbers : (m : Matrix) (c n : ℕ) (column : NumberedColumn) → IsNumberedTo (places_to m c n) column
    → column.distinct ≤ n
few-numbers m c n column is =
    let few = few-firsts nat_eq [] (places_to m c n) in
    let rows = length-map-range_with_len (λ i. place_in (entry m i c)) 0 n in
    let count = is.distinct in
    omega (arith, count, few, rows)

not_less : (n : ℕ) → nat_lt n n ≡ false
not_less n = grind arith

-- the k-th column has the rows before row i
taken : (m : Matrix) (first i k : ℕ) (columns : List NumberedColumn) (old : NumberedColumn) → k < length columns
    → old ≡ get_or columns k old → AreNumberedTo m first (taken_to k i) columns
    → IsNumberedTo (places_to m (first + k) i) old
taken m first i k columns old there is before =
    subst (λ b. IsNumberedTo (places_to m (first + k) (cond b (i + 1) i)) old) (not_less k)
    (subst (IsNumberedTo (places_to m (first + k) (taken_to k i k))) (sym is) (before k old there))

pub column-few : (m : Matrix) (first i j : ℕ) (columns : List NumberedColumn) (old : NumberedColumn)
    → j - first < length columns → old ≡ get_or columns (j - first) old
    → AreNumberedTo m first (taken_to (j - first) i) columns → old.distinct ≤ i
column-few m first i j columns old there is before =
    few-numbers m (first + (j - first)) i old (taken m first i (j - first) columns old there is before)

-- it takes row i
column-more : (m : Matrix) (first i k place : ℕ) (columns : List NumberedColumn) (old new : NumberedColumn)
    → k < length columns → old ≡ get_or columns k old
    → ((places : List ℕ) → IsNumberedTo places old → IsNumberedTo (places ++ place ∷ []) new)
    → place ≡ place_in (entry m i (first + k)) → AreNumberedTo m first (taken_to k i) columns
    → AreNumberedTo m first (taken_to (k + 1) i) (set columns k new)
column-more m first i k place columns old new there is step place_is before q d h = elim (cases_eq q k) [
  | inl same ↦
      subst (λ r. IsNumberedTo (places_to m (first + r) (taken_to (k + 1) i r)) (get_or (set columns k new) r d))
      (sym same) own
  | inr other ↦
      subst (IsNumberedTo (places_to m (first + q) (taken_to (k + 1) i q)))
      (sym (get_or-set_other columns k q new d other))
      (subst (λ b. IsNumberedTo (places_to m (first + q) (cond b (i + 1) i)) (get_or columns q d)) (beside other)
      (before q d (omega (arith, h, length-set columns k new))))
]
  where
    at : ℕ → ℕ
    at j = place_in (entry m j (first + k))

    beside : (q ≡ k → ⊥) → nat_lt q k ≡ nat_lt q (k + 1)
    beside other = grind (arith, other)

    one : places_to m (first + k) i ++ place ∷ [] ≡ places_to m (first + k) (taken_to (k + 1) i k)
    one = ap (λ p. places_to m (first + k) i ++ p ∷ []) place_is
        ∙ sym (map-range_with_len_more at 0 i i (omega arith))
        ∙ ap (λ b. places_to m (first + k) (cond b (i + 1) i)) (sym (lt-ltb k (k + 1) (omega arith)))

    own : IsNumberedTo (places_to m (first + k) (taken_to (k + 1) i k)) (get_or (set columns k new) k d)
    own = subst (IsNumberedTo (places_to m (first + k) (taken_to (k + 1) i k)))
        (sym (get_or-set_same columns k new d there))
        (subst (λ l. IsNumberedTo l new) one
        (step (places_to m (first + k) i) (taken m first i k columns old there is before)))

-- the same, where the column is j of the matrix
pub column-next : (m : Matrix) (first i j place : ℕ) (columns : List NumberedColumn) (old new : NumberedColumn)
    → first ≤ j → j - first < length columns → old ≡ get_or columns (j - first) old
    → ((places : List ℕ) → IsNumberedTo places old → IsNumberedTo (places ++ place ∷ []) new)
    → place ≡ place_in (entry m i j) → AreNumberedTo m first (taken_to (j - first) i) columns
    → AreNumberedTo m first (taken_to (j + 1 - first) i) (set columns (j - first) new)
column-next m first i j place columns old new order there is step place_is before =
    let more : j - first + 1 ≡ j + 1 - first = omega (arith, order) in
    let same : first + (j - first) ≡ j = omega (arith, order) in
    subst (λ n. AreNumberedTo m first (taken_to n i) (set columns (j - first) new)) more
    (column-more m first i (j - first) place columns old new there is step
    (place_is ∙ ap (λ c. place_in (entry m i c)) (sym same)) before)
