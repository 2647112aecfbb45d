-- The tuples of columns that are numbered by the places of their entries.
use Rattle.std.proofs.Common.{◌≡◌, ℕ, ℤ, pos, zero, suc, ◌+◌, ◌*◌, ◌<◌, ◌≤◌, ◌&&◌, Bool, true, false, cond, nat_eq}
use Rattle.std.proofs.Common.{List, [], ◌∷◌, map, length, get_or, refl, sym, ap, ◌∙◌, subst, arith, eq-eqb, eqb-true}
use Rattle.std.proofs.Common.{Option, Some, None, inl, inr}
use Rattle.std.specs.List.{position_or_len, list_any, range_with_len}
use Rattle.std.specs.Ordering.{int_eq}
use Rattle.std.specs.Cmp.{nat_eq_equiv}
use Rattle.std.proofs.lemmas.Bool.{cases_Bool}
use Rattle.std.proofs.lemmas.List.{length-map, get_or-map}
use Rattle.std.proofs.lemmas.List.FromFn.{length-map-range_with_len, get_or-map-range_with_len}
use Rattle.cla_spec.specs.Matrix.{Matrix, entry, most_cells}
use Rattle.cla_spec.specs.Numbers.{InRange}
use Rattle.cla_num.specs.declared.number.TheConstants.{GREATEST_BITS}
use Rattle.cla_layout.specs.Groups.{code_of}
use Rattle.cla_layout.specs.Listed.{is_rest}
use Rattle.cla_grouping.specs.Numbering.{codes_from, firsts_from, codes_by, first_rows_by}
use Rattle.cla_grouping.specs.Tuples.{same_tuple, is_zero_row, code_where, tuples_in}
use Rattle.cla_grouping.proofs.CodeLemmas.{codes_from-map, firsts_from-map, codes-places, any-item, position-within}
use Rattle.cla_grouping.proofs.CodeLemmas.{code-equal}
use Rattle.cla_grouping.proofs.TupleLemmas.{same_tuple-equiv, zeros-class, class-code, length-codes_by}
use Rattle.cla_grouping.proofs.Used.{codes-used}
use Rattle.cla_numbering.specs.Columns.{place_in}
use Rattle.cla_numbering.specs.Tables.{no_number, number_at}
use Rattle.cla_numbering.specs.Together.{IsNumberedTo, places_to, AreNumberedTo}
use Rattle.cla_numbering.specs.declared.numbered.NumberedColumn.{NumberedColumn}
use Rattle.cla_numbering.proofs.ColumnLemmas.{codes_from-tests, firsts_from-tests}
use Rattle.cla_numbering.proofs.PlaceLemmas.{Fits, fits, places-tell, place-zero}
use Rattle.cla_numbering.proofs.TogetherLemmas.{few-numbers}
use Rattle.cla_stats.specs.Coded.{tuples_numbered, zero_numbered}
use Rattle.cla_stats.proofs.Firsts.{found_none}
use Rattle.cla_stats.proofs.Made.{tuples-made}

and_true : (b : Bool) → b ≡ (b && true)
and_true true = refl
and_true false = refl

rest-some : (o : Option ℕ) (k : ℕ) → is_rest o k ≡ true → o ≡ Some k
rest-some None k e = absurd (cc)
rest-some (Some a) k e = ap Some (sym (eqb-true k a e))

not_true : (b : Bool) → (b ≡ true → ⊥) → b ≡ false
not_true true h = absurd (h refl)
not_true false h = refl

module _ {N : Type 0} (bits : ℕ) (value : N → ℤ) (few : bits ≤ GREATEST_BITS)
    (within : (x : N) → InRange bits (value x)) where
  fits-at : (cells : List N) (k : ℕ) → Fits (get_or (map value cells) k (pos 0))
  fits-at [] k = omega arith
  fits-at (x ∷ xs) zero = fits bits (value x) few (within x)
  fits-at (x ∷ xs) (suc k) = fits-at xs k

  module _ (m : Matrix) (c : ℕ) (cells : List N) (are : map value cells ≡ m.cells) where
    abbrev place : ℕ → ℕ
    place i = place_in (entry m i c)

    abbrev same : ℕ → ℕ → Bool
    same = same_tuple m (c ∷ [])

    abbrev zeros : ℕ → Bool
    zeros = is_zero_row m (c ∷ [])

    entry-fits : (i : ℕ) → Fits (entry m i c)
    entry-fits i = subst (λ l. Fits (get_or l (i * m.cols + c) (pos 0))) are (fits-at cells (i * m.cols + c))

    same-place : (i j : ℕ) → nat_eq (place i) (place j) ≡ same i j
    same-place i j = places-tell (entry m i c) (entry m j c) (entry-fits i) (entry-fits j)
        ∙ and_true (int_eq (entry m i c) (entry m j c))

    zero-place : (i : ℕ) → nat_eq (place i) 0 ≡ zeros i
    zero-place i = ap (nat_eq (place i)) (sym place-zero)
        ∙ places-tell (entry m i c) (pos 0) (entry-fits i) (omega arith) ∙ and_true (int_eq (entry m i c) (pos 0))

    module _ (n : ℕ) (column : NumberedColumn) (is : IsNumberedTo (places_to m c n) column)
        (rows : n ≤ most_cells) where
      abbrev places : List ℕ
      places = places_to m c n

      abbrev firsts : List ℕ
      firsts = firsts_from nat_eq [] places

      codes-same : codes_from nat_eq [] places ≡ codes_by same n
      codes-same = codes_from-map nat_eq place [] (range_with_len 0 n)
          ∙ codes_from-tests (λ i j. nat_eq (place i) (place j)) same same-place [] (range_with_len 0 n)

      distinct-same : length firsts ≡ length (first_rows_by same n)
      distinct-same = ap length (firsts_from-map nat_eq place [] (range_with_len 0 n))
          ∙ length-map (firsts_from (λ i j. nat_eq (place i) (place j)) [] (range_with_len 0 n)) place
          ∙ ap length (firsts_from-tests (λ i j. nat_eq (place i) (place j)) same same-place [] (range_with_len 0 n))

      count : length places ≡ n
      count = length-map-range_with_len place 0 n

      place-at : (i : ℕ) → i < n → get_or places i 0 ≡ place i
      place-at i row = get_or-map-range_with_len place 0 n i i 0 row (omega arith)

      -- where 0 has a number, it is the code of a row of zeros
      zero-met : list_any (nat_eq 0) firsts ≡ true
          → zero_numbered column.table.items ≡ code_where zeros (codes_by same n)
      zero-met met =
          let k = position_or_len (nat_eq 0) firsts in
          let number : number_at column.table.items 0 ≡ k = is.table 0 ∙ ap (λ b. cond b k no_number) met in
          let small : k < length firsts = position-within (nat_eq 0) firsts met in
          let numbers = few-numbers m c n column is in
          let distinct = is.distinct in
          let known : nat_eq (number_at column.table.items 0) no_number ≡ false =
          not_true (nat_eq (number_at column.table.items 0) no_number)
          (λ e. let all = eqb-true (number_at column.table.items 0) no_number e in
          absurd (omega (arith, all, number, small, numbers, distinct, rows))) in
          let used = codes-used nat_eq [] places k (omega arith) small in
          let i = used.0 in
          let row : i < n = omega (arith, used.1, count) in
          let code : code_of (codes_by same n) i ≡ k = ap (λ l. code_of l i) (sym codes-same) ∙ used.2 in
          let at : position_or_len (nat_eq (get_or places i 0)) firsts ≡ k =
          sym (ap (λ l. get_or l i 0) (codes-places nat_eq nat_eq_equiv [] places)
          ∙ get_or-map (λ x. position_or_len (nat_eq x) firsts) places i 0 0 used.1) ∙ used.2 in
          let here : zeros i ≡ true = sym (zero-place i) ∙ ap (λ p. nat_eq p 0) (sym (place-at i row))
          ∙ sym (code-equal nat_eq nat_eq_equiv firsts (get_or places i 0) 0
          (any-item nat_eq nat_eq_equiv [] places i 0 used.1) met)
          ∙ eq-eqb (position_or_len (nat_eq (get_or places i 0)) firsts) k at in
          let found = rest-some (code_where zeros (codes_by same n)) (code_of (codes_by same n) i)
          (class-code same zeros (same_tuple-equiv m (c ∷ [])) (zeros-class m (c ∷ [])) n i row ∙ here) in
          ap (λ b. cond b None (Some (number_at column.table.items 0))) known ∙ ap Some (number ∙ sym code) ∙ sym found

      zero-not_met : list_any (nat_eq 0) firsts ≡ false
          → zero_numbered column.table.items ≡ code_where zeros (codes_by same n)
      zero-not_met none =
          let number : number_at column.table.items 0 ≡ no_number =
          is.table 0 ∙ ap (λ b. cond b (position_or_len (nat_eq 0) firsts) no_number) none in
          ap (λ b. cond b None (Some (number_at column.table.items 0)))
          (eq-eqb (number_at column.table.items 0) no_number number)
          ∙ found_none zeros (codes_by same n)
          (λ j there. not_true (zeros j) (passes j (omega (arith, there, length-codes_by same n))))
        where
          passes : (j : ℕ) → j < n → zeros j ≡ true → ⊥
          passes j row is_zero =
              let at : get_or places j 0 ≡ 0 = place-at j row ∙ eqb-true (place j) 0 (zero-place j ∙ is_zero) in
              let item = any-item nat_eq nat_eq_equiv [] places j 0 (omega (arith, row, count)) in
              let met : list_any (nat_eq 0) firsts ≡ true = ap (λ p. list_any (nat_eq p) firsts) (sym at) ∙ item in
              absurd (cc (met, none))

      zero-same : zero_numbered column.table.items ≡ code_where zeros (codes_by same n)
      zero-same = elim (cases_Bool (list_any (nat_eq 0) firsts)) [
        | inl met ↦ zero-met met
        | inr none ↦ zero-not_met none
      ]

    -- a numbered column has the tuples of the column
    pub numbered-tuples : (column : NumberedColumn) → IsNumberedTo (places_to m c m.rows) column → m.rows ≤ most_cells
        → tuples_numbered column ≡ tuples_in m (c ∷ [])
    numbered-tuples column is rows = tuples-made (tuples_numbered column) (tuples_in m (c ∷ [])) refl
        (is.distinct ∙ distinct-same m.rows column is rows) (is.codes ∙ codes-same m.rows column is rows)
        (zero-same m.rows column is rows)

-- the next column, and the others
module _ (m : Matrix) (first : ℕ) (rest after : List NumberedColumn) (x : NumberedColumn) (next : rest ≡ x ∷ after)
    (are : AreNumberedTo m first (λ _. m.rows) rest) where
  pub next-numbered : IsNumberedTo (places_to m first m.rows) x
  next-numbered =
      let same : first + 0 ≡ first = omega arith in
      subst (λ c. IsNumberedTo (places_to m c m.rows) x) same
      (subst (λ l. IsNumberedTo (places_to m (first + 0) m.rows) (get_or l 0 x)) next
      (are 0 x (omega (arith, ap length next))))

  pub after-numbered : AreNumberedTo m (first + 1) (λ _. m.rows) after
  after-numbered q d h =
      let same : first + suc q ≡ first + 1 + q = omega arith in
      subst (λ c. IsNumberedTo (places_to m c m.rows) (get_or after q d)) same
      (subst (λ l. IsNumberedTo (places_to m (first + suc q) m.rows) (get_or l (suc q) d)) next
      (are (suc q) d (omega (arith, h, ap length next))))
