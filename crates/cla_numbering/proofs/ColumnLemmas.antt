-- Numbering the entries of a column.
use Rattle.std.proofs.Common.{◌≡◌, ◌+◌, ℕ, ℤ, Bool, true, false, cond, not, ◌&&◌, ◌||◌, List, [], ◌∷◌, ◌++◌, map}
use Rattle.std.proofs.Common.{length, refl, sym, ap, ◌∙◌}
use Rattle.std.specs.List.{position_or_len, list_any, range_with_len}
use Rattle.std.specs.Ordering.{int_eq}
use Rattle.std.proofs.lemmas.List.{length-map}
use Rattle.cla_spec.specs.Matrix.{Matrix, entry}
use Rattle.cla_grouping.specs.Numbering.{with_item, codes_from, firsts_from, codes_by, first_rows_by}
use Rattle.cla_grouping.specs.Tuples.{same_tuple}
use Rattle.cla_grouping.proofs.CodeLemmas.{codes_from-map, firsts_from-map}

-- tests that agree everywhere number alike
any-tests : {A : Type 0} (p q : A → Bool) → ((x : A) → p x ≡ q x) → (xs : List A) → list_any p xs ≡ list_any q xs
any-tests p q h [] = refl
any-tests p q h (x ∷ xs) = ap (λ b. b || list_any p xs) (h x) ∙ ap (λ b. q x || b) (any-tests p q h xs)

position-tests : {A : Type 0} (p q : A → Bool) → ((x : A) → p x ≡ q x) → (xs : List A)
    → position_or_len p xs ≡ position_or_len q xs
position-tests p q h [] = refl
position-tests p q h (x ∷ xs) = ap (λ b. cond (not b) (1 + position_or_len p xs) 0) (h x)
    ∙ ap (λ n. cond (not (q x)) (1 + n) 0) (position-tests p q h xs)

pub codes_from-tests : {A : Type 0} (e f : A → A → Bool) → ((x y : A) → e x y ≡ f x y) → (seen xs : List A)
    → codes_from e seen xs ≡ codes_from f seen xs
codes_from-tests e f h seen [] = refl
codes_from-tests e f h seen (x ∷ xs) =
    ap (λ m. m ∷ codes_from e (with_item e seen x) xs) (position-tests (e x) (f x) (h x) seen)
    ∙ ap (λ b. position_or_len (f x) seen ∷ codes_from e (cond b seen (seen ++ x ∷ [])) xs)
    (any-tests (e x) (f x) (h x) seen)
    ∙ ap (λ t. position_or_len (f x) seen ∷ t) (codes_from-tests e f h (with_item f seen x) xs)

pub firsts_from-tests : {A : Type 0} (e f : A → A → Bool) → ((x y : A) → e x y ≡ f x y) → (seen xs : List A)
    → firsts_from e seen xs ≡ firsts_from f seen xs
firsts_from-tests e f h seen [] = refl
firsts_from-tests e f h seen (x ∷ xs) =
    ap (λ b. firsts_from e (cond b seen (seen ++ x ∷ [])) xs) (any-tests (e x) (f x) (h x) seen)
    ∙ firsts_from-tests e f h (with_item f seen x) xs

and_true : (b : Bool) → b ≡ (b && true)
and_true true = refl
and_true false = refl

-- the codes of the entries are those of the tuples of the one column
pub column-codes : {N : Type 0} (eq : N → N → Bool) (value : N → ℤ)
    → ((x y : N) → eq x y ≡ int_eq (value x) (value y)) → (m : Matrix) (c : ℕ) (items : List N)
    → map value items ≡ map (λ i. entry m i c) (range_with_len 0 m.rows)
    → codes_from eq [] items ≡ codes_by (same_tuple m (c ∷ [])) m.rows
column-codes eq value law m c items e =
    codes_from-tests eq (λ x y. int_eq (value x) (value y)) law [] items
    ∙ sym (codes_from-map int_eq value [] items)
    ∙ ap (codes_from int_eq []) e
    ∙ codes_from-map int_eq (λ i. entry m i c) [] (range_with_len 0 m.rows)
    ∙ codes_from-tests (λ i j. int_eq (entry m i c) (entry m j c)) (same_tuple m (c ∷ []))
    (λ i j. and_true (int_eq (entry m i c) (entry m j c))) [] (range_with_len 0 m.rows)

pub column-firsts : {N : Type 0} (eq : N → N → Bool) (value : N → ℤ)
    → ((x y : N) → eq x y ≡ int_eq (value x) (value y)) → (m : Matrix) (c : ℕ) (items : List N)
    → map value items ≡ map (λ i. entry m i c) (range_with_len 0 m.rows)
    → length (firsts_from eq [] items) ≡ length (first_rows_by (same_tuple m (c ∷ [])) m.rows)
column-firsts eq value law m c items e =
    ap length (firsts_from-tests eq (λ x y. int_eq (value x) (value y)) law [] items)
    ∙ sym (length-map (firsts_from (λ x y. int_eq (value x) (value y)) [] items) value)
    ∙ ap length (sym (firsts_from-map int_eq value [] items))
    ∙ ap (λ l. length (firsts_from int_eq [] l)) e
    ∙ ap length (firsts_from-map int_eq (λ i. entry m i c) [] (range_with_len 0 m.rows))
    ∙ length-map (firsts_from (λ i j. int_eq (entry m i c) (entry m j c)) [] (range_with_len 0 m.rows))
    (λ i. entry m i c)
    ∙ ap length
    (firsts_from-tests (λ i j. int_eq (entry m i c) (entry m j c)) (same_tuple m (c ∷ []))
    (λ i j. and_true (int_eq (entry m i c) (entry m j c))) [] (range_with_len 0 m.rows))
