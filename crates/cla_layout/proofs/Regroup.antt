-- What is asked of all rows is asked of the dictionary.
use Rattle.std.proofs.Common.{◌≡◌, true, false, Bool, ℕ, ℤ, zero, suc, pos, ◌+◌, ◌<◌, ◌≤◌, ◌+ℤ◌, ◌*ℤ◌, List, [], ◌∷◌}
use Rattle.std.proofs.Common.{length, take, cond}
use Rattle.std.proofs.Common.{eqb, refl, ap, subst, sym, ◌∙◌, ◌↔◌, arith, inl, inr}
use Rattle.std.proofs.Math.IntN.{one, zero-*ℤ, *ℤ-one, *ℤ_comm}
use Rattle.std.proofs.lemmas.Bool.{cases_Bool, cases_lt, eqb-true, eq-eqb}
use Rattle.std.proofs.lemmas.Int.{ints}
use Rattle.std.proofs.lemmas.List.{take_all}
use Rattle.std.proofs.lemmas.List.Sums.{count_by_more_yes, count_by_more_no, passes_at_first, fails_before_first}
use Rattle.std.specs.List.{count_by}
use Rattle.cla_spec.specs.Numbers.{sum_to}
use Rattle.cla_spec.proofs.Sums.{sum_to-same, sum_to-swap, sum_to-pick, sum_to-times}
use Rattle.cla_num.specs.Places.{IsFirstPlace, NoneFails}
use Rattle.cla_layout.specs.Groups.{at, code_of, occurrences_of, first_row_of, gathered_to, IsGroup}
use Rattle.cla_layout.specs.GroupLaws.{AreCodesOf, IsExtreme}

-- the codes of a group
pub codes_of_group : (bits width : ℕ) (codes : List ℕ) (tuples : List (List ℤ)) → IsGroup bits width codes tuples
    → AreCodesOf (length tuples) codes
codes_of_group bits width codes tuples is = record { in_tuples = is.in_tuples; used = is.used }

-- the sum over the first n rows of a value of the row and its tuple, tuple by tuple
pub regroup_any : (f : ℕ → ℕ → ℤ) (codes : List ℕ) (m n : ℕ) → ((i : ℕ) → i < n → code_of codes i < m)
    → sum_to (λ i. f i (code_of codes i)) n
    ≡ sum_to (λ k. sum_to (λ i. cond (eqb (code_of codes i) k) (f i k) (pos 0)) n) m
regroup_any f codes m n below =
    sum_to-same (λ i. f i (code_of codes i)) (λ i. sum_to (λ k. cond (eqb (code_of codes i) k) (f i k) (pos 0)) m) n
    (λ i lt. sym (sum_to-pick (f i) (code_of codes i) m (below i lt)))
    ∙ sum_to-swap (λ i k. cond (eqb (code_of codes i) k) (f i k) (pos 0)) n m

chosen : (b : Bool) (x z : ℤ) → cond b (x *ℤ z) (pos 0) ≡ cond b x (pos 0) *ℤ z
chosen true x z = refl
chosen false x z = sym (zero-*ℤ z)

-- the same where the value is a weight of the row times a value of the tuple
pub regroup_weighted : (f : ℕ → ℤ) (codes : List ℕ) (weights : List ℤ) (m n : ℕ) →
    ((i : ℕ) → i < n → code_of codes i < m)
    → sum_to (λ i. at weights i *ℤ f (code_of codes i)) n ≡ sum_to (λ k. gathered_to codes weights k n *ℤ f k) m
regroup_weighted f codes weights m n below =
    regroup_any (λ i k. at weights i *ℤ f k) codes m n below
    ∙ sum_to-same (λ k. sum_to (λ i. cond (eqb (code_of codes i) k) (at weights i *ℤ f k) (pos 0)) n)
    (λ k. gathered_to codes weights k n *ℤ f k) m
    (λ k lt. sum_to-same (λ i. cond (eqb (code_of codes i) k) (at weights i *ℤ f k) (pos 0))
    (λ i. cond (eqb (code_of codes i) k) (at weights i) (pos 0) *ℤ f k) n
    (λ i l. chosen (eqb (code_of codes i) k) (at weights i) (f k))
    ∙ sum_to-times (λ i. cond (eqb (code_of codes i) k) (at weights i) (pos 0)) (f k) n)

one_more : (n : ℕ) → pos n +ℤ pos 1 ≡ pos (n + 1)
one_more n = omega (arith, ints)

none_more : (n : ℕ) → pos n +ℤ pos 0 ≡ pos n
none_more n = omega (arith, ints)

one_times : (z : ℤ) → pos 1 *ℤ z ≡ z
unfolding one
one_times z = *ℤ_comm (pos 1) z ∙ *ℤ-one z

-- the rows with a code, counted
counted_to : (codes : List ℕ) (k n : ℕ) → n ≤ length codes
    → sum_to (λ i. cond (eqb (code_of codes i) k) (pos 1) (pos 0)) n
    ≡ pos (count_by (λ code. eqb code k) (take n codes))
counted_to codes k zero within = refl
counted_to codes k (suc n) within =
    let next : n + 1 ≡ suc n = omega arith in
    let so_far = counted_to codes k n (omega (arith, within)) in
    elim (cases_Bool (eqb (code_of codes n) k)) [
      | inl here ↦
          let more = count_by_more_yes (λ code. eqb code k) codes n 0 (omega (arith, within)) here in
          ap (λ (z : ℤ). z +ℤ cond (eqb (code_of codes n) k) (pos 1) (pos 0)) so_far
          ∙ ap (λ (b : Bool). pos (count_by (λ code. eqb code k) (take n codes)) +ℤ cond b (pos 1) (pos 0)) here
          ∙ one_more (count_by (λ code. eqb code k) (take n codes)) ∙ ap (λ (c : ℕ). pos c) (sym more)
          ∙ ap (λ (j : ℕ). pos (count_by (λ code. eqb code k) (take j codes))) next
      | inr elsewhere ↦
          let same = count_by_more_no (λ code. eqb code k) codes n 0 (omega (arith, within)) elsewhere in
          ap (λ (z : ℤ). z +ℤ cond (eqb (code_of codes n) k) (pos 1) (pos 0)) so_far
          ∙ ap (λ (b : Bool). pos (count_by (λ code. eqb code k) (take n codes)) +ℤ cond b (pos 1) (pos 0)) elsewhere
          ∙ none_more (count_by (λ code. eqb code k) (take n codes)) ∙ ap (λ (c : ℕ). pos c) (sym same)
          ∙ ap (λ (j : ℕ). pos (count_by (λ code. eqb code k) (take j codes))) next
    ]

-- how many rows have a code, as a sum over the rows
pub counted : (codes : List ℕ) (k : ℕ)
    → sum_to (λ i. cond (eqb (code_of codes i) k) (pos 1) (pos 0)) (length codes) ≡ pos (occurrences_of codes k)
counted codes k =
    counted_to codes k (length codes) (omega arith)
    ∙ ap (λ (cs : List ℕ). pos (count_by (λ code. eqb code k) cs)) (take_all (length codes) codes (omega arith))

-- the sum over the rows of a value of the row's tuple
pub regroup : (f : ℕ → ℤ) (codes : List ℕ) (m : ℕ) → ((i : ℕ) → i < length codes → code_of codes i < m)
    → sum_to (λ i. f (code_of codes i)) (length codes) ≡ sum_to (λ k. pos (occurrences_of codes k) *ℤ f k) m
regroup f codes m below =
    regroup_any (λ i k. f k) codes m (length codes) below
    ∙ sum_to-same (λ k. sum_to (λ i. cond (eqb (code_of codes i) k) (f k) (pos 0)) (length codes))
    (λ k. pos (occurrences_of codes k) *ℤ f k) m
    (λ k lt. sum_to-same (λ i. cond (eqb (code_of codes i) k) (f k) (pos 0))
    (λ i. cond (eqb (code_of codes i) k) (pos 1) (pos 0) *ℤ f k)
    (length codes)
    (λ i l. ap (λ (z : ℤ). cond (eqb (code_of codes i) k) z (pos 0)) (sym (one_times (f k)))
    ∙ chosen (eqb (code_of codes i) k) (pos 1)
    (f k))
    ∙ sum_to-times (λ i. cond (eqb (code_of codes i) k) (pos 1) (pos 0)) (f k) (length codes)
    ∙ ap (λ (z : ℤ). z *ℤ f k) (counted codes k))

-- a code that occurs has a first row, which has the code
pub first_row_there : (codes : List ℕ) (k : ℕ) → 0 < occurrences_of codes k → first_row_of codes k < length codes
first_row_there [] k some = absurd (omega (arith, some))
first_row_there (code ∷ codes) k some = elim (cases_Bool (eqb code k)) [
  | inl here ↦ rw here (omega arith)
  | inr elsewhere ↦ let later = first_row_there codes k (rw elsewhere at some) in rw elsewhere (omega (arith, later))
]

pub code_of_first_row : (codes : List ℕ) (k : ℕ) → 0 < occurrences_of codes k → code_of codes (first_row_of codes k) ≡ k
code_of_first_row codes k some =
    eqb-true _ _ (passes_at_first (λ code. eqb code k) codes 0 (first_row_there codes k some))

-- and no row with the code stands before it
pub first_row_least : (codes : List ℕ) (i : ℕ) → first_row_of codes (code_of codes i) ≤ i
first_row_least codes i = elim (cases_lt i (first_row_of codes (code_of codes i))) [
  | inl before ↦
      let not_yet : eqb (code_of codes i) (code_of codes i) ≡ false =
      fails_before_first (λ code. eqb code (code_of codes i)) codes i 0 before in
      let is : eqb (code_of codes i) (code_of codes i) ≡ true = eq-eqb _ _ refl in
      absurd (cc)
  | inr after ↦ after
]

-- a row whose tuple reaches a value, and the first row of such a tuple
pub extremes_regroup : (n : ℕ) (codes : List ℕ) (Before : ℤ → ℤ → Type 0) (f : ℕ → ℤ) (v : ℤ) → AreCodesOf n codes
    → IsExtreme Before (λ i. f (code_of codes i)) (length codes) v ↔ IsExtreme Before f n v
extremes_regroup n codes Before f v are = (
  λ rows. record {
    reached = (code_of codes rows.reached.0, are.in_tuples rows.reached.0 rows.reached.1, rows.reached.2);
    before = λ k lt. (let is = code_of_first_row codes k (are.used k lt) in subst (λ (c : ℕ). Before v (f c)) is
        (rows.before (first_row_of codes k) (first_row_there codes k (are.used k lt))));
  },
  λ tuples. record {
    reached = (let k = tuples.reached.0 in let used = are.used k tuples.reached.1 in
        (first_row_of codes k, first_row_there codes k used, ap f (code_of_first_row codes k used) ∙ tuples.reached.2));
    before = λ i lt. tuples.before (code_of codes i) (are.in_tuples i lt);
  },
)

-- the first cell that fails
pub first_places_regroup : (n width : ℕ) (codes : List ℕ) (place : ℕ → ℕ → ℕ) (Fails : ℕ → ℕ → Type 0) (p : ℕ) →
    AreCodesOf n codes
    → ((i j c : ℕ) → i ≤ j → place i c ≤ place j c)
    → IsFirstPlace (length codes) width place (λ i c. Fails (code_of codes i) c) p ↔ IsFirstPlace n width
    (λ k c. place (first_row_of codes k) c) Fails p
first_places_regroup n width codes place Fails p are rises = (
  λ rows.
      (let i = rows.reached.0 in
      let c = rows.reached.1 in
      let k = code_of codes i in
      let k_there : k < n = are.in_tuples i rows.reached.2 in
      let used = are.used k k_there in
      let first = first_row_of codes k in
      let fails : Fails (code_of codes first) c = subst (λ (q : ℕ). Fails q c) (sym (code_of_first_row codes k used))
      rows.reached.5 in
      let not_before : p ≤ place first c = rows.least first c (first_row_there codes k used) rows.reached.3 fails in
      let not_after : place first c ≤ place i c = rises first i c (first_row_least codes i) in
      record {
        reached = (k, c, k_there, rows.reached.3, omega (arith, not_before, not_after, rows.reached.4), rows.reached.5);
        least =
            λ k c lt col fails. rows.least (first_row_of codes k) c (first_row_there codes k (are.used k lt)) col
            (subst (λ (q : ℕ). Fails q c) (sym (code_of_first_row codes k (are.used k lt))) fails);
      }),
  λ tuples.
      (let k = tuples.reached.0 in
      let c = tuples.reached.1 in
      let used = are.used k tuples.reached.2 in
      record {
        reached = (
          first_row_of codes k,
          c,
          first_row_there codes k used,
          tuples.reached.3,
          tuples.reached.4,
          subst
              (λ (q : ℕ). Fails q c) (sym (code_of_first_row codes k used)) tuples.reached.5,
        );
        least = λ i c lt col fails.
            (let from_first : p ≤ place (first_row_of codes (code_of codes i)) c = tuples.least (code_of codes i) c
            (are.in_tuples i lt) col fails in
            omega (arith, from_first, rises (first_row_of codes (code_of codes i)) i c (first_row_least codes i)));
      }),
)

-- no cell fails
pub faults_regroup : (n width : ℕ) (codes : List ℕ) (Fails : ℕ → ℕ → Type 0) → AreCodesOf n codes
    → NoneFails (length codes) width (λ i c. Fails (code_of codes i) c) ↔ NoneFails n width Fails
faults_regroup n width codes Fails are = (
  λ rows k c lt col fails. rows (first_row_of codes k) c (first_row_there codes k (are.used k lt)) col
      (subst (λ (q : ℕ). Fails q c) (sym (code_of_first_row codes k (are.used k lt))) fails),
  λ tuples i c lt col fails. tuples (code_of codes i) c (are.in_tuples i lt) col fails,
)
