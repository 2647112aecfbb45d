-- Rows that are listed of codes.
use Rattle.std.proofs.Common.{◌≡◌, true, false, Bool, ℕ, zero, suc, ◌+◌, ◌<◌, ◌≤◌, List, [], length, cond, eqb}
use Rattle.std.proofs.Common.{refl, subst, ap, sym, ◌∙◌, arith, inl, inr}
use Rattle.std.specs.List.{list_any}
use Rattle.std.proofs.lemmas.Bool.{cases_eq, eq-eqb, ne_eqb, eqb-true}
use Rattle.std.proofs.lemmas.List.{length-append}
use Rattle.cla_layout.specs.Groups.{code_of, occurrences_of}
use Rattle.cla_rows.specs.Grouped.{below}
use Rattle.cla_layout.specs.Listed.{rows_of, rows_where}
use Rattle.cla_layout.proofs.Listings.{are_rows_where, row_listed, row_place, rows_of_count}
use Rattle.cla_layout.proofs.Counts.{below_more}
use Rattle.cla_rows.proofs.Ranks.{below_few}
use Rattle.cla_offsets.specs.Segments.{listed}
use Rattle.cla_rows.specs.Chains.{lists_to}
use Rattle.cla_rows.proofs.Chains.{lists_none, lists_more}

-- a list of the rows of a code, which rise; all of them, if the code isn't the rest
pub record AreListed (codes : List ℕ) (rest k : ℕ) (list : List ℕ) : Type 0 where
  pub within : (n : ℕ) → n < length list → code_of list n < length codes
  pub has : (n : ℕ) → n < length list → code_of codes (code_of list n) ≡ k
  pub rising : (m n : ℕ) → m < n → n < length list → code_of list m < code_of list n
  pub few : length list ≤ occurrences_of codes k
  pub all : (j : ℕ) → j < length codes → code_of codes j ≡ k → (k ≡ rest → ⊥) → (n : ℕ) × (n < length list)
      × (code_of list n ≡ j)

none_listed : (codes : List ℕ) (rest k : ℕ) → k ≡ rest → AreListed codes rest k []
none_listed codes rest k is = record {
  within = λ n there. absurd (omega (arith, there));
  has = λ n there. absurd (omega (arith, there));
  rising = λ m n order there. absurd (omega (arith, there));
  few = omega arith;
  all = λ j row here other. absurd (other is);
}

rows_are_listed : (codes : List ℕ) (rest k : ℕ) → AreListed codes rest k (rows_of codes k)
rows_are_listed codes rest k =
    let test = λ (i : ℕ). eqb (code_of codes i) k in
    let are = are_rows_where test (length codes) in
    record {
      within = are.below;
      has = λ n there. eqb-true _ _ (are.passes n there);
      rising = are.rising;
      few = omega (arith, rows_of_count codes k);
      all = λ j row here other.
          (let place = row_place test (length codes) j row (eq-eqb (code_of codes j) k here) in
          (length (rows_where test j), place.0, place.1));
    }

pub are_listed : (codes : List ℕ) (rest k : ℕ) (list : List ℕ) → list ≡ listed codes rest k →
    AreListed codes rest k list
are_listed codes rest k list is =
    let Are = λ (b : Bool). AreListed codes rest k (cond b [] (rows_of codes k)) in
    subst (AreListed codes rest k) (sym is) (elim (cases_eq k rest) [
      | inl same ↦ subst Are (sym (eq-eqb k rest same)) (none_listed codes rest k same)
      | inr other ↦ subst Are (sym (ne_eqb k rest other)) (rows_are_listed codes rest k)
    ])

-- the lists of codes below k
pub listed_below : (codes : List ℕ) (rest k : ℕ) → length (lists_to (listed codes rest) k) ≤ below codes k
listed_below codes rest zero = omega (arith, ap (λ (xs : List ℕ). length xs) (lists_none (listed codes rest)))
listed_below codes rest (suc k) =
    let f = listed codes rest in
    let next : k + 1 ≡ suc k = omega arith in
    let more = ap (λ (xs : List ℕ). length xs) (lists_more f k) ∙ length-append (lists_to f k) (f k) in
    subst (λ (n : ℕ). length (lists_to f n) ≤ below codes n) next
    (omega (arith, more, (are_listed codes rest k (f k) refl).few, below_more codes k, listed_below codes rest k))

pub listed_few : (codes : List ℕ) (rest k : ℕ) → length (lists_to (listed codes rest) k) ≤ length codes
listed_few codes rest k = omega (arith, listed_below codes rest k, below_few codes k)

-- whether a row is listed
list_has_if : (j : ℕ) (b : Bool) (xs : List ℕ) → list_any (λ o. eqb o j) (cond b [] xs)
    ≡ cond b false (list_any (λ o. eqb o j) xs)
list_has_if j true xs = refl
list_has_if j false xs = refl

pub list_has : (codes : List ℕ) (rest k j : ℕ) → j < length codes →
    list_any (λ o. eqb o j) (listed codes rest k) ≡ cond (eqb k rest) false (eqb (code_of codes j) k)
list_has codes rest k j row =
    list_has_if j (eqb k rest) (rows_of codes k)
    ∙ ap (λ (b : Bool). cond (eqb k rest) false b) (row_listed (λ i. eqb (code_of codes i) k) (length codes) j row)
