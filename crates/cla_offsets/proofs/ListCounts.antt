-- How many rows each code has, and the first of them, by lists of rows.
use Rattle.std.proofs.Common.{◌≡◌, Bool, ℕ, zero, suc, ◌+◌, ◌-◌, ◌<◌, ◌≤◌, List, [], ◌∷◌, ◌++◌, length, cond, eqb}
use Rattle.std.proofs.Common.{refl, ap}
use Rattle.std.proofs.Common.{subst, sym, ◌∙◌, arith, inl, inr}
use Rattle.std.proofs.lemmas.Bool.{cases_eq, eq-eqb, ne_eqb, eqb-true}
use Rattle.std.proofs.lemmas.Bool.Decides.{nat_tests}
use Rattle.std.proofs.lemmas.List.{length-append, get_or_push, get_or_append_left}
use Rattle.std.proofs.lemmas.List.Sums.{sum_by-cons}
use Rattle.cla_layout.specs.Groups.{code_of, occurrences_of, first_row_of}
use Rattle.cla_layout.specs.Listed.{rows_where, rows_of}
use Rattle.cla_layout.proofs.Columns.{no_place}
use Rattle.cla_layout.proofs.Counts.{below_if, below_more}
use Rattle.cla_layout.proofs.Listings.{are_rows_where, row_place, rows_of_count}
use Rattle.cla_layout.proofs.Regroup.{first_row_there, code_of_first_row, first_row_least}
use Rattle.cla_rows.specs.Counted.{AreCounted}
use Rattle.cla_rows.specs.Chains.{lists_to}
use Rattle.cla_rows.specs.Grouped.{below}
use Rattle.cla_rows.proofs.Chains.{lists_none, lists_more}
use Rattle.cla_rows.proofs.Ranks.{below_none}
use Rattle.cla_offsets.specs.Segments.{listed}
use Rattle.cla_offsets.specs.RowLists.{AreRowLists}
use Rattle.cla_offsets.proofs.CountedApart.{AreCountedApart}

-- what is listed of a code
list_of_rest : (codes : List ℕ) (rest k : ℕ) → k ≡ rest → listed codes rest k ≡ []
list_of_rest codes rest k same = ap (λ (b : Bool). cond b [] (rows_of codes k)) (eq-eqb k rest same)

list_of_other : (codes : List ℕ) (rest k : ℕ) → (k ≡ rest → ⊥) → listed codes rest k ≡ rows_of codes k
list_of_other codes rest k other = ap (λ (b : Bool). cond b [] (rows_of codes k)) (ne_eqb k rest other)

pub list_count : (codes : List ℕ) (rest k : ℕ) → (k ≡ rest → ⊥) → length (listed codes rest k) ≡ occurrences_of codes k
list_count codes rest k other =
    ap (λ (xs : List ℕ). length xs) (list_of_other codes rest k other) ∙ rows_of_count codes k

has_code : (codes : List ℕ) (k m : ℕ) → m < length (rows_of codes k) → code_of codes (code_of (rows_of codes k) m) ≡ k
has_code codes k m there =
    eqb-true _ _ ((are_rows_where (λ i. eqb (code_of codes i) k) (length codes)).passes m there)

-- a code without rows
no_row : (codes : List ℕ) (k : ℕ) → occurrences_of codes k ≡ 0 → first_row_of codes k ≡ length codes
no_row codes k none =
    no_place codes k (λ i there same.
    (let place = row_place (λ m. eqb (code_of codes m) k) (length codes) i there (eq-eqb (code_of codes i) k same) in
    absurd (omega (arith, none, place.0, rows_of_count codes k))))

-- the first row of a list is the first that has the code
first_listed : (codes : List ℕ) (k : ℕ) → 0 < length (rows_of codes k)
    → code_of (rows_of codes k) 0 ≡ first_row_of codes k
first_listed codes k some =
    let test = λ (i : ℕ). eqb (code_of codes i) k in
    let n = length codes in
    let list = rows_of codes k in
    let first = first_row_of codes k in
    let occurs : 0 < occurrences_of codes k = omega (arith, some, rows_of_count codes k) in
    let is = code_of_first_row codes k occurs in
    let place = row_place test n first (first_row_there codes k occurs) (eq-eqb (code_of codes first) k is) in
    let are = are_rows_where test n in
    let has : code_of codes (code_of list 0) ≡ k = has_code codes k 0 some in
    let least : first ≤ code_of list 0 =
    subst (λ (j : ℕ). first_row_of codes j ≤ code_of list 0) has (first_row_least codes (code_of list 0)) in
    elim (cases_eq (length (rows_where test first)) 0) [
      | inl here ↦ ap (code_of list) (sym here) ∙ place.1
      | inr later ↦
          let rises = are.rising 0 (length (rows_where test first)) (omega (arith, later)) place.0 in
          absurd (omega (arith, rises, place.1, least))
    ]

pub first_is : (codes : List ℕ) (rest k rows first : ℕ) (list : List ℕ) → (k ≡ rest → ⊥) → rows ≡ length codes →
    list ≡ listed codes rest k → (0 < length list → first ≡ code_of list 0) → (length list ≡ 0 → first ≡ rows) →
    first ≡ first_row_of codes k
first_is codes rest k rows first list other size is some none =
    let rows_are : list ≡ rows_of codes k = is ∙ list_of_other codes rest k other in
    let count = ap (λ (xs : List ℕ). length xs) rows_are in
    elim (cases_eq (length list) 0) [
      | inl empty ↦
          none empty ∙ size ∙ sym (no_row codes k (omega (arith, empty, count, rows_of_count codes k)))
      | inr full ↦
          some (omega (arith, full)) ∙ ap (λ (xs : List ℕ). code_of xs 0) rows_are
          ∙ first_listed codes k (omega (arith, full, count))
    ]

-- the rows of the rest are those that are left
sizes_to : (codes : List ℕ) (rest k : ℕ) → k ≤ rest → length (lists_to (listed codes rest) k) ≡ below codes k
sizes_to codes rest zero before =
    omega (arith, ap (λ (xs : List ℕ). length xs) (lists_none (listed codes rest)), below_none codes)
sizes_to codes rest (suc k) before =
    let f = listed codes rest in
    let next : k + 1 ≡ suc k = omega arith in
    let more = ap (λ (xs : List ℕ). length xs) (lists_more f k) ∙ length-append (lists_to f k) (f k) in
    subst (λ (n : ℕ). length (lists_to f n) ≡ below codes n) next
    (omega (
      arith,
      more,
      list_count codes rest k (λ same. absurd (omega (arith, same, before))),
      below_more codes k,
      sizes_to codes rest k (omega (arith, before)),
    ))

sizes_past : (codes : List ℕ) (rest d : ℕ) →
    length (lists_to (listed codes rest) (rest + 1 + d)) + occurrences_of codes rest ≡ below codes (rest + 1 + d)
sizes_past codes rest zero =
    let f = listed codes rest in
    let here : rest + 1 + 0 ≡ rest + 1 = omega arith in
    let more = ap (λ (xs : List ℕ). length xs) (lists_more f rest) ∙ length-append (lists_to f rest) (f rest) in
    let none = ap (λ (xs : List ℕ). length xs) (list_of_rest codes rest rest refl) in
    rw here (omega (arith, more, none, below_more codes rest, sizes_to codes rest rest (omega arith)))
sizes_past codes rest (suc d) =
    let f = listed codes rest in
    let k = rest + 1 + d in
    let next : rest + 1 + suc d ≡ k + 1 = omega arith in
    let more = ap (λ (xs : List ℕ). length xs) (lists_more f k) ∙ length-append (lists_to f k) (f k) in
    rw next (omega (
      arith,
      more,
      list_count codes rest k (λ same. absurd (omega (arith, same))),
      below_more codes k,
      sizes_past codes rest d,
    ))

one_below : (code n : ℕ) → code < n → below_if n code ≡ 1
one_below code n there = grind (arith, nat_tests)

below_all : (codes : List ℕ) (n : ℕ) → ((i : ℕ) → i < length codes → code_of codes i < n) → below codes n ≡ length codes
below_all [] n within = refl
below_all (code ∷ codes) n within =
    omega (
      arith,
      sum_by-cons (below_if n) code codes,
      one_below code n (within 0 (omega arith)),
      below_all codes n (λ i there. within (suc i) (omega (arith, there))),
    )

pub rest_count : (codes : List ℕ) (rest tuples : ℕ) → rest < tuples →
    ((i : ℕ) → i < length codes → code_of codes i < tuples) →
    length (lists_to (listed codes rest) tuples) + occurrences_of codes rest ≡ length codes
rest_count codes rest tuples there within =
    let d = tuples - (rest + 1) in
    let all : rest + 1 + d ≡ tuples = omega (arith, there) in
    subst (λ (n : ℕ). length (lists_to (listed codes rest) n) + occurrences_of codes rest ≡ below codes n) all
    (sizes_past codes rest d)
    ∙ below_all codes tuples within

-- the codes before code k are counted, but for the rest
pub record AreCountedTo (k : ℕ) (codes : List ℕ) (rest : ℕ) (counts first_rows : List ℕ) : Type 0 where
  pub count : (j : ℕ) → j < k → (j ≡ rest → ⊥) → code_of counts j ≡ occurrences_of codes j
  pub first_row : (j : ℕ) → j < k → (j ≡ rest → ⊥) → code_of first_rows j ≡ first_row_of codes j

pub counted_none : (codes : List ℕ) (rest : ℕ) (counts first_rows : List ℕ)
    → AreCountedTo 0 codes rest counts first_rows
counted_none codes rest counts first_rows = record {
  count = λ j there. absurd (omega (arith, there));
  first_row = λ j there. absurd (omega (arith, there));
}

-- one more code
pub counted_push : (k : ℕ) (codes : List ℕ) (rest rows first : ℕ) (list counts first_rows : List ℕ) →
    length counts ≡ k → length first_rows ≡ k → rows ≡ length codes → list ≡ listed codes rest k →
    (0 < length list → first ≡ code_of list 0) → (length list ≡ 0 → first ≡ rows) →
    AreCountedTo k codes rest counts first_rows →
    AreCountedTo (k + 1) codes rest (counts ++ length list ∷ []) (first_rows ++ first ∷ [])
counted_push k codes rest rows first list counts first_rows a_count a_row size is some none are = record {
  count = λ j there other. elim (cases_eq j k) [
    | inl same ↦
        get_or_push counts (length list) 0 j (a_count ∙ sym same) ∙ ap (λ (xs : List ℕ). length xs) is
        ∙ list_count codes rest k (λ here. other (same ∙ here)) ∙ ap (occurrences_of codes) (sym same)
    | inr apart ↦
        let before : j < k = omega (arith, there, apart) in
        get_or_append_left counts (length list ∷ []) 0 j (omega (arith, before, a_count)) ∙ are.count j before other
  ];
  first_row = λ j there other. elim (cases_eq j k) [
    | inl same ↦
        get_or_push first_rows first 0 j (a_row ∙ sym same)
        ∙ first_is codes rest k rows first list (λ here. other (same ∙ here)) size is some none
        ∙ ap (first_row_of codes) (sym same)
    | inr apart ↦
        let before : j < k = omega (arith, there, apart) in
        get_or_append_left first_rows (first ∷ []) 0 j (omega (arith, before, a_row)) ∙ are.first_row j before other
  ];
}

-- all codes but the rest are counted, and the rest has what is left
pub counted_all : (codes : List ℕ) (rows tuples rest first_unlisted : ℕ) (starts places counts first_rows : List ℕ) →
    AreRowLists codes rows tuples rest first_unlisted starts places →
    length counts ≡ tuples → length first_rows ≡ tuples → AreCountedTo tuples codes rest counts first_rows →
    (unlisted : ℕ) → rest < tuples → unlisted ≡ rows - length places →
    AreCountedApart 0 codes tuples rest counts first_rows unlisted first_unlisted
counted_all codes rows tuples rest first_unlisted starts places counts first_rows lists a_count a_row are unlisted there
    left = record {
      a_count_each = a_count;
      a_row_each = a_row;
      count = are.count;
      first_row = λ k k_there other. (let is = are.first_row k k_there other in omega (arith, is));
      unlisted_are =
          omega (
            arith,
            left,
            ap (λ (xs : List ℕ). length xs) lists.places_are,
            lists.count,
            rest_count codes rest tuples there
                (λ i row. lists.in_tuples i (omega (arith, row, lists.count))),
          );
      first_unlisted_is = omega (arith, lists.unlisted there);
    }

-- there is no rest
pub counted_without : (codes : List ℕ) (tuples rest : ℕ) (counts first_rows : List ℕ) → tuples ≤ rest →
    length counts ≡ tuples → length first_rows ≡ tuples → AreCountedTo tuples codes rest counts first_rows →
    AreCounted codes tuples counts first_rows
counted_without codes tuples rest counts first_rows past a_count a_row are = record {
  a_count_each = a_count;
  a_row_each = a_row;
  count = λ k there. are.count k there (λ same. absurd (omega (arith, same, there, past)));
  first_row = λ k there. are.first_row k there (λ same. absurd (omega (arith, same, there, past)));
}
