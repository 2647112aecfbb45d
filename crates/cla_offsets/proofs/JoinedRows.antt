-- Rows whose places are joined with parts.
use Rattle.std.proofs.Common.{◌≡◌, Bool, cond, [], ℕ, ℤ, ◌+◌, ◌-◌, ◌*◌, ◌<◌, ◌≤◌, List, length, ap, sym, ◌∙◌, arith}
use Rattle.std.proofs.Common.{inl, inr}
use Rattle.std.proofs.lemmas.Bool.{cases_lt, cases_eq, eq-eqb}
use Rattle.cla_layout.specs.Groups.{at, code_of}
use Rattle.cla_layout.specs.Listed.{rows_of}
use Rattle.cla_offsets.specs.Segments.{segment_rows, segment_of, listed}
use Rattle.cla_offsets.specs.Walks.{AreJoined, IsListJoined}
use Rattle.cla_offsets.proofs.ListedRows.{are_listed}
use Rattle.cla_offsets.proofs.SegmentRows.{segment_row, segment_size}

-- the rows of the segments before segment s are joined, and the others are as they were
pub record AreJoinedTo (join : ℤ → ℤ → ℤ) (s : ℕ) (codes : List ℕ) (parts old new : List ℤ) : Type 0 where
  pub done : (i : ℕ) → i < s * segment_rows → i < length codes → at new i ≡ join (at old i) (at parts (code_of codes i))
  pub left : (i : ℕ) → s * segment_rows ≤ i → at new i ≡ at old i

-- one more segment
pub segment_joined : (join : ℤ → ℤ → ℤ) (s : ℕ) (codes : List ℕ) (parts old into new : List ℤ) →
    AreJoinedTo join s codes parts old into →
    AreJoined join (s * segment_rows) (segment_of codes s) parts into new → AreJoinedTo join (s + 1) codes parts old new
segment_joined join s codes parts old into new are more = record {
  done = λ i row there. elim (cases_lt i (s * segment_rows)) [
    | inl lower ↦ more.before i lower ∙ are.done i lower there
    | inr upper ↦
        let segment = segment_of codes s in
        let j = i - s * segment_rows in
        let place : s * segment_rows + j ≡ i = omega (arith, upper) in
        let inside : j < length segment = omega (arith, segment_size codes s, place, row, there) in
        let code : code_of segment j ≡ code_of codes i = (segment_row codes s j inside).2 ∙ ap (code_of codes) place in
        let untouched = are.left (s * segment_rows + j) (omega arith) ∙ ap (at old) place in
        sym (ap (at new) place) ∙ more.joined j inside ∙ ap (λ (z : ℤ). join z (at parts (code_of segment j))) untouched
        ∙ ap (λ (k : ℕ). join (at old i) (at parts k)) code
  ];
  left = λ i after. more.past i (omega (arith, after, segment_size codes s)) ∙ are.left i (omega (arith, after));
}

-- the places from place `first` on are those of rows with these codes: the rows of the codes before code k are
-- joined, and
-- the others are as they were
pub record AreJoinedBelow (join : ℤ → ℤ → ℤ) (first : ℕ) (codes : List ℕ) (parts : List ℤ) (k : ℕ) (old new : List ℤ) :
    Type 0 where
  pub done : (j : ℕ) → j < length codes → code_of codes j < k →
      at new (first + j) ≡ join (at old (first + j)) (at parts (code_of codes j))
  pub left : (j : ℕ) → j < length codes → k ≤ code_of codes j → at new (first + j) ≡ at old (first + j)
  pub before : (i : ℕ) → i < first → at new i ≡ at old i
  pub past : (i : ℕ) → first + length codes ≤ i → at new i ≡ at old i

no_rest : (codes : List ℕ) (rest k : ℕ) (list : List ℕ) → list ≡ listed codes rest k → k ≡ rest → (n : ℕ) →
    n < length list → ⊥
no_rest codes rest k list is same n there =
    let none : listed codes rest k ≡ [] = ap (λ (b : Bool). cond b [] (rows_of codes k)) (eq-eqb k rest same) in
    omega (arith, there, ap (λ (xs : List ℕ). length xs) (is ∙ none))

-- the rows of one more code are joined, by the walk over its list; the part of the rest leaves all as it is
pub list_joined : (join : ℤ → ℤ → ℤ) (first : ℕ) (codes : List ℕ) (rest k : ℕ) (list : List ℕ)
    (parts old into new : List ℤ) →
    list ≡ listed codes rest k → ((a : ℤ) → join a (at parts rest) ≡ a) →
    AreJoinedBelow join first codes parts k old into →
    IsListJoined join first list (at parts k) into new → AreJoinedBelow join first codes parts (k + 1) old new
list_joined join first codes rest k list parts old into new is leaves are walk =
    let lists = are_listed codes rest k list is in
    let part = λ (z : ℤ). join z (at parts k) in
    let kept = λ (j m : ℕ). join (at old (first + j)) (at parts m) in
    let place : (j n : ℕ) → first + code_of list n ≡ first + j → code_of list n ≡ j = λ j n same. omega (arith, same) in
    let other : (j : ℕ) → (code_of codes j ≡ k → ⊥) → at new (first + j) ≡ at into (first + j) =
    λ j apart. walk.others (first + j) (λ n there same. apart (sym (ap (code_of codes) (place j n same))
    ∙ lists.has n there)) in
    record {
      done = λ j row below. elim (cases_eq (code_of codes j) k) [
        | inl same ↦
            let untouched = are.left j row (omega (arith, same)) in
            elim (cases_eq k rest) [
              | inl is_rest ↦
                  walk.others (first + j) (λ n there _. absurd (no_rest codes rest k list is is_rest n there))
                  ∙ untouched
                  ∙ sym (leaves (at old (first + j))) ∙ ap (kept j) (sym (same ∙ is_rest))
              | inr unlike ↦
                  let found = lists.all j row same unlike in
                  ap (λ (m : ℕ). at new (first + m)) (sym found.2) ∙ walk.joined found.0 found.1
                  ∙ ap (λ (m : ℕ). part (at into (first + m))) found.2 ∙ ap part untouched ∙ ap (kept j) (sym same)
            ]
        | inr apart ↦ other j apart ∙ are.done j row (omega (arith, below, apart))
      ];
      left = λ j row above. other j (λ same. absurd (omega (arith, same, above)))
          ∙ are.left j row (omega (arith, above));
      before = λ i lower. walk.others i (λ n there same. absurd (omega (arith, same, lower))) ∙ are.before i lower;
      past = λ i upper. walk.others i (λ n there same. absurd (omega (arith, same, upper, lists.within n there)))
          ∙ are.past i upper;
    }
