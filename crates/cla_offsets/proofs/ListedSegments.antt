-- The rows of a code's list that stand in a segment.
use Rattle.std.proofs.Common.{◌≡◌, Bool, ℕ, zero, suc, ◌+◌, ◌-◌, ◌*◌, ◌<◌, ◌≤◌, List, [], ◌∷◌, ◌++◌, length, map}
use Rattle.std.proofs.Common.{take, drop}
use Rattle.std.proofs.Common.{cond, eqb, refl, ap, subst, sym, ◌∙◌, append_assoc, arith, inl, inr}
use Rattle.std.specs.Prelude.{min}
use Rattle.std.proofs.Math.Seq.{drop-append_seam, take-append_seam}
use Rattle.std.proofs.lemmas.Bool.{cases_eq, cases_lt, eq-eqb, ne_eqb}
use Rattle.std.proofs.lemmas.List.{length-append, length-map, length-drop, get_or-map, get_or-drop}
use Rattle.std.proofs.lemmas.List.{get_or_append_left, get_or-append_right}
use Rattle.cla_layout.specs.Groups.{code_of}
use Rattle.cla_layout.specs.Listed.{rows_where, rows_of}
use Rattle.cla_layout.proofs.Listings.{are_rows_where, rows_where_more, rows_where_from}
use Rattle.cla_offsets.specs.Segments.{segment_rows, segment_of, listed}
use Rattle.cla_offsets.specs.RowLists.{listed_before, segment_begin, ArePushed}
use Rattle.cla_offsets.proofs.SegmentRows.{segment_size, segment_row}

-- the rows that pass a test, before row a and from it on
rows_split : (test : ℕ → Bool) (a n : ℕ) → a ≤ n → rows_where test n
    ≡ rows_where test a ++ map (λ j. a + j) (rows_where (λ j. test (a + j)) (n - a))
rows_split test a n within =
    let whole : n ≡ a + (n - a) = omega (arith, within) in
    ap (rows_where test) whole ∙ rows_where_from test a (n - a)

-- tests that agree
rows_same : (p q : ℕ → Bool) (n : ℕ) → ((i : ℕ) → i < n → p i ≡ q i) → rows_where p n ≡ rows_where q n
rows_same p q zero same = refl
rows_same p q (suc n) same =
    let next : suc n ≡ n + 1 = omega arith in
    ap (rows_where p) next ∙ rows_where_more p n
    ∙ ap (λ (b : Bool). rows_where p n ++ cond b (n ∷ []) []) (same n (omega arith))
    ∙ ap (λ (xs : List ℕ). xs ++ cond (q n) (n ∷ []) []) (rows_same p q n (λ i there. same i (omega (arith, there))))
    ∙ sym (rows_where_more q n) ∙ ap (rows_where q) (sym next)

moved_back : (a : ℕ) (xs : List ℕ) → map (λ row. row - a) (map (λ j. a + j) xs) ≡ xs
moved_back a [] = refl
moved_back a (x ∷ xs) =
    let here : a + x - a ≡ x = omega arith in
    ap (λ (y : ℕ). y ∷ map (λ row. row - a) (map (λ j. a + j) xs)) here ∙ ap (λ (ys : List ℕ). x ∷ ys) (moved_back a xs)

-- the first n rows that pass, from row a on
abbrev later : (ℕ → Bool) → ℕ → ℕ → List ℕ
later test a n = map (λ j. a + j) (rows_where (λ j. test (a + j)) (n - a))

-- how the rows before row a stand among the first n rows that pass
before_few : (test : ℕ → Bool) (a n : ℕ) → a ≤ n → length (rows_where test a) ≤ length (rows_where test n)
before_few test a n within =
    omega (
      arith,
      ap (λ (xs : List ℕ). length xs) (rows_split test a n within),
      length-append (rows_where test a) (later test a n),
    )

before_row : (test : ℕ → Bool) (a n : ℕ) → a ≤ n → (i : ℕ) → i < length (rows_where test a) →
    code_of (rows_where test n) i < a
before_row test a n within i there =
    let is = ap (λ (xs : List ℕ). code_of xs i) (rows_split test a n within)
    ∙ get_or_append_left (rows_where test a) (later test a n) 0 i there in
    omega (arith, is, (are_rows_where test a).below i there)

past_row : (test : ℕ → Bool) (a n : ℕ) → a ≤ n → (i : ℕ) → length (rows_where test a) ≤ i →
    i < length (rows_where test n) → a ≤ code_of (rows_where test n) i
past_row test a n within i past there =
    let before = rows_where test a in
    let rows = rows_where (λ j. test (a + j)) (n - a) in
    let m = i - length before in
    let size = ap (λ (xs : List ℕ). length xs) (rows_split test a n within)
    ∙ length-append before (later test a n) in
    let inside : m < length rows = omega (arith, size, length-map rows (λ j. a + j), past, there) in
    let is = ap (λ (xs : List ℕ). code_of xs i) (rows_split test a n within)
    ∙ get_or-append_right before (later test a n) (length before) i 0 refl past
    ∙ get_or-map (λ j. a + j) rows m 0 0 inside in
    omega (arith, is)

-- the rows with code k that stand in segment s are listed in it, as they count from its first row
in_segment : (codes : List ℕ) (k s : ℕ) → s * segment_rows ≤ length codes →
    rows_where (λ j. eqb (code_of codes (s * segment_rows + j)) k) (segment_begin codes (s + 1) - s * segment_rows)
    ≡ rows_of (segment_of codes s) k
in_segment codes k s begins =
    let segment = segment_of codes s in
    let first = s * segment_rows in
    let size : segment_begin codes (s + 1) - first ≡ length segment = omega (arith, segment_size codes s, begins) in
    ap (rows_where (λ j. eqb (code_of codes (first + j)) k)) size
    ∙ rows_same (λ j. eqb (code_of codes (first + j)) k) (λ j. eqb (code_of segment j) k) (length segment)
    (λ j there. ap (λ (code : ℕ). eqb code k) (sym (segment_row codes s j there).2))

-- what stands from row a on of a list of rows, where they stand before row b and from it on
record AreSplit (test : ℕ → Bool) (a b n : ℕ) (rows : List ℕ) : Type 0 where
  pub size : length rows ≡ length (rows_where test n) - length (rows_where test a)
  pub parts : rows ≡ later test a b ++ later test b n
  pub below : (m : ℕ) → m < length rows → code_of rows m < n
  pub before : (m : ℕ) → length (rows_where test a) + m < length (rows_where test b) → code_of rows m < b
  pub past : (m : ℕ) → length (rows_where test b) ≤ length (rows_where test a) + m → m < length rows
      → b ≤ code_of rows m

are_split : (test : ℕ → Bool) (a b n : ℕ) → a ≤ b → b ≤ n → (rows : List ℕ) →
    rows ≡ drop (length (rows_where test a)) (rows_where test n) → AreSplit test a b n rows
are_split test a b n a_before b_before rows are =
    let all = rows_where test n in
    let c = length (rows_where test a) in
    let size : length rows ≡ length all - c = ap (λ (xs : List ℕ). length xs) are ∙ length-drop c all in
    let row : (m : ℕ) → code_of rows m ≡ code_of all (c + m) =
    λ m. ap (λ (xs : List ℕ). code_of xs m) are ∙ get_or-drop c all m 0 in
    record {
      size = size;
      parts =
          are ∙ ap (drop c) (rows_split test b n b_before)
          ∙ ap (λ (xs : List ℕ). drop c (xs ++ later test b n)) (rows_split test a b a_before)
          ∙ ap (drop c) (append_assoc (rows_where test a) (later test a b) (later test b n))
          ∙ drop-append_seam (rows_where test a) (later test a b ++ later test b n);
      below = λ m there. omega (arith, row m, (are_rows_where test n).below (c + m) (omega (arith, there, size)));
      before = λ m there. omega (arith, row m, before_row test b n b_before (c + m) there);
      past = λ m after there.
          omega (arith, row m, past_row test b n b_before (c + m) after (omega (arith, there, size)));
    }

-- the rows before row `end`, or before row n where it has fewer, are those before row b
count_is : (test : ℕ → Bool) (a b n end : ℕ) (rows : List ℕ) → AreSplit test a b n rows → b ≡ min n end →
    (first count : ℕ) (old new : List ℕ) → ArePushed rows first end count old new →
    length (rows_where test a) ≤ length (rows_where test b) → length (rows_where test b) ≤ length (rows_where test n) →
    length (rows_where test a) + count ≡ length (rows_where test b)
count_is test a b n end rows are b_is first count old new pushed a_few b_few =
    let c = length (rows_where test a) in
    let p = length (rows_where test b) in
    elim (cases_eq (c + count) p) [
      | inl same ↦ same
      | inr other ↦ elim (cases_lt (c + count) p) [
        | inl fewer ↦
            let there : count < length rows = omega (arith, fewer, b_few, are.size) in
            absurd (omega (arith, pushed.next there, are.before count fewer, b_is))
        | inr more ↦
            let m = p - c in
            let place : c + m ≡ p = omega (arith, a_few) in
            let counted : m < count = omega (arith, place, more, other) in
            let there : m < length rows = omega (arith, counted, pushed.within) in
            absurd (omega (
              arith,
              pushed.before m counted,
              are.past m (omega (arith, place)) there,
              are.below m there,
              b_is,
            ))
      ]
    ]

-- what a walk over the rows of code k from those in segment s on appends, and how many rows it passes
pub record IsPassed (codes : List ℕ) (rest k s n : ℕ) (old new : List ℕ) : Type 0 where
  pub moved : length (listed_before codes rest (segment_begin codes s) k) + n
      ≡ length (listed_before codes rest (segment_begin codes (s + 1)) k)
  pub appended : new ≡ old ++ listed (segment_of codes s) rest k

rows_passed : (codes : List ℕ) (k s : ℕ) → s * segment_rows ≤ length codes → (rows : List ℕ) →
    rows ≡ drop (length (rows_where (λ i. eqb (code_of codes i) k) (s * segment_rows))) (rows_of codes k) →
    (n : ℕ) (old new : List ℕ) → ArePushed rows (s * segment_rows) (s * segment_rows + segment_rows) n old new →
    (length (rows_where (λ i. eqb (code_of codes i) k) (s * segment_rows)) + n
    ≡ length (rows_where (λ i. eqb (code_of codes i) k) (segment_begin codes (s + 1))))
    × (new ≡ old ++ rows_of (segment_of codes s) k)
rows_passed codes k s begins rows are n old new pushed =
    let test = λ (i : ℕ). eqb (code_of codes i) k in
    let a = s * segment_rows in
    let b = segment_begin codes (s + 1) in
    let a_before : a ≤ b = omega (arith, begins) in
    let b_before : b ≤ length codes = omega arith in
    let b_is : b ≡ min (length codes) (a + segment_rows) = omega arith in
    let split = are_split test a b (length codes) a_before b_before rows are in
    let moved : length (rows_where test a) + n ≡ length (rows_where test b) =
    count_is test a b (length codes) (a + segment_rows) rows split b_is a n old new pushed
    (before_few test a b a_before) (before_few test b (length codes) b_before) in
    let inside = rows_where (λ j. test (a + j)) (b - a) in
    let size : n ≡ length (later test a b) =
    omega (
      arith,
      moved,
      ap (λ (xs : List ℕ). length xs) (rows_split test a b a_before),
      length-append (rows_where test a) (later test a b),
    ) in
    let taken : take n rows ≡ later test a b =
    ap (take n) split.parts ∙ ap (λ (m : ℕ). take m (later test a b ++ later test b (length codes))) size
    ∙ take-append_seam (later test a b) (later test b (length codes)) in (
      moved,
      pushed.pushed ∙ ap (λ (xs : List ℕ). old ++ map (λ row. row - a) xs) taken
          ∙ ap (λ (xs : List ℕ). old ++ xs) (moved_back a inside ∙ in_segment codes k s begins),
    )

none_passed : (rows : List ℕ) (first end n : ℕ) (old new : List ℕ) → rows ≡ [] → ArePushed rows first end n old new
    → (n ≡ 0) × (new ≡ old ++ [])
none_passed rows first end n old new none pushed =
    let count : n ≡ 0 = omega (arith, pushed.within, ap (λ (xs : List ℕ). length xs) none) in
    (count, pushed.pushed ∙ ap (λ (m : ℕ). old ++ map (λ row. row - first) (take m rows)) count)

pub list_passed : (codes : List ℕ) (rest k s : ℕ) → s * segment_rows ≤ length codes → (rows : List ℕ) →
    rows ≡ drop (length (listed_before codes rest (segment_begin codes s) k)) (listed codes rest k) →
    (n : ℕ) (old new : List ℕ) → ArePushed rows (s * segment_rows) (s * segment_rows + segment_rows) n old new →
    IsPassed codes rest k s n old new
list_passed codes rest k s begins rows are n old new pushed =
    let test = λ (i : ℕ). eqb (code_of codes i) k in
    let segment = segment_of codes s in
    let here : segment_begin codes s ≡ s * segment_rows = omega (arith, begins) in
    let chosen = λ (i : ℕ) (b : Bool). cond b [] (rows_where test i) in
    elim (cases_eq k rest) [
      | inl same ↦
          let yes' = eq-eqb k rest same in
          let none : rows ≡ [] =
          are ∙ ap (λ (b : Bool). drop (length (chosen (segment_begin codes s) b)) (chosen (length codes) b)) yes' in
          let is = none_passed rows _ _ n old new none pushed in
          record {
            moved =
                ap (λ (b : Bool). length (chosen (segment_begin codes s) b) + n) yes' ∙ omega (arith, is.0)
                ∙ sym (ap (λ (b : Bool). length (chosen (segment_begin codes (s + 1)) b)) yes');
            appended = is.1 ∙ sym (ap (λ (b : Bool). old ++ cond b [] (rows_of segment k)) yes');
          }
      | inr other ↦
          let no = ne_eqb k rest other in
          let from = are
          ∙ ap (λ (b : Bool). drop (length (chosen (segment_begin codes s) b)) (chosen (length codes) b)) no
          ∙ ap (λ (i : ℕ). drop (length (rows_where test i)) (rows_of codes k)) here in
          let is = rows_passed codes k s begins rows from n old new pushed in
          record {
            moved =
                ap (λ (b : Bool). length (chosen (segment_begin codes s) b) + n) no
                ∙ ap (λ (i : ℕ). length (rows_where test i) + n) here ∙ is.0
                ∙ sym (ap (λ (b : Bool). length (chosen (segment_begin codes (s + 1)) b)) no);
            appended = is.1 ∙ sym (ap (λ (b : Bool). old ++ cond b [] (rows_of segment k)) no);
          }
    ]

-- the rows of a list from those in segment s on don't stand before it
pub from_segment : (codes : List ℕ) (rest k s : ℕ) → s * segment_rows ≤ length codes → (rows : List ℕ) →
    rows ≡ drop (length (listed_before codes rest (segment_begin codes s) k)) (listed codes rest k) →
    (m : ℕ) → m < length rows → s * segment_rows ≤ code_of rows m
from_segment codes rest k s begins rows are m there =
    let test = λ (i : ℕ). eqb (code_of codes i) k in
    let here : segment_begin codes s ≡ s * segment_rows = omega (arith, begins) in
    let chosen = λ (i : ℕ) (b : Bool). cond b [] (rows_where test i) in
    let is = λ (b : Bool). drop (length (chosen (segment_begin codes s) b)) (chosen (length codes) b) in
    elim (cases_eq k rest) [
      | inl same ↦
          let none : rows ≡ [] = are ∙ ap is (eq-eqb k rest same) in
          absurd (omega (arith, there, ap (λ (xs : List ℕ). length xs) none))
      | inr other ↦
          let from = are ∙ ap is (ne_eqb k rest other)
          ∙ ap (λ (i : ℕ). drop (length (rows_where test i)) (rows_of codes k)) here in
          let a = s * segment_rows in
          (are_split test a a (length codes) (omega arith) begins rows from).past m (omega arith) there
    ]

-- no more rows stand before a row than are listed
pub listed_before_few : (codes : List ℕ) (rest i k : ℕ) → i ≤ length codes →
    length (listed_before codes rest i k) ≤ length (listed codes rest k)
listed_before_few codes rest i k within =
    let test = λ (j : ℕ). eqb (code_of codes j) k in
    let Few = λ (b : Bool). length (cond b [] (rows_where test i)) ≤ length (cond b [] (rows_of codes k)) in
    elim (cases_eq k rest) [
      | inl same ↦ subst Few (sym (eq-eqb k rest same)) (omega arith)
      | inr other ↦ subst Few (sym (ne_eqb k rest other)) (before_few test i (length codes) within)
    ]
