-- The runs of one code, among all runs.
use Rattle.std.proofs.Common.{◌≡◌, true, false, Bool, ℕ, zero, suc, ◌+◌, ◌-◌, ◌<◌, ◌≤◌, List, [], ◌∷◌, ◌++◌, length}
use Rattle.std.proofs.Common.{map, cond, eqb, refl}
use Rattle.std.proofs.Common.{subst, ap, sym, ◌∙◌, arith, inl, inr}
use Rattle.std.specs.Prelude.{not, ◌&&◌, ◌||◌}
use Rattle.std.proofs.lemmas.Bool.{cases_eq, cases_lt, eqb-true, eq-eqb, ne_eqb, and_from, and_left, and_right}
use Rattle.std.proofs.lemmas.Bool.{or_left, or_right}
use Rattle.std.proofs.lemmas.List.{ext_get_or, map-append, append-nil, length-map, get_or-map, length_push}
use Rattle.cla_layout.specs.Groups.{code_of}
use Rattle.cla_layout.specs.Listed.{rows_where, rows_of, begins_run, run_begins}
use Rattle.cla_layout.proofs.Listings.{rows_where_more, rows_where_yes, rows_where_no, row_place, rows_where_from}
use Rattle.cla_layout.proofs.Listings.{rows_where_none}
use Rattle.cla_layout.proofs.Listings.{are_rows_where}
use Rattle.cla_rows.specs.RunBounds.{AreRuns}
use Rattle.cla_rows.specs.CodeRuns.{IsMaximalRun, IsRun, listed_begins, listed_keys, AreRunsByKey}
use Rattle.cla_rows.proofs.RunBounds.{ends_rise, run_stretch}

-- no more rows pass up to b where none does from a on
rows_where_still : (test : ℕ → Bool) (a b : ℕ) → a ≤ b → ((i : ℕ) → a ≤ i → i < b → test i ≡ false) →
    rows_where test b ≡ rows_where test a
rows_where_still test a b order fails =
    let up : b ≡ a + (b - a) = omega (arith, order) in
    ap (rows_where test) up ∙ rows_where_from test a (b - a)
    ∙ ap (λ (xs : List ℕ). rows_where test a ++ map (λ j. a + j) xs)
    (rows_where_none (λ j. test (a + j)) (b - a) (λ j there. fails (a + j) (omega arith) (omega (arith, there))))
    ∙ append-nil (rows_where test a)

mapped_if : (f : ℕ → ℕ) (b : Bool) (m : ℕ) → map f (cond b (m ∷ []) []) ≡ cond b (f m ∷ []) []
mapped_if f true m = refl
mapped_if f false m = refl

or_false : (a b : Bool) → a ≡ false → b ≡ false → (a || b) ≡ false
or_false a b a_is b_is = rw (a_is, b_is) refl

-- a row with another code begins no run, and neither does one behind a row with the code
begins_other : (codes : List ℕ) (k i : ℕ) → (code_of codes i ≡ k → ⊥) → begins_run codes k i ≡ false
begins_other codes k i other = and_left (eqb (code_of codes i) k) (eqb i 0 || not (eqb (code_of codes (i - 1)) k))
    (ne_eqb (code_of codes i) k other)

begins_later : (codes : List ℕ) (k i : ℕ) → 0 < i → code_of codes (i - 1) ≡ k → begins_run codes k i ≡ false
begins_later codes k i later before =
    and_right (eqb (code_of codes i) k) (eqb i 0 || not (eqb (code_of codes (i - 1)) k))
    (or_false (eqb i 0) (not (eqb (code_of codes (i - 1)) k))
    (ne_eqb i 0 (λ zeroth. absurd (omega (arith, zeroth, later))))
    (ap not (eq-eqb (code_of codes (i - 1)) k before)))

begins_first : (codes : List ℕ) (k i : ℕ) → code_of codes i ≡ k → (0 < i → code_of codes (i - 1) ≡ k → ⊥) →
    begins_run codes k i ≡ true
begins_first codes k i here differs =
    and_from (eqb (code_of codes i) k) (eqb i 0 || not (eqb (code_of codes (i - 1)) k))
    (eq-eqb (code_of codes i) k here)
    (elim (cases_eq i 0) [
      | inl zeroth ↦ or_left (eqb i 0) (not (eqb (code_of codes (i - 1)) k)) (eq-eqb i 0 zeroth)
      | inr later ↦ or_right (eqb i 0) (not (eqb (code_of codes (i - 1)) k))
          (ap not (ne_eqb (code_of codes (i - 1)) k (differs (grind (arith, later)))))
    ])

-- so many of the first m keys are k
pub record AreCountedTo (m : ℕ) (keys : List ℕ) (k count : ℕ) : Type 0 where
  pub is : count ≡ length (rows_where (λ i. eqb (code_of keys i) k) m)

pub counted_yes : {m : ℕ} {keys : List ℕ} {k count : ℕ} → AreCountedTo m keys k count → code_of keys m ≡ k →
    AreCountedTo (m + 1) keys k (count + 1)
counted_yes {m} {keys} {k} so_far here =
    let test = λ (i : ℕ). eqb (code_of keys i) k in
    record {
      is = omega (
        arith,
        so_far.is,
        ap (λ (xs : List ℕ). length xs)
            (rows_where_yes test m (eq-eqb (code_of keys m) k here)),
        length_push (rows_where test m) m,
      );
    }

pub counted_no : {m : ℕ} {keys : List ℕ} {k count : ℕ} → AreCountedTo m keys k count → (code_of keys m ≡ k → ⊥) →
    AreCountedTo (m + 1) keys k count
counted_no {m} {keys} {k} so_far other =
    let test = λ (i : ℕ). eqb (code_of keys i) k in
    record {
      is = so_far.is
          ∙ sym (ap (λ (xs : List ℕ). length xs) (rows_where_no test m (ne_eqb (code_of keys m) k other)));
    }

pub counted_all : {m : ℕ} {keys : List ℕ} {k count : ℕ} → AreCountedTo m keys k count → m ≡ length keys →
    count ≡ length (rows_of keys k)
counted_all {keys = keys} {k = k} so_far end = so_far.is
    ∙ ap (λ (m : ℕ). length (rows_where (λ i. eqb (code_of keys i) k) m)) end

-- the key that so many others with the same code stand before
pub number_is : {m : ℕ} {keys : List ℕ} {k count : ℕ} → AreCountedTo m keys k count → m < length keys →
    code_of keys m ≡ k →
    code_of (rows_of keys k) count ≡ m
number_is {m} {keys} {k} so_far there here =
    ap (code_of (rows_of keys k)) so_far.is ∙ (row_place (λ i. eqb (code_of keys i) k) (length keys) m there
    (eq-eqb (code_of keys m) k here)).1

-- rows that pass a test which only first rows of runs do
module _ {codes : List ℕ} {rest : ℕ} {begins ends keys : List ℕ}
    (are : AreRuns (length codes) codes rest begins ends keys)
    (test pick : ℕ → Bool)
    (gap : (n i : ℕ) → n ≤ length keys → code_of ends n ≤ i → i < code_of begins n → test i ≡ false)
    (here : (n : ℕ) → n < length keys → test (code_of begins n) ≡ pick n)
    (later : (n i : ℕ) → n < length keys → code_of begins n + 1 ≤ i → i < code_of ends (n + 1) → test i ≡ false) where
  gap_still : (n : ℕ) → n ≤ length keys → rows_where test (code_of begins n) ≡ rows_where test (code_of ends n)
  gap_still n there = rows_where_still test (code_of ends n) (code_of begins n) (are.rising n there)
      (λ i from to. gap n i there from to)

  marked_to : (n : ℕ) → n ≤ length keys → rows_where test (code_of ends n) ≡ map (code_of begins) (rows_where pick n)
  marked_to zero within = ap (rows_where test) are.first
  marked_to (suc n) within =
      let next : n + 1 ≡ suc n = omega arith in
      let there : n < length keys = omega (arith, within) in
      let b = code_of begins n in
      subst (λ (m : ℕ). rows_where test (code_of ends m) ≡ map (code_of begins) (rows_where pick m)) next (
      rows_where_still test (b + 1) (code_of ends (n + 1)) (omega (arith, are.not_empty n there))
      (λ i after before. later n i there after before)
      ∙ rows_where_more test b
      ∙ ap (λ (t : Bool). rows_where test b ++ cond t (b ∷ []) []) (here n there)
      ∙ ap (λ (xs : List ℕ). xs ++ cond (pick n) (b ∷ []) []) (gap_still n (omega (arith, there))
      ∙ marked_to n (omega (arith, there)))
      ∙ ap (λ (xs : List ℕ). map (code_of begins) (rows_where pick n) ++ xs)
      (sym (mapped_if (code_of begins) (pick n) n))
      ∙ sym (map-append (code_of begins) (rows_where pick n) (cond (pick n) (n ∷ []) []))
      ∙ ap (map (code_of begins)) (sym (rows_where_more pick n)))

  marked_all : rows_where test (length codes) ≡ map (code_of begins) (rows_where pick (length keys))
  marked_all = ap (rows_where test) (sym are.last) ∙ gap_still (length keys) (omega arith)
      ∙ marked_to (length keys) (omega arith)

module _ {codes : List ℕ} {rest : ℕ} {begins ends keys : List ℕ}
    (are : AreRuns (length codes) codes rest begins ends keys) (k : ℕ)
    (listed : k ≡ rest → ⊥) where
  -- a run of its code begins with a run, and nowhere else
  begins_here : (n : ℕ) → n < length keys → begins_run codes k (code_of begins n) ≡ eqb (code_of keys n) k
  begins_here n there =
      let b = code_of begins n in
      let here : code_of codes b ≡ code_of keys n = are.in_run n b there (omega arith) (are.not_empty n there) in
      elim (cases_eq (code_of keys n) k) [
        | inr other ↦ begins_other codes k b (λ is. other (sym here ∙ is)) ∙ sym (ne_eqb (code_of keys n) k other)
        | inl is ↦ begins_first codes k b (here ∙ is) (λ some before. elim (cases_lt (code_of ends n) b) [
          | inl gap ↦ listed (sym before ∙ are.in_gap n (b - 1) (omega (arith, there)) (omega (arith, gap))
              (omega (arith, some)))
          | inr touch ↦
              let e : code_of ends n ≡ b = omega (arith, touch, are.rising n (omega (arith, there))) in
              let m = n - 1 in
              let next : m + 1 ≡ n = (elim (cases_eq n 0) [
                | inl zeroth ↦ absurd (omega (arith, some, e, ap (code_of ends) zeroth, are.first))
                | inr later ↦ grind (arith, later)
              ]) in
              let end : code_of ends (m + 1) ≡ b = ap (code_of ends) next ∙ e in
              let last : code_of codes (b - 1) ≡ code_of keys m =
              are.in_run m (b - 1) (omega (arith, next, there))
              (omega (arith, end, are.not_empty m (omega (arith, next, there))))
              (omega (arith, end, some)) in
              are.apart m (omega (arith, next, there)) (end ∙ ap (code_of begins) (sym next)) (sym last ∙ before
              ∙ sym is
              ∙ ap (code_of keys) (sym next))
        ]) ∙ sym (eq-eqb (code_of keys n) k is)
      ]

  begins_not : (n i : ℕ) → n < length keys → code_of begins n + 1 ≤ i → i < code_of ends (n + 1) → begins_run codes k i
      ≡ false
  begins_not n i there after before =
      let here : code_of codes i ≡ code_of keys n = are.in_run n i there (omega (arith, after)) before in
      let above : code_of codes (i - 1) ≡ code_of keys n =
      are.in_run n (i - 1) there (omega (arith, after)) (omega (arith, before)) in
      elim (cases_eq (code_of keys n) k) [
        | inr other ↦ begins_other codes k i (λ is. other (sym here ∙ is))
        | inl is ↦ begins_later codes k i (omega (arith, after)) (above ∙ is)
      ]

  gap_not : (n i : ℕ) → n ≤ length keys → code_of ends n ≤ i → i < code_of begins n → begins_run codes k i ≡ false
  gap_not n i there from to = begins_other codes k i (λ is. listed (sym is ∙ are.in_gap n i there from to))

  -- the runs of a code begin where the runs with its key do
  pub begins_are : run_begins codes k ≡ map (code_of begins) (rows_of keys k)
  begins_are = marked_all are (begins_run codes k) (λ m. eqb (code_of keys m) k) gap_not begins_here begins_not

  pub begins_count : length (run_begins codes k) ≡ length (rows_of keys k)
  begins_count = ap (λ (xs : List ℕ). length xs) begins_are ∙ length-map (rows_of keys k) (code_of begins)

  pub begin_is : (n : ℕ) → n < length (rows_of keys k) → code_of (run_begins codes k) n
      ≡ code_of begins (code_of (rows_of keys k) n)
  begin_is n there = ap (λ (xs : List ℕ). code_of xs n) begins_are
      ∙ get_or-map (code_of begins) (rows_of keys k) n 0 0 there

  -- a run with a code is a maximal one
  pub maximal : (m : ℕ) → m < length keys → code_of keys m ≡ k →
      IsMaximalRun codes k (code_of begins m) (code_of ends (m + 1))
  maximal m there key = record {
    not_empty = are.not_empty m there;
    within = (run_stretch are (omega arith) m there).within;
    same = λ i from to. are.in_run m i there from to ∙ key;
    last = λ more is. elim (cases_lt (m + 1) (length keys)) [
      | inl next ↦ elim (cases_lt (code_of ends (m + 1)) (code_of begins (m + 1))) [
        | inl gap ↦ listed (sym is ∙ are.in_gap (m + 1) (code_of ends (m + 1)) (omega (arith, next)) (omega arith) gap)
        | inr touch ↦
            let e : code_of ends (m + 1) ≡ code_of begins (m + 1) =
            omega (arith, touch, are.rising (m + 1) (omega (arith, next))) in
            are.apart m next e (key ∙ sym is ∙ are.in_run (m + 1) (code_of ends (m + 1)) next (omega (arith, e))
            (omega (arith, e, are.not_empty (m + 1) next)))
      ]
      | inr past ↦
          let e : m + 1 ≡ length keys = omega (arith, past, there) in
          listed (sym is ∙ are.in_gap (m + 1) (code_of ends (m + 1)) (omega (arith, e)) (omega arith)
          (omega (arith, more, are.last, ap (code_of begins) e)))
    ];
  }

  -- run n of a code is this one among all
  pub number_there : (n : ℕ) → n < length (rows_of keys k) →
      (code_of (rows_of keys k) n < length keys) × (code_of keys (code_of (rows_of keys k) n) ≡ k)
  number_there n there =
      let rows = are_rows_where (λ (i : ℕ). eqb (code_of keys i) k) (length keys) in
      (rows.below n there, eqb-true (code_of keys (code_of (rows_of keys k) n)) k (rows.passes n there))

  pub previous_within : (n end : ℕ) → n < length (rows_of keys k) → (n ≡ 0 → end ≡ 0) →
      ((m : ℕ) → n ≡ m + 1 → end ≡ code_of ends (code_of (rows_of keys k) m + 1)) →
      end ≤ code_of begins (code_of (rows_of keys k) n)
  previous_within n end there first later = elim (cases_eq n 0) [
    | inl zeroth ↦ omega (arith, first zeroth)
    | inr other ↦
        let m = n - 1 in
        let next : n ≡ m + 1 = grind (arith, other) in
        let rows = are_rows_where (λ (i : ℕ). eqb (code_of keys i) k) (length keys) in
        let number = number_there n there in
        let after : code_of (rows_of keys k) m < code_of (rows_of keys k) n =
        rows.rising m n (omega (arith, next)) there in
        let rise = ends_rise are (code_of (rows_of keys k) m + 1) (code_of (rows_of keys k) n) (omega (arith, after))
        (omega (arith, number.0)) in
        omega (arith, later m next, rise, are.rising (code_of (rows_of keys k) n) (omega (arith, number.0)))
  ]

  pub run_is : (n end : ℕ) → n < length (rows_of keys k) → (n ≡ 0 → end ≡ 0) →
      ((m : ℕ) → n ≡ m + 1 → end ≡ code_of ends (code_of (rows_of keys k) m + 1)) →
      IsRun codes k n (code_of begins (code_of (rows_of keys k) n) - end)
      (code_of ends (code_of (rows_of keys k) n + 1) - code_of begins (code_of (rows_of keys k) n))
  run_is n end there first later =
      let number = number_there n there in
      let begin = begin_is n there in
      let b = code_of begins (code_of (rows_of keys k) n) in
      let e = code_of ends (code_of (rows_of keys k) n + 1) in
      let within = previous_within n end there first later in
      let back : b - (b - end) ≡ end = omega (arith, within) in
      let on : b + (e - b) ≡ e = omega (arith, are.not_empty (code_of (rows_of keys k) n) number.0) in
      record {
        within = omega (arith, begin);
        previous = rw (begin, back) (record {
          first = first;
          later = λ m next. (let m_there : m < length (rows_of keys k) = omega (arith, next, there) in
              let before = number_there m m_there in
              rw (begin_is m m_there, later m next) (maximal (code_of (rows_of keys k) m) before.0 before.1));
        });
        run = rw (begin, on) (maximal (code_of (rows_of keys k) n) number.0 number.1);
      }

-- the rows that pass where all do
all_count : (n : ℕ) → length (rows_where (λ _. true) n) ≡ n
all_count zero = refl
all_count (suc n) =
    let next : suc n ≡ n + 1 = omega arith in
    ap (λ (m : ℕ). length (rows_where (λ _. true) m)) next
    ∙ omega (
      arith,
      ap (λ (xs : List ℕ). length xs) (rows_where_yes (λ _. true) n refl),
      length_push
          (rows_where (λ _. true) n) n,
      all_count n,
    )

all_item : (n i : ℕ) → i < n → code_of (rows_where (λ _. true) n) i ≡ i
all_item n i row = ap (code_of (rows_where (λ _. true) n)) (sym (all_count i)) ∙ (row_place (λ _. true) n i row refl).1

-- all runs, whichever code they have
module _ {codes : List ℕ} {rest : ℕ} {begins ends keys : List ℕ}
    (are : AreRuns (length codes) codes rest begins ends keys) where
  pub key_is : (n : ℕ) → n < length keys → code_of codes (code_of begins n) ≡ code_of keys n
  key_is n there = are.in_run n (code_of begins n) there (omega arith) (are.not_empty n there)

  listed_are : listed_begins codes rest ≡ map (code_of begins) (rows_where (λ _. true) (length keys))
  listed_are = marked_all are (λ i. not (eqb (code_of codes i) rest) && begins_run codes (code_of codes i) i)
      (λ _. true)
      (λ n i there from to. and_left _ _ (ap not (eq-eqb (code_of codes i) rest (are.in_gap n i there from to))))
      (λ n there. (let k = code_of codes (code_of begins n) in
      let listed = λ (is : k ≡ rest). are.listed n there (sym (key_is n there) ∙ is) in
      and_from _ _ (ap not (ne_eqb k rest listed)) (begins_here are k listed n there
      ∙ eq-eqb (code_of keys n) k (sym (key_is n there)))))
      (λ n i there after before. (let k = code_of codes i in
      let same : k ≡ code_of keys n = are.in_run n i there (omega (arith, after)) before in
      let listed = λ (is : k ≡ rest). are.listed n there (sym same ∙ is) in
      and_right _ _ (begins_not are k listed n i there after before)))

  pub listed_count : length (listed_begins codes rest) ≡ length keys
  listed_count = ap (λ (xs : List ℕ). length xs) listed_are
      ∙ length-map (rows_where (λ _. true) (length keys)) (code_of begins)
      ∙ all_count (length keys)

  pub listed_begin : (n : ℕ) → n < length keys → code_of (listed_begins codes rest) n ≡ code_of begins n
  listed_begin n there =
      ap (λ (xs : List ℕ). code_of xs n) listed_are ∙ get_or-map (code_of begins) (rows_where (λ _. true) (length keys))
      n 0 0
      (omega (arith, all_count (length keys), there))
      ∙ ap (code_of begins) (all_item (length keys) n there)

  pub listed_keys_are : listed_keys codes rest ≡ keys
  listed_keys_are =
      let size : length (listed_keys codes rest) ≡ length keys = length-map (listed_begins codes rest) (code_of codes)
      ∙ listed_count in
      ext_get_or 0 (listed_keys codes rest) keys size (λ n lt. (let there : n < length keys = omega (arith, lt, size) in
      get_or-map (code_of codes) (listed_begins codes rest) n 0 0 (omega (arith, there, listed_count))
      ∙ ap (code_of codes) (listed_begin n there) ∙ key_is n there))

  pub runs_by_key : AreRunsByKey codes rest
  runs_by_key k listed =
      let numbers = rows_of keys k in
      let rows = are_rows_where (λ (i : ℕ). eqb (code_of keys i) k) (length keys) in
      let same : map (code_of begins) numbers ≡ map (code_of (listed_begins codes rest)) numbers =
      ext_get_or 0 (map (code_of begins) numbers) (map (code_of (listed_begins codes rest)) numbers)
      (length-map numbers (code_of begins) ∙ sym (length-map numbers (code_of (listed_begins codes rest))))
      (λ n lt. (let there : n < length numbers = omega (arith, lt, length-map numbers (code_of begins)) in
      get_or-map (code_of begins) numbers n 0 0 there ∙ sym (listed_begin (code_of numbers n) (rows.below n there))
      ∙ sym (get_or-map (code_of (listed_begins codes rest)) numbers n 0 0 there))) in
      begins_are are k listed ∙ same ∙ ap (λ (ks : List ℕ). map (code_of (listed_begins codes rest)) (rows_of ks k))
      (sym listed_keys_are)
