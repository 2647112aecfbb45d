-- Lists of rows that pass their tests are the owners of rows, numbered by first row.
use Rattle.std.proofs.Common.{◌≡◌, ℕ, zero, suc, ◌+◌, ◌-◌, ◌<◌, ◌≤◌, Bool, true, false, cond, eqb, List, [], ◌∷◌}
use Rattle.std.proofs.Common.{◌++◌, length, get_or, take, map, refl, sym, ap, subst, ◌∙◌, arith, inl, inr}
use Rattle.std.specs.List.{position_or_len, range_with_len, filter, AllByRecursion}
use Rattle.std.proofs.lemmas.Bool.{cases_lt, cases_eq, cases_Bool, eqb-true, eq-eqb, ne_eqb, false_from_ne_true}
use Rattle.std.proofs.lemmas.Bool.{or_left, or_right, false≢true}
use Rattle.std.proofs.lemmas.List.{map-append, get_or-map, length-append, length-map, length_push, get_or_append_left}
use Rattle.std.proofs.lemmas.List.{get_or_at, ext_get_or, take_at}
use Rattle.std.proofs.lemmas.List.Folds.{list_any_at}
use Rattle.std.proofs.lemmas.List.FromFn.{length-map-range_with_len, take-map-range_with_len, get_or-map-range_with_len}
use Rattle.std.proofs.lemmas.List.Sums.{position_or_len_is, passes_at_first}
use Rattle.cla_packed.specs.Fields.{EachIs}
use Rattle.cla_layout.specs.Groups.{code_of, first_row_of, AreNumbered}
use Rattle.cla_packed.specs.Codes.{has}
use Rattle.cla_packed.specs.Lists.{next_from, RisingFrom, named, first_of, floor_of, IsList, owner_in, owners_of}
use Rattle.cla_packed.specs.Lists.{rows_from, lists_of, AreOwners}
use Rattle.cla_packed_laws.proofs.Tests.{each_to, each_from}
use Rattle.cla_packed_laws.proofs.Codes.{first_here, first_later, has_at}

-- ---- rising lists

pub next_push : (a i : ℕ) (list : List ℕ) → next_from a (list ++ i ∷ []) ≡ i + 1
next_push a i [] = refl
next_push a i (j ∷ list) = next_push (j + 1) i list

pub rising_next : (a : ℕ) (list : List ℕ) → RisingFrom a list → a ≤ next_from a list
rising_next a [] h = omega arith
rising_next a (j ∷ list) h = omega (arith, h.0, rising_next (j + 1) list h.1)

pub rises_sooner : (a b : ℕ) (list : List ℕ) → a ≤ b → RisingFrom b list → RisingFrom a list
rises_sooner a b [] le h = tt
rises_sooner a b (j ∷ list) le h = (omega (arith, le, h.0), h.1)

next_sooner : (a b : ℕ) (list : List ℕ) → a ≤ b → next_from a list ≤ next_from b list
next_sooner a b [] le = le
next_sooner a b (j ∷ list) le = omega arith

pub rising_within : (a i : ℕ) (list : List ℕ) → RisingFrom a list → has list i ≡ true → (a ≤ i)
    × (i < next_from a list)
rising_within a i [] h e = absurd (false≢true e)
rising_within a i (j ∷ list) h e = elim (cases_Bool (eqb j i)) [
  | inl here ↦ (omega (arith, h.0, eqb-true j i here), omega (arith, eqb-true j i here, rising_next (j + 1) list h.1))
  | inr other ↦ (let more = rising_within (j + 1) i list h.1 (rw other at e) in (omega (arith, more.0, h.0), more.1))
]

-- the rows of a rising list, found again one by one
has_below : (a i : ℕ) (list : List ℕ) → RisingFrom a list → i < a → has list i ≡ false
has_below a i list h lt = false_from_ne_true (has list i) (λ e. omega (arith, lt, (rising_within a i list h e).0))

filter_same : (p q : ℕ → Bool) (a n : ℕ) → ((i : ℕ) → a ≤ i → i < a + n → p i ≡ q i) → filter p (range_with_len a n)
    ≡ filter q (range_with_len a n)
filter_same p q a zero h = refl
filter_same p q a (suc n) h = rw (
  h a (omega arith) (omega arith),
  filter_same p q (a + 1) n (λ i le lt. h i (omega (arith, le)) (omega (arith, lt))),
) refl

filter_none : (p : ℕ → Bool) (a n : ℕ) → ((i : ℕ) → a ≤ i → i < a + n → p i ≡ false) → filter p (range_with_len a n)
    ≡ []
filter_none p a zero h = refl
filter_none p a (suc n) h =
    rw (h a (omega arith) (omega arith))
    (filter_none p (a + 1) n (λ i le lt. h i (omega (arith, le)) (omega (arith, lt))))

pub rows_again : (a n : ℕ) (list : List ℕ) → RisingFrom a list → next_from a list ≤ a + n
    → filter (has list) (range_with_len a n) ≡ list
rows_again a zero [] h e = refl
rows_again a zero (j ∷ list) h e = absurd (omega (arith, e, h.0, rising_next (j + 1) list h.1))
rows_again a (suc n) [] h e = filter_none (has []) a (suc n) (λ i le lt. refl)
rows_again a (suc n) (j ∷ list) h e = elim (cases_eq j a) [
  | inl same ↦
      let here : has (j ∷ list) a ≡ true = or_left (eqb j a) (has list a) (eq-eqb j a same) in
      let later : filter (has (j ∷ list)) (range_with_len (a + 1) n) ≡ filter (has list) (range_with_len (a + 1) n) =
      filter_same (has (j ∷ list)) (has list) (a + 1) n
      (λ i le lt. rw (ne_eqb j i (λ x. omega (arith, x, same, le))) refl) in
      let more = rows_again (a + 1) n list (subst (λ (m : ℕ). RisingFrom (m + 1) list) same h.1)
      (omega (arith, e, ap (λ (m : ℕ). next_from (m + 1) list) same)) in
      ap (λ (b : Bool). cond b (a ∷ filter (has (j ∷ list)) (range_with_len (a + 1) n))
      (filter (has (j ∷ list)) (range_with_len (a + 1) n))) here ∙ ap (λ (t : List ℕ). a ∷ t) (later ∙ more)
      ∙ ap (λ (m : ℕ). m ∷ list) (sym same)
  | inr other ↦
      let past : a + 1 ≤ j = omega (arith, h.0, other) in
      let apart : has (j ∷ list) a ≡ false = has_below (a + 1) a (j ∷ list) (past, h.1) (omega arith) in
      ap (λ (b : Bool). cond b (a ∷ filter (has (j ∷ list)) (range_with_len (a + 1) n))
      (filter (has (j ∷ list)) (range_with_len (a + 1) n))) apart ∙ rows_again (a + 1) n (j ∷ list) (
        past,
        h.1,
      ) (omega (arith, e))
]

-- ---- the rows with a code

pub rows_of_map : (f : ℕ → ℕ) (a n k : ℕ) → rows_from a (map f (range_with_len a n)) k
    ≡ filter (λ i. eqb (f i) k) (range_with_len a n)
rows_of_map f a zero k = refl
rows_of_map f a (suc n) k = rw (rows_of_map f (a + 1) n k) refl

pub rows_rise : (a : ℕ) (codes : List ℕ) (k : ℕ) → RisingFrom a (rows_from a codes k)
    × (next_from a (rows_from a codes k) ≤ a + length codes)
rows_rise a [] k = (tt, omega arith)
rows_rise a (c ∷ codes) k =
    let more = rows_rise (a + 1) codes k in
    elim (cases_Bool (eqb c k)) [
      | inl here ↦ rw here ((omega arith, more.0), omega (arith, more.1))
      | inr other ↦ rw other (
        rises_sooner a (a + 1) (rows_from (a + 1) codes k) (omega arith) more.0,
        omega (arith, more.1, next_sooner a (a + 1) (rows_from (a + 1) codes k) (omega arith)),
      )
    ]

pub rows_have : (a : ℕ) (codes : List ℕ) (k i : ℕ) → i < length codes → has (rows_from a codes k) (a + i)
    ≡ eqb (code_of codes i) k
rows_have a [] k i lt = absurd (omega (arith, lt))
rows_have a (c ∷ codes) k zero lt =
    let more = rows_rise (a + 1) codes k in
    elim (cases_Bool (eqb c k)) [
      | inl here ↦ rw here (or_left (eqb a (a + 0)) (has (rows_from (a + 1) codes k) (a + 0))
          (eq-eqb a (a + 0) (omega arith)))
      | inr other ↦ rw other (has_below (a + 1) (a + 0) (rows_from (a + 1) codes k) more.0 (omega arith))
    ]
rows_have a (c ∷ codes) k (suc i) lt =
    let next : (a + 1) + i ≡ a + suc i = omega arith in
    let more : has (rows_from (a + 1) codes k) (a + suc i) ≡ eqb (code_of codes i) k =
    rw (← next) (rows_have (a + 1) codes k i (omega (arith, lt))) in
    elim (cases_Bool (eqb c k)) [
      | inl here ↦ rw here (rw (ne_eqb a (a + suc i) (λ x. omega (arith, x))) more)
      | inr other ↦ rw other more
    ]

pub rows_first : (a : ℕ) (codes : List ℕ) (k : ℕ) → has codes k ≡ true → (0 < length (rows_from a codes k))
    × (first_of (rows_from a codes k) ≡ a + first_row_of codes k)
rows_first a [] k h = absurd (false≢true h)
rows_first a (c ∷ codes) k h = elim (cases_Bool (eqb c k)) [
  | inl here ↦ (let zero_is = first_here c k codes here in rw here (omega arith, omega (arith, zero_is)))
  | inr other ↦
      let more = rows_first (a + 1) codes k (rw other at h) in
      let later = first_later c k codes other in
      (rw other more.0, rw other (omega (arith, more.1, later)))
]

pub in_map : {X : Type 0} (f : ℕ → X) (n i : ℕ) (d : X) → i < n → get_or (map f (range_with_len 0 n)) i d ≡ f i
in_map f n i d lt = get_or-map-range_with_len f 0 n i i d lt (omega arith)

pub rows_test : (codes : List ℕ) (k i : ℕ) → i < length codes → has (rows_from 0 codes k) i ≡ eqb (code_of codes i) k
rows_test codes k i lt =
    let same : 0 + i ≡ i = omega arith in
    subst (λ (j : ℕ). has (rows_from 0 codes k) j ≡ eqb (code_of codes i) k) same (rows_have 0 codes k i lt)

-- ---- lists that pass their tests

pub next_last : (a : ℕ) (list : List ℕ) → 0 < length list → next_from a list ≡ get_or list (length list - 1) 0 + 1
next_last a [] some = absurd (omega (arith, some))
next_last a (i ∷ []) some = refl
next_last a (i ∷ j ∷ list) some =
    let at : length (i ∷ j ∷ list) - 1 ≡ suc (length (j ∷ list) - 1) = omega arith in
    next_last (i + 1) (j ∷ list) (omega arith) ∙ ap (λ (n : ℕ). get_or (i ∷ j ∷ list) n 0 + 1) (sym at)

pub rising_push : (a i : ℕ) (list : List ℕ) → RisingFrom a list → next_from a list ≤ i → RisingFrom a (list ++ i ∷ [])
rising_push a i [] h le = (le, tt)
rising_push a i (j ∷ list) h le = (h.0, rising_push (j + 1) i list h.1 le)

rising_at : (a t : ℕ) (list : List ℕ) → RisingFrom a list → t + 1 < length list
    → get_or list t 0 < get_or list (t + 1) 0
rising_at a t [] h lt = absurd (omega (arith, lt))
rising_at a t (i ∷ []) h lt = absurd (omega (arith, lt))
rising_at a zero (i ∷ j ∷ list) h lt = omega (arith, h.1.0)
rising_at a (suc t) (i ∷ j ∷ list) h lt = (let next : suc t + 1 ≡ suc (t + 1) =
    omega arith in rw next (rising_at (i + 1) t (j ∷ list) h.1 (omega (arith, lt))))

all_has : (P : ℕ → Type 0) (list : List ℕ) (i : ℕ) → AllByRecursion P list → has list i ≡ true → P i
all_has P [] i h e = absurd (false≢true e)
all_has P (j ∷ list) i h e = elim (cases_Bool (eqb j i)) [
  | inl here ↦ subst P (eqb-true j i here) h.0
  | inr other ↦ all_has P list i h.1 (rw other at e)
]

all_from : (P : ℕ → Type 0) (list : List ℕ) → ((i : ℕ) → has list i ≡ true → P i) → AllByRecursion P list
all_from P [] h = tt
all_from P (j ∷ list) h = (
  h j (or_left (eqb j j) (has list j) (eq-eqb j j refl)),
  all_from P list (λ i e. h i (or_right (eqb j i) (has list i) e)),
)

named_place : (lists : List (List ℕ)) (i : ℕ) → named lists i ≡ true → (t : ℕ) × (t < length lists)
    × (has (get_or lists t []) i ≡ true)
named_place [] i h = absurd (false≢true h)
named_place (list ∷ lists) i h = elim (cases_Bool (has list i)) [
  | inl here ↦ (0, omega arith, here)
  | inr other ↦ (let more = named_place lists i (rw other at h) in (suc more.0, omega (arith, more.1), more.2))
]

record AreGood (rows : ℕ) (lists : List (List ℕ)) : Type 0 where
  each : (t : ℕ) → t < length lists → (0 < length (get_or lists t [])) × RisingFrom 0 (get_or lists t [])
      × (next_from 0 (get_or lists t []) ≤ rows)
  apart : (s t i : ℕ) → s < t → t < length lists → has (get_or lists t []) i ≡ true → has (get_or lists s []) i
      ≡ false
  heads : RisingFrom 0 (map first_of lists)

good_push : (rows : ℕ) (lists : List (List ℕ)) (list : List ℕ) → IsList rows lists list → AreGood rows lists
    → AreGood rows (lists ++ list ∷ [])
good_push rows lists list h g =
    let longer = length_push lists list in
    let Fine = λ (l : List ℕ). (0 < length l) × RisingFrom 0 l × (next_from 0 l ≤ rows) in
    record {
      each = λ t lt. elim (cases_lt t (length lists)) [
        | inl old ↦ subst Fine (sym (get_or_append_left lists (list ∷ []) [] t old)) (g.each t old)
        | inr new ↦ subst Fine (sym (get_or_at lists list [] [] t (omega (arith, longer, lt, new)))) (
          h.some,
          h.rising,
          h.within,
        )
      ];
      apart = λ s t i order lt e. elim (cases_lt t (length lists)) [
        | inl old ↦ ap (λ (l : List ℕ). has l i) (get_or_append_left lists (list ∷ []) [] s
            (omega (arith, order, old)))
            ∙ g.apart s t i order old
            (ap (λ (l : List ℕ). has l i) (sym (get_or_append_left lists (list ∷ []) [] t old)) ∙ e)
        | inr new ↦
            let here : has list i ≡ true =
            ap (λ (l : List ℕ). has l i) (sym (get_or_at lists list [] [] t (omega (arith, longer, lt, new))))
            ∙ e in
            let none : named lists i ≡ false = all_has (λ j. named lists j ≡ false) list i h.apart here in
            let before : s < length lists = omega (arith, order, lt, longer) in
            ap (λ (l : List ℕ). has l i) (get_or_append_left lists (list ∷ []) [] s before)
            ∙ false_from_ne_true (has (get_or lists s []) i) (λ there. false≢true (sym none
            ∙ list_any_at (λ l. has l i) lists s [] before there))
      ];
      heads = subst (λ (l : List ℕ). RisingFrom 0 l) (sym (map-append first_of lists (list ∷ [])))
          (rising_push 0 (first_of list) (map first_of lists) g.heads h.first);
    }

good_lists : (rows : ℕ) (lists : List (List ℕ)) → EachIs (λ left earlier list. IsList rows earlier list) [] lists
    → AreGood rows lists
good_lists rows lists h = each_to (λ left earlier list. IsList rows earlier list) (AreGood rows)
    (λ left earlier list l g. good_push rows earlier list l g) [] lists h
    (record {
      each = λ t lt. absurd (omega (arith, lt));
      apart = λ s t i order lt e. absurd (omega (arith, lt));
      heads = tt;
    })

-- ---- their owners

position_within : (p : List ℕ → Bool) (lists : List (List ℕ)) → position_or_len p lists ≤ length lists
position_within p [] = omega arith
position_within p (l ∷ lists) = elim (cases_Bool (p l)) [
  | inl here ↦ rw here (omega arith)
  | inr other ↦ rw other (omega (arith, position_within p lists))
]

owner_is : (rows : ℕ) (lists : List (List ℕ)) (t i : ℕ) → AreGood rows lists → t < length lists
    → has (get_or lists t []) i ≡ true → owner_in lists i ≡ t
owner_is rows lists t i g lt e = position_or_len_is (λ l. has l i) lists t [] (omega (arith, lt))
    (λ s order. g.apart s t i order lt e) (λ below. e)

owner_test : (rows : ℕ) (lists : List (List ℕ)) (t i : ℕ) → AreGood rows lists → t < length lists
    → eqb (owner_in lists i) t ≡ has (get_or lists t []) i
owner_test rows lists t i g lt = elim (cases_Bool (has (get_or lists t []) i)) [
  | inl there ↦ eq-eqb (owner_in lists i) t (owner_is rows lists t i g lt there) ∙ sym there
  | inr none ↦ ne_eqb (owner_in lists i) t (λ same.
      false≢true (sym none ∙ ap (λ (s : ℕ). has (get_or lists s []) i) (sym same)
      ∙ passes_at_first (λ l. has l i) lists [] (omega (arith, same, lt)))) ∙ sym none
]

list_back : (rows : ℕ) (lists : List (List ℕ)) (t : ℕ) → AreGood rows lists → t < length lists
    → rows_from 0 (owners_of rows lists) t ≡ get_or lists t []
list_back rows lists t g lt =
    rows_of_map (owner_in lists) 0 rows t
    ∙ filter_same (λ i. eqb (owner_in lists i) t) (has (get_or lists t [])) 0 rows (λ i le below.
    owner_test rows lists t i g lt)
    ∙ rows_again 0 rows (get_or lists t []) (g.each t lt).1 (omega (arith, (g.each t lt).2))

first_has : (list : List ℕ) → 0 < length list → has list (first_of list) ≡ true
first_has [] some = absurd (omega (arith, some))
first_has (i ∷ list) some = or_left (eqb i i) (has list i) (eq-eqb i i refl)

pub owners_from : (rows : ℕ) (lists : List (List ℕ)) → EachIs (λ left earlier list. IsList rows earlier list) [] lists
    → AreOwners rows (length lists) (owners_of rows lists) × (lists_of (length lists) (owners_of rows lists) ≡ lists)
owners_from rows lists h =
    let g = good_lists rows lists h in
    let owners = owners_of rows lists in
    let count : length owners ≡ rows = length-map-range_with_len (owner_in lists) 0 rows in
    let at = λ (i : ℕ) (lt : i < rows). in_map (owner_in lists) rows i 0 lt in
    let used = λ (t : ℕ) (lt : t < length lists). (
    let i = first_of (get_or lists t []) in
    let here = first_has (get_or lists t []) (g.each t lt).0 in
    let row : i < rows = omega (
      arith,
      (rising_within 0 i (get_or lists t []) (g.each t lt).1 here).1,
      (g.each t lt).2,
    ) in
    let owner : code_of owners i ≡ t = at i row ∙ owner_is rows lists t i g lt here in
    subst (λ (k : ℕ). has owners k ≡ true) owner (has_at owners i (omega (arith, row, count)))) in
    let first = λ (t : ℕ) (lt : t < length lists). sym (rows_first 0 owners t (used t lt)).1
    ∙ ap first_of (list_back rows lists t g lt) in (
      record {
        count = count;
        each = λ i lt. omega (arith, at i lt, position_within (λ l. has l i) lists);
        used = used;
        numbered = λ t lt.
            let one = first t (omega (arith, lt)) in
            let two = first (t + 1) lt in
            let heads = rising_at 0 t (map first_of lists) g.heads (omega (arith, lt, length-map lists first_of)) in
            omega (
              arith,
              one,
              two,
              heads,
              get_or-map first_of lists t [] 0 (omega (arith, lt)),
              get_or-map first_of lists (t + 1) [] 0 lt,
            );
      },
      ext_get_or [] (lists_of (length lists) owners) lists (length-map-range_with_len (rows_from 0 owners) 0
          (length lists)) (λ t lt.
          let below : t < length lists =
          omega (arith, lt, length-map-range_with_len (rows_from 0 owners) 0 (length lists)) in
          in_map (rows_from 0 owners) (length lists) t [] below ∙ list_back rows lists t g below),
    )

-- ---- and the lists of owners

above : (d : ℕ) (owners : List ℕ) (so_far : List (List ℕ)) (n : ℕ) → AreNumbered owners d → n < d → length so_far ≡ n
    → so_far ≡ map (rows_from 0 owners) (range_with_len 0 n)
    → ((t : ℕ) → t < d → first_of (rows_from 0 owners t) ≡ 0 + first_row_of owners t)
    → floor_of so_far ≤ first_of (rows_from 0 owners n)
above d owners [] n numbered below count front first = omega arith
above d owners (list ∷ so_far) zero numbered below count front first = absurd (omega (arith, count))
above d owners (list ∷ so_far) (suc m) numbered below count front first =
    let all = list ∷ so_far in
    let size = length-map all first_of in
    let last : floor_of all ≡ get_or (map first_of all) (length (map first_of all) - 1) 0 + 1 =
    next_last 0 (map first_of all) (omega arith) in
    let m_is : length (map first_of all) - 1 ≡ m = omega (arith, size, count) in
    let at : get_or (map first_of all) m 0 ≡ first_of (get_or all m []) =
    get_or-map first_of all m [] 0 (omega (arith, count)) in
    let one : get_or all m [] ≡ rows_from 0 owners m = ap (λ (ls : List (List ℕ)). get_or ls m []) front
    ∙ in_map (rows_from 0 owners) (suc m) m [] (omega arith) in
    let next : m + 1 ≡ suc m = omega arith in
    let order : first_row_of owners m < first_row_of owners (suc m) =
    subst (λ (k : ℕ). first_row_of owners m < first_row_of owners k) next (numbered m (omega (arith, below))) in
    omega (
      arith,
      last,
      ap (λ (k : ℕ). get_or (map first_of all) k 0) m_is,
      at,
      ap first_of one,
      first m (omega (arith, below)),
      first (suc m) below,
      order,
    )

pub owners_again : (rows d : ℕ) (owners : List ℕ) → AreOwners rows d owners
    → EachIs (λ left earlier list. IsList rows earlier list) [] (lists_of d owners)
    × (owners_of rows (lists_of d owners) ≡ owners)
owners_again rows d owners o =
    let f = rows_from 0 owners in
    let all = lists_of d owners in
    let size : length all ≡ d = length-map-range_with_len f 0 d in
    let have = λ (k i : ℕ) (lt : i < length owners). rows_test owners k i lt in (
      each_from (λ left earlier list. IsList rows earlier list) (λ so_far. Unit {0}) all (λ so_far list items e h.
          let n = length so_far in
          let below : n < d = omega (
            arith,
            size,
            ap (λ (ls : List (List ℕ)). length ls) e,
            length-append so_far (list ∷ items),
          ) in
          let front : so_far ≡ map f (range_with_len 0 n) = sym (take_at so_far (list ∷ items) n refl)
          ∙ ap (λ (ls : List (List ℕ)). take n ls) (sym e)
          ∙ take-map-range_with_len f 0 d n (omega (arith, below)) in
          let this : list ≡ f n = sym (get_or_at so_far list items [] n refl)
          ∙ ap (λ (ls : List (List ℕ)). get_or ls n []) (sym e) ∙ in_map f d n [] below in
          let rise = rows_rise 0 owners n in
          let start = rows_first 0 owners n (o.used n below) in (
            subst (λ (l : List ℕ). IsList rows so_far l) (sym this) (record {
              some = start.0;
              rising = rise.0;
              within = omega (arith, rise.1, o.count);
              apart = all_from (λ i. named so_far i ≡ false) (f n) (λ i here. false_from_ne_true (named so_far i)
                  (λ there.
                  let p = named_place so_far i there in
                  let row : i < length owners = omega (arith, (rising_within 0 i (f n) rise.0 here).1, rise.1) in
                  let old : get_or so_far p.0 [] ≡ f p.0 = ap (λ (ls : List (List ℕ)). get_or ls p.0 []) front
                  ∙ in_map f n p.0 [] p.1 in
                  let one : code_of owners i ≡ n = eqb-true (code_of owners i) n (sym (have n i row) ∙ here) in
                  let two : code_of owners i ≡ p.0 = eqb-true (code_of owners i) p.0 (sym (have p.0 i row)
                  ∙ ap (λ (l : List ℕ). has l i) (sym old) ∙ p.2) in
                  omega (arith, one, two, p.1)));
              first = above d owners so_far n o.numbered below refl front
                  (λ t lt. (rows_first 0 owners t (o.used t lt)).1);
            }),
            tt,
          )) [] all refl tt,
      ext_get_or 0 (owners_of rows all) owners (length-map-range_with_len (owner_in all) 0 rows ∙ sym o.count)
          (λ i lt.
          let row : i < rows = omega (arith, lt, length-map-range_with_len (owner_in all) 0 rows) in
          let c = code_of owners i in
          let within : c ≤ d = o.each i row in
          let there : i < length owners = omega (arith, row, o.count) in
          in_map (owner_in all) rows i 0 row
          ∙ position_or_len_is (λ l. has l i) all c [] (omega (arith, within, size))
          (λ k lt. ap (λ (l : List ℕ). has l i) (in_map f d k [] (omega (arith, lt, within))) ∙ have k i there
          ∙ ne_eqb c k (λ same. omega (arith, same, lt)))
          (λ lt. ap (λ (l : List ℕ). has l i) (in_map f d c [] (omega (arith, lt, size))) ∙ have c i there
          ∙ eq-eqb c c refl)),
    )

-- the rows with a code, as a filter of all rows
codes_again : (codes : List ℕ) → map (code_of codes) (range_with_len 0 (length codes)) ≡ codes
codes_again codes =
    ext_get_or 0 (map (code_of codes) (range_with_len 0 (length codes))) codes
    (length-map-range_with_len (code_of codes) 0 (length codes))
    (λ i lt. in_map (code_of codes) (length codes) i 0
    (omega (arith, lt, length-map-range_with_len (code_of codes) 0 (length codes))))

pub rows_are : (codes : List ℕ) (k : ℕ) → rows_from 0 codes k
    ≡ filter (λ i. eqb (code_of codes i) k) (range_with_len 0 (length codes))
rows_are codes k = ap (λ (l : List ℕ). rows_from 0 l k) (sym (codes_again codes))
    ∙ rows_of_map (code_of codes) 0 (length codes) k
