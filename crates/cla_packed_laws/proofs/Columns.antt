-- The columns of groups that pass their tests are a partition, in the order of their first columns.
use Rattle.std.proofs.Common.{◌≡◌, ℕ, zero, suc, ◌+◌, ◌<◌, ◌≤◌, Bool, true, false, cond, eqb, List, [], ◌∷◌, ◌++◌}
use Rattle.std.proofs.Common.{length, map, refl, sym, ap, subst, ◌∙◌, append_assoc, arith, inl, inr}
use Rattle.std.specs.Prelude.{nat_lt, nat_le, not, ◌&&◌, ◌||◌, ◌==◌}
use Rattle.std.specs.List.{list_all, range_with_len, AllByRecursion}
use Rattle.std.proofs.lemmas.Bool.{cases_lt, cases_eq, cases_Bool, lt-ltb, le-ltb, ltb-true, leb-true, le-leb}
use Rattle.std.proofs.lemmas.Bool.{eqb-true, eq-eqb, ne_eqb, and_parts, and_from, not-true, not_from_false}
use Rattle.std.proofs.lemmas.Bool.{false_from_ne_true, or_left, or_right, false≢true}
use Rattle.std.proofs.lemmas.List.{length-append, map-append}
use Rattle.cla_packed.specs.Fields.{EachIs}
use Rattle.cla_layout.specs.Groups.{occurrences_of}
use Rattle.cla_layout.specs.Layouts.{IsPartition}
use Rattle.cla_packed.specs.Codes.{has}
use Rattle.cla_packed.specs.Lists.{next_from, RisingFrom, first_of, floor_of}
use Rattle.cla_packed.specs.Offsets.{joined}
use Rattle.cla_packed.specs.Files.{fits_width, fits_column, AreColumns}
use Rattle.cla_packed_laws.proofs.Tests.{at_last, each_by, each_to, each_from}
use Rattle.cla_packed_laws.proofs.RowTests.{EachHere, joined-append}
use Rattle.cla_packed_laws.proofs.Codes.{occurs_more, occurs, has_occurring}
use Rattle.cla_packed_laws.proofs.Lists.{next_push, rising_push, rising_within}
use Rattle.cla_packed_laws.proofs.Files.{width_parts}

-- ---- how often a number stands in a list

occurs-append : (xs ys : List ℕ) (j : ℕ) → occurrences_of (xs ++ ys) j ≡ occurrences_of xs j + occurrences_of ys j
occurs-append [] ys j = omega arith
occurs-append (x ∷ xs) ys j = omega (arith, occurs_more x j (xs ++ ys), occurs_more x j xs, occurs-append xs ys j)

absent : (xs : List ℕ) (j : ℕ) → has xs j ≡ false → occurrences_of xs j ≡ 0
absent xs j h = elim (cases_eq (occurrences_of xs j) 0) [
  | inl none ↦ none
  | inr some ↦ absurd (false≢true (sym h ∙ has_occurring xs j (omega (arith, some))))
]

rising_once : (a : ℕ) (xs : List ℕ) (j : ℕ) → RisingFrom a xs → occurrences_of xs j ≤ 1
rising_once a [] j h = omega arith
rising_once a (x ∷ xs) j h = elim (cases_eq x j) [
  | inl here ↦
      let none : has xs j ≡ false =
      false_from_ne_true (has xs j) (λ e. (let w = rising_within (x + 1) j xs h.1 e in omega (
        arith,
        w.0,
        here,
      ))) in
      omega (arith, occurs_more x j xs, ap {B = ℕ} (λ (b : Bool). cond b 1 0) (eq-eqb x j here), absent xs j none)
  | inr other ↦ omega (
    arith,
    occurs_more x j xs,
    ap {B = ℕ} (λ (b : Bool). cond b 1 0) (ne_eqb x j other),
    rising_once (x + 1) xs j h.1,
  )
]

-- how many of a list's numbers are below n
total : List ℕ → ℕ → ℕ
total xs zero = 0
total xs (suc n) = total xs n + occurrences_of xs n

total_none : (n : ℕ) → total [] n ≡ 0
unfolding total
total_none zero = refl
total_none (suc n) = omega (arith, total_none n)

total_more : (x : ℕ) (xs : List ℕ) (n : ℕ) → total (x ∷ xs) n ≡ total xs n + cond (nat_lt x n) 1 0
unfolding total
total_more x xs zero = rw (le-ltb x 0 (omega arith)) (omega arith)
total_more x xs (suc n) =
    let more = total_more x xs n in
    let here = occurs_more x n xs in
    elim (cases_eq x n) [
      | inl same ↦ omega (
        arith,
        more,
        here,
        ap {B = ℕ} (λ (b : Bool). cond b 1 0) (eq-eqb x n same),
        ap {B = ℕ} (λ (b : Bool). cond b 1 0) (le-ltb x n (omega (arith, same))),
        ap {B = ℕ} (λ (b : Bool). cond b 1 0) (lt-ltb x (suc n) (omega (arith, same))),
      )
      | inr other ↦ elim (cases_lt x n) [
        | inl lt ↦ omega (
          arith,
          more,
          here,
          ap {B = ℕ} (λ (b : Bool). cond b 1 0) (ne_eqb x n other),
          ap {B = ℕ} (λ (b : Bool). cond b 1 0) (lt-ltb x n lt),
          ap {B = ℕ} (λ (b : Bool). cond b 1 0) (lt-ltb x (suc n) (omega (arith, lt))),
        )
        | inr ge ↦ omega (
          arith,
          more,
          here,
          ap {B = ℕ} (λ (b : Bool). cond b 1 0) (ne_eqb x n other),
          ap {B = ℕ} (λ (b : Bool). cond b 1 0) (le-ltb x n ge),
          ap {B = ℕ} (λ (b : Bool). cond b 1 0) (le-ltb x (suc n) (omega (arith, ge, other))),
        )
      ]
    ]

total_all : (xs : List ℕ) (n : ℕ) → AllByRecursion (λ x. x < n) xs → total xs n ≡ length xs
total_all [] n h = total_none n
total_all (x ∷ xs) n h = omega (
  arith,
  total_more x xs n,
  total_all xs n h.1,
  ap {B = ℕ} (λ (b : Bool). cond b 1 0) (lt-ltb x n h.0),
)

total_few : (xs : List ℕ) (n : ℕ) → ((j : ℕ) → occurrences_of xs j ≤ 1) → total xs n ≤ n
unfolding total
total_few xs zero h = omega arith
total_few xs (suc n) h = omega (arith, total_few xs n h, h n)

total_gap : (xs : List ℕ) (n j : ℕ) → ((j : ℕ) → occurrences_of xs j ≤ 1) → j < n → occurrences_of xs j ≡ 0
    → total xs n < n
unfolding total
total_gap xs zero j h lt none = absurd (omega (arith, lt))
total_gap xs (suc n) j h lt none = elim (cases_eq j n) [
  | inl here ↦ omega (arith, total_few xs n h, ap (occurrences_of xs) here, none)
  | inr other ↦ omega (arith, total_gap xs n j h (omega (arith, lt, other)) none, h n)
]

total_once : (xs : List ℕ) (n : ℕ) → ((j : ℕ) → j < n → occurrences_of xs j ≡ 1) → total xs n ≡ n
unfolding total
total_once xs zero h = refl
total_once xs (suc n) h = omega (arith, total_once xs n (λ j lt. h j (omega (arith, lt))), h n (omega arith))

-- ---- columns that pass their tests

column_parts : (cols : ℕ) (taken so_far : List ℕ) (c : ℕ) → fits_column cols taken so_far c ≡ true → (c < cols)
    × (has taken c ≡ false) × (cond (length so_far == 0) (list_all (has taken) (range_with_len 0 c))
    (nat_le (next_from 0 so_far) c) ≡ true)
column_parts cols taken so_far c h =
    let a = and_parts (nat_lt c cols && not (has taken c))
    (cond (length so_far == 0) (list_all (has taken) (range_with_len 0 c)) (nat_le (next_from 0 so_far) c)) h in
    let b = and_parts (nat_lt c cols) (not (has taken c)) a.0 in
    (ltb-true c cols b.0, not-true (has taken c) b.1, a.1)

later_parts : (cols : ℕ) (taken so_far list : List ℕ) → 0 < length so_far
    → EachHere (λ before c. fits_column cols taken before c ≡ true) so_far list
    → RisingFrom (next_from 0 so_far) list × AllByRecursion (λ c. (c < cols) × (has taken c ≡ false)) list
later_parts cols taken so_far [] some h = (tt, tt)
later_parts cols taken so_far (c ∷ list) some h =
    let p = column_parts cols taken so_far c h.0 in
    let more = later_parts cols taken (so_far ++ c ∷ []) list (omega (arith, length-append so_far (c ∷ []))) h.1 in
    let above : next_from 0 so_far ≤ c =
    leb-true (next_from 0 so_far) c (rw (ne_eqb (length so_far) 0 (λ e. omega (arith, e, some))) at p.2) in
    ((above, subst (λ (a : ℕ). RisingFrom a list) (next_push 0 c so_far) more.0), ((p.0, p.1), more.1))

-- what a group's columns say
record Says (cols : ℕ) (taken columns : List ℕ) : Type 0 where
  some : 0 < length columns
  rising : RisingFrom 0 columns
  each : AllByRecursion (λ c. (c < cols) × (has taken c ≡ false)) columns
  least : list_all (has taken) (range_with_len 0 (first_of columns)) ≡ true

columns_say : (cols left : ℕ) (taken columns : List ℕ) → AreColumns cols taken left columns → Says cols taken columns
columns_say cols left taken [] h = absurd (omega (arith, (width_parts cols left 0 taken h.width).0))
columns_say cols left taken (c ∷ columns) h =
    let p = column_parts cols taken [] c h.each.0 in
    let more = later_parts cols taken (c ∷ []) columns (omega arith) h.each.1 in
    record { some = omega arith; rising = (omega arith, more.0); each = ((p.0, p.1), more.1); least = p.2 }

record Taken (cols : ℕ) (lists : List (List ℕ)) : Type 0 where
  small : AllByRecursion (λ c. c < cols) (joined lists)
  once : (j : ℕ) → occurrences_of (joined lists) j ≤ 1
  heads : RisingFrom 0 (map first_of lists)
  each : AllByRecursion (λ list. (0 < length list) × RisingFrom 0 list) lists
  filled : (j : ℕ) → j < floor_of lists → has (joined lists) j ≡ true

all-append : {A : Type 0} (P : A → Type 0) (xs ys : List A) → AllByRecursion P xs → AllByRecursion P ys
    → AllByRecursion P (xs ++ ys)
all-append P [] ys h g = g
all-append P (x ∷ xs) ys h g = (h.0, all-append P xs ys h.1 g)

all_below : (cols : ℕ) (taken list : List ℕ) → AllByRecursion (λ c. (c < cols) × (has taken c ≡ false)) list
    → AllByRecursion (λ c. c < cols) list
all_below cols taken [] h = tt
all_below cols taken (c ∷ list) h = (h.0.0, all_below cols taken list h.1)

not_taken : (cols : ℕ) (taken list : List ℕ) (j : ℕ) → AllByRecursion (λ c. (c < cols) × (has taken c ≡ false)) list
    → has list j ≡ true → has taken j ≡ false
not_taken cols taken [] j h e = absurd (false≢true e)
not_taken cols taken (c ∷ list) j h e = elim (cases_Bool (eqb c j)) [
  | inl here ↦ subst (λ (m : ℕ). has taken m ≡ false) (eqb-true c j here) h.0.1
  | inr other ↦ not_taken cols taken list j h.1 (rw other at e)
]

pub all_range : (p : ℕ → Bool) (a n j : ℕ) → list_all p (range_with_len a n) ≡ true → a ≤ j → j < a + n → p j ≡ true
all_range p a zero j h le lt = absurd (omega (arith, le, lt))
all_range p a (suc n) j h le lt =
    let q = and_parts (p a) (list_all p (range_with_len (a + 1) n)) h in
    elim (cases_eq a j) [
      | inl here ↦ subst (λ (m : ℕ). p m ≡ true) here q.0
      | inr other ↦ all_range p (a + 1) n j q.1 (omega (arith, le, other)) (omega (arith, lt))
    ]

pub range_all : (p : ℕ → Bool) (a n : ℕ) → ((j : ℕ) → a ≤ j → j < a + n → p j ≡ true)
    → list_all p (range_with_len a n) ≡ true
range_all p a zero h = refl
range_all p a (suc n) h = and_from (p a) (list_all p (range_with_len (a + 1) n)) (h a (omega arith) (omega arith))
    (range_all p (a + 1) n (λ j le lt. h j (omega (arith, le)) (omega (arith, lt))))

has-append : (xs ys : List ℕ) (j : ℕ) → has xs j ≡ true → has (xs ++ ys) j ≡ true
has-append [] ys j h = absurd (false≢true h)
has-append (x ∷ xs) ys j h = elim (cases_Bool (eqb x j)) [
  | inl here ↦ or_left (eqb x j) (has (xs ++ ys) j) here
  | inr other ↦ or_right (eqb x j) (has (xs ++ ys) j) (has-append xs ys j (rw other at h))
]

has_behind : (xs ys : List ℕ) (j : ℕ) → has ys j ≡ true → has (xs ++ ys) j ≡ true
has_behind [] ys j h = h
has_behind (x ∷ xs) ys j h = or_right (eqb x j) (has (xs ++ ys) j) (has_behind xs ys j h)

has_first : (list : List ℕ) → 0 < length list → has list (first_of list) ≡ true
has_first [] some = absurd (omega (arith, some))
has_first (c ∷ list) some = or_left (eqb c c) (has list c) (eq-eqb c c refl)

taken_push : (cols : ℕ) (lists : List (List ℕ)) (list : List ℕ) → Says cols (joined lists) list → Taken cols lists
    → Taken cols (lists ++ list ∷ [])
taken_push cols lists list s t =
    let all : joined (lists ++ list ∷ []) ≡ joined lists ++ list = joined-append lists list in
    let heads : map first_of (lists ++ list ∷ []) ≡ map first_of lists ++ first_of list ∷ [] =
    map-append first_of lists (list ∷ []) in
    let floor : floor_of (lists ++ list ∷ []) ≡ first_of list + 1 = ap (next_from 0) heads
    ∙ next_push 0 (first_of list) (map first_of lists) in
    let free : has (joined lists) (first_of list) ≡ false = not_taken cols (joined lists) list (first_of list) s.each
    (has_first list s.some) in
    let above : floor_of lists ≤ first_of list = elim (cases_lt (first_of list) (floor_of lists)) [
      | inl lt ↦ absurd (false≢true (sym free ∙ t.filled (first_of list) lt))
      | inr ge ↦ ge
    ] in
    record {
      small = subst (λ (l : List ℕ). AllByRecursion (λ c. c < cols) l) (sym all)
          (all-append (λ c. c < cols) (joined lists) list t.small (all_below cols (joined lists) list s.each));
      once = λ j.
          let parts = ap (λ (l : List ℕ). occurrences_of l j) all ∙ occurs-append (joined lists) list j in
          elim (cases_Bool (has list j)) [
            | inl there ↦ omega (
              arith,
              parts,
              absent (joined lists) j (not_taken cols (joined lists) list j s.each there),
              rising_once 0 list j s.rising,
            )
            | inr none ↦ omega (arith, parts, absent list j none, t.once j)
          ];
      heads = subst (λ (l : List ℕ). RisingFrom 0 l) (sym heads)
          (rising_push 0 (first_of list) (map first_of lists) t.heads above);
      each = all-append (λ l. (0 < length l) × RisingFrom 0 l) lists (list ∷ []) t.each ((s.some, s.rising), tt);
      filled = λ j lt. subst (λ (l : List ℕ). has l j ≡ true) (sym all) (elim (cases_eq j (first_of list)) [
        | inl here ↦ has_behind (joined lists) list j (ap (has list) here ∙ has_first list s.some)
        | inr other ↦ has-append (joined lists) list j (all_range (has (joined lists)) 0 (first_of list) j s.least
            (omega arith) (omega (arith, lt, floor, other)))
      ]);
    }

no_columns : (cols : ℕ) → Taken cols []
no_columns cols = record {
  small = tt;
  once = λ j. omega arith;
  heads = tt;
  each = tt;
  filled =
      λ j lt. absurd (omega (arith, lt));
}

-- lists of columns of groups in the order of their first columns
pub record AreOrdered (cols : ℕ) (lists : List (List ℕ)) : Type 0 where
  pub partition : IsPartition cols (joined lists)
  pub heads : RisingFrom 0 (map first_of lists)
  pub each : AllByRecursion (λ list. (0 < length list) × RisingFrom 0 list) lists

below_none : (xs : List ℕ) (cols j : ℕ) → AllByRecursion (λ c. c < cols) xs → cols ≤ j → occurrences_of xs j ≡ 0
below_none [] cols j h le = refl
below_none (x ∷ xs) cols j h le =
    omega (
      arith,
      occurs_more x j xs,
      ap {B = ℕ} (λ (b : Bool). cond b 1 0) (ne_eqb x j (λ e. omega (arith, e, h.0, le))),
      below_none xs cols j h.1 le,
    )

whole_width : (cols left : ℕ) (before : List (List ℕ)) (list : List ℕ)
    → fits_width cols (joined before) left (length list) ≡ true
    → (nat_lt 0 left || (length (joined (before ++ list ∷ [])) == cols)) ≡ true
whole_width cols left before list h =
    let count : length (joined (before ++ list ∷ [])) ≡ length list + length (joined before) =
    omega (
      arith,
      ap (λ (l : List ℕ). length l) (joined-append before list),
      length-append (joined before) list,
    ) in
    ap (λ (n : ℕ). nat_lt 0 left || (n == cols)) count ∙ (width_parts cols left (length list) (joined before) h).2

pub columns_ordered : (cols : ℕ) (lists : List (List ℕ)) → 0 < length lists
    → EachIs (λ left before list. AreColumns cols (joined before) left list) [] lists → AreOrdered cols lists
columns_ordered cols lists some h =
    let Good = λ (left : ℕ) (before : List (List ℕ)) (list : List ℕ). AreColumns cols (joined before) left list in
    let t = each_to Good (Taken cols) (λ left before list g t. taken_push cols before list
    (columns_say cols left (joined before) list g) t) [] lists h (no_columns cols) in
    let test = λ (ls : List (List ℕ)). length (joined ls) == cols in
    let last = at_last (λ list. Unit {0}) test [] lists some (each_by Good (λ left before list. Unit {0}
    × ((nat_lt 0 left || test (before ++ list ∷ [])) ≡ true))
    (λ left before list g. (tt, whole_width cols left before list g.width)) [] lists h) in
    let count : length (joined lists) ≡ cols = eqb-true (length (joined lists)) cols last.1 in
    record {
      partition = record {
        once = λ j lt. elim (cases_eq (occurrences_of (joined lists) j) 0) [
          | inl none ↦ absurd (omega (
            arith,
            count,
            total_all (joined lists) cols t.small,
            total_gap (joined lists) cols j t.once lt none,
          ))
          | inr some ↦ omega (arith, some, t.once j)
        ];
        no_other = λ j le. below_none (joined lists) cols j t.small le;
      };
      heads = t.heads;
      each = t.each;
    }

-- ---- and the other way

head_least : (list : List ℕ) (j : ℕ) → 0 < length list → RisingFrom 0 list → has list j ≡ true → first_of list ≤ j
head_least [] j some h e = absurd (omega (arith, some))
head_least (c ∷ list) j some h e = (rising_within c j (c ∷ list) (omega arith, h.1) e).0

has_rest : (xs ys : List ℕ) (j : ℕ) → has xs j ≡ false → has (xs ++ ys) j ≡ true → has ys j ≡ true
has_rest [] ys j h e = e
has_rest (x ∷ xs) ys j h e = elim (cases_Bool (eqb x j)) [
  | inl here ↦ absurd (false≢true (sym h ∙ or_left (eqb x j) (has xs j) here))
  | inr other ↦ has_rest xs ys j (rw other at h) (rw other at e)
]

all_within : (xs : List ℕ) (cols : ℕ) → ((j : ℕ) → has xs j ≡ true → j < cols) → AllByRecursion (λ c. c < cols) xs
all_within [] cols h = tt
all_within (x ∷ xs) cols h = (
  h x (or_left (eqb x x) (has xs x) (eq-eqb x x refl)),
  all_within xs cols (λ j e. h j (or_right (eqb x j) (has xs j) e)),
)

none_left : (items : List (List ℕ)) → length items ≡ 0 → length (joined items) ≡ 0
none_left [] h = refl
none_left (list ∷ items) h = absurd (omega (arith, h))

widths : (cols left w : ℕ) (taken : List ℕ) → 0 < w → w + length taken + left ≤ cols
    → (left ≡ 0 → w + length taken ≡ cols) → fits_width cols taken left w ≡ true
widths cols left w taken some le last =
    and_from (nat_le 1 w && nat_le (w + length taken + left) cols) (nat_lt 0 left || (w + length taken == cols))
    (and_from (nat_le 1 w) (nat_le (w + length taken + left) cols) (le-leb 1 w some)
    (le-leb (w + length taken + left) cols le))
    (elim (cases_lt 0 left) [
      | inl more ↦ or_left (nat_lt 0 left) (w + length taken == cols) (lt-ltb 0 left more)
      | inr none ↦ or_right (nat_lt 0 left) (w + length taken == cols)
          (eq-eqb (w + length taken) cols (last (omega (arith, none))))
    ])

behind_heads : (lists : List (List ℕ)) (a j : ℕ) → RisingFrom a (map first_of lists)
    → AllByRecursion (λ list. (0 < length list) × RisingFrom 0 list) lists → has (joined lists) j ≡ true → a ≤ j
behind_heads [] a j h e there = absurd (false≢true there)
behind_heads (list ∷ lists) a j h e there = elim (cases_Bool (has list j)) [
  | inl here ↦ omega (arith, h.0, head_least list j e.0.0 e.0.1 here)
  | inr other ↦ omega (
    arith,
    h.0,
    behind_heads lists (first_of list + 1) j h.1 e.1
        (has_rest list (joined lists) j other there),
  )
]

some_each : (lists : List (List ℕ)) → AllByRecursion (λ list. (0 < length list) × RisingFrom 0 list) lists
    → length lists ≤ length (joined lists)
some_each [] h = omega arith
some_each (list ∷ lists) h = omega (arith, h.0.0, some_each lists h.1, length-append list (joined lists))

rising_parts : (a : ℕ) (xs ys : List ℕ) → RisingFrom a (xs ++ ys) → RisingFrom (next_from a xs) ys
rising_parts a [] ys h = h
rising_parts a (x ∷ xs) ys h = rising_parts (x + 1) xs ys h.1

all-behind : {A : Type 0} (P : A → Type 0) (xs ys : List A) → AllByRecursion P (xs ++ ys) → AllByRecursion P ys
all-behind P [] ys h = h
all-behind P (x ∷ xs) ys h = all-behind P xs ys h.1

joined-more : (before items : List (List ℕ)) → joined (before ++ items) ≡ joined before ++ joined items
joined-more [] items = refl
joined-more (list ∷ before) items = ap (λ (l : List ℕ). list ++ l) (joined-more before items)
    ∙ sym (append_assoc list (joined before) (joined items))

columns_fit : (cols : ℕ) (taken so_far list : List ℕ) → RisingFrom (next_from 0 so_far) list
    → ((j : ℕ) → has list j ≡ true → (j < cols) × (has taken j ≡ false)) → (length so_far ≡ 0 → 0 < length list
    → list_all (has taken) (range_with_len 0 (first_of list)) ≡ true)
    → EachHere (λ before c. fits_column cols taken before c ≡ true) so_far list
columns_fit cols taken so_far [] rise each least = tt
columns_fit cols taken so_far (c ∷ list) rise each least =
    let h = each c (or_left (eqb c c) (has list c) (eq-eqb c c refl)) in
    let tail = cond (length so_far == 0) (list_all (has taken) (range_with_len 0 c))
    (nat_le (next_from 0 so_far) c) in
    let last : tail ≡ true = elim (cases_eq (length so_far) 0) [
      | inl none ↦ rw (eq-eqb (length so_far) 0 none) (least none (omega arith))
      | inr some ↦ rw (ne_eqb (length so_far) 0 some) (le-leb (next_from 0 so_far) c rise.0)
    ] in (
      and_from (nat_lt c cols && not (has taken c)) tail (and_from (nat_lt c cols) (not (has taken c))
          (lt-ltb c cols h.0) (not_from_false (has taken c) h.1)) last,
      columns_fit cols taken (so_far ++ c ∷ []) list (subst (λ (a : ℕ). RisingFrom a list)
          (sym (next_push 0 c so_far)) rise.1) (λ j e. each j (or_right (eqb c j) (has list j) e)) (λ none some.
          absurd (omega (arith, none, length-append so_far (c ∷ [])))),
    )

in_columns : (all : List ℕ) (cols j : ℕ) → IsPartition cols all → has all j ≡ true → j < cols
in_columns all cols j p there = elim (cases_lt j cols) [
  | inl lt ↦ lt
  | inr ge ↦ absurd (omega (arith, p.no_other j ge, occurs all j there))
]

pub columns_again : (cols : ℕ) (lists : List (List ℕ)) → AreOrdered cols lists
    → EachIs (λ left before list. AreColumns cols (joined before) left list) [] lists
columns_again cols lists o =
    let all = joined lists in
    let within = λ (j : ℕ) (there : has all j ≡ true). in_columns all cols j o.partition there in
    let count : length all ≡ cols = sym (total_all all cols (all_within all cols within))
    ∙ total_once all cols o.partition.once in
    each_from (λ left before list. AreColumns cols (joined before) left list) (λ so_far. Unit {0}) lists
    (λ before list items e h.
    let taken = joined before in
    let parts : all ≡ taken ++ (list ++ joined items) = ap joined e ∙ joined-more before (list ∷ items) in
    let times = λ (j : ℕ). ap (λ (l : List ℕ). occurrences_of l j) parts
    ∙ occurs-append taken (list ++ joined items) j in
    let more = λ (j : ℕ). occurs-append list (joined items) j in
    let each = all-behind (λ l. (0 < length l) × RisingFrom 0 l) before (list ∷ items)
    (subst (λ (ls : List (List ℕ)). AllByRecursion (λ l. (0 < length l) × RisingFrom 0 l) ls) e o.each) in
    let heads : RisingFrom (first_of list + 1) (map first_of items) =
    (rising_parts 0 (map first_of before) (map first_of (list ∷ items)) (subst (λ (l : List ℕ). RisingFrom 0 l)
    (ap (map first_of) e ∙ map-append first_of before (list ∷ items)) o.heads)).1 in
    let size = ap (λ (l : List ℕ). length l) parts ∙ length-append taken (list ++ joined items) in
    let size_more = length-append list (joined items) in (
      record {
        width = widths cols (length items) (length list) taken each.0.0 (omega (
          arith,
          count,
          size,
          size_more,
          some_each items each.1,
        )) (λ none. omega (arith, count, size, size_more, none_left items none));
        each = columns_fit cols taken [] list each.0.1
            (λ j there.
            let here = occurs list j there in
            let lt = within j (subst (λ (l : List ℕ). has l j ≡ true) (sym parts)
            (has_behind taken (list ++ joined items) j (has-append list (joined items) j there))) in (
              lt,
              false_from_ne_true (has taken j) (λ old. omega (
                arith,
                occurs taken j old,
                here,
                times j,
                more j,
                o.partition.once j lt,
              )),
            ))
            (λ none some. range_all (has taken) 0 (first_of list) (λ j le lt. elim (cases_Bool (has taken j)) [
              | inl old ↦ old
              | inr new ↦
                  let head = within (first_of list) (subst (λ (l : List ℕ). has l (first_of list) ≡ true) (sym parts)
                  (has_behind taken (list ++ joined items) (first_of list)
                  (has-append list (joined items) (first_of list) (has_first list each.0.0)))) in
                  let once = o.partition.once j (omega (arith, lt, head)) in
                  absurd (elim (cases_Bool (has list j)) [
                    | inl here ↦ omega (arith, lt, head_least list j each.0.0 each.0.1 here)
                    | inr apart ↦ (let there : has (joined items) j ≡ true =
                        has_occurring (joined items) j (omega (
                          arith,
                          once,
                          times j,
                          more j,
                          absent taken j new,
                          absent list j apart,
                        )) in
                        omega (arith, lt, behind_heads items (first_of list + 1) j heads each.1 there))
                  ])
            ]));
      },
      tt,
    )) [] lists refl tt
