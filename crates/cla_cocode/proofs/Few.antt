-- Unions of groups that list few rows.
use Rattle.std.proofs.Common.{◌≡◌, ℕ, suc, ◌+◌, ◌*◌, ◌<◌, ◌≤◌, Bool, true, false, cond, not, ◌&&◌, ◌||◌, ◌==◌}
use Rattle.std.proofs.Common.{◌-◌, nat_eq, nat_lt, lt-ltb}
use Rattle.std.proofs.Common.{List, [], ◌∷◌, ◌++◌, map, length, get_or, All, refl, sym, ap, ◌∙◌, arith, eqb-true}
use Rattle.std.proofs.Common.{eq-eqb, inl, inr, ◌⊎◌}
use Rattle.std.proofs.Common.{length-append, subst, drop, drop-cons}
use Rattle.std.specs.List.{filter, list_any, position_or_len, range_with_len}
use Rattle.std.specs.Cmp.{both_ways}
use Rattle.std.proofs.lemmas.Bool.{cases_lt, cases_Bool}
use Rattle.std.proofs.lemmas.List.{length-map, get_or-map, ext_get_or}
use Rattle.std.proofs.lemmas.List.Elements.{All-append, All-filter, filter-append}
use Rattle.std.proofs.lemmas.List.Folds.{list_any-append, list_any_at, list_any_none}
use Rattle.std.proofs.lemmas.List.Sums.{passes_at_first, fails_before_first}
use Rattle.std.proofs.lemmas.List.FromFn.{get_or-range_with_len, length-range_with_len, get_or-map-range_with_len}
use Rattle.cla_layout.specs.Groups.{code_of}
use Rattle.cla_layout.specs.Listed.{is_rest, rows_where}
use Rattle.cla_grouping.specs.Numbering.{firsts_from, first_rows_by, same_pair}
use Rattle.cla_grouping.specs.Tuples.{TuplesOf, AreTuples}
use Rattle.cla_grouping.proofs.CodeLemmas.{list_any-map}
use Rattle.cla_numbering.specs.Tables.{AreBelow, place_at}
use Rattle.cla_numbering.proofs.TableLemmas.{place_within, firsts-of_places, digits-high}
use Rattle.cla_stats.specs.Coded.{CanJoin}
use Rattle.cla_cocode.specs.Listing.{listing_of, either_of}
use Rattle.cla_cocode.specs.Weighing.{begins_pair, pairs_of, pairs_in, floor_of}
use Rattle.cla_cocode.proofs.Unions.{rows-same, rows-all, rows-fewer, zero_pairs-class}
use Rattle.cla_cocode.proofs.Distinct.{once, fresh, rows-added, distinct-places}

-- the items that fail one of two tests: those that fail the first, and of those that fail the second the others
abbrev pub either : (o q : ℕ → Bool) → List ℕ → List ℕ
either o q xs = filter (λ i. not (o i)) xs ++ filter o (filter (λ i. not (q i)) xs)

-- a filter of a filter
filtered : (p t : ℕ → Bool) (xs : List ℕ) → filter t (filter p xs) ≡ filter (λ i. p i && t i) xs
filtered p t [] = refl
filtered p t (x ∷ xs) = by (p x) (filtered p t xs)
  where
    rest : List ℕ
    rest = filter (λ i. p i && t i) xs

    by : (b : Bool) → filter t (filter p xs) ≡ rest
        → filter t (cond b (x ∷ filter p xs) (filter p xs)) ≡ cond (b && t x) (x ∷ rest) rest
    by true h = ap (λ l. cond (t x) (x ∷ l) l) h
    by false h = h

-- as many pass two tests together as pass a third
counted-more : (x : ℕ) (b : Bool) (xs : List ℕ) → length (cond b (x ∷ xs) xs) ≡ length xs + once b
counted-more x true xs = omega arith
counted-more x false xs = omega arith

parted : (f g h : ℕ → Bool) → ((i : ℕ) → once (f i) + once (g i) ≡ once (h i)) → (xs : List ℕ)
    → length (filter f xs) + length (filter g xs) ≡ length (filter h xs)
parted f g h e [] = refl
parted f g h e (x ∷ xs) =
    omega (
      arith,
      counted-more x (f x) (filter f xs),
      counted-more x (g x) (filter g xs),
      counted-more x (h x) (filter h xs),
      e x,
      parted f g h e xs,
    )

either-once : (o q t : Bool) → once (not o && t) + once (not q && (o && t)) ≡ once (not (o && q) && t)
either-once true true true = refl
either-once true true false = refl
either-once true false true = refl
either-once true false false = refl
either-once false true true = refl
either-once false true false = refl
either-once false false true = refl
either-once false false false = refl

pub length-either : (o q t : ℕ → Bool) (xs : List ℕ) → length (filter t (either o q xs))
    ≡ length (filter (λ i. not (o i && q i) && t i) xs)
length-either o q t xs =
    let first = filter (λ i. not (o i)) xs in
    let second = filter (λ i. not (q i)) xs in
    ap length (filter-append t first (filter o second)) ∙ length-append (filter t first) (filter t (filter o second))
    ∙ ap (λ l. length l + length (filter t (filter o second))) (filtered (λ i. not (o i)) t xs)
    ∙ ap (λ l. length (filter (λ i. not (o i) && t i) xs) + length l)
    (filtered o t second ∙ filtered (λ i. not (q i)) (λ i. o i && t i) xs)
    ∙ parted (λ i. not (o i) && t i) (λ i. not (q i) && (o i && t i)) (λ i. not (o i && q i) && t i)
    (λ i. either-once (o i) (q i) (t i)) xs

-- an item passes one of two tests where it passes a third
any-or : (f g h : ℕ → Bool) → ((i : ℕ) → (f i || g i) ≡ h i) → (xs : List ℕ)
    → (list_any f xs || list_any g xs) ≡ list_any h xs
any-or f g h e [] = refl
any-or f g h e (x ∷ xs) =
    crossed (f x) (g x) (list_any f xs) (list_any g xs) ∙ ap (λ b. b || (list_any f xs || list_any g xs)) (e x)
    ∙ ap (λ b. h x || b) (any-or f g h e xs)
  where
    crossed : (a b c d : Bool) → ((a || c) || (b || d)) ≡ ((a || b) || (c || d))
    crossed true b c d = refl
    crossed false true true d = refl
    crossed false true false d = refl
    crossed false false c d = refl

any-filter : (p t : ℕ → Bool) (xs : List ℕ) → list_any t (filter p xs) ≡ list_any (λ i. p i && t i) xs
any-filter p t [] = refl
any-filter p t (x ∷ xs) = by (p x) (any-filter p t xs)
  where
    by : (b : Bool) → list_any t (filter p xs) ≡ list_any (λ i. p i && t i) xs
        → list_any t (cond b (x ∷ filter p xs) (filter p xs)) ≡ ((b && t x) || list_any (λ i. p i && t i) xs)
    by true h = ap (λ b. t x || b) h
    by false h = h

either-one : (o q t : Bool) → ((not o && t) || (not q && (o && t))) ≡ (not (o && q) && t)
either-one true true true = refl
either-one true true false = refl
either-one true false true = refl
either-one true false false = refl
either-one false true true = refl
either-one false true false = refl
either-one false false true = refl
either-one false false false = refl

any-either : (o q t : ℕ → Bool) (xs : List ℕ) → list_any t (either o q xs) ≡ list_any (λ i. not (o i && q i) && t i) xs
any-either o q t xs =
    let first = filter (λ i. not (o i)) xs in
    let second = filter (λ i. not (q i)) xs in
    list_any-append t first (filter o second)
    ∙ ap (λ b. b || list_any t (filter o second)) (any-filter (λ i. not (o i)) t xs)
    ∙ ap (λ b. list_any (λ i. not (o i) && t i) xs || b)
    (any-filter o t second ∙ any-filter (λ i. not (q i)) (λ i. o i && t i) xs)
    ∙ any-or (λ i. not (o i) && t i) (λ i. not (q i) && (o i && t i)) (λ i. not (o i && q i) && t i)
    (λ i. either-one (o i) (q i) (t i)) xs

-- one of the first n rows passes, or none does
any-found : (p : ℕ → Bool) (n : ℕ) → ((i : ℕ) × (i < n) × (p i ≡ true)) ⊎ ((i : ℕ) → i < n → p i ≡ false)
any-found p n = elim (cases_lt first n) [
  | inl there ↦ inl (
    first,
    there,
    ap p (sym (row_is first there))
        ∙ passes_at_first p (range_with_len 0 n) 0 (omega (arith, there, length-range_with_len 0 n)),
  )
  | inr past ↦ inr (λ i row. ap p (sym (row_is i row))
      ∙ fails_before_first p (range_with_len 0 n) i 0 (omega (arith, row, past)))
]
  where
    first : ℕ
    first = position_or_len p (range_with_len 0 n)

    row_is : (i : ℕ) → i < n → get_or (range_with_len 0 n) i 0 ≡ i
    row_is i h = get_or-range_with_len 0 n i 0 h ∙ omega arith

any-at : (p : ℕ → Bool) (n i : ℕ) → i < n → p i ≡ true → list_any p (range_with_len 0 n) ≡ true
any-at p n i row h =
    let is : get_or (range_with_len 0 n) i 0 ≡ i = get_or-range_with_len 0 n i 0 row ∙ omega arith in
    list_any_at p (range_with_len 0 n) i 0 (omega (arith, row, length-range_with_len 0 n)) (ap p is ∙ h)

range-all : (P : ℕ → Type 0) (n : ℕ) → ((i : ℕ) → i < n → P i) → All P (range_with_len 0 n)
range-all P n each = λ k d h.
    let row : k < n = omega (arith, h, length-range_with_len 0 n) in
    let is : get_or (range_with_len 0 n) k d ≡ k = get_or-range_with_len 0 n k d row ∙ omega arith in
    subst P (sym is) (each k row)

any-none : (p : ℕ → Bool) (n : ℕ) → ((i : ℕ) → i < n → p i ≡ false) → list_any p (range_with_len 0 n) ≡ false
any-none p n none = list_any_none p (range_with_len 0 n) (range-all (λ i. p i ≡ false) n none)

any-in : (p : ℕ → Bool) (n : ℕ) → list_any p (range_with_len 0 n) ≡ true → (i : ℕ) × (i < n) × (p i ≡ true)
any-in p n h = elim (any-found p n) [
  | inl found ↦ found
  | inr none ↦ absurd (true_false (sym h ∙ any-none p n none))
]
  where
    true_false : true ≡ false → ⊥
    true_false e = cc

all-pass : (xs : List ℕ) → filter (λ i. true) xs ≡ xs
all-pass [] = refl
all-pass (x ∷ xs) = ap (λ l. x ∷ l) (all-pass xs)

and-true : (b : Bool) → (b && true) ≡ b
and-true true = refl
and-true false = refl

-- as many rows are either's as fail one test
pub length-rows : (o q : ℕ → Bool) (n : ℕ) → length (either o q (range_with_len 0 n))
    ≡ length (rows_where (λ i. not (o i && q i)) n)
length-rows o q n =
    ap length (sym (all-pass (either o q (range_with_len 0 n)))) ∙ length-either o q (λ i. true) (range_with_len 0 n)
    ∙ rows-same (λ i. not (o i && q i) && true) (λ i. not (o i && q i)) n (λ i row. and-true (not (o i && q i)))

halves : (z t : Bool) → ((not z && t) || (z && t)) ≡ t
halves true t = refl
halves false true = refl
halves false false = refl

crossed : (x y : Bool) → (x || y) ≡ (y || x)
crossed true true = refl
crossed true false = refl
crossed false true = refl
crossed false false = refl

no_more : (x : Bool) → (x || false) ≡ x
no_more true = refl
no_more false = refl

of_and : (x y : Bool) → (x && y) ≡ true → (x ≡ true) × (y ≡ true)
of_and true y h = (refl, h)
of_and false y h = absurd (cc)

not_less : (a b : ℕ) → b ≤ a → nat_lt a b ≡ false
not_less a b h = grind arith

-- The numbers of the first n rows: those of the rows that fail one of two tests, and where rows pass both one more,
-- which they share and no other row has.
distinct-either : (o q : ℕ → Bool) (place : ℕ → ℕ) (n most : ℕ) → ((i : ℕ) → i < n → place i < most)
    → ((i j : ℕ) → (o i && q i) ≡ true → (o j && q j) ≡ true → place i ≡ place j)
    → ((i j : ℕ) → i < n → j < n → place i ≡ place j → (o i && q i) ≡ (o j && q j))
    → length (firsts_from nat_eq [] (map place (range_with_len 0 n)))
    ≡ length (firsts_from nat_eq [] (map place (either o q (range_with_len 0 n))))
    + once (nat_lt (length (either o q (range_with_len 0 n))) n)
distinct-either o q place n most within shared alone = elim (any-found both n) [
  | inl found ↦
      let j = found.0 in
      let z = place j in
      let only : (r : ℕ) → rest r ≡ nat_eq r z = λ r. equal (rest r) (nat_eq r z)
      (λ h. let one = any-in (λ i. both i && nat_eq r (place i)) n h in
      let is = of_and (both one.0) (nat_eq r (place one.0)) one.2 in
      eq-eqb r z (eqb-true r (place one.0) is.1 ∙ shared one.0 j is.0 found.2))
      (λ h. any-at (λ i. both i && nat_eq r (place i)) n j found.1 (ap (λ b. b && nat_eq r z) found.2 ∙ h)) in
      let other : others z ≡ false = elim (cases_Bool (others z)) [
        | inl met ↦
            let one = any-in (λ i. not (both i) && nat_eq z (place i)) n (sym (others-are z) ∙ met) in
            let is = of_and (not (both one.0)) (nat_eq z (place one.0)) one.2 in
            let same : both one.0 ≡ true =
            alone one.0 j one.1 found.1 (sym (eqb-true z (place one.0) is.1)) ∙ found.2 in
            absurd (false_true (sym (ap not same) ∙ is.0))
        | inr none ↦ none
      ] in
      let added = rows-added others all most z (within j found.1)
      (λ r. parts r ∙ ap (λ b. others r || b) (only r) ∙ crossed (others r) (nat_eq r z)) in
      let one_more : fresh (others z) ≡ 1 = ap fresh other in
      let fewer = rows-fewer (λ i. not (both i)) n j found.1 (ap not found.2) in
      let less : once (nat_lt (length rows) n) ≡ 1 =
      ap once (lt-ltb (length rows) n (omega (arith, length-rows o q n, fewer))) in
      omega (arith, all-count, others-count, added, one_more, less)
  | inr none ↦
      let same = rows-same all others most (λ r row. parts r ∙ ap (λ b. others r || b) (any-none _ n
      (λ i h. ap (λ b. b && nat_eq r (place i)) (none i h))) ∙ no_more (others r)) in
      let full = rows-all (λ i. not (both i)) n (λ i h. ap not (none i h)) in
      let less : once (nat_lt (length rows) n) ≡ 0 =
      ap once (not_less (length rows) n (omega (arith, length-rows o q n, full))) in
      omega (arith, all-count, others-count, same, less)
]
  where
    both : ℕ → Bool
    both i = o i && q i

    rows : List ℕ
    rows = either o q (range_with_len 0 n)

    all : ℕ → Bool
    all r = list_any (nat_eq r) (map place (range_with_len 0 n))

    others : ℕ → Bool
    others r = list_any (nat_eq r) (map place rows)

    rest : ℕ → Bool
    rest r = list_any (λ i. both i && nat_eq r (place i)) (range_with_len 0 n)

    false_true : false ≡ true → ⊥
    false_true e = cc

    equal : (s t : Bool) → (s ≡ true → t ≡ true) → (t ≡ true → s ≡ true) → s ≡ t
    equal s t h k = both_ways s t h k

    others-are : (r : ℕ) → others r ≡ list_any (λ i. not (both i) && nat_eq r (place i)) (range_with_len 0 n)
    others-are r = list_any-map (nat_eq r) place rows ∙ any-either o q (λ i. nat_eq r (place i)) (range_with_len 0 n)

    parts : (r : ℕ) → all r ≡ (others r || rest r)
    parts r =
        list_any-map (nat_eq r) place (range_with_len 0 n)
        ∙ sym (any-or (λ i. not (both i) && nat_eq r (place i)) (λ i. both i && nat_eq r (place i))
        (λ i. nat_eq r (place i)) (λ i. halves (both i) (nat_eq r (place i))) (range_with_len 0 n))
        ∙ ap (λ b. b || rest r) (sym (others-are r))

    all-below : (r : ℕ) → all r ≡ true → r < most
    all-below r h =
        let one = any-in (λ i. nat_eq r (place i)) n (sym (list_any-map (nat_eq r) place (range_with_len 0 n)) ∙ h) in
        omega (arith, eqb-true r (place one.0) one.2, within one.0 one.1)

    all-count : length (firsts_from nat_eq [] (map place (range_with_len 0 n))) ≡ length (rows_where all most)
    all-count = distinct-places most (map place (range_with_len 0 n)) all-below

    others-count : length (firsts_from nat_eq [] (map place rows)) ≡ length (rows_where others most)
    others-count = distinct-places most (map place rows) (λ r h. all-below r (parts r ∙ ap (λ b. b || rest r) h))

-- whether row i has the tuple of zeros
abbrev zeros : TuplesOf → ℕ → Bool
zeros t i = is_rest t.zero (code_of t.codes i)

turned : (x y : Bool) → (x && y) ≡ (y && x)
turned true true = refl
turned true false = refl
turned false true = refl
turned false false = refl

either-is : (a b : TuplesOf) → CanJoin a b → either_of a b
    ≡ either (zeros b) (zeros a) (range_with_len 0 (length a.codes))
either-is a b pair =
    ap (λ m. filter (λ i. not (zeros b i)) (range_with_len 0 m)
    ++ filter (zeros b) (filter (λ i. not (zeros a i)) (range_with_len 0 (length a.codes)))) pair.rows

-- the rows with a pair that is listed, the runs of such pairs, and where these rows are
pub either-rows : (a b : TuplesOf) → CanJoin a b → length (either_of a b) ≡ (floor_of a b).listed_rows
either-rows a b pair =
    ap length (either-is a b pair) ∙ length-rows (zeros b) (zeros a) (length a.codes)
    ∙ rows-same (λ i. not (zeros b i && zeros a i)) (λ i. not (zeros a i && zeros b i)) (length a.codes)
    (λ i row. ap not (turned (zeros b i) (zeros a i)))

pub either-runs : (a b : TuplesOf) → CanJoin a b
    → length (filter (begins_pair a.zero a.codes b.zero b.codes) (either_of a b)) ≡ (floor_of a b).listed_runs
either-runs a b pair =
    let begins = begins_pair a.zero a.codes b.zero b.codes in
    let n = length a.codes in
    ap (λ l. length (filter begins l)) (either-is a b pair)
    ∙ length-either (zeros b) (zeros a) begins (range_with_len 0 n)
    ∙ rows-same (λ i. not (zeros b i && zeros a i) && begins i) begins n
    (λ i row. ap (λ t. not t && begins i) (turned (zeros b i) (zeros a i))
    ∙ again (not (zeros a i && zeros b i)) (i == 0 || not (same_pair a.codes b.codes (i - 1) i)))
  where
    again : (x y : Bool) → (x && (x && y)) ≡ (x && y)
    again true y = refl
    again false y = refl

pub either-below : (a b : TuplesOf) → CanJoin a b → AreBelow (length a.codes) (either_of a b)
either-below a b pair =
    let n = length a.codes in
    let Below : ℕ → Type 0 = λ i. i < n in
    let all = range-all Below n (λ i row. row) in
    let first = All-filter (λ i. not (zeros a i)) Below (range_with_len 0 n) all in
    subst (AreBelow n) (sym (either-is a b pair)) (λ i h. All-append Below
    (filter (λ i. not (zeros b i)) (range_with_len 0 n))
    (filter (zeros b) (filter (λ i. not (zeros a i)) (range_with_len 0 n)))
    (All-filter (λ i. not (zeros b i)) Below (range_with_len 0 n) all)
    (All-filter (zeros b) Below (filter (λ i. not (zeros a i)) (range_with_len 0 n)) first) i 0 h)

-- the pairs of codes in some rows, as places in a table
map-places : (a b rows : List ℕ) (wide : ℕ) → let first = map (code_of a) rows in
    map (place_at first (map (code_of b) rows) wide) (range_with_len 0 (length first)) ≡ map (place_at a b wide) rows
map-places a b rows wide =
    let first = map (code_of a) rows in
    let second = map (code_of b) rows in
    let places = map (place_at first second wide) (range_with_len 0 (length first)) in
    let long : length places ≡ length rows =
    length-map (range_with_len 0 (length first)) (place_at first second wide) ∙ length-range_with_len 0 (length first)
    ∙ length-map rows (code_of a) in
    ext_get_or 0 places (map (place_at a b wide) rows) (long ∙ sym (length-map rows (place_at a b wide)))
    (λ i h. let row : i < length rows = omega (arith, h, long) in
    get_or-map-range_with_len (place_at first second wide) 0 (length first) i i 0
    (omega (arith, row, length-map rows (code_of a))) (omega arith)
    ∙ ap (λ x. x * wide + code_of second i) (get_or-map (code_of a) rows i 0 0 row)
    ∙ ap (λ y. code_of a (code_of rows i) * wide + y) (get_or-map (code_of b) rows i 0 0 row)
    ∙ sym (get_or-map (place_at a b wide) rows i 0 0 row))

-- the codes of some rows are below what all are
pub codes-below : (codes rows : List ℕ) (n most : ℕ) → AreBelow n rows → ((i : ℕ) → i < n → code_of codes i < most)
    → AreBelow most (map (code_of codes) rows)
codes-below codes rows n most below each = λ i h.
    let row : i < length rows = omega (arith, h, length-map rows (code_of codes)) in
    subst (λ x. x < most) (sym (get_or-map (code_of codes) rows i 0 0 row)) (each (code_of rows i) (below i row))

-- two rows have one place exactly where they have the same pair
same-place : (a b : List ℕ) (wide i j : ℕ) → same_pair a b i j ≡ true → place_at a b wide i ≡ place_at a b wide j
same-place a b wide i j h =
    let is = of_and (code_of a i == code_of a j) (code_of b i == code_of b j) h in
    ap (λ x. x * wide + code_of b i) (eqb-true (code_of a i) (code_of a j) is.0)
    ∙ ap (λ y. code_of a j * wide + y) (eqb-true (code_of b i) (code_of b j) is.1)

place-same : (a b : List ℕ) (wide i j : ℕ) → code_of b i < wide → code_of b j < wide
    → place_at a b wide i ≡ place_at a b wide j → same_pair a b i j ≡ true
place-same a b wide i j hi hj e =
    let high = digits-high (code_of a i) (code_of b i) (code_of a j) (code_of b j) wide hi hj e in
    let low : code_of b i ≡ code_of b j = grind (arith, high, e) in
    both (code_of a i == code_of a j) (code_of b i == code_of b j) (eq-eqb _ _ high) (eq-eqb _ _ low)
  where
    both : (x y : Bool) → x ≡ true → y ≡ true → (x && y) ≡ true
    both true y h k = k
    both false y h k = absurd (cc)

-- how many pairs the rows of either have, and all rows
pub few-count : (a b : TuplesOf) → AreTuples a → AreTuples b → CanJoin a b
    → pairs_in a.codes b.codes b.distinct (either_of a b) + once (nat_lt (length (either_of a b)) (length a.codes))
    ≡ pairs_of a b
few-count a b are-a are-b pair =
    let n = length a.codes in
    let wide = b.distinct in
    let place : ℕ → ℕ = place_at a.codes b.codes wide in
    let second_below : (i : ℕ) → i < n → code_of b.codes i < wide = λ i h.
    are-b.below i (omega (arith, h, pair.rows)) in
    let class = zero_pairs-class a.zero a.codes b.zero b.codes in
    let law = distinct-either (zeros b) (zeros a) place n (a.distinct * wide)
    (λ i h. place_within (code_of a.codes i) (code_of b.codes i) a.distinct wide (are-a.below i h) (second_below i h))
    (λ i j hi hj. same-place a.codes b.codes wide i j
    (class.same i j (turned (zeros a i) (zeros b i) ∙ hi) (turned (zeros a j) (zeros b j) ∙ hj)))
    (λ i j hi hj e. turned (zeros b i) (zeros a i)
    ∙ class.like i j (place-same a.codes b.codes wide i j (second_below i hi) (second_below j hj) e)
    ∙ turned (zeros a j) (zeros b j)) in
    let Counted : List ℕ → Type 0 = λ l. length (firsts_from nat_eq [] (map place (range_with_len 0 n)))
    ≡ length (firsts_from nat_eq [] (map place l)) + once (nat_lt (length l) n) in
    sym (subst Counted (sym (either-is a b pair)) law) ∙ firsts-of_places a.codes b.codes wide n second_below

-- the codes of rows, and the codes of all rows in these rows
pub pairs-found : (a b rows : List ℕ) (wide : ℕ) → AreBelow (length a) rows → length b ≡ length a → AreBelow wide b
    → let first = map (code_of a) rows in
    length (first_rows_by (same_pair first (map (code_of b) rows)) (length first)) ≡ pairs_in a b wide rows
pairs-found a b rows wide within same second =
    let below = codes-below b rows (length a) wide within (λ i h. second i (omega (arith, h, same))) in
    let firsts = map (code_of a) rows in
    sym (firsts-of_places firsts (map (code_of b) rows) wide (length firsts) (λ i h. below i
    (omega (arith, h, length-map rows (code_of a), length-map rows (code_of b)))))
    ∙ ap (λ l. length (firsts_from nat_eq [] l)) (map-places a b rows wide)

-- one row of a list of rows
pub mapped-drop : (f : ℕ → ℕ) (rows : List ℕ) (i : ℕ) → i < length rows
    → drop i (map f rows) ≡ f (code_of rows i) ∷ drop (i + 1) (map f rows)
mapped-drop f rows i h =
    let all = map f rows in
    let more : suc i ≡ i + 1 = omega arith in
    drop-cons all i 0 (omega (arith, h, length-map rows f)) ∙ ap (λ m. get_or all i 0 ∷ drop m all) more
    ∙ ap (λ p. p ∷ drop (i + 1) all) (get_or-map f rows i 0 0 h)

-- the rows that a group lists
pub listing-below : (t : TuplesOf) → AreBelow (length t.codes) (listing_of t)
listing-below t =
    let Below : ℕ → Type 0 = λ i. i < length t.codes in
    let all = range-all Below (length t.codes) (λ i row. row) in
    λ i h. All-filter (λ i. not (zeros t i)) Below (range_with_len 0 (length t.codes)) all i 0 h
