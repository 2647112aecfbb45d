-- The union of two groups of columns, by the pairs of their codes.
use Rattle.std.proofs.Common.{◌≡◌, ℕ, zero, suc, ◌+◌, ◌-◌, ◌<◌, ◌≤◌, Bool, true, false, cond, not, ◌&&◌, ◌||◌, ◌==◌}
use Rattle.std.proofs.Common.{nat_lt, lt-ltb, max, eqb-true, eq-eqb, List, length, get_or, refl, sym, ap, ◌∙◌, subst}
use Rattle.std.proofs.Common.{arith, Option, Some, None, inl, inr}
use Rattle.std.specs.List.{position_or_len, range_with_len}
use Rattle.std.specs.Cmp.{IsEquivalence}
use Rattle.std.proofs.lemmas.Cmp.{nat_eq_equiv}
use Rattle.std.proofs.lemmas.Bool.{cases_lt}
use Rattle.std.proofs.lemmas.List.Sums.{passes_at_first, fails_before_first}
use Rattle.std.proofs.lemmas.List.FromFn.{get_or-range_with_len, length-range_with_len}
use Rattle.cla_layout.specs.Groups.{code_of}
use Rattle.cla_layout.specs.Listed.{is_rest, rows_where, begins_run}
use Rattle.cla_layout.proofs.Listings.{rows_where_few}
use Rattle.cla_grouping.specs.Numbering.{codes_by, same_pair}
use Rattle.cla_grouping.specs.Tuples.{TuplesOf, AreTuples, code_where, joined}
use Rattle.cla_grouping.specs.Sizes.{AreSmall, IsPast, figures_of, listed_of, is_listed, begins_listed, listed_rows_of}
use Rattle.cla_grouping.specs.Sizes.{listed_runs_of, best_bytes}
use Rattle.cla_grouping.specs.declared.sizes.Figures.{Figures}
use Rattle.cla_grouping.proofs.JoinLemmas.{same-code}
use Rattle.cla_grouping.proofs.TupleLemmas.{IsClass, class-code, length-codes_by}
use Rattle.cla_grouping.proofs.Numbered.{tuples_by-are}
use Rattle.cla_stats.specs.Coded.{CanJoin}
use Rattle.cla_cocode.specs.Weighing.{is_listed_pair, begins_pair, pairs_of, floor_of, least_of, with_distinct_of}
use Rattle.cla_cocode.proofs.FigureLemmas.{rows_more, figures-small}

and_left : (a b : Bool) → (a && b) ≡ true → a ≡ true
and_left true b h = refl
and_left false b h = h

and_right : (a b : Bool) → (a && b) ≡ true → b ≡ true
and_right true b h = h
and_right false b h = absurd (cc)

both_true : (a b : Bool) → a ≡ true → b ≡ true → (a && b) ≡ true
both_true a b h k = rw (h, k) refl

-- to have the same pair is an equivalence
pub same_pair-equiv : (a b : List ℕ) → IsEquivalence (same_pair a b)
same_pair-equiv a b = record {
  refl = λ x. both_true (code_of a x == code_of a x) (code_of b x == code_of b x) (eq-eqb _ _ refl) (eq-eqb _ _ refl);
  symm = λ x y. ap (λ t. t && (code_of b x == code_of b y)) (nat_eq_equiv.symm (code_of a x) (code_of a y))
      ∙ ap (λ t. (code_of a y == code_of a x) && t) (nat_eq_equiv.symm (code_of b x) (code_of b y));
  congr = λ x y z h. ap (λ t. t && (code_of b x == code_of b z))
      (nat_eq_equiv.congr (code_of a x) (code_of a y) (code_of a z) (and_left _ _ h))
      ∙ ap (λ t. (code_of a y == code_of a z) && t)
      (nat_eq_equiv.congr (code_of b x) (code_of b y) (code_of b z) (and_right (code_of a x == code_of a y) _ h));
}

-- a row has both tuples of zeros
abbrev pub is_zero_pair : Option ℕ → List ℕ → Option ℕ → List ℕ → ℕ → Bool
is_zero_pair first a second b i = is_rest first (code_of a i) && is_rest second (code_of b i)

rest-same : (rest : Option ℕ) (x y : ℕ) → is_rest rest x ≡ true → is_rest rest y ≡ true → (x == y) ≡ true
rest-same None x y h k = absurd (cc)
rest-same (Some r) x y h k = eq-eqb x y (eqb-true x r h ∙ sym (eqb-true y r k))

pub zero_pairs-class : (first : Option ℕ) (a : List ℕ) (second : Option ℕ) (b : List ℕ)
    → IsClass (same_pair a b) (is_zero_pair first a second b)
zero_pairs-class first a second b = record {
  like = λ x y h. ap (λ t. is_rest first t && is_rest second (code_of b x))
      (eqb-true (code_of a x) (code_of a y) (and_left _ _ h))
      ∙ ap (λ t. is_rest first (code_of a y) && is_rest second t)
      (eqb-true (code_of b x) (code_of b y) (and_right (code_of a x == code_of a y) _ h));
  same = λ x y h k. both_true (code_of a x == code_of a y) (code_of b x == code_of b y)
      (rest-same first (code_of a x) (code_of a y) (and_left _ _ h) (and_left _ _ k))
      (rest-same second (code_of b x) (code_of b y) (and_right (is_rest first (code_of a x)) _ h)
      (and_right (is_rest first (code_of a y)) _ k));
}

-- tests that agree pass as many rows
pub rows-same : (p q : ℕ → Bool) (n : ℕ) → ((i : ℕ) → i < n → p i ≡ q i) → length (rows_where p n)
    ≡ length (rows_where q n)
rows-same p q zero h = refl
rows-same p q (suc n) h =
    let next : suc n ≡ n + 1 = omega arith in
    ap (λ m. length (rows_where p m)) next ∙ rows_more p n
    ∙ ap (λ k. k + cond (p n) 1 0) (rows-same p q n (λ i row. h i (omega (arith, row))))
    ∙ ap (λ t. length (rows_where q n) + cond t 1 0) (h n (omega arith))
    ∙ sym (rows_more q n) ∙ ap (λ m. length (rows_where q m)) (sym next)

-- all rows pass, or fewer do
pub rows-all : (p : ℕ → Bool) (n : ℕ) → ((i : ℕ) → i < n → p i ≡ true) → length (rows_where p n) ≡ n
rows-all p zero h = refl
rows-all p (suc n) h =
    let next : suc n ≡ n + 1 = omega arith in
    ap (λ m. length (rows_where p m)) next ∙ rows_more p n
    ∙ ap (λ k. k + cond (p n) 1 0) (rows-all p n (λ i row. h i (omega (arith, row))))
    ∙ ap (λ t. n + cond t 1 0) (h n (omega arith)) ∙ omega arith

abbrev once : Bool → ℕ
once t = cond t 1 0

pub rows-fewer : (p : ℕ → Bool) (n i : ℕ) → i < n → p i ≡ false → length (rows_where p n) < n
rows-fewer p zero i row h = absurd (omega (arith, row))
rows-fewer p (suc n) i row h =
    let next : suc n ≡ n + 1 = omega arith in
    let more = ap (λ m. length (rows_where p m)) next ∙ rows_more p n in
    elim (cases_lt i n) [
      | inl before ↦ omega (arith, more, rows-fewer p n i before h, one (p n))
      | inr last ↦
          let same : i ≡ n = omega (arith, row, last) in
          let fails : p n ≡ false = ap p (sym same) ∙ h in
          let none : once (p n) ≡ 0 = ap once fails in
          omega (arith, more, none, rows_where_few p n)
    ]
  where
    one : (t : Bool) → once t ≤ 1
    one true = omega arith
    one false = omega arith

-- a row of the union is listed where its pair is
union-listed : (a b : TuplesOf) (i : ℕ) → i < length a.codes → is_listed (joined a b).zero (joined a b).codes i
    ≡ is_listed_pair a.zero a.codes b.zero b.codes i
union-listed a b i row =
    ap not (class-code (same_pair a.codes b.codes) (is_zero_pair a.zero a.codes b.zero b.codes)
    (same_pair-equiv a.codes b.codes)
    (zero_pairs-class a.zero a.codes b.zero b.codes) (length a.codes) i row)

-- a run begins where the codes differ
begins-by : (codes : List ℕ) (same : ℕ → ℕ → Bool) (n i : ℕ) → i < n
    → ((x y : ℕ) → x < n → y < n → (code_of codes x == code_of codes y) ≡ same x y)
    → begins_run codes (code_of codes i) i ≡ (i == 0 || not (same (i - 1) i))
begins-by codes same n zero row told = ap (λ t. t && true) (eq-eqb _ _ refl)
begins-by codes same n (suc i) row told =
    ap (λ t. t && (suc i == 0 || not (code_of codes (suc i - 1) == code_of codes (suc i))))
    (eq-eqb (code_of codes (suc i)) (code_of codes (suc i)) refl)
    ∙ ap (λ t. suc i == 0 || not t) (told (suc i - 1) (suc i) (omega (arith, row)) row)

-- a run of the union begins where one of its pairs does
union-begins : (a b : TuplesOf) (i : ℕ) → i < length a.codes → begins_listed (joined a b).zero (joined a b).codes i
    ≡ begins_pair a.zero a.codes b.zero b.codes i
union-begins a b i row =
    let codes = codes_by (same_pair a.codes b.codes) (length a.codes) in
    ap (λ t. t && begins_run codes (code_of codes i) i) (union-listed a b i row)
    ∙ ap (λ t. is_listed_pair a.zero a.codes b.zero b.codes i && t)
    (begins-by codes (same_pair a.codes b.codes) (length a.codes) i row
    (λ x y hx hy. same-code (same_pair a.codes b.codes) (same_pair-equiv a.codes b.codes) (length a.codes) x y hx hy))

-- all tuples are listed where all rows are, and else all but one
listed-by : (test : ℕ → Bool) (codes : List ℕ) (n rows d : ℕ) → length codes ≡ n → rows
    ≡ length (rows_where (λ i. not (test i)) n)
    → listed_of (code_where test codes) d ≡ cond (nat_lt rows n) (d - 1) d
listed-by test codes n rows d count is = elim (cases_lt first (length codes)) [
  | inl there ↦
      ap (λ t. listed_of (cond t (Some (code_of codes first)) None) d) (lt-ltb first (length codes) there)
      ∙ ap (λ t. cond t (d - 1) d)
      (sym (lt-ltb rows n (omega (
        arith,
        is,
        rows-fewer (λ i. not (test i)) n first (omega (arith, there, count))
            (ap not (passes there)),
      ))))
  | inr past ↦
      ap (λ t. listed_of (cond t (Some (code_of codes first)) None) d) (not_less first (length codes) past)
      ∙ ap (λ t. cond t (d - 1) d)
      (sym (not_less rows n (omega (
        arith,
        is,
        rows-all (λ i. not (test i)) n
            (λ i row. ap not (fails past i (omega (arith, row, count)))),
      ))))
]
  where
    first : ℕ
    first = position_or_len test (range_with_len 0 (length codes))

    not_less : (a b : ℕ) → b ≤ a → nat_lt a b ≡ false
    not_less a b h = grind arith

    row_is : (i : ℕ) → i < length codes → get_or (range_with_len 0 (length codes)) i 0 ≡ i
    row_is i h = get_or-range_with_len 0 (length codes) i 0 h ∙ omega arith

    passes : first < length codes → test first ≡ true
    passes h = ap test (sym (row_is first h)) ∙ passes_at_first test (range_with_len 0 (length codes)) 0
        (omega (arith, h, length-range_with_len 0 (length codes)))

    fails : length codes ≤ first → (i : ℕ) → i < length codes → test i ≡ false
    fails h i row = ap test (sym (row_is i row)) ∙ fails_before_first test (range_with_len 0 (length codes)) i 0
        (omega (arith, h, row))

abbrev made : ℕ → ℕ → ℕ → ℕ → ℕ → ℕ → Figures
made width rows distinct listed listed_rows listed_runs = record {
  width = width;
  rows = rows;
  distinct = distinct;
  listed = listed;
  listed_rows = listed_rows;
  listed_runs = listed_runs;
}

-- the figures of the union
pub union-figures : (a b : TuplesOf) → figures_of (joined a b) ≡ with_distinct_of (floor_of a b) (pairs_of a b)
union-figures a b =
    let n = length a.codes in
    let t = joined a b in
    let count : length t.codes ≡ n = length-codes_by (same_pair a.codes b.codes) n in
    let floor = floor_of a b in
    let rows : listed_rows_of t.zero t.codes ≡ floor.listed_rows =
    ap (λ k. length (rows_where (is_listed t.zero t.codes) k)) count
    ∙ rows-same _ _ n (λ i row. union-listed a b i row) in
    let runs : listed_runs_of t.zero t.codes ≡ floor.listed_runs =
    ap (λ k. length (rows_where (begins_listed t.zero t.codes) k)) count
    ∙ rows-same _ _ n (λ i row. union-begins a b i row) in
    let listed : listed_of t.zero t.distinct ≡ cond (nat_lt floor.listed_rows n) (t.distinct - 1) t.distinct =
    listed-by (is_zero_pair a.zero a.codes b.zero b.codes) t.codes n floor.listed_rows t.distinct count refl in
    let width = a.width + b.width in
    let all = cond (nat_lt floor.listed_rows n) (t.distinct - 1) t.distinct in
    ap (λ x. made width x t.distinct (listed_of t.zero t.distinct) (listed_rows_of t.zero t.codes)
    (listed_runs_of t.zero t.codes)) count
    ∙ ap (λ x. made width n t.distinct x (listed_rows_of t.zero t.codes) (listed_runs_of t.zero t.codes)) listed
    ∙ ap (λ x. made width n t.distinct all x (listed_runs_of t.zero t.codes)) rows
    ∙ ap (λ x. made width n t.distinct all floor.listed_rows x) runs

-- the tuples of the union
pub union-are : (a b : TuplesOf) → AreTuples a → AreTuples b → CanJoin a b → AreTuples (joined a b)
union-are a b first second pair =
    tuples_by-are (a.width + b.width) (length a.codes) (same_pair a.codes b.codes)
    (is_zero_pair a.zero a.codes b.zero b.codes)
    first.a_row (omega (arith, first.a_column)) pair.few_cells

pub union-small : (a b : TuplesOf) → AreTuples a → AreTuples b → CanJoin a b
    → AreSmall (with_distinct_of (floor_of a b) (pairs_of a b))
union-small a b first second pair = subst AreSmall (union-figures a b)
    (figures-small (joined a b) (union-are a b first second pair))

pub floor-small : (a b : TuplesOf) → AreTuples a → AreTuples b → CanJoin a b → AreSmall (floor_of a b)
floor-small a b first second pair =
    let all = union-small a b first second pair in
    record {
      wide = all.wide;
      tall = all.tall;
      cells = all.cells;
      distinct = omega arith;
      listed = omega arith;
      listed_rows = all.listed_rows;
      listed_runs = all.listed_runs;
    }

-- a test that implies another passes no more rows
implied-once : (s t : Bool) → (s ≡ true → t ≡ true) → once s ≤ once t
implied-once true t h = let is : once t ≡ 1 = ap once (h refl) in omega (arith, is)
implied-once false t h = omega arith

rows-implied : (p q : ℕ → Bool) (n : ℕ) → ((i : ℕ) → i < n → p i ≡ true → q i ≡ true)
    → length (rows_where p n) ≤ length (rows_where q n)
rows-implied p q zero h = omega arith
rows-implied p q (suc n) h =
    let next : suc n ≡ n + 1 = omega arith in
    omega (
      arith,
      ap (λ m. length (rows_where p m)) next ∙ rows_more p n,
      ap (λ m. length (rows_where q m)) next ∙ rows_more q n,
      rows-implied p q n (λ i row. h i (omega (arith, row))),
      implied-once (p n) (q n) (h n (omega arith)),
    )

not-left : (x y : Bool) → not x ≡ true → not (x && y) ≡ true
not-left true y h = absurd (cc)
not-left false y h = refl

not-right : (x y : Bool) → not y ≡ true → not (x && y) ≡ true
not-right true y h = h
not-right false y h = refl

or-left : (z x y : Bool) → (z || not x) ≡ true → (z || not (x && y)) ≡ true
or-left true x y h = refl
or-left false x y h = not-left x y h

or-right : (z x y : Bool) → (z || not y) ≡ true → (z || not (x && y)) ≡ true
or-right true x y h = refl
or-right false x y h = not-right x y h

-- what is listed of a part is listed of the union, and a run of a part begins one of the union
listed-left : (a b : TuplesOf) (i : ℕ) → is_listed a.zero a.codes i ≡ true
    → is_listed_pair a.zero a.codes b.zero b.codes i ≡ true
listed-left a b i h = not-left (is_rest a.zero (code_of a.codes i)) (is_rest b.zero (code_of b.codes i)) h

listed-right : (a b : TuplesOf) (i : ℕ) → is_listed b.zero b.codes i ≡ true
    → is_listed_pair a.zero a.codes b.zero b.codes i ≡ true
listed-right a b i h = not-right (is_rest a.zero (code_of a.codes i)) (is_rest b.zero (code_of b.codes i)) h

begins-left : (a b : TuplesOf) (i : ℕ) → begins_listed a.zero a.codes i ≡ true
    → begins_pair a.zero a.codes b.zero b.codes i ≡ true
begins-left a b i h =
    both_true (is_listed_pair a.zero a.codes b.zero b.codes i) (i == 0 || not (same_pair a.codes b.codes (i - 1) i))
    (listed-left a b i (and_left (is_listed a.zero a.codes i) (begins_run a.codes (code_of a.codes i) i) h))
    (or-left (i == 0) (code_of a.codes (i - 1) == code_of a.codes i) (code_of b.codes (i - 1) == code_of b.codes i)
    (and_right (code_of a.codes i == code_of a.codes i) _
    (and_right (is_listed a.zero a.codes i) (begins_run a.codes (code_of a.codes i) i) h)))

begins-right : (a b : TuplesOf) (i : ℕ) → begins_listed b.zero b.codes i ≡ true
    → begins_pair a.zero a.codes b.zero b.codes i ≡ true
begins-right a b i h =
    both_true (is_listed_pair a.zero a.codes b.zero b.codes i) (i == 0 || not (same_pair a.codes b.codes (i - 1) i))
    (listed-right a b i (and_left (is_listed b.zero b.codes i) (begins_run b.codes (code_of b.codes i) i) h))
    (or-right (i == 0) (code_of a.codes (i - 1) == code_of a.codes i) (code_of b.codes (i - 1) == code_of b.codes i)
    (and_right (code_of b.codes i == code_of b.codes i) _
    (and_right (is_listed b.zero b.codes i) (begins_run b.codes (code_of b.codes i) i) h)))

both-most : (a b m : ℕ) → a ≤ m → b ≤ m → max a b ≤ m
both-most a b m h k = omega (arith, h, k)

pub least-rows : (a b : TuplesOf) → length b.codes ≡ length a.codes
    → (least_of a b).listed_rows ≤ (floor_of a b).listed_rows
least-rows a b same =
    both-most (figures_of a).listed_rows (figures_of b).listed_rows (floor_of a b).listed_rows
    (rows-implied (is_listed a.zero a.codes) (is_listed_pair a.zero a.codes b.zero b.codes) (length a.codes)
    (λ i row. listed-left a b i))
    (subst (λ n. length (rows_where (is_listed b.zero b.codes) n) ≤ (floor_of a b).listed_rows) (sym same)
    (rows-implied (is_listed b.zero b.codes) (is_listed_pair a.zero a.codes b.zero b.codes) (length a.codes)
    (λ i row. listed-right a b i)))

pub least-runs : (a b : TuplesOf) → length b.codes ≡ length a.codes
    → (least_of a b).listed_runs ≤ (floor_of a b).listed_runs
least-runs a b same =
    both-most (figures_of a).listed_runs (figures_of b).listed_runs (floor_of a b).listed_runs
    (rows-implied (begins_listed a.zero a.codes) (begins_pair a.zero a.codes b.zero b.codes) (length a.codes)
    (λ i row. begins-left a b i))
    (subst (λ n. length (rows_where (begins_listed b.zero b.codes) n) ≤ (floor_of a b).listed_runs) (sym same)
    (rows-implied (begins_listed b.zero b.codes) (begins_pair a.zero a.codes b.zero b.codes) (length a.codes)
    (λ i row. begins-right a b i)))

pub least-small : (a b : TuplesOf) → AreTuples a → AreTuples b → CanJoin a b → AreSmall (least_of a b)
least-small a b first second pair =
    let floor = floor-small a b first second pair in
    record {
      wide = floor.wide;
      tall = floor.tall;
      cells = floor.cells;
      distinct = omega arith;
      listed = omega arith;
      listed_rows = omega (arith, least-rows a b pair.rows, floor.listed_rows);
      listed_runs = omega (arith, least-runs a b pair.rows, floor.listed_runs);
    }

-- no more than the figures of the union, with so many listed rows
abbrev pub least_with : TuplesOf → TuplesOf → ℕ → Figures
least_with a b rows = record (least_of a b) { listed_rows = rows }

-- where there are too many pairs the union is no smaller than the target
pub past-with : (a b : TuplesOf) (rows target most : ℕ) → AreTuples a → AreTuples b → CanJoin a b
    → rows ≤ (floor_of a b).listed_rows → IsPast (least_with a b rows) target most → most < pairs_of a b
    → target ≤ best_bytes (figures_of (joined a b))
past-with a b rows target most first second pair fewer past more =
    let union = with_distinct_of (floor_of a b) (pairs_of a b) in
    let small = union-small a b first second pair in
    subst (λ f. target ≤ best_bytes f) (sym (union-figures a b))
    (past union (record {
      width = omega arith;
      rows = refl;
      distinct = omega arith;
      listed = omega arith;
      listed_rows = fewer;
      listed_runs = least-runs a b pair.rows;
    }) small.distinct (one_less (nat_lt (floor_of a b).listed_rows (length a.codes)) (pairs_of a b)) more)
  where
    one_less : (t : Bool) (d : ℕ) → d ≤ cond t (d - 1) d + 1
    one_less true d = omega arith
    one_less false d = omega arith

pub past-union : (a b : TuplesOf) (target most : ℕ) → AreTuples a → AreTuples b → CanJoin a b
    → IsPast (least_of a b) target most → most < pairs_of a b → target ≤ best_bytes (figures_of (joined a b))
past-union a b target most first second pair past more =
    past-with a b (least_of a b).listed_rows target most first second pair (least-rows a b pair.rows) past more

pub no_more : (a b l : ℕ) → a - l ≤ b → a - b ≤ l
no_more a b l h = omega arith
