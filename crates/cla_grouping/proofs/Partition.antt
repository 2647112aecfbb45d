-- The groups of a cut have each column of the matrix once, in rising order, and stand in the order of their first
-- columns.
use Rattle.std.proofs.Common.{◌≡◌, ℕ, zero, suc, ◌+◌, ◌-◌, ◌<◌, ◌≤◌, Bool, true, false, cond, not, ◌==◌, eq-eqb, nat_lt}
use Rattle.std.proofs.Common.{nat_le, ltb-true, max, List, [], ◌∷◌, ◌++◌, length, map, drop, set, get_or, refl, sym, ap}
use Rattle.std.proofs.Common.{◌∙◌, subst, arith, length-append, inl, inr}
use Rattle.std.specs.List.{range_with_len, position_or_len, fold}
use Rattle.std.proofs.lemmas.Bool.{cases_lt, cases_eq, ne_eqb}
use Rattle.std.proofs.lemmas.List.{length-map, length-drop, map-id, get_or_append_left, get_or_push}
use Rattle.std.proofs.lemmas.List.FromFn.{map-range_with_len_more}
use Rattle.std.proofs.lemmas.List.Sums.{sum_by-append}
use Rattle.cla_spec.specs.Matrix.{Matrix}
use Rattle.cla_layout.specs.Groups.{code_of}
use Rattle.cla_layout.specs.Layouts.{count_of}
use Rattle.cla_grouping.specs.Tuples.{AreColumns}
use Rattle.cla_grouping.specs.Sizes.{plain_bytes}
use Rattle.cla_grouping.specs.Grouping.{GroupOf, Choice, choice_of, greatest, window, saving_by, with_column, groups_to}
use Rattle.cla_grouping.specs.Grouping.{in_best_kind, one_plain, bytes_in, most_grouped, grouping_of}
use Rattle.cla_grouping.specs.Partitions.{times_in, columns_in, ArePartitioned}

-- each group has columns below n
abbrev pub Each : ℕ → List (List ℕ) → Type 0
Each n [] = Unit {0}
Each n (g ∷ gs) = AreColumns n g × Each n gs

-- the first columns of groups rise, from column a on
abbrev pub RiseFrom : ℕ → List (List ℕ) → Type 0
RiseFrom a [] = Unit {0}
RiseFrom a (g ∷ gs) = (a ≤ code_of g 0) × RiseFrom (code_of g 0 + 1) gs

-- the groups have the first n columns, each once
pub record AreGroupsTo (n : ℕ) (gs : List (List ℕ)) : Type 0 where
  pub each : Each n gs
  pub once : (j : ℕ) → j < n → times_in gs j ≡ 1
  pub none : (j : ℕ) → n ≤ j → times_in gs j ≡ 0
  pub rise : RiseFrom 0 gs

pub count-append : (j : ℕ) (xs ys : List ℕ) → count_of (xs ++ ys) j ≡ count_of xs j + count_of ys j
count-append j xs ys = sum_by-append (λ x. cond (x == j) 1 0) xs ys

-- one more column
columns-push : (n : ℕ) (g : List ℕ) → AreColumns n g → AreColumns (n + 1) (g ++ n ∷ [])
columns-push n g are = record {
  some = omega (arith, long);
  rising = λ c d before there. elim (cases_lt d (length g)) [
    | inl inner ↦
        let low : code_of (g ++ n ∷ []) c ≡ code_of g c =
        get_or_append_left g (n ∷ []) 0 c (omega (arith, before, inner)) in
        let high : code_of (g ++ n ∷ []) d ≡ code_of g d = get_or_append_left g (n ∷ []) 0 d inner in
        omega (arith, low, high, are.rising c d before inner)
    | inr last ↦
        let end : d ≡ length g = omega (arith, there, long, last) in
        let low : code_of (g ++ n ∷ []) c ≡ code_of g c =
        get_or_append_left g (n ∷ []) 0 c (omega (arith, before, end)) in
        let high : code_of (g ++ n ∷ []) d ≡ n = get_or_push g n 0 d (sym end) in
        omega (arith, low, high, are.within c (omega (arith, before, end)))
  ];
  within = λ c there. elim (cases_lt c (length g)) [
    | inl inner ↦
        let low : code_of (g ++ n ∷ []) c ≡ code_of g c = get_or_append_left g (n ∷ []) 0 c inner in
        omega (arith, low, are.within c inner)
    | inr last ↦
        let end : c ≡ length g = omega (arith, there, long, last) in
        let high : code_of (g ++ n ∷ []) c ≡ n = get_or_push g n 0 c (sym end) in
        omega (arith, high)
  ];
}
  where
    long : length (g ++ n ∷ []) ≡ length g + 1
    long = length-append g (n ∷ [])

columns-wider : (n : ℕ) (g : List ℕ) → AreColumns n g → AreColumns (n + 1) g
columns-wider n g are =
    record { some = are.some; rising = are.rising; within = λ c there. omega (arith, are.within c there) }

columns-one : (n : ℕ) → AreColumns (n + 1) (n ∷ [])
columns-one n = record {
  some = omega arith;
  rising = λ c d before there. absurd (omega (arith, before, there));
  within = at;
}
  where
    at : (c : ℕ) → c < 1 → code_of (n ∷ []) c < n + 1
    at zero there = omega arith
    at (suc c) there = absurd (omega (arith, there))

each-wider : (n : ℕ) (gs : List (List ℕ)) → Each n gs → Each (n + 1) gs
each-wider n [] e = tt
each-wider n (g ∷ gs) e = (columns-wider n g e.0, each-wider n gs e.1)

each-push : (n : ℕ) (gs : List (List ℕ)) → Each n gs → Each (n + 1) (gs ++ (n ∷ []) ∷ [])
each-push n [] e = (columns-one n, tt)
each-push n (g ∷ gs) e = (columns-wider n g e.0, each-push n gs e.1)

each-set : (n p : ℕ) (gs : List (List ℕ)) → Each n gs → p < length gs
    → Each (n + 1) (set gs p (get_or gs p [] ++ n ∷ []))
each-set n p [] e there = absurd (omega (arith, there))
each-set n zero (g ∷ gs) e there = (columns-push n g e.0, each-wider n gs e.1)
each-set n (suc p) (g ∷ gs) e there = (columns-wider n g e.0, each-set n p gs e.1 (omega (arith, there)))

times-push : (j n : ℕ) (gs : List (List ℕ)) → times_in (gs ++ (n ∷ []) ∷ []) j ≡ times_in gs j + count_of (n ∷ []) j
times-push j n [] = omega arith
times-push j n (g ∷ gs) = omega (arith, times-push j n gs)

times-set : (j n p : ℕ) (gs : List (List ℕ)) → p < length gs
    → times_in (set gs p (get_or gs p [] ++ n ∷ [])) j ≡ times_in gs j + count_of (n ∷ []) j
times-set j n p [] there = absurd (omega (arith, there))
times-set j n zero (g ∷ gs) there = omega (arith, count-append j g (n ∷ []))
times-set j n (suc p) (g ∷ gs) there = omega (arith, times-set j n p gs (omega (arith, there)))

rise-push : (a n : ℕ) (gs : List (List ℕ)) → RiseFrom a gs → Each n gs → a ≤ n → RiseFrom a (gs ++ (n ∷ []) ∷ [])
rise-push a n [] rise each low = (low, tt)
rise-push a n (g ∷ gs) rise each low =
    (rise.0, rise-push (code_of g 0 + 1) n gs rise.1 each.1 (omega (arith, each.0.within 0 each.0.some)))

rise-set : (a n p : ℕ) (gs : List (List ℕ)) → RiseFrom a gs → Each n gs
    → RiseFrom a (set gs p (get_or gs p [] ++ n ∷ []))
rise-set a n p [] rise each = tt
rise-set a n zero (g ∷ gs) rise each =
    let first : code_of (g ++ n ∷ []) 0 ≡ code_of g 0 = get_or_append_left g (n ∷ []) 0 0 each.0.some in
    subst (λ c. (a ≤ c) × RiseFrom (c + 1) gs) (sym first) rise
rise-set a n (suc p) (g ∷ gs) rise each = (rise.0, rise-set (code_of g 0 + 1) n p gs rise.1 each.1)

rise-at : (a : ℕ) (gs : List (List ℕ)) (r : ℕ) → RiseFrom a gs → r < length gs → a ≤ code_of (get_or gs r []) 0
rise-at a [] r rise there = absurd (omega (arith, there))
rise-at a (g ∷ gs) zero rise there = rise.0
rise-at a (g ∷ gs) (suc r) rise there =
    omega (arith, rise.0, rise-at (code_of g 0 + 1) gs r rise.1 (omega (arith, there)))

rise-order : (a : ℕ) (gs : List (List ℕ)) (q r : ℕ) → RiseFrom a gs → q < r → r < length gs
    → code_of (get_or gs q []) 0 < code_of (get_or gs r []) 0
rise-order a [] q r rise before there = absurd (omega (arith, there))
rise-order a (g ∷ gs) q zero rise before there = absurd (omega (arith, before))
rise-order a (g ∷ gs) zero (suc r) rise before there =
    omega (arith, rise-at (code_of g 0 + 1) gs r rise.1 (omega (arith, there)))
rise-order a (g ∷ gs) (suc q) (suc r) rise before there =
    rise-order (code_of g 0 + 1) gs q r rise.1 (omega (arith, before)) (omega (arith, there))

-- the groups with one more column
one-more-group : (n : ℕ) (gs new : List (List ℕ)) → AreGroupsTo n gs → Each (n + 1) new → RiseFrom 0 new
    → ((j : ℕ) → times_in new j ≡ times_in gs j + count_of (n ∷ []) j) → AreGroupsTo (n + 1) new
one-more-group n gs new are each rise more = record {
  each = each;
  once = λ j there. elim (cases_eq j n) [
    | inl same ↦ omega (arith, more j, are.none j (omega (arith, same)), here j (sym same))
    | inr other ↦ omega (arith, more j, are.once j (omega (arith, there, other)), away j (λ e. other (sym e)))
  ];
  none = λ j past. omega (arith, more j, are.none j (omega (arith, past)), away j (λ e. omega (arith, past, e)));
  rise = rise;
}
  where
    here : (j : ℕ) → n ≡ j → count_of (n ∷ []) j ≡ 1
    here j e = ap (λ (b : Bool). 0 + cond b 1 0) (eq-eqb n j e)

    away : (j : ℕ) → (n ≡ j → ⊥) → count_of (n ∷ []) j ≡ 0
    away j e = ap (λ (b : Bool). 0 + cond b 1 0) (ne_eqb n j e)

first_bound : (b : Bool) (n : ℕ) → cond (not b) (1 + n) 0 ≤ 1 + n
first_bound true n = omega arith
first_bound false n = omega arith

-- the greatest of savings stands among them
greatest-there : (ss : List ℕ) → 0 < greatest ss → position_or_len (λ s. s == greatest ss) ss < length ss
greatest-there [] h = absurd (omega (arith, h))
greatest-there (s ∷ ss) h = elim (cases_lt s (greatest ss)) [
  | inl more ↦
      let most : max s (greatest ss) ≡ greatest ss = omega (arith, more) in
      subst (λ g. position_or_len (λ x. x == g) (s ∷ ss) < suc (length ss)) (sym most)
      (omega (
        arith,
        first_bound (s == greatest ss) (position_or_len (λ x. x == greatest ss) ss),
        greatest-there ss (omega (arith, more)),
      ))
  | inr less ↦
      let most : max s (greatest ss) ≡ s = omega (arith, less) in
      subst (λ g. position_or_len (λ x. x == g) (s ∷ ss) < suc (length ss)) (sym most)
      (omega (arith, ap (λ b. cond (not b) (1 + position_or_len (λ x. x == s) ss) 0) (eq-eqb s s refl)))
]

choice-within : (savings : List ℕ) → 0 < (choice_of savings).saving → (choice_of savings).place < length savings
choice-within savings h =
    let from = length savings - window in
    omega (arith, greatest-there (drop from savings) h, length-drop from savings)

with_column-are : (m : Matrix) (n : ℕ) (gs : List (List ℕ)) → AreGroupsTo n gs
    → AreGroupsTo (n + 1) (with_column m gs n)
with_column-are m n gs are = by (nat_lt 0 choice.saving) refl
  where
    choice : Choice
    choice = choice_of (map (saving_by m n) gs)

    by : (b : Bool) → nat_lt 0 choice.saving ≡ b
        → AreGroupsTo (n + 1) (cond b (set gs choice.place (get_or gs choice.place [] ++ n ∷ [])) (gs ++ (n ∷ []) ∷ []))
    by true e =
        let there : choice.place < length gs =
        omega (
          arith,
          choice-within (map (saving_by m n) gs) (ltb-true 0 choice.saving e),
          length-map gs (saving_by m n),
        ) in
        one-more-group n gs _ are (each-set n choice.place gs are.each there)
        (rise-set 0 n choice.place gs are.rise are.each) (λ j. times-set j n choice.place gs there)
    by false e =
        one-more-group n gs _ are (each-push n gs are.each) (rise-push 0 n gs are.rise are.each (omega arith))
        (λ j. times-push j n gs)

fold_range : {Y : Type 0} (f : Y → ℕ → Y) (n s : ℕ) (a : Y)
    → fold f a (range_with_len s (suc n)) ≡ f (fold f a (range_with_len s n)) (s + n)
fold_range f zero s a = ap (f a) (omega arith)
fold_range f (suc n) s a = fold_range f n (s + 1) (f a s)
    ∙ ap (f (fold f (f a s) (range_with_len (s + 1) n))) (omega arith)

none-yet : AreGroupsTo 0 []
none-yet = record { each = tt; once = λ j there. absurd (omega (arith, there)); none = λ j past. refl; rise = tt }

pub groups_to-are : (m : Matrix) (n : ℕ) → AreGroupsTo n (groups_to m n)
groups_to-are m zero = none-yet
groups_to-are m (suc n) =
    let next : n + 1 ≡ suc n = omega arith in
    let from_zero : 0 + n ≡ n = omega arith in
    subst (λ gs. AreGroupsTo (suc n) gs)
    (sym (fold_range (with_column m) n 0 [] ∙ ap (with_column m (groups_to m n)) from_zero))
    (subst (λ k. AreGroupsTo k (with_column m (groups_to m n) n)) next
    (with_column-are m n (groups_to m n) (groups_to-are m n)))

range_more : (n : ℕ) → range_with_len 0 n ++ n ∷ [] ≡ range_with_len 0 (n + 1)
range_more n =
    ap (λ l. l ++ n ∷ []) (sym (map-id (range_with_len 0 n)))
    ∙ sym (map-range_with_len_more (λ i. i) 0 n n (omega arith))
    ∙ map-id (range_with_len 0 (n + 1))

-- one group of all columns
pub all-are : (n : ℕ) → AreGroupsTo (n + 1) (range_with_len 0 (n + 1) ∷ [])
all-are zero = one-more-group 0 [] _ none-yet (columns-one 0, tt) (omega arith, tt) (λ j. omega arith)
all-are (suc n) =
    let next : n + 1 ≡ suc n = omega arith in
    let before : AreGroupsTo (suc n) (range_with_len 0 (suc n) ∷ []) =
    subst (λ k. AreGroupsTo k (range_with_len 0 k ∷ [])) next (all-are n) in
    subst (λ r. AreGroupsTo (suc n + 1) (r ∷ [])) (range_more (suc n))
    (one-more-group (suc n) (range_with_len 0 (suc n) ∷ []) _ before (columns-push (suc n) _ before.each.0, tt)
    (omega arith, tt)
    (λ j. omega (arith, count-append j (range_with_len 0 (suc n)) (suc n ∷ []))))

best-columns : (m : Matrix) (gs : List (List ℕ)) → columns_in (map (in_best_kind m) gs) ≡ gs
best-columns m [] = refl
best-columns m (g ∷ gs) = ap (λ l. g ∷ l) (best-columns m gs)

pub cut-are : (m : Matrix) → 1 ≤ m.cols → AreGroupsTo m.cols (columns_in (grouping_of m).groups)
cut-are m some = by (nat_le m.cols most_grouped) (nat_le (plain_bytes m.rows m.cols) (bytes_in groups))
  where
    groups : List GroupOf
    groups = map (in_best_kind m) (groups_to m m.cols)

    all : AreGroupsTo m.cols (range_with_len 0 m.cols ∷ [])
    all = let most : m.cols - 1 + 1 ≡ m.cols = omega (arith, some) in
        subst (λ n. AreGroupsTo n (range_with_len 0 n ∷ [])) most (all-are (m.cols - 1))

    by : (b c : Bool) → AreGroupsTo m.cols
        (columns_in (cond b (cond c (one_plain m.rows m.cols ∷ []) groups) (one_plain m.rows m.cols ∷ [])))
    by true true = all
    by true false = subst (AreGroupsTo m.cols) (sym (best-columns m (groups_to m m.cols))) (groups_to-are m m.cols)
    by false c = all

each-at : (n : ℕ) (gs : List (List ℕ)) → Each n gs → (q : ℕ) → q < length gs → AreColumns n (get_or gs q [])
each-at n [] e q there = absurd (omega (arith, there))
each-at n (g ∷ gs) e zero there = e.0
each-at n (g ∷ gs) e (suc q) there = each-at n gs e.1 q (omega (arith, there))

pub cut-partition : (m : Matrix) → 1 ≤ m.cols → ArePartitioned m.cols (columns_in (grouping_of m).groups)
cut-partition m some =
    let are = cut-are m some in
    let groups = columns_in (grouping_of m).groups in
    record {
      each = each-at m.cols groups are.each;
      once = are.once;
      no_other = are.none;
      in_order = λ q r before there. rise-order 0 groups q r are.rise before there;
    }
