-- Columns that are set, one after the other, and part by part.
use Rattle.std.proofs.Common.{◌≡◌, ℕ, ℤ, pos, zero, suc, ◌+◌, ◌-◌, ◌*◌, ◌<◌, ◌≤◌, ◌*ℤ◌, List, [], ◌∷◌, length, take}
use Rattle.std.proofs.Common.{set, Bool, true, false, cond, leb, refl, ap, sym, ◌∙◌, arith, inl, inr}
use Rattle.std.proofs.Math.Nat.{mul-le-mul_left}
use Rattle.std.proofs.lemmas.Bool.{cases_eq, cases_lt, ltb-true, le-leb, lt-leb}
use Rattle.std.proofs.lemmas.List.{get_or-set_same, get_or-set_other}
use Rattle.std.proofs.lemmas.List.Sums.{sum_by-cons, count_by-le-length}
use Rattle.std.specs.List.{count_by}
use Rattle.cla_spec.specs.Numbers.{sum_to}
use Rattle.cla_spec.proofs.Sums.{sum_to-same}
use Rattle.cla_layout.specs.Groups.{at, code_of, cell_of, first_row_of}
use Rattle.cla_layout.specs.Layouts.{LayoutPart, layout_with, column_at, part_at, has_column, entry_in, IsWhole}
use Rattle.cla_layout.specs.Values.{values_of}
use Rattle.cla_layout.proofs.Columns.{Rise}
use Rattle.cla_layout.proofs.Matrices.{column_there}
use Rattle.cla_layout.proofs.Wholes.{own_column, own_column_within, only_part, some_part, entry_of_part}
use Rattle.cla_prod.specs.Sums.{AreSet, AreGathered, columns_from, values_from}

-- two columns that rise are different
pub rising_other : (columns : List ℕ) (c d : ℕ) → Rise columns → c < d → d < length columns → column_at columns c
    ≡ column_at columns d → ⊥
rising_other columns c d rising before there same = (let less = rising c d before there in absurd
    (omega (arith, less, same)))

-- before a column is set, its place holds what it held
pub not_yet : (first c : ℕ) (columns : List ℕ) (value : ℕ → ℤ) (old now : List ℤ) → Rise columns → c < length columns
    → AreSet first c columns value old now → at now (column_at columns c) ≡ at old (column_at columns c)
not_yet first c columns value old now rising there are =
    are.kept (column_at columns c) (λ d _ before same. rising_other columns d c rising before there same)

-- one more column is set
pub set_step : (first c j : ℕ) (columns : List ℕ) (value : ℕ → ℤ) (old now : List ℤ) (v : ℤ) → Rise columns → first
    ≤ c → c < length columns
    → j ≡ column_at columns c → j < length now → v ≡ value c
    → AreSet first c columns value old now → AreSet first (c + 1) columns value old (set now j v)
set_step first c j columns value old now v rising past there column within is are = record {
  here = λ d from before. elim (cases_eq d c) [
    | inl same ↦ rw (same, sym column) (get_or-set_same now j v (pos 0) within ∙ is)
    | inr other ↦
        let earlier : d < c = grind (arith, before, other) in
        get_or-set_other now j (column_at columns d) v (pos 0)
        (λ same. rising_other columns d c rising earlier there (same ∙ column)) ∙ are.here d from earlier
  ];
  kept = λ i none.
      get_or-set_other now j i v (pos 0) (λ same. none c past (omega arith) (sym column ∙ sym same))
      ∙ are.kept i (λ d from before. none d from (omega (arith, before)));
}

-- columns that are set twice, and the second values by another name
pub set_again : (first n : ℕ) (columns : List ℕ) (f h value : ℕ → ℤ) (old now new : List ℤ)
    → AreSet first n columns f old now → AreSet first n columns h now new →
    ((c : ℕ) → first ≤ c → c < n → h c ≡ value c)
    → AreSet first n columns value old new
set_again first n columns f h value old now new once twice same = record {
  here = λ c from before. twice.here c from before ∙ same c from before;
  kept = λ j none. twice.kept j none ∙ once.kept j none;
}

abbrev one_if : Bool → ℕ
one_if b = cond b 1 0

-- how many items pass a test that those before a place fail and the others pass
count_after : (test : ℕ → Bool) (columns : List ℕ) (first : ℕ) → first ≤ length columns
    → ((c : ℕ) → c < first → test (code_of columns c) ≡ false)
    → ((c : ℕ) → first ≤ c → c < length columns → test (code_of columns c) ≡ true)
    → count_by test columns ≡ length columns - first
count_after test [] first within before after = omega arith
count_after test (x ∷ xs) zero within before after =
    let more = sum_by-cons (λ column. one_if (test column)) x xs in
    let rest = count_after test xs zero (omega arith) (λ c lt. absurd (omega (arith, lt)))
    (λ c from lt. after (suc c) (omega arith) (omega (arith, lt))) in
    let one : one_if (test x) ≡ 1 = ap one_if (after zero (omega arith) (omega arith)) in
    omega (arith, more, rest, one)
count_after test (x ∷ xs) (suc first) within before after =
    let more = sum_by-cons (λ column. one_if (test column)) x xs in
    let rest = count_after test xs first (omega (arith, within)) (λ c lt. before (suc c) (omega (arith, lt)))
    (λ c from lt. after (suc c) (omega (arith, from)) (omega (arith, lt))) in
    let none : one_if (test x) ≡ 0 = ap one_if (before zero (omega arith)) in
    omega (arith, more, rest, none)

-- the first place of columns from a column on
pub record IsFirstFrom (from : ℕ) (columns : List ℕ) (first : ℕ) : Type 0 where
  pub within : first ≤ length columns
  pub before : (c : ℕ) → c < first → column_at columns c < from
  pub after : (c : ℕ) → first ≤ c → c < length columns → from ≤ column_at columns c

pub first_is : (from : ℕ) (columns : List ℕ) (first : ℕ) → Rise columns → first ≤ length columns
    → ((c : ℕ) → c < first → column_at columns c < from) → (first < length columns → from ≤ column_at columns first)
    → IsFirstFrom from columns first
first_is from columns first rising within before at_first = record {
  within = within;
  before = before;
  after = λ c past there. elim (cases_eq c first) [
    | inl same ↦ rw same (at_first (omega (arith, past, there)))
    | inr other ↦
        let later : first < c = grind (arith, past, other) in
        omega (arith, at_first (omega (arith, later, there)), rising first c later there)
  ];
}

pub count_from : (from : ℕ) (columns : List ℕ) (first : ℕ) → IsFirstFrom from columns first
    → columns_from from columns ≡ length columns - first
count_from from columns first is =
    count_after (λ j. leb from j) columns first is.within
    (λ c lt. lt-leb from (column_at columns c) (is.before c lt))
    (λ c past there. le-leb from (column_at columns c) (is.after c past there))

-- a part is gathered where its columns from a first place on are set
pub part_gathered : (from first rows : ℕ) (part : LayoutPart) (item : ℕ → ℤ) (old new : List ℤ)
    → IsFirstFrom from part.columns first
    → AreSet first (length part.columns) part.columns (λ c. sum_to (λ i. cell_of part.codes part.tuples i c *ℤ item
    i) rows) old new
    → AreGathered from rows part item old new
part_gathered from first rows part item old new is are = record {
  here = λ c there late. elim (cases_lt c first) [
    | inl early ↦ (let less = is.before c early in absurd (omega (arith, less, late)))
    | inr past ↦ are.here c past there
  ];
  kept = λ j none. are.kept j (λ c _ there. none c there);
}

-- and where it has none of them
pub none_gathered : (from first rows : ℕ) (part : LayoutPart) (item : ℕ → ℤ) (old : List ℤ)
    → IsFirstFrom from part.columns first
    → length part.columns ≤ first → AreGathered from rows part item old old
none_gathered from first rows part item old is all = record {
  here = λ c there late. (let less = is.before c (omega (arith, there, all)) in absurd (omega (arith, less, late)));
  kept = λ j none. refl;
}

-- item j of the product of a vector and a base
abbrev pub product_at : List LayoutPart → (ℕ → ℤ) → ℕ → ℕ → ℤ
product_at parts item rows j = sum_to (λ i. entry_in parts i j *ℤ item i) rows

-- the columns, from column `from` on, of the first q parts have their products, and those of the other parts hold zeros
pub record AreGatheredTo (from rows q : ℕ) (parts : List LayoutPart) (item : ℕ → ℤ) (sums : List ℤ) : Type 0 where
  pub done : (p j : ℕ) → p < q → has_column (part_at parts p) j ≡ true → from ≤ j → at sums j
      ≡ product_at parts item rows j
  pub zeros : (p j : ℕ) → q ≤ p → p < length parts → has_column (part_at parts p) j ≡ true → at sums j ≡ pos 0

-- a column of another part is none of a part's
pub other_part : (bits rows cols : ℕ) (parts : List LayoutPart) (p q j : ℕ) → IsWhole bits (layout_with rows cols parts)
    → p < length parts → q < length parts → (p ≡ q → ⊥) → has_column (part_at parts p) j ≡ true
    → (c : ℕ) → c < length (part_at parts q).columns → column_at (part_at parts q).columns c ≡ j → ⊥
other_part bits rows cols parts p q j whole p_there q_there other has c place same =
    let own = own_column (part_at parts q) c (whole.each q q_there).rising place in
    let also : has_column (part_at parts q) j ≡ true = rw (sym same) own.1 in
    other (only_part cols parts p q j whole.partition p_there q_there
    (own_column_within cols parts p j whole.partition p_there has) has also)

-- one more part is gathered
pub parts_step : (bits from rows cols q : ℕ) (parts : List LayoutPart) (item : ℕ → ℤ) (old new : List ℤ)
    → IsWhole bits (layout_with rows cols parts) → q < length parts
    → AreGathered from rows (part_at parts q) item old new → AreGatheredTo from rows q parts item old
    → AreGatheredTo from rows (q + 1) parts item new
parts_step bits from rows cols q parts item old new whole there are so_far = record {
  done = λ p j lt has late. elim (cases_eq p q) [
    | inl same ↦
        let part = part_at parts q in
        let here : has_column part j ≡ true = rw same at has in
        let place = first_row_of part.columns j in
        let within : place < length part.columns = ltb-true _ _ here in
        let column : column_at part.columns place ≡ j = column_there part.columns j within in
        let col = own_column_within cols parts q j whole.partition there here in
        ap (at new) (sym column) ∙ are.here place within (omega (arith, column, late))
        ∙ sum_to-same (λ i. cell_of part.codes part.tuples i place *ℤ item i) (λ i. entry_in parts i j *ℤ item i) rows
        (λ i _. ap (λ (z : ℤ). z *ℤ item i) (sym (entry_of_part cols parts q i j whole.partition there col here)))
    | inr other ↦
        let early : p < q = grind (arith, lt, other) in
        are.kept j (other_part bits rows cols parts p q j whole (omega (arith, early, there)) there other has)
        ∙ so_far.done p j early has late
  ];
  zeros = λ p j past lt has.
      are.kept j (other_part bits rows cols parts p q j whole lt there (λ same. absurd (omega (arith, same, past))) has)
      ∙ so_far.zeros p j (omega (arith, past)) lt has;
}

-- the columns of the part that comes next hold zeros
pub next_zeros : (bits from rows cols q : ℕ) (parts : List LayoutPart) (item : ℕ → ℤ) (sums : List ℤ)
    → IsWhole bits (layout_with rows cols parts) → q < length parts → AreGatheredTo from rows q parts item sums
    → (c : ℕ) → c < length (part_at parts q).columns → at sums (column_at (part_at parts q).columns c) ≡ pos 0
next_zeros bits from rows cols q parts item sums whole there so_far c place =
    let own = own_column (part_at parts q) c (whole.each q there).rising place in
    so_far.zeros q (column_at (part_at parts q).columns c) (omega arith) there own.1

-- after all parts each column from column `from` on has its product
pub all_gathered : (bits from rows cols q : ℕ) (parts : List LayoutPart) (item : ℕ → ℤ) (sums : List ℤ)
    → IsWhole bits (layout_with rows cols parts) → length parts ≤ q → AreGatheredTo from rows q parts item sums
    → (j : ℕ) → from ≤ j → j < cols → at sums j ≡ product_at parts item rows j
all_gathered bits from rows cols q parts item sums whole all are j late col =
    let found = some_part cols parts j whole.partition col in
    are.done found.0 j (omega (arith, found.1, all)) found.2 late

abbrev values_in_from : ℕ → LayoutPart → ℕ
values_in_from from part = length part.tuples * columns_from from part.columns

abbrev values_in : LayoutPart → ℕ
values_in part = length part.tuples * length part.columns

-- one more part has so many values more
pub values_from_more : (from : ℕ) (parts : List LayoutPart) (q : ℕ) → q < length parts → values_from from
    (take (q + 1) parts)
    ≡ values_from from (take q parts) + length (part_at parts q).tuples * columns_from from (part_at parts q).columns
values_from_more from [] q there = absurd (omega (arith, there))
values_from_more from (part ∷ parts) zero there = omega (arith, sum_by-cons (values_in_from from) part [])
values_from_more from (part ∷ parts) (suc q) there =
    let next : suc q + 1 ≡ suc (q + 1) = omega arith in
    ap (λ (n : ℕ). values_from from (take n (part ∷ parts))) next
    ∙ omega (
      arith,
      sum_by-cons (values_in_from from) part (take (q + 1) parts),
      sum_by-cons (values_in_from from) part (take q parts),
      values_from_more from parts q (omega (arith, there)),
    )

-- some columns have no more values than all
pub values_from_few : (from : ℕ) (parts : List LayoutPart) → values_from from parts ≤ values_of parts
values_from_few from [] = omega arith
values_from_few from (part ∷ parts) =
    omega (
      arith,
      sum_by-cons (values_in_from from) part parts,
      sum_by-cons values_in part parts,
      values_from_few from parts,
      mul-le-mul_left {m = columns_from from part.columns} {n = length part.columns} (length part.tuples)
          (count_by-le-length (λ j. leb from j) part.columns),
    )

-- and from the first column on they are all
pub values_from_all : (parts : List LayoutPart) → values_from 0 parts ≡ values_of parts
values_from_all [] = refl
values_from_all (part ∷ parts) =
    let most : columns_from 0 part.columns ≡ length part.columns - 0 =
    count_after (λ j. leb 0 j) part.columns 0 (omega arith) (λ c lt. absurd (omega (arith, lt)))
    (λ c _ there. le-leb 0 (column_at part.columns c) (omega arith)) in
    let all : columns_from 0 part.columns ≡ length part.columns = omega (arith, most) in
    let here : values_in_from 0 part ≡ values_in part = ap (λ (n : ℕ). length part.tuples * n) all in
    omega (
      arith,
      sum_by-cons (values_in_from 0) part parts,
      sum_by-cons values_in part parts,
      values_from_all
          parts,
      here,
    )

-- the same columns, set to values of another name
pub set_named : (first n : ℕ) (columns : List ℕ) (f value : ℕ → ℤ) (old new : List ℤ) → AreSet first n columns f old new
    → ((c : ℕ) → first ≤ c → c < n → f c ≡ value c) → AreSet first n columns value old new
set_named first n columns f value old new are same = record {
  here = λ c past before. are.here c past before ∙ same c past before;
  kept = are.kept;
}
