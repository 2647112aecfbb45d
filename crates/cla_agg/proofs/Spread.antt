-- Sums and extremes of rows, over the parts.
use Rattle.std.proofs.Common.{◌≡◌, ℕ, ℤ, pos, ◌+◌, ◌*◌, ◌^◌, ◌<◌, ◌≤◌, List, length, map, take, set, get_or, ap, subst}
use Rattle.std.proofs.Common.{sym, ◌∙◌, arith, inl, inr}
use Rattle.std.proofs.Math.Nat.{mul-le-mul_right}
use Rattle.std.proofs.lemmas.Bool.{ltb-true}
use Rattle.std.proofs.lemmas.List.{length-take-le, get_or-map, get_or-set_same, get_or-set_other}
use Rattle.std.specs.Int.RustNames.{unsigned_abs}
use Rattle.cla_spec.specs.Numbers.{sum_to}
use Rattle.cla_spec.proofs.Sums.{sum_to-size}
use Rattle.cla_num.specs.Bits.{IsSupported, value_bound}
use Rattle.cla_num.proofs.Sizes.{value_size}
use Rattle.cla_layout.specs.Groups.{at, code_of, cell_of, value_of, IsGroup}
use Rattle.cla_layout.specs.GroupLaws.{IsExtreme}
use Rattle.cla_layout.specs.Layouts.{LayoutPart, Layout, IsPart, IsWhole, column_at, part_at, index_of, entry_in}
use Rattle.cla_layout.specs.Laws.{sum_over}
use Rattle.cla_layout.proofs.Bounds.{width_few}
use Rattle.cla_layout.proofs.PartSums.{row_by_parts}
use Rattle.cla_layout.proofs.Wholes.{own_column, own_column_within, some_part, entry_of_part, same_width}
use Rattle.cla_coded.specs.declared.part.Part.{Part}
use Rattle.cla_coded.specs.Parts.{part_of, parts_of}
use Rattle.cla_coded.specs.Tables.{TableOf}
use Rattle.cla_meaning.specs.Entries.{row_sum}
use Rattle.cla_meaning.specs.Orders.{IsChoice}
use Rattle.cla_agg.proofs.Extremes.{last_or_before}
use Rattle.cla_agg.proofs.PartSums.{widths_are, sum_over-size, IsPartRead}

-- the sum of a part's values in row i
abbrev pub part_row : ℕ → LayoutPart → ℤ
part_row i part = sum_to (cell_of part.codes part.tuples i) (length part.columns)

-- how large the sum of a row over the first parts can be
pub row_size : (bits : ℕ) (layout : Layout) (i q : ℕ) → IsSupported bits → IsWhole bits layout → i < layout.rows
    → unsigned_abs (sum_over (part_row i) (take q layout.parts)) < 2 ^ 127
row_size bits layout i q supported whole row =
    let sum = sum_over (part_row i) (take q layout.parts) in
    let small : unsigned_abs sum ≤ layout.cols * value_bound =
    rw (widths_are bits layout whole) at (sum_over-size (part_row i) value_bound layout.parts q (λ p there.
    (let part = part_at layout.parts p in
    let is = whole.each p there in
    sum_to-size (cell_of part.codes part.tuples i) value_bound (length part.columns) (λ c col.
    value_size bits (cell_of part.codes part.tuples i c) supported
    (is.group.small (code_of part.codes i) c (is.group.in_tuples i (rw is.a_code_each row)) col))))) in
    omega (arith, small, whole.few, mul-le-mul_right layout.cols whole.a_row)

-- the sum over all parts is that of the row
pub row_is : (bits : ℕ) (layout : Layout) (i : ℕ) → IsWhole bits layout
    → sum_over (part_row i) layout.parts ≡ row_sum layout.cols (entry_in layout.parts) i
row_is bits layout i whole = sym (row_by_parts bits layout (λ j z. z) i whole)

-- v is a value of row i in the first n parts, and stands before all of them
pub record IsFirstOfRow (Before : ℤ → ℤ → Type 0) (parts : List LayoutPart) (i n : ℕ) (v : ℤ) : Type 0 where
  pub reached : (q : ℕ) × (c : ℕ) × (q < n) × (c < length (part_at parts q).columns)
      × (cell_of (part_at parts q).codes (part_at parts q).tuples i c ≡ v)
  pub before : (q c : ℕ) → q < n → c < length (part_at parts q).columns
      → Before v (cell_of (part_at parts q).codes (part_at parts q).tuples i c)

-- v is the first of the part's values in row i
abbrev pub IsPartRowFirst : (ℤ → ℤ → Type 0) → ℕ → LayoutPart → ℤ → Type 0
IsPartRowFirst Before i part v = IsExtreme Before (cell_of part.codes part.tuples i) (length part.columns) v

pub row_one : (Before : ℤ → ℤ → Type 0) (parts : List LayoutPart) (i : ℕ) (v : ℤ) →
    IsPartRowFirst Before i (part_at parts 0) v
    → IsFirstOfRow Before parts i 1 v
row_one Before parts i v first = record {
  reached = (0, first.reached.0, omega arith, first.reached.1, first.reached.2);
  before = λ q c lt col. (let is : q ≡ 0 = omega (arith, lt) in rw is (first.before c (rw is at col)));
}

pub row_more : (Before : ℤ → ℤ → Type 0) (choice : ℤ → ℤ → ℤ) → IsChoice Before choice →
    (parts : List LayoutPart) (i n : ℕ) (v u : ℤ)
    → IsFirstOfRow Before parts i n v → IsPartRowFirst Before i (part_at parts n) u →
    IsFirstOfRow Before parts i (n + 1) (choice v u)
row_more Before choice laws parts i n v u first next = record {
  reached = elim (laws.either v u) [
    | inl old ↦ (
      first.reached.0,
      first.reached.1,
      omega (arith, first.reached.2),
      first.reached.3,
      first.reached.4
          ∙ sym old,
    )
    | inr new ↦ (n, next.reached.0, omega arith, next.reached.1, next.reached.2 ∙ sym new)
  ];
  before = λ q c lt col. elim (last_or_before n q lt) [
    | inl last ↦ laws.onwards (choice v u) u _ (laws.right v u) (rw last (next.before c (rw last at col)))
    | inr earlier ↦ laws.onwards (choice v u) v _ (laws.left v u) (first.before q c earlier col)
  ];
}

-- the first of all parts is the first of the row
pub row_first : (Before : ℤ → ℤ → Type 0) (bits : ℕ) (layout : Layout) (i : ℕ) (v : ℤ) → IsWhole bits layout
    → IsFirstOfRow Before layout.parts i (length layout.parts) v →
    IsExtreme Before (entry_in layout.parts i) layout.cols v
row_first Before bits layout i v whole first =
    let q = first.reached.0 in
    let c = first.reached.1 in
    let part = part_at layout.parts q in
    let there = first.reached.2 in
    let own = own_column part c (whole.each q there).rising first.reached.3 in
    let col = own_column_within layout.cols layout.parts q (column_at part.columns c) whole.partition there own.1 in
    record {
      reached = (
        column_at part.columns c,
        col,
        entry_of_part layout.cols layout.parts q i (column_at part.columns c) whole.partition there col own.1
            ∙ ap (cell_of part.codes part.tuples i) own.0 ∙ first.reached.4,
      );
      before = λ j lt. (let found = some_part layout.cols layout.parts j whole.partition lt in
          let other = part_at layout.parts found.0 in
          subst (Before v) (sym (entry_of_part layout.cols layout.parts found.0 i j whole.partition found.1 lt found.2))
          (first.before found.0 (index_of other.columns j) found.1 (ltb-true _ _ found.2)));
    }

-- one more place is written
pub set_more : (P : ℕ → ℤ → Type 0) (into : List ℤ) (k : ℕ) (w : ℤ) → k < length into → P k w →
    ((t : ℕ) → t < k → P t (at into t))
    → (t : ℕ) → t < k + 1 → P t (at (set into k w) t)
set_more P into k w there is before t lt = elim (last_or_before k t lt) [
  | inl last ↦ subst (λ (s : ℕ). P s (at (set into k w) s)) (sym last)
      (subst (P k) (sym (get_or-set_same into k w (pos 0) there)) is)
  | inr earlier ↦ (let other : t ≡ k → ⊥ = λ same. omega (arith, same, earlier) in
      subst (P t) (sym (get_or-set_other into k t w (pos 0) other)) (before t earlier))
]

-- the sum of a tuple's first values
pub tuple_small : (bits width : ℕ) (codes : List ℕ) (tuples : List (List ℤ)) → IsGroup bits width codes tuples →
    IsSupported bits → (k n : ℕ)
    → k < length tuples → n ≤ width → unsigned_abs (sum_to (value_of tuples k) n) < 2 ^ 127
tuple_small bits width codes tuples is supported k n there within =
    omega (
      arith,
      width_few bits width codes tuples is,
      within,
      sum_to-size (value_of tuples k) value_bound n
          (λ c lt. value_size bits (value_of tuples k c) supported (is.small k c there (omega (arith, lt, within)))),
    )

-- a group's row is that of its part
pub group_row : {G : Type 0} (bits rows : ℕ) (width : G → ℕ) (codes : G → List ℕ) (dictionary : G → List (List ℤ))
    (part : Part G) (i : ℕ)
    → IsGroup bits (width part.group) (codes part.group) (dictionary part.group) →
    IsPart bits rows (part_of codes dictionary part)
    → row_sum (width part.group) (cell_of (codes part.group) (dictionary part.group)) i
    ≡ part_row i (part_of codes dictionary part)
group_row bits rows width codes dictionary part i laws is =
    ap (sum_to (cell_of (codes part.group) (dictionary part.group) i)) (same_width _ _ _ _ _ laws is.group)

pub group_row_first : {G : Type 0} (Before : ℤ → ℤ → Type 0) (bits : ℕ) (width : G → ℕ) (codes : G → List ℕ)
    (dictionary : G → List (List ℤ))
    (m : TableOf G) (q : ℕ) (part : Part G) (i : ℕ) (v : ℤ)
    → IsGroup bits (width part.group) (codes part.group) (dictionary part.group) →
    IsPartRead bits codes dictionary m q part
    → IsExtreme Before (cell_of (codes part.group) (dictionary part.group) i) (width part.group) v
    → IsPartRowFirst Before i (part_at (parts_of codes dictionary m.parts) q) v
group_row_first Before bits width codes dictionary m q part i v laws read first =
    subst (λ (p : LayoutPart). IsPartRowFirst Before i p v) (sym read.same)
    (subst (λ (w : ℕ). IsExtreme Before (cell_of (codes part.group) (dictionary part.group) i) w v)
    (same_width _ _ _ _ _ laws read.is.group) first)

-- and what was read of the group tells the first of each row
pub group_row_read : {G : Type 0} (Before : ℤ → ℤ → Type 0) (bits : ℕ) (width : G → ℕ) (codes : G → List ℕ)
    (dictionary : G → List (List ℤ))
    (m : TableOf G) (q : ℕ) (part : Part G) (found : List ℕ) (firsts : List ℤ) (i : ℕ)
    → IsGroup bits (width part.group) (codes part.group) (dictionary part.group) →
    IsPartRead bits codes dictionary m q part
    → found ≡ codes part.group
    → ((k : ℕ) → k < length (dictionary part.group) →
    IsExtreme Before (value_of (dictionary part.group) k) (width part.group) (at firsts k))
    → i < m.rows
    → IsPartRowFirst Before i (part_at (parts_of codes dictionary m.parts) q) (at firsts (code_of found i))
group_row_read Before bits width codes dictionary m q part found firsts i laws read same chosen row =
    let tuples = dictionary part.group in
    let tuple = laws.in_tuples i (rw read.is.a_code_each row) in
    group_row_first Before bits width codes dictionary m q part i (at firsts (code_of found i)) laws read
    (subst (λ (cs : List ℕ). IsExtreme Before (cell_of (codes part.group) tuples i) (width part.group)
    (at firsts (code_of cs i))) (sym same) (chosen (code_of (codes part.group) i) tuple))

-- the codes that were read name tuples
pub found_within : (bits width : ℕ) (codes found : List ℕ) (tuples : List (List ℤ)) (count i : ℕ)
    → IsGroup bits width codes tuples → found ≡ codes → length tuples ≤ count → i < length found
    → code_of found i < count
found_within bits width codes found tuples count i laws same few lt =
    let row : i < length codes = subst (λ (cs : List ℕ). i < length cs) same lt in
    omega (arith, laws.in_tuples i row, ap (λ (cs : List ℕ). code_of cs i) same, few)

-- places for tuples, of as many as they are or more
pub places_taken : {N : Type 0} (places : List N) (n tuples : ℕ) → n ≡ tuples → tuples ≤ length places →
    length (take n places) ≡ n
places_taken places n tuples count room = length-take-le n places (omega (arith, count, room))

-- the value of a number that is read
pub value_read : {N : Type 0} (value : N → ℤ) (numbers : List N) (p : ℕ) (number : N) → p < length numbers →
    number ≡ get_or numbers p number
    → value number ≡ at (map value numbers) p
value_read value numbers p number there is = ap value is ∙ sym (get_or-map value numbers p number (pos 0) there)

-- the rows before row i are joined with the items of their codes, and the others are as they were
pub record AreJoinedBefore (join : ℤ → ℤ → ℤ) (i : ℕ) (codes : List ℕ) (items old new : List ℤ) : Type 0 where
  pub done : (r : ℕ) → r < i → at new r ≡ join (at old r) (at items (code_of codes r))
  pub left : (r : ℕ) → i ≤ r → at new r ≡ at old r

pub joined_more : (join : ℤ → ℤ → ℤ) (i : ℕ) (codes : List ℕ) (items old now : List ℤ) (v : ℤ) → i < length now →
    v ≡ join (at now i) (at items (code_of codes i)) → AreJoinedBefore join i codes items old now
    → AreJoinedBefore join (i + 1) codes items old (set now i v)
joined_more join i codes items old now v there is before = record {
  done = λ r lt. elim (last_or_before i r lt) [
    | inl last ↦ subst (λ (s : ℕ). at (set now i v) s ≡ join (at old s) (at items (code_of codes s))) (sym last)
        (get_or-set_same now i v (pos 0) there ∙ is
        ∙ ap (λ (z : ℤ). join z (at items (code_of codes i))) (before.left i (omega arith)))
    | inr earlier ↦ (let other : r ≡ i → ⊥ = λ same. omega (arith, same, earlier) in
        get_or-set_other now i r v (pos 0) other ∙ before.done r earlier)
  ];
  left = λ r le. (let other : r ≡ i → ⊥ = λ same. omega (arith, same, le) in
      get_or-set_other now i r v (pos 0) other ∙ before.left r (omega (arith, le)));
}
