-- The first of values, of tuples and of parts, in an order.
use Rattle.std.proofs.Common.{◌≡◌, ◌⊎◌, ℕ, ℤ, ◌+◌, ◌<◌, Bool, true, false, List, length, ap, subst, sym, ◌∙◌, arith}
use Rattle.std.proofs.Common.{inl, inr}
use Rattle.std.proofs.lemmas.Bool.{cases_eq}
use Rattle.cla_layout.specs.Groups.{value_of, IsGroup}
use Rattle.cla_layout.specs.GroupLaws.{IsExtreme}
use Rattle.cla_coded.specs.declared.part.Part.{Part}
use Rattle.cla_layout.specs.Firsts.{IsExtremeEntry}
use Rattle.cla_layout.specs.Laws.{IsExtremeOfParts}
use Rattle.cla_layout.specs.Layouts.{LayoutPart, Layout, IsWhole, part_at, entry_in}
use Rattle.cla_coded.specs.Parts.{parts_of}
use Rattle.cla_coded.proofs.Outlines.{parts_count}
use Rattle.cla_layout.proofs.Wholes.{same_width, some_part}
use Rattle.cla_coded.specs.Tables.{TableOf, layout_of, rows_of_table, cols_of_table, table_entry}
use Rattle.cla_layout.proofs.PartFirsts.{extreme_by_parts, extreme_transposed}
use Rattle.cla_meaning.specs.Orders.{IsChoice}
use Rattle.cla_agg.specs.Extremes.{IsFirstOfParts}
use Rattle.cla_agg.proofs.PartSums.{IsPartRead}

pub last_or_before : (n k : ℕ) → k < n + 1 → (k ≡ n) ⊎ (k < n)
last_or_before n k lt = elim (cases_eq k n) [
  | inl same ↦ inl same
  | inr other ↦ inr (grind (arith, lt, other))
]

module _ (Before : ℤ → ℤ → Type 0) (choice : ℤ → ℤ → ℤ) (laws : IsChoice Before choice) where
  -- one value
  pub extreme_one : (f : ℕ → ℤ) (v : ℤ) → v ≡ f 0 → IsExtreme Before f 1 v
  extreme_one f v is = record {
    reached = (0, omega arith, sym is);
    before = λ i lt. (let first : i ≡ 0 = omega (arith, lt) in rw (first, is) (laws.same (f 0)));
  }

  -- one more
  pub extreme_more : (f : ℕ → ℤ) (n : ℕ) (v w : ℤ) → w ≡ f n → IsExtreme Before f n v →
      IsExtreme Before f (n + 1) (choice v w)
  extreme_more f n v w is first = record {
    reached = elim (laws.either v w) [
      | inl old ↦ (first.reached.0, omega (arith, first.reached.1), first.reached.2 ∙ sym old)
      | inr new ↦ (n, omega arith, sym (new ∙ is))
    ];
    before = λ i lt. elim (last_or_before n i lt) [
      | inl last ↦ subst (Before (choice v w)) (is ∙ ap f (sym last)) (laws.right v w)
      | inr earlier ↦ laws.onwards (choice v w) v (f i) (laws.left v w) (first.before i earlier)
    ];
  }

  -- one tuple
  pub tuple_one : (f : ℕ → ℕ → ℤ) (w : ℕ) (v : ℤ) → IsExtreme Before (f 0) w v → IsExtremeEntry Before 1 w f v
  tuple_one f w v first = record {
    reached = (0, first.reached.0, omega arith, first.reached.1, first.reached.2);
    before =
        λ k c lt col. (let is : k ≡ 0 = omega (arith, lt) in
        subst (λ (n : ℕ). Before v (f n c)) (sym is) (first.before c col));
  }

  -- one more
  pub tuple_more : (f : ℕ → ℕ → ℤ) (w n : ℕ) (v u : ℤ) → IsExtremeEntry Before n w f v → IsExtreme Before (f n) w u →
      IsExtremeEntry Before (n + 1) w f (choice v u)
  tuple_more f w n v u first next = record {
    reached = elim (laws.either v u) [
      | inl old ↦ (
        first.reached.0,
        first.reached.1,
        omega (arith, first.reached.2),
        first.reached.3,
        first.reached.4
            ∙ sym old,
      )
      | inr new ↦ (n, next.reached.0, omega arith, next.reached.1, next.reached.2 ∙ sym new)
    ];
    before = λ k c lt col. elim (last_or_before n k lt) [
      | inl last ↦ subst (λ (t : ℕ). Before (choice v u) (f t c)) (sym last)
          (laws.onwards (choice v u) u (f n c) (laws.right v u) (next.before c col))
      | inr earlier ↦ laws.onwards (choice v u) v (f k c) (laws.left v u) (first.before k c earlier col)
    ];
  }

  -- one part
  pub part_one : (parts : List LayoutPart) (v : ℤ) →
      IsExtremeEntry Before (length (part_at parts 0).tuples) (length (part_at parts 0).columns)
      (value_of (part_at parts 0).tuples) v
      → IsFirstOfParts Before parts 1 v
  part_one parts v first = record {
    reached = (0, first.reached.0, first.reached.1, omega arith, first.reached.2, first.reached.3, first.reached.4);
    before =
        λ q k c lt tuple col. (let is : q ≡ 0 = omega (arith, lt) in
        rw is (first.before k c (rw is at tuple) (rw is at col)));
  }

  -- one more
  pub part_more : (parts : List LayoutPart) (n : ℕ) (v u : ℤ) → IsFirstOfParts Before parts n v
      → IsExtremeEntry Before (length (part_at parts n).tuples) (length (part_at parts n).columns)
      (value_of (part_at parts n).tuples) u → IsFirstOfParts Before parts (n + 1) (choice v u)
  part_more parts n v u first next = record {
    reached = elim (laws.either v u) [
      | inl old ↦ (
        first.reached.0,
        first.reached.1,
        first.reached.2,
        omega (arith, first.reached.3),
        first.reached.4,
        first.reached.5,
        first.reached.6 ∙ sym old,
      )
      | inr new ↦ (
        n,
        next.reached.0,
        next.reached.1,
        omega arith,
        next.reached.2,
        next.reached.3,
        next.reached.4
            ∙ sym new,
      )
    ];
    before = λ q k c lt tuple col. elim (last_or_before n q lt) [
      | inl last ↦ laws.onwards (choice v u) u _ (laws.right v u)
          (rw last (next.before k c (rw last at tuple) (rw last at col)))
      | inr earlier ↦ laws.onwards (choice v u) v _ (laws.left v u) (first.before q k c earlier tuple col)
    ];
  }

  -- the first of all parts is the first of the entries
  pub parts_first : (bits : ℕ) (layout : Layout) (v : ℤ) → IsWhole bits layout →
      IsFirstOfParts Before layout.parts (length layout.parts) v
      → IsExtremeEntry Before layout.rows layout.cols (entry_in layout.parts) v
  parts_first bits layout v whole first =
      let all : IsExtremeOfParts Before (λ j z. z) layout.parts v = record {
        reached = (
          first.reached.0,
          first.reached.3,
          (
            first.reached.1,
            first.reached.2,
            first.reached.4,
            first.reached.5,
            first.reached.6,
          ),
        );
        before = first.before;
      } in
      (extreme_by_parts bits layout Before (λ j z. z) v whole).1 all

-- and of a table's, flipped or not
pub first_turned : {G : Type 0} (Before : ℤ → ℤ → Type 0) (codes : G → List ℕ) (dictionary : G → List (List ℤ))
    (rows cols : ℕ) (flipped : Bool) (parts : List (Part G)) (v : ℤ)
    → IsExtremeEntry Before rows cols (entry_in (parts_of codes dictionary parts)) v
    → IsExtremeEntry Before (rows_of_table (record { rows = rows; cols = cols; flipped = flipped; parts = parts }))
    (cols_of_table (record { rows = rows; cols = cols; flipped = flipped; parts = parts }))
    (table_entry codes dictionary (record { rows = rows; cols = cols; flipped = flipped; parts = parts })) v
first_turned Before codes dictionary rows cols true parts v first =
    extreme_transposed Before rows cols (entry_in (parts_of codes dictionary parts)) v first
first_turned Before codes dictionary rows cols false parts v first = first

-- what is first among a group's values is first among its part's
pub part_extreme : {G : Type 0} (Before : ℤ → ℤ → Type 0) (bits : ℕ) (width : G → ℕ) (codes : G → List ℕ)
    (dictionary : G → List (List ℤ)) (m : TableOf G) (q : ℕ) (part : Part G) (v : ℤ)
    → IsGroup bits (width part.group) (codes part.group) (dictionary part.group) →
    IsPartRead bits codes dictionary m q part
    → IsExtremeEntry Before (length (dictionary part.group)) (width part.group) (value_of (dictionary part.group)) v
    → IsExtremeEntry Before (length (part_at (parts_of codes dictionary m.parts) q).tuples)
    (length (part_at (parts_of codes dictionary m.parts) q).columns)
    (value_of (part_at (parts_of codes dictionary m.parts) q).tuples) v
part_extreme Before bits width codes dictionary m q part v laws read first =
    subst (λ (p : LayoutPart). IsExtremeEntry Before (length p.tuples) (length p.columns) (value_of p.tuples) v)
    (sym read.same)
    (subst (λ (w : ℕ). IsExtremeEntry Before (length (dictionary part.group)) w (value_of (dictionary part.group)) v)
    (same_width _ _ _ _ _ laws read.is.group) first)

-- a whole layout has a part
pub a_part : {G : Type 0} (bits : ℕ) (codes : G → List ℕ) (dictionary : G → List (List ℤ)) (m : TableOf G) →
    IsWhole bits (layout_of codes dictionary m) → 0 < length m.parts
a_part bits codes dictionary m whole =
    let found = some_part m.cols (parts_of codes dictionary m.parts) 0 whole.partition (omega (arith, whole.a_col)) in
    omega (arith, found.1, parts_count codes dictionary m.parts)

-- an extreme is that of the same values
pub extreme_respects : (Before : ℤ → ℤ → Type 0) (f g : ℕ → ℤ) (n : ℕ) (v : ℤ) → ((i : ℕ) → i < n → f i ≡ g i)
    → IsExtreme Before f n v → IsExtreme Before g n v
extreme_respects Before f g n v same is = record {
  reached = (is.reached.0, is.reached.1, sym (same is.reached.0 is.reached.1) ∙ is.reached.2);
  before = λ i lt. subst (Before v) (same i lt) (is.before i lt);
}
