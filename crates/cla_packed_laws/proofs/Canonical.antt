-- Files of version 1 are the canonical layouts.
use Rattle.std.proofs.Common.{◌≡◌, ℕ, ℤ, pos, negsuc, zero, suc, ◌+◌, ◌*◌, ◌^◌, ◌<◌, ◌≤◌, true, eqb, List, [], ◌∷◌}
use Rattle.std.proofs.Common.{◌++◌, length, get_or, map, refl, sym, ap, subst, ◌∙◌, arith, inl, inr}
use Rattle.std.specs.Prelude.{nat_lt, nat_le}
use Rattle.std.specs.List.{range_with_len, AllByRecursion}
use Rattle.std.proofs.lemmas.Bool.{cases_lt, eq-eqb, ne_eqb, lt-ltb, le-leb, ltb-true, leb-true, and_parts, and_from}
use Rattle.std.proofs.lemmas.List.{length-map, map-append, get_or-map}
use Rattle.std.proofs.lemmas.List.FromFn.{length-range_with_len, get_or-range_with_len}
use Rattle.std.proofs.lemmas.List.Sums.{position_or_len_is}
use Rattle.cla_layout.specs.declared.kind.Kind.{Kind}
use Rattle.cla_layout.specs.declared.kind.Kind.TheVariants as kinds
use Rattle.cla_packed.specs.Fields.{EachIs}
use Rattle.cla_layout.specs.Groups.{code_of, first_row_of, AreNumbered}
use Rattle.cla_spec.specs.Numbers.{in_range}
use Rattle.cla_layout.specs.Canonical.{AreDistinct}
use Rattle.cla_layout.specs.Layouts.{IsPartition}
use Rattle.cla_layout.specs.GroupLaws.{AreCodesOf}
use Rattle.cla_packed.specs.Values.{IsTuple}
use Rattle.cla_packed.specs.Codes.{has}
use Rattle.cla_packed.specs.Lists.{RisingFrom, first_of}
use Rattle.cla_packed.specs.Offsets.{joined}
use Rattle.cla_packed.specs.Bodies.{Body, IsBody}
use Rattle.cla_packed.specs.Files.{PackedGroup, PackedLayout, IsBodyOf, columns_of, AreColumns, IsGroupHere, IsFile}
use Rattle.cla_packed.specs.Files.{fits_size}
use Rattle.cla_spec.specs.Numbers.{InRange}
use Rattle.cla_layout.specs.Groups.{value_of, IsGroup}
use Rattle.cla_layout.specs.Layouts.{LayoutPart, part_at, all_columns, IsPart}
use Rattle.cla_layout.specs.Canonical.{HasKind, kind_at, IsCanonical}
use Rattle.cla_packed.specs.Layouts.{part_of, layout_in, kinds_in}
use Rattle.cla_packed_laws.proofs.Codes.{has_at, has_occurring, first_among, first_holds, occurs}
use Rattle.std.proofs.Math.Nat.{mul-le-mul_left, le-mul_of_pos_right, mul_comm}
use Rattle.cla_spec.specs.Bytes.{Holds}
use Rattle.cla_packed_laws.proofs.Files.{width_parts}
use Rattle.cla_packed_laws.proofs.Columns.{AreOrdered, columns_ordered, columns_again}

-- ---- by places

all_in : {A : Type 0} (P : A → Type 0) (xs : List A) (k : ℕ) (d : A) → AllByRecursion P xs → k < length xs
    → P (get_or xs k d)
all_in P [] k d h lt = absurd (omega (arith, lt))
all_in P (x ∷ xs) zero d h lt = h.0
all_in P (x ∷ xs) (suc k) d h lt = all_in P xs k d h.1 (omega (arith, lt))

all_out : {A : Type 0} (P : A → Type 0) (xs : List A) (d : A) → ((k : ℕ) → k < length xs → P (get_or xs k d))
    → AllByRecursion P xs
all_out P [] d h = tt
all_out P (x ∷ xs) d h = (h 0 (omega arith), all_out P xs d (λ k lt. h (suc k) (omega (arith, lt))))

above_all : (a k : ℕ) (xs : List ℕ) → RisingFrom a xs → k < length xs → a ≤ get_or xs k 0
above_all a k [] h lt = absurd (omega (arith, lt))
above_all a zero (x ∷ xs) h lt = h.0
above_all a (suc k) (x ∷ xs) h lt = omega (arith, h.0, above_all (x + 1) k xs h.1 (omega (arith, lt)))

rising_far : (a c d : ℕ) (xs : List ℕ) → RisingFrom a xs → c < d → d < length xs → get_or xs c 0 < get_or xs d 0
rising_far a c d [] h lt fits = absurd (omega (arith, fits))
rising_far a zero zero (x ∷ xs) h lt fits = absurd (omega (arith, lt))
rising_far a zero (suc d) (x ∷ xs) h lt fits = omega (arith, above_all (x + 1) d xs h.1 (omega (arith, fits)))
rising_far a (suc c) zero (x ∷ xs) h lt fits = absurd (omega (arith, lt))
rising_far a (suc c) (suc d) (x ∷ xs) h lt fits = rising_far (x + 1) c d xs h.1 (omega (arith, lt))
    (omega (arith, fits))

rising_from : (a : ℕ) (xs : List ℕ) → (0 < length xs → a ≤ get_or xs 0 0) → ((c d : ℕ) → c < d → d < length xs
    → get_or xs c 0 < get_or xs d 0) → RisingFrom a xs
rising_from a [] first h = tt
rising_from a (x ∷ xs) first h = (
  first (omega arith),
  rising_from (x + 1) xs (λ some. (let o = h 0 1 (omega arith) (omega (arith, some)) in
      omega (arith, o))) (λ c d lt fits. h (suc c) (suc d) (omega (arith, lt)) (omega (arith, fits))),
)

-- ---- values

pub small_holds : (v : ℤ) → in_range 47 v ≡ true → Holds 8 v
small_holds (pos n) h = (let lt : n < 2 ^ 47 = ltb-true n (2 ^ 47) h in omega (arith, lt))
small_holds (negsuc n) h = (let lt : suc n < 2 ^ 47 = ltb-true (suc n) (2 ^ 47) h in omega (arith, lt))

-- ---- groups

columns_joined : (groups : List PackedGroup) → all_columns (map part_of groups) ≡ columns_of groups
columns_joined [] = refl
columns_joined (g ∷ groups) = ap (λ (l : List ℕ). g.columns ++ l) (columns_joined groups)

abbrev lists_in : List PackedGroup → List (List ℕ)
lists_in groups = map (λ (g : PackedGroup). g.columns) groups

split_here : (k bits rows cols : ℕ) (before groups : List PackedGroup)
    → EachIs (IsGroupHere k bits rows cols) before groups
    → EachIs (λ left lists list. AreColumns cols (joined lists) left list) (lists_in before) (lists_in groups)
    × AllByRecursion (λ g. IsBodyOf g.kind k bits rows (length g.columns) g.body) groups
split_here k bits rows cols before [] h = (tt, tt)
split_here k bits rows cols before (g ∷ groups) h =
    let more = split_here k bits rows cols (before ++ g ∷ []) groups h.1 in (
      (
        subst (λ (n : ℕ). AreColumns cols (columns_of before) n g.columns)
            (sym (length-map groups (λ (g : PackedGroup). g.columns))) h.0.columns,
        subst (λ (ls : List (List ℕ)). EachIs (λ left lists list. AreColumns cols (joined lists) left list) ls
            (lists_in groups)) (map-append (λ (g : PackedGroup). g.columns) before (g ∷ [])) more.0,
      ),
      (h.0.body, more.1),
    )

join_here : (k bits rows cols : ℕ) (before groups : List PackedGroup)
    → EachIs (λ left lists list. AreColumns cols (joined lists) left list) (lists_in before) (lists_in groups)
    → AllByRecursion (λ g. IsBodyOf g.kind k bits rows (length g.columns) g.body) groups
    → EachIs (IsGroupHere k bits rows cols) before groups
join_here k bits rows cols before [] h b = tt
join_here k bits rows cols before (g ∷ groups) h b = (
  record {
    columns = subst (λ (n : ℕ). AreColumns cols (columns_of before) n g.columns)
        (length-map groups (λ (g : PackedGroup). g.columns)) h.0;
    body = b.0;
  },
  join_here k bits rows cols (before ++ g ∷ []) groups
      (subst (λ (ls : List (List ℕ)). EachIs (λ left lists list. AreColumns cols (joined lists) left list) ls
      (lists_in groups)) (sym (map-append (λ (g : PackedGroup). g.columns) before (g ∷ []))) h.1) b.1,
)

-- ---- a group's tuples by places

tuples_full : (bits width : ℕ) (ts : List (List ℤ)) → AllByRecursion (IsTuple 8 bits width) ts
    → ((q : ℕ) → q < length ts → length (get_or ts q []) ≡ width) × ((q c : ℕ) → q < length ts → c < width
    → InRange bits (value_of ts q c))
tuples_full bits width ts h = (
  λ q lt. (all_in (IsTuple 8 bits width) ts q [] h lt).full,
  λ q c lt fits. (let t = all_in (IsTuple 8 bits width) ts q [] h lt in
      ltb-true _ (2 ^ bits) (all_in (λ v. Holds 8 v × (in_range bits v ≡ true)) (get_or ts q []) c (pos 0) t.each
      (omega (arith, fits, t.full))).1),
)

tuples_back : (width : ℕ) (ts : List (List ℤ)) → ((q : ℕ) → q < length ts → length (get_or ts q []) ≡ width)
    → ((q c : ℕ) → q < length ts → c < width → InRange 47 (value_of ts q c)) → AllByRecursion (IsTuple 8 47 width) ts
tuples_back width ts full small = all_out (IsTuple 8 47 width) ts [] (λ q lt. record {
  full = full q lt;
  each = all_out (λ v. Holds 8 v × (in_range 47 v ≡ true)) (get_or ts q []) (pos 0) (λ c fits.
      let in_it = lt-ltb _ (2 ^ 47) (small q c lt (omega (arith, fits, full q lt))) in
      (small_holds (get_or (get_or ts q []) c (pos 0)) in_it, in_it));
})

-- ---- codes of plain groups

own_code : (n i : ℕ) → i < n → code_of (range_with_len 0 n) i ≡ i
own_code n i lt = get_or-range_with_len 0 n i 0 lt ∙ omega arith

own_row : (n k : ℕ) → k < n → first_row_of (range_with_len 0 n) k ≡ k
own_row n k lt =
    let size = length-range_with_len 0 n in
    position_or_len_is (λ c. eqb c k) (range_with_len 0 n) k 0 (omega (arith, lt, size))
    (λ i before. ne_eqb (code_of (range_with_len 0 n) i) k
    (λ e. omega (arith, e, own_code n i (omega (arith, before, lt)), before)))
    (λ fits. eq-eqb (code_of (range_with_len 0 n) k) k (own_code n k lt))

own_codes_are : (rows : ℕ) → AreCodesOf rows (range_with_len 0 rows) × AreNumbered (range_with_len 0 rows) rows
own_codes_are rows =
    let size = length-range_with_len 0 rows in (
      record {
        in_tuples = λ i lt. (let row : i < rows = omega (arith, lt, size) in omega (arith, own_code rows i row, row));
        used = λ k lt. occurs (range_with_len 0 rows) k (subst (λ (c : ℕ). has (range_with_len 0 rows) c
            ≡ true) (own_code rows k lt) (has_at (range_with_len 0 rows) k (omega (arith, lt, size))));
      },
      λ k lt. (let one : k < rows = omega (arith, lt) in omega (arith, own_row rows k one, own_row rows (k + 1) lt)),
    )

-- ---- one group

record IsPartHere (bits rows width : ℕ) (kind : Kind) (columns : List ℕ) (body : Body) : Type 0 where
  count : length body.codes ≡ rows
  group : IsGroup bits width body.codes body.tuples
  numbered : AreNumbered body.codes (length body.tuples)
  kind_is : HasKind kind (record { columns = columns; codes = body.codes; tuples = body.tuples })

group_from : (bits rows width : ℕ) (body : Body) → 1 ≤ rows → 1 ≤ width → rows * width ≤ 2 ^ 26
    → length body.codes ≡ rows
    → AreCodesOf (length body.tuples) body.codes → AllByRecursion (IsTuple 8 bits width) body.tuples
    → IsGroup bits width body.codes body.tuples
group_from bits rows width body row column few count codes tuples =
    let t = tuples_full bits width body.tuples tuples in
    record {
      a_row = omega (arith, row, count);
      a_column = column;
      few_cells = subst (λ (n : ℕ). n * width ≤ 2 ^ 26) (sym count) few;
      in_tuples = codes.in_tuples;
      used = codes.used;
      full = t.0;
      small = t.1;
    }

body_part : (bits rows width : ℕ) (columns : List ℕ) (kind : Kind) (body : Body) → 1 ≤ rows → 1 ≤ width
    → rows * width ≤ 2 ^ 26 → IsBodyOf kind 8 bits rows width body → IsPartHere bits rows width kind columns body
body_part bits rows width columns kinds.Plain body row column few h =
    let own = own_codes_are rows in
    let count : length body.codes ≡ rows = ap (λ (l : List ℕ). length l) h.own ∙ length-range_with_len 0 rows in
    record {
      count = count;
      group = group_from bits rows width body row column few count
          (subst (λ (l : List ℕ). AreCodesOf (length body.tuples) l) (sym h.own)
          (subst (λ (n : ℕ). AreCodesOf n (range_with_len 0 rows)) (sym h.count) own.0)) h.each;
      numbered = subst (λ (l : List ℕ). AreNumbered l (length body.tuples)) (sym h.own)
          (subst (λ (n : ℕ). AreNumbered (range_with_len 0 rows) n) (sym h.count) own.1);
      kind_is = h.own ∙ ap (range_with_len 0) (sym count);
    }
body_part bits rows width columns kinds.Codes body row column few h = record {
  count = h.a_code_each;
  group =
      group_from bits rows width body row column few h.a_code_each h.canonical.codes_are h.each;
  numbered =
      h.canonical.numbered;
  kind_is = h.distinct;
}
body_part bits rows width columns kinds.Offsets body row column few h = record {
  count = h.a_code_each;
  group =
      group_from bits rows width body row column few h.a_code_each h.canonical.codes_are h.each;
  numbered =
      h.canonical.numbered;
  kind_is = h.distinct;
}
body_part bits rows width columns kinds.Runs body row column few h = record {
  count = h.a_code_each;
  group =
      group_from bits rows width body row column few h.a_code_each h.canonical.codes_are h.each;
  numbered =
      h.canonical.numbered;
  kind_is = h.distinct;
}

body_from : (rows width : ℕ) (body : Body) → IsGroup 47 width body.codes body.tuples → length body.codes ≡ rows
    → AreNumbered body.codes (length body.tuples) → AreDistinct body.tuples → IsBody 8 47 rows width body
body_from rows width body g count numbered distinct = record {
  a_code_each = count;
  canonical = record { codes_are = record { in_tuples = g.in_tuples; used = g.used }; numbered = numbered };
  each = tuples_back width body.tuples g.full g.small;
  distinct = distinct;
}

-- each tuple of a plain group is the code of its row
plain_count : (rows n : ℕ) (codes : List ℕ) → codes ≡ range_with_len 0 rows → AreCodesOf n codes → 0 < rows → n ≡ rows
plain_count rows n codes own h some =
    let size : length codes ≡ rows = ap (λ (l : List ℕ). length l) own ∙ length-range_with_len 0 rows in
    let at = λ (i : ℕ) (lt : i < rows). ap (λ (l : List ℕ). code_of l i) own ∙ own_code rows i lt in
    elim (cases_lt n rows) [
      | inl less ↦ absurd (omega (arith, at n less, h.in_tuples n (omega (arith, less, size))))
      | inr more ↦ elim (cases_lt rows n) [
        | inl over ↦
            let there = has_occurring codes rows (h.used rows over) in
            let row = first_among codes [] rows there in
            absurd (omega (
              arith,
              row.1,
              size,
              at (first_row_of codes rows) (omega (arith, row.1, size)),
              first_holds codes rows there,
            ))
        | inr same ↦ omega (arith, more, same)
      ]
    ]

part_body : (rows width : ℕ) (columns : List ℕ) (kind : Kind) (body : Body) → 1 ≤ rows
    → IsPartHere 47 rows width kind columns body → IsBodyOf kind 8 47 rows width body
part_body rows width columns kinds.Plain body row h =
    let own : body.codes ≡ range_with_len 0 rows = h.kind_is ∙ ap (range_with_len 0) h.count in
    record {
      own = own;
      count = plain_count rows (length body.tuples) body.codes own
          (record { in_tuples = h.group.in_tuples; used = h.group.used }) row;
      each =
          tuples_back width body.tuples h.group.full h.group.small;
    }
part_body rows width columns kinds.Codes body row h = body_from rows width body h.group h.count h.numbered h.kind_is
part_body rows width columns kinds.Offsets body row h = body_from rows width body h.group h.count h.numbered h.kind_is
part_body rows width columns kinds.Runs body row h = body_from rows width body h.group h.count h.numbered h.kind_is

-- ---- whole files

no_group : PackedGroup
no_group = record { kind = kinds.Plain; columns = []; body = record { codes = []; tuples = [] } }

group_in : List PackedGroup → ℕ → PackedGroup
group_in groups q = get_or groups q no_group

part_is : (groups : List PackedGroup) (q : ℕ) → q < length groups → part_at (map part_of groups) q
    ≡ part_of (group_in groups q)
unfolding group_in
part_is groups q lt = get_or-map part_of groups q no_group (record { columns = []; codes = []; tuples = [] }) lt

kind_is : (groups : List PackedGroup) (q : ℕ) → q < length groups
    → kind_at (map (λ (g : PackedGroup). g.kind) groups) q ≡ (group_in groups q).kind
unfolding group_in
kind_is groups q lt = get_or-map (λ (g : PackedGroup). g.kind) groups q no_group kinds.Plain lt

head_is : (groups : List PackedGroup) (q : ℕ) → q < length groups → get_or (map first_of (lists_in groups)) q 0
    ≡ first_of (group_in groups q).columns
unfolding group_in
head_is groups q lt =
    get_or-map first_of (lists_in groups) q [] 0
    (omega (arith, lt, length-map groups (λ (g : PackedGroup). g.columns)))
    ∙ ap first_of (get_or-map (λ (g : PackedGroup). g.columns) groups q no_group [] lt)

all_groups : (P : PackedGroup → Type 0) (groups : List PackedGroup) (q : ℕ) → AllByRecursion P groups
    → q < length groups → P (group_in groups q)
unfolding group_in
all_groups P groups q h lt = all_in P groups q no_group h lt

each_group : (P : PackedGroup → Type 0) (groups : List PackedGroup)
    → ((q : ℕ) → q < length groups → P (group_in groups q)) → AllByRecursion P groups
unfolding group_in
each_group P groups h = all_out P groups no_group h

widths_all : (k bits rows cols : ℕ) (before groups : List PackedGroup)
    → EachIs (IsGroupHere k bits rows cols) before groups → AllByRecursion (λ g. (1 ≤ length g.columns)
    × (length g.columns ≤ cols)) groups
widths_all k bits rows cols before [] h = tt
widths_all k bits rows cols before (g ∷ groups) h =
    let w = width_parts cols (length groups) (length g.columns) (columns_of before) h.0.columns.width in
    ((w.0, omega (arith, w.1)), widths_all k bits rows cols (before ++ g ∷ []) groups h.1)

rising_lists : (groups : List PackedGroup) → AllByRecursion (λ (list : List ℕ). (0 < length list)
    × RisingFrom 0 list) (lists_in groups) → AllByRecursion (λ g. (0 < length g.columns)
    × RisingFrom 0 g.columns) groups
rising_lists [] h = tt
rising_lists (g ∷ groups) h = (h.0, rising_lists groups h.1)

lists_rising : (groups : List PackedGroup) → AllByRecursion (λ g. (0 < length g.columns)
    × RisingFrom 0 g.columns) groups → AllByRecursion (λ (list : List ℕ). (0 < length list) × RisingFrom 0 list)
    (lists_in groups)
lists_rising [] h = tt
lists_rising (g ∷ groups) h = (h.0, lists_rising groups h.1)

size_is : (n : ℕ) → fits_size n ≡ true → 1 ≤ n
size_is n h = leb-true 1 n (and_parts (nat_le 1 n) (nat_lt n (2 ^ 31)) h).0

-- a file's layout is canonical
pub canonical_of : (bits : ℕ) (l : PackedLayout) → IsFile 8 bits l → IsCanonical bits (layout_in l) (kinds_in l)
canonical_of bits l h =
    let gs = l.groups in
    let row = size_is l.rows h.rows in
    let col = size_is l.cols h.cols in
    let few : l.rows * l.cols ≤ 2 ^ 26 = leb-true (l.rows * l.cols) (2 ^ 26) h.few in
    let n = and_parts (nat_le 1 (length gs)) (nat_le (length gs) l.cols) h.count in
    let some : 1 ≤ length gs = leb-true 1 (length gs) n.0 in
    let s = split_here 8 bits l.rows l.cols [] gs h.groups in
    let ordered = columns_ordered l.cols (lists_in gs)
    (omega (arith, some, length-map gs (λ (g : PackedGroup). g.columns))) s.0 in
    let widths = widths_all 8 bits l.rows l.cols [] gs h.groups in
    let rising = rising_lists gs ordered.each in
    let size = length-map gs part_of in
    let Here = λ (q : ℕ). (q < length gs) in
    let part = λ (q : ℕ) (lt : q < length gs).
    (let w = all_groups (λ g. (1 ≤ length g.columns) × (length g.columns ≤ l.cols)) gs q widths lt in
    let narrow = mul-le-mul_left l.rows w.1 in
    body_part bits l.rows (length (group_in gs q).columns) (group_in gs q).columns (group_in gs q).kind
    (group_in gs q).body row w.0 (omega (arith, narrow, few))
    (all_groups (λ g. IsBodyOf g.kind 8 bits l.rows (length g.columns) g.body) gs q s.1 lt)) in
    record {
      whole = record {
        a_row = row;
        a_col = col;
        few = few;
        partition = subst (λ (xs : List ℕ). IsPartition l.cols xs) (sym (columns_joined gs)) ordered.partition;
        each = λ q lt.
            let here : q < length gs = omega (arith, lt, size) in
            let p = part q here in
            subst (IsPart bits l.rows) (sym (part_is gs q here)) (record {
              rising = λ c d order fits. rising_far 0 c d (group_in gs q).columns
                  (all_groups (λ g. (0 < length g.columns) × RisingFrom 0 g.columns) gs q rising here).1 order fits;
              a_code_each = p.count;
              group = p.group;
            });
      };
      a_kind_each = length-map gs (λ (g : PackedGroup). g.kind) ∙ sym size;
      in_order = λ q r order lt.
          let last : r < length gs = omega (arith, lt, size) in
          let first : q < length gs = omega (arith, last, order) in
          let heads = rising_far 0 q r (map first_of (lists_in gs)) ordered.heads order
          (omega (
            arith,
            last,
            length-map (lists_in gs) first_of,
            length-map gs (λ (g : PackedGroup). g.columns),
          )) in
          let one = ap (λ (p : LayoutPart). first_of p.columns) (part_is gs q first) in
          let two = ap (λ (p : LayoutPart). first_of p.columns) (part_is gs r last) in
          omega (arith, heads, head_is gs q first, head_is gs r last, one, two);
      numbered = λ q lt. (let here : q < length gs = omega (arith, lt, size) in
          subst (λ (p : LayoutPart). AreNumbered p.codes (length p.tuples)) (sym (part_is gs q here))
          (part q here).numbered);
      kinds_are = λ q lt.
          (let here : q < length gs = omega (arith, lt, size) in
          subst (λ (p : LayoutPart). HasKind (kind_at (kinds_in l) q) p) (sym (part_is gs q here))
          (subst (λ (kind : Kind). HasKind kind (part_of (group_in gs q))) (sym (kind_is gs q here))
          (part q here).kind_is));
    }

pub canonical_from : (l : PackedLayout) → IsFile 8 47 l → IsCanonical 47 (layout_in l) (kinds_in l)
canonical_from = canonical_of 47

some_group : (cols : ℕ) (groups : List PackedGroup) → 1 ≤ cols → IsPartition cols (all_columns (map part_of groups))
    → 1 ≤ length groups
some_group cols [] col p = absurd (omega (arith, p.once 0 col))
some_group cols (g ∷ groups) col p = omega arith

few_groups : (k bits rows cols : ℕ) (groups : List PackedGroup) → EachIs (IsGroupHere k bits rows cols) [] groups
    → length groups ≤ cols
few_groups k bits rows cols [] h = omega arith
few_groups k bits rows cols (g ∷ groups) h =
    (let w = width_parts cols (length groups) (length g.columns) [] h.0.columns.width in omega (arith, w.0, w.1))

fits : (n m : ℕ) → 1 ≤ n → 1 ≤ m → n * m ≤ 2 ^ 26 → fits_size n ≡ true
fits n m some other few = and_from (nat_le 1 n) (nat_lt n (2 ^ 31)) (le-leb 1 n some)
    (lt-ltb n (2 ^ 31) (omega (arith, few, le-mul_of_pos_right n other)))

-- and a canonical layout is a file's
pub file_from : (l : PackedLayout) → IsCanonical 47 (layout_in l) (kinds_in l) → IsFile 8 47 l
file_from l c =
    let gs = l.groups in
    let size = length-map gs part_of in
    let part = λ (q : ℕ) (lt : q < length gs). subst (IsPart 47 l.rows) (part_is gs q lt)
    (c.whole.each q (omega (arith, lt, size))) in
    let ordered : AreOrdered l.cols (lists_in gs) = record {
      partition = subst (λ (xs : List ℕ). IsPartition l.cols xs) (columns_joined gs) c.whole.partition;
      heads = rising_from 0 (map first_of (lists_in gs)) (λ some. omega arith) (λ q r order lt.
          let last : r < length gs = omega (
            arith,
            lt,
            length-map (lists_in gs) first_of,
            length-map gs (λ (g : PackedGroup). g.columns),
          ) in
          let first : q < length gs = omega (arith, last, order) in
          let heads = c.in_order q r order (omega (arith, last, size)) in
          let one = ap (λ (p : LayoutPart). first_of p.columns) (part_is gs q first) in
          let two = ap (λ (p : LayoutPart). first_of p.columns) (part_is gs r last) in
          omega (arith, heads, head_is gs q first, head_is gs r last, one, two));
      each = lists_rising gs (each_group (λ g. (0 < length g.columns) × RisingFrom 0 g.columns) gs (λ q lt. (
        (part q lt).group.a_column,
        rising_from 0 (group_in gs q).columns (λ some. omega arith)
            (part q lt).rising,
      )));
    } in
    let bodies = each_group (λ g. IsBodyOf g.kind 8 47 l.rows (length g.columns) g.body) gs (λ q lt.
    let p = part q lt in
    part_body l.rows (length (group_in gs q).columns) (group_in gs q).columns (group_in gs q).kind
    (group_in gs q).body c.whole.a_row (record {
      count = p.a_code_each;
      group = p.group;
      numbered = subst (λ (p : LayoutPart). AreNumbered p.codes (length p.tuples)) (part_is gs q lt)
          (c.numbered q (omega (arith, lt, size)));
      kind_is = subst (λ (kind : Kind). HasKind kind (part_of (group_in gs q))) (kind_is gs q lt)
          (subst (λ (p : LayoutPart). HasKind (kind_at (kinds_in l) q) p) (part_is gs q lt)
          (c.kinds_are q (omega (arith, lt, size))));
    })) in
    let here = join_here 8 47 l.rows l.cols [] gs (columns_again l.cols (lists_in gs) ordered) bodies in
    let turned : l.cols * l.rows ≤ 2 ^ 26 = omega (arith, c.whole.few, mul_comm l.cols l.rows) in
    record {
      rows = fits l.rows l.cols c.whole.a_row c.whole.a_col c.whole.few;
      cols = fits l.cols l.rows c.whole.a_col c.whole.a_row turned;
      few = le-leb (l.rows * l.cols) (2 ^ 26) c.whole.few;
      count = and_from (nat_le 1 (length gs)) (nat_le (length gs) l.cols)
          (le-leb 1 (length gs) (some_group l.cols gs c.whole.a_col c.whole.partition))
          (le-leb (length gs) l.cols (few_groups 8 47 l.rows l.cols gs here));
      groups = here;
    }
