-- Groups and whole files, both ways.
use Rattle.std.proofs.Common.{◌≡◌, ℕ, ℤ, pos, zero, suc, ◌+◌, ◌*◌, ◌^◌, ◌<◌, ◌≤◌, true, cond, List, [], ◌∷◌, ◌++◌}
use Rattle.std.proofs.Common.{length, refl, sym, ap, ◌∙◌, arith}
use Rattle.std.specs.Prelude.{nat_lt, nat_le, not, ◌&&◌, ◌||◌, ◌==◌}
use Rattle.std.specs.List.{flat_map, list_all, range_with_len}
use Rattle.std.proofs.lemmas.Bool.{ltb-true, leb-true, eqb-true, eq-eqb, and_parts}
use Rattle.cla_spec.specs.Bytes.{Holds, bytes_of, past}
use Rattle.cla_packed.specs.declared.fault.FieldName.TheVariants as names
use Rattle.cla_packed.specs.declared.fault.PackFault.TheVariants.{TooLarge}
use Rattle.cla_layout.specs.declared.kind.Kind.{Kind}
use Rattle.cla_layout.specs.declared.kind.Kind.TheVariants as kinds
use Rattle.cla_layout.specs.Kinds.{kind_number}
use Rattle.cla_packed.specs.Fields.{field_at, refused_at, then_at, list_at, whole_at, EachIs}
use Rattle.cla_spec.specs.Numbers.{in_range}
use Rattle.cla_packed.specs.Values.{tuple_bytes, tuples_at, IsTuple}
use Rattle.cla_packed.specs.Lists.{next_from}
use Rattle.cla_packed.specs.Codes.{has}
use Rattle.cla_packed.specs.Offsets.{offsets_at, offsets_bytes}
use Rattle.cla_packed.specs.Runs.{runs_at, runs_bytes}
use Rattle.cla_packed.specs.Bodies.{Body}
use Rattle.cla_packed.specs.Files.{kind_of, kind_at, fits_width, fits_column, columns_at, columns_bytes, PackedGroup}
use Rattle.cla_packed.specs.Files.{any_tuple, own_codes, plain_at, IsPlain, body_at, IsBodyOf, body_bytes, columns_of}
use Rattle.cla_packed.specs.Files.{group_of, parts_of_group, group_at, group_bytes, magic, fits_size, layout_of}
use Rattle.cla_packed.specs.Files.{header_of, file_at, file_bytes, AreColumns, IsGroupHere, IsFile}
use Rattle.cla_packed_laws.proofs.Forms.{IsForm, IsFileForm, field_form, refused_form, then_form, list_form, as_form}
use Rattle.cla_packed_laws.proofs.Forms.{whole_form}
use Rattle.cla_packed_laws.proofs.Tests.{each_by}
use Rattle.cla_packed_laws.proofs.Values.{tuples_form}
use Rattle.cla_packed_laws.proofs.Offsets.{offsets_form}
use Rattle.cla_packed_laws.proofs.Runs.{runs_form}
use Rattle.cla_packed_laws.proofs.Coded.{both, first_of_both, coded_form}
use Rattle.cla_packed_laws.proofs.Listed.{listed_form}

kind_back : (n : ℕ) → 1 ≤ n → n ≤ 4 → kind_number (kind_of n) ≡ n
kind_back zero a b = absurd (omega (arith, a))
kind_back (suc zero) a b = refl
kind_back (suc (suc zero)) a b = refl
kind_back (suc (suc (suc zero))) a b = refl
kind_back (suc (suc (suc (suc n)))) a b = omega (arith, b)

kind_again : (kind : Kind) → (kind_number kind < past 1)
    × ((nat_le 1 (kind_number kind) && nat_le (kind_number kind) 4) ≡ true) × (kind_of (kind_number kind) ≡ kind)
kind_again kinds.Plain = (omega arith, refl, refl)
kind_again kinds.Codes = (omega arith, refl, refl)
kind_again kinds.Offsets = (omega arith, refl, refl)
kind_again kinds.Runs = (omega arith, refl, refl)

kind_form : (group : ℕ) → IsForm (kind_at group) (λ kind. Unit {0}) (λ kind. bytes_of 1 (kind_number kind))
kind_form group = as_form (field_at 1 (λ n. nat_le 1 n && nat_le n 4) group names.Kind) (λ n. (n < past 1)
    × ((nat_le 1 n && nat_le n 4) ≡ true)) (bytes_of 1) kind_of kind_number (λ kind. Unit {0})
    (field_form 1 (λ n. nat_le 1 n && nat_le n 4) group names.Kind)
    (λ n h. (let p = and_parts (nat_le 1 n) (nat_le n 4) h.1 in
    (tt, kind_back n (leb-true 1 n p.0) (leb-true n 4 p.1))))
    (λ kind h. (let a = kind_again kind in ((a.0, a.1), a.2)))

pub width_parts : (cols left w : ℕ) (taken : List ℕ) → fits_width cols taken left w ≡ true → (1 ≤ w)
    × (w + length taken + left ≤ cols) × ((nat_lt 0 left || (w + length taken == cols)) ≡ true)
width_parts cols left w taken h =
    let a = and_parts (nat_le 1 w && nat_le (w + length taken + left) cols) (nat_lt 0 left
    || (w + length taken == cols)) h in
    let b = and_parts (nat_le 1 w) (nat_le (w + length taken + left) cols) a.0 in
    (leb-true 1 w b.0, leb-true (w + length taken + left) cols b.1, a.1)

column_below : (cols : ℕ) (taken so_far : List ℕ) (c : ℕ) → fits_column cols taken so_far c ≡ true → c < cols
column_below cols taken so_far c h =
    let tail = cond (length so_far == 0) (list_all (has taken) (range_with_len 0 c))
    (nat_le (next_from 0 so_far) c) in
    ltb-true c cols (and_parts (nat_lt c cols) (not (has taken c)) (and_parts (nat_lt c cols
    && not (has taken c)) tail h).0).0

below_past : (c cols : ℕ) → c < cols → cols < past 4 → c < past 4
below_past c cols lt small = omega (arith, lt, small)

abbrev counted : List ℕ → ℕ × List ℕ
counted columns = (length columns, columns)

columns_form : (group cols left : ℕ) (taken : List ℕ) → cols < past 4
    → IsForm (columns_at group cols taken left) (AreColumns cols taken left) columns_bytes
columns_form group cols left taken small =
    let Good = λ (w : ℕ). (w < past 4) × (fits_width cols taken left w ≡ true) in
    let Column = λ (left' : ℕ) (so_far : List ℕ) (c : ℕ). (c < past 4) × (fits_column cols taken so_far c ≡ true) in
    let Fits = λ (left' : ℕ) (so_far : List ℕ) (c : ℕ). fits_column cols taken so_far c ≡ true in
    let Each = λ (w : ℕ) (columns : List ℕ). (length columns ≡ w) × EachIs Column [] columns in
    as_form (then_at (field_at 4 (fits_width cols taken left) group names.Width)
    (λ w. list_at (λ left so_far. field_at 4 (fits_column cols taken so_far) group names.Column) w []))
    (λ x. Good x.0 × Each x.0 x.1) (λ x. bytes_of 4 x.0 ++ flat_map (bytes_of 4) x.1)
    (λ (x : ℕ × List ℕ). x.1) counted (AreColumns cols taken left)
    (then_form (field_at 4 (fits_width cols taken left) group names.Width) Good (bytes_of 4)
    (λ w. list_at (λ left so_far. field_at 4 (fits_column cols taken so_far) group names.Column) w []) Each
    (λ w. flat_map (bytes_of 4))
    (field_form 4 (fits_width cols taken left) group names.Width)
    (λ w h. list_form (λ left so_far. field_at 4 (fits_column cols taken so_far) group names.Column) Column
    (bytes_of 4) (λ left so_far. field_form 4 (fits_column cols taken so_far) group names.Column) w))
    (λ x h. (
      record {
        width = ap (fits_width cols taken left) h.1.0 ∙ h.0.1;
        each =
            each_by Column Fits (λ l s c g. g.1) [] x.1 h.1.1;
      },
      ap (λ (w : ℕ). (w, x.1)) h.1.0,
    ))
    (λ columns h.
    let w = width_parts cols left (length columns) taken h.width in (
      (
        (omega (arith, w.1, small), h.width),
        (
          refl,
          each_by Fits Column (λ l s c g. (
            below_past c cols (column_below cols taken s c g) small,
            g,
          )) [] columns h.each,
        ),
      ),
      refl,
    ))

-- ---- bodies

any_each : (so_far ts : List (List ℤ)) → EachIs (λ left before t. any_tuple left before t ≡ true) so_far ts
any_each so_far [] = tt
any_each so_far (t ∷ ts) = (refl, any_each (so_far ++ t ∷ []) ts)

plain_form : (k bits group rows width : ℕ) → 0 < width
    → IsForm (plain_at k bits group rows width) (IsPlain k bits rows width)
    (λ body. flat_map (tuple_bytes k) body.tuples)
plain_form k bits group rows width wide =
    let Any = λ (left : ℕ) (before : List (List ℤ)) (t : List ℤ). IsTuple k bits width t
    × (any_tuple left before t ≡ true) in
    as_form (tuples_at k bits group width any_tuple rows) (λ ts. (length ts ≡ rows) × EachIs Any [] ts)
    (flat_map (tuple_bytes k)) (own_codes rows) (λ (body : Body). body.tuples) (IsPlain k bits rows width)
    (tuples_form k bits group width any_tuple rows wide)
    (λ ts h. (
      record {
        own = refl;
        count = h.0;
        each =
            first_of_both (IsTuple k bits width) (λ left before t. any_tuple left before t ≡ true) [] ts h.1;
      },
      refl,
    ))
    (λ body h. (
      (
        h.count,
        both (IsTuple k bits width) (λ left before t. any_tuple left before t
            ≡ true) [] body.tuples h.each (any_each [] body.tuples),
      ),
      λ i. record {
        codes = sym h.own i;
        tuples =
            body.tuples;
      },
    ))

body_form : (kind : Kind) (k bits group rows width : ℕ) → 0 < rows → rows < past 4 → 0 < width → Holds k (pos 0)
    × (in_range bits (pos 0) ≡ true)
    → IsForm (body_at kind k bits group rows width) (IsBodyOf kind k bits rows width) (body_bytes kind k rows)
body_form kinds.Plain k bits group rows width some small wide zero_fits = plain_form k bits group rows width wide
body_form kinds.Codes k bits group rows width some small wide zero_fits =
    coded_form k bits group rows width some small wide
body_form kinds.Offsets k bits group rows width some small wide zero_fits =
    listed_form k bits rows width some small zero_fits (offsets_at 32768 rows group)
    (offsets_bytes 32768 rows) group wide (λ earlier. offsets_form 32768 rows group earlier (omega arith)
    (omega arith) some)
body_form kinds.Runs k bits group rows width some small wide zero_fits =
    listed_form k bits rows width some small zero_fits (runs_at rows group) runs_bytes group wide
    (λ earlier. runs_form rows group earlier small)

-- ---- groups

pub group_form : (k bits rows cols left : ℕ) (before : List PackedGroup) → 0 < rows → rows < past 4 → cols < past 4
    → Holds k (pos 0) × (in_range bits (pos 0) ≡ true)
    → IsForm (group_at k bits rows cols left before) (IsGroupHere k bits rows cols left before) (group_bytes k rows)
group_form k bits rows cols left before some small few zero_fits =
    let g = length before + 1 in
    let taken = columns_of before in
    let Columns = AreColumns cols taken left in
    let Bodies = λ (kind : Kind) (columns : List ℕ) (body : Body). IsBodyOf kind k bits rows (length columns) body in
    as_form (then_at (kind_at g) (λ kind. then_at (columns_at g cols taken left)
    (λ columns. body_at kind k bits g rows (length columns)))) (λ x. Unit {0}
    × (Columns x.1.0 × Bodies x.0 x.1.0 x.1.1))
    (λ x. bytes_of 1 (kind_number x.0)
    ++ (columns_bytes x.1.0 ++ body_bytes x.0 k rows x.1.1)) group_of parts_of_group
    (IsGroupHere k bits rows cols left before)
    (then_form (kind_at g) (λ kind. Unit {0}) (λ kind. bytes_of 1 (kind_number kind))
    (λ kind. then_at (columns_at g cols taken left) (λ columns. body_at kind k bits g rows (length columns)))
    (λ kind y. Columns y.0 × Bodies kind y.0 y.1) (λ kind y. columns_bytes y.0 ++ body_bytes kind k rows y.1)
    (kind_form g)
    (λ kind h. then_form (columns_at g cols taken left) Columns columns_bytes (λ columns. body_at kind k bits g rows
    (length columns)) (Bodies kind) (λ columns. body_bytes kind k rows) (columns_form g cols left taken few)
    (λ columns c. body_form kind k bits g rows (length columns) some small
    (width_parts cols left (length columns) taken c.width).0 zero_fits)))
    (λ x h. (record { columns = h.1.0; body = h.1.1 }, refl))
    (λ group h. ((tt, (h.columns, h.body)), refl))

-- ---- files

size_parts : (n : ℕ) → fits_size n ≡ true → (0 < n) × (n < past 4)
size_parts n h =
    let p = and_parts (nat_le 1 n) (nat_lt n (2 ^ 31)) h in
    let a : 1 ≤ n = leb-true 1 n p.0 in
    let b : n < 2 ^ 31 = ltb-true n (2 ^ 31) p.1 in
    (omega (arith, a), omega (arith, b))

-- the fields of a file, wherever they stand, are such a layout with these bytes
pub fields_form : (k bits : ℕ) → Holds k (pos 0) × (in_range bits (pos 0) ≡ true)
    → IsForm (file_at k bits) (IsFile k bits) (file_bytes k)
fields_form k bits zero_fits =
    let M = λ (m : ℕ). (m < past 8) × ((m == magic) ≡ true) in
    let S = λ (n : ℕ). (n < past 4) × (fits_size n ≡ true) in
    let few = λ (rows cols : ℕ). nat_le (rows * cols) (2 ^ 26) in
    let fits = λ (cols n : ℕ). nat_le 1 n && nat_le n cols in
    let F = λ (rows cols : ℕ) (u : Unit {0}). few rows cols ≡ true in
    let N = λ (cols n : ℕ). (n < past 4) × (fits cols n ≡ true) in
    let G = λ (rows cols n : ℕ) (gs : List PackedGroup). (length gs ≡ n)
    × EachIs (IsGroupHere k bits rows cols) [] gs in
    let n_at = λ (rows cols : ℕ). then_at (field_at 4 (fits cols) 0 names.Groups)
    (λ n. list_at (group_at k bits rows cols) n []) in
    let u_at = λ (rows cols : ℕ). then_at (refused_at (few rows cols) (TooLarge rows cols)) (λ u. n_at rows cols) in
    let c_at = λ (rows : ℕ). then_at (field_at 4 fits_size 0 names.Columns) (λ cols. u_at rows cols) in
    let r_at = then_at (field_at 4 fits_size 0 names.Rows) c_at in
    let n_form = λ (rows cols : ℕ) (r : S rows) (c : S cols). then_form (field_at 4 (fits cols) 0 names.Groups)
    (N cols) (bytes_of 4) (λ n. list_at (group_at k bits rows cols) n []) (G rows cols)
    (λ n. flat_map (group_bytes k rows))
    (field_form 4 (fits cols) 0 names.Groups)
    (λ n h. list_form (group_at k bits rows cols) (IsGroupHere k bits rows cols) (group_bytes k rows) (λ left before.
    group_form k bits rows cols left before (size_parts rows r.1).0 r.0 c.0 zero_fits) n) in
    let u_form = λ (rows cols : ℕ) (r : S rows) (c : S cols).
    then_form (refused_at (few rows cols) (TooLarge rows cols)) (F rows cols) (λ u. []) (λ u. n_at rows cols)
    (λ u y. N cols y.0 × G rows cols y.0 y.1) (λ u y. bytes_of 4 y.0 ++ flat_map (group_bytes k rows) y.1)
    (refused_form (few rows cols) (TooLarge rows cols)) (λ u h. n_form rows cols r c) in
    let c_form = λ (rows : ℕ) (r : S rows). then_form (field_at 4 fits_size 0 names.Columns) S (bytes_of 4)
    (λ cols. u_at rows cols) (λ cols y. F rows cols y.0 × (N cols y.1.0 × G rows cols y.1.0 y.1.1)) (λ cols y. []
    ++ (bytes_of 4 y.1.0 ++ flat_map (group_bytes k rows) y.1.1))
    (field_form 4 fits_size 0 names.Columns) (λ cols c. u_form rows cols r c) in
    let r_form = then_form (field_at 4 fits_size 0 names.Rows) S (bytes_of 4) c_at (λ rows y. S y.0
    × (F rows y.0 y.1.0 × (N y.0 y.1.1.0 × G rows y.0 y.1.1.0 y.1.1.1))) (λ rows y. bytes_of 4 y.0
    ++ ([] ++ (bytes_of 4 y.1.1.0 ++ flat_map (group_bytes k rows) y.1.1.1)))
    (field_form 4 fits_size 0 names.Rows) (λ rows r. c_form rows r) in
    as_form (then_at (field_at 8 (λ m. m == magic) 0 names.Magic) (λ m. r_at)) (λ x. M x.0
    × (S x.1.0 × (S x.1.1.0 × (F x.1.0 x.1.1.0 x.1.1.1.0
    × (N x.1.1.0 x.1.1.1.1.0 × G x.1.0 x.1.1.0 x.1.1.1.1.0 x.1.1.1.1.1)))))
    (λ x. bytes_of 8 x.0 ++ (bytes_of 4 x.1.0
    ++ (bytes_of 4 x.1.1.0 ++ ([]
    ++ (bytes_of 4 x.1.1.1.1.0 ++ flat_map (group_bytes k x.1.0) x.1.1.1.1.1))))) layout_of header_of
    (IsFile k bits)
    (then_form (field_at 8 (λ m. m == magic) 0 names.Magic) M (bytes_of 8) (λ m. r_at) (λ m y. S y.0
    × (S y.1.0 × (F y.0 y.1.0 y.1.1.0 × (N y.1.0 y.1.1.1.0 × G y.0 y.1.0 y.1.1.1.0 y.1.1.1.1))))
    (λ m y. bytes_of 4 y.0 ++ (bytes_of 4 y.1.0
    ++ ([] ++ (bytes_of 4 y.1.1.1.0 ++ flat_map (group_bytes k y.0) y.1.1.1.1))))
    (field_form 8 (λ m. m == magic) 0 names.Magic) (λ m h. r_form))
    (λ x h.
    let count = h.1.1.1.1.1.0 in (
      record {
        rows = h.1.0.1;
        cols = h.1.1.0.1;
        few = h.1.1.1.0;
        count = ap (fits x.1.1.0) count ∙ h.1.1.1.1.0.1;
        groups = h.1.1.1.1.1.1;
      },
      λ i. (sym (eqb-true x.0 magic h.0.1) i, (x.1.0, (x.1.1.0, (tt, (count i, x.1.1.1.1.1))))),
    ))
    (λ l h.
    let r = size_parts l.rows h.rows in
    let c = size_parts l.cols h.cols in
    let n = and_parts (nat_le 1 (length l.groups)) (nat_le (length l.groups) l.cols) h.count in (
      (
        (omega arith, eq-eqb magic magic refl),
        (
          (r.1, h.rows),
          (
            (c.1, h.cols),
            (h.few, ((omega (arith, c.1, leb-true (length l.groups) l.cols n.1), h.count), (refl, h.groups))),
          ),
        ),
      ),
      refl,
    ))

-- what is read is such a layout with these bytes, and its bytes are read as it
pub file_form : (k bits : ℕ) → Holds k (pos 0) × (in_range bits (pos 0) ≡ true)
    → IsFileForm (whole_at (file_at k bits)) (IsFile k bits) (file_bytes k)
file_form k bits zero_fits =
    whole_form (file_at k bits) (IsFile k bits) (file_bytes k) (fields_form k bits zero_fits)
