-- Packed files, version 1.
use Rattle.std.specs.Prelude.{◌≡◌, ℕ, ℤ, zero, suc, ◌+◌, ◌*◌, ◌^◌, List, [], ◌++◌, length, codes, map, Bool, true}
use Rattle.std.specs.Prelude.{◌==◌, ◌&&◌, ◌||◌, not, nat_lt, nat_le, if◌then◌else◌}
use Rattle.std.specs.List.{flat_map, list_all, range_with_len, AllByRecursion}
use Rattle.cla_spec.specs.Bytes.{bytes_of, number_of}
use Rattle.cla_packed.specs.declared.fault.FieldName.TheVariants as names
use Rattle.cla_packed.specs.declared.fault.PackFault.TheVariants.{TooLarge}
use Rattle.cla_layout.specs.declared.kind.Kind.{Kind}
use Rattle.cla_layout.specs.declared.kind.Kind.TheVariants as kinds
use Rattle.cla_layout.specs.Kinds.{kind_number}
use Rattle.cla_packed.specs.Fields.{Place, Read, field_at, refused_at, then_at, list_at, as_at, EachIs}
use Rattle.cla_packed.specs.Values.{tuple_bytes, tuples_at, IsTuple}
use Rattle.cla_packed.specs.Codes.{has}
use Rattle.cla_packed.specs.Lists.{next_from}
use Rattle.cla_packed.specs.Offsets.{joined, offsets_at, offsets_bytes}
use Rattle.cla_packed.specs.Runs.{runs_at, runs_bytes}
use Rattle.cla_packed.specs.Bodies.{Body, IsBody, coded_at, coded_bytes}
use Rattle.cla_packed.specs.Rests.{listed_at, listed_bytes}

-- ---- kinds

abbrev pub kind_of : ℕ → Kind
kind_of zero = kinds.Plain
kind_of (suc zero) = kinds.Plain
kind_of (suc (suc zero)) = kinds.Codes
kind_of (suc (suc (suc zero))) = kinds.Offsets
kind_of (suc (suc (suc (suc n)))) = kinds.Runs

abbrev pub kind_at : ℕ → Place → Read Kind
kind_at group p = as_at kind_of (field_at 1 (λ n. nat_le 1 n && nat_le n 4) group names.Kind) p

-- ---- columns

-- the columns of a group behind those of other groups and before so many groups
abbrev pub fits_width : ℕ → List ℕ → ℕ → ℕ → Bool
fits_width cols taken left w = nat_le 1 w && nat_le (w + length taken + left) cols
    && (nat_lt 0 left || w + length taken == cols)

-- below the columns and in no group before; the first is the least such column, and each later one is above the one
-- before
abbrev pub fits_column : ℕ → List ℕ → List ℕ → ℕ → Bool
fits_column cols taken so_far c = nat_lt c cols && not (has taken c)
    && (if length so_far == 0 then list_all (has taken) (range_with_len 0 c) else nat_le (next_from 0 so_far) c)

abbrev pub columns_at : ℕ → ℕ → List ℕ → ℕ → Place → Read (List ℕ)
columns_at group cols taken left p =
    as_at (λ x. x.1) (then_at (field_at 4 (fits_width cols taken left) group names.Width)
    (λ w. list_at (λ left so_far. field_at 4 (fits_column cols taken so_far) group names.Column) w [])) p

abbrev pub columns_bytes : List ℕ → List ℕ
columns_bytes columns = bytes_of 4 (length columns) ++ flat_map (bytes_of 4) columns

-- ---- groups

pub record PackedGroup : Type 0 where
  pub kind : Kind
  pub columns : List ℕ
  pub body : Body

abbrev pub any_tuple : ℕ → List (List ℤ) → List ℤ → Bool
any_tuple left before tuple = true

-- a tuple of its own for each row
abbrev pub own_codes : ℕ → List (List ℤ) → Body
own_codes rows tuples = record { codes = range_with_len 0 rows; tuples = tuples }

abbrev pub plain_at : ℕ → ℕ → ℕ → ℕ → ℕ → Place → Read Body
plain_at k bits group rows width p = as_at (own_codes rows) (tuples_at k bits group width any_tuple rows) p

pub record IsPlain (k bits rows width : ℕ) (body : Body) : Type 0 where
  pub own : body.codes ≡ range_with_len 0 rows
  pub count : length body.tuples ≡ rows
  pub each : AllByRecursion (IsTuple k bits width) body.tuples

abbrev pub body_at : Kind → ℕ → ℕ → ℕ → ℕ → ℕ → Place → Read Body
body_at kinds.Plain k bits group rows width p = plain_at k bits group rows width p
body_at kinds.Codes k bits group rows width p = coded_at k bits group rows width p
body_at kinds.Offsets k bits group rows width p = listed_at (offsets_at 32768 rows group) k bits group rows width p
body_at kinds.Runs k bits group rows width p = listed_at (runs_at rows group) k bits group rows width p

abbrev pub IsBodyOf : Kind → ℕ → ℕ → ℕ → ℕ → Body → Type 0
IsBodyOf kinds.Plain k bits rows width body = IsPlain k bits rows width body
IsBodyOf kinds.Codes k bits rows width body = IsBody k bits rows width body
IsBodyOf kinds.Offsets k bits rows width body = IsBody k bits rows width body
IsBodyOf kinds.Runs k bits rows width body = IsBody k bits rows width body

abbrev pub body_bytes : Kind → ℕ → ℕ → Body → List ℕ
body_bytes kinds.Plain k rows body = flat_map (tuple_bytes k) body.tuples
body_bytes kinds.Codes k rows body = coded_bytes k body
body_bytes kinds.Offsets k rows body = listed_bytes (offsets_bytes 32768 rows) k body
body_bytes kinds.Runs k rows body = listed_bytes runs_bytes k body

-- the columns of all groups
abbrev pub columns_of : List PackedGroup → List ℕ
columns_of groups = joined (map (λ group. group.columns) groups)

abbrev pub group_of : Kind × (List ℕ × Body) → PackedGroup
group_of x = record { kind = x.0; columns = x.1.0; body = x.1.1 }

abbrev pub parts_of_group : PackedGroup → Kind × (List ℕ × Body)
parts_of_group group = (group.kind, (group.columns, group.body))

-- a group behind these groups, and before so many
abbrev pub group_at : ℕ → ℕ → ℕ → ℕ → ℕ → List PackedGroup → Place → Read PackedGroup
group_at k bits rows cols left before p = as_at group_of (then_at (kind_at (length before + 1))
    (λ kind. then_at (columns_at (length before + 1) cols (columns_of before) left)
    (λ columns. body_at kind k bits (length before + 1) rows (length columns)))) p

abbrev pub group_bytes : ℕ → ℕ → PackedGroup → List ℕ
group_bytes k rows group = bytes_of 1 (kind_number group.kind)
    ++ (columns_bytes group.columns ++ body_bytes group.kind k rows group.body)

-- ---- files

pub record PackedLayout : Type 0 where
  pub rows : ℕ
  pub cols : ℕ
  pub groups : List PackedGroup

abbrev pub magic : ℕ
magic = number_of (codes "CLAGRP01")

abbrev pub fits_size : ℕ → Bool
fits_size n = nat_le 1 n && nat_lt n (2 ^ 31)

abbrev pub Header : Type 0
Header = ℕ × (ℕ × (ℕ × (Unit {0} × (ℕ × List PackedGroup))))

abbrev pub layout_of : Header → PackedLayout
layout_of x = record { rows = x.1.0; cols = x.1.1.0; groups = x.1.1.1.1.1 }

abbrev pub header_of : PackedLayout → Header
header_of l = (magic, (l.rows, (l.cols, (tt, (length l.groups, l.groups)))))

abbrev pub file_at : ℕ → ℕ → Place → Read PackedLayout
file_at k bits p = as_at layout_of (then_at (field_at 8 (λ n. n == magic) 0 names.Magic)
    (λ m. then_at (field_at 4 fits_size 0 names.Rows) (λ rows. then_at (field_at 4 fits_size 0 names.Columns)
    (λ cols. then_at (refused_at (nat_le (rows * cols) (2 ^ 26)) (TooLarge rows cols))
    (λ u. then_at (field_at 4 (λ n. nat_le 1 n && nat_le n cols) 0 names.Groups)
    (λ n. list_at (group_at k bits rows cols) n [])))))) p

abbrev pub file_bytes : ℕ → PackedLayout → List ℕ
file_bytes k l = bytes_of 8 magic
    ++ (bytes_of 4 l.rows ++ (bytes_of 4 l.cols
    ++ ([] ++ (bytes_of 4 (length l.groups) ++ flat_map (group_bytes k l.rows) l.groups))))

-- ---- what is canonical

-- the columns of a group where they stand
pub record AreColumns (cols : ℕ) (taken : List ℕ) (left : ℕ) (columns : List ℕ) : Type 0 where
  pub width : fits_width cols taken left (length columns) ≡ true
  pub each : EachIs (λ left so_far c. fits_column cols taken so_far c ≡ true) [] columns

pub record IsGroupHere (k bits rows cols left : ℕ) (before : List PackedGroup) (group : PackedGroup) : Type 0 where
  pub columns : AreColumns cols (columns_of before) left group.columns
  pub body : IsBodyOf group.kind k bits rows (length group.columns) group.body

pub record IsFile (k bits : ℕ) (l : PackedLayout) : Type 0 where
  pub rows : fits_size l.rows ≡ true
  pub cols : fits_size l.cols ≡ true
  pub few : nat_le (l.rows * l.cols) (2 ^ 26) ≡ true
  pub count : (nat_le 1 (length l.groups) && nat_le (length l.groups) l.cols) ≡ true
  pub groups : EachIs (IsGroupHere k bits l.rows l.cols) [] l.groups
