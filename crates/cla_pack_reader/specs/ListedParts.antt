-- The parts of a group that lists its tuples with their rows: its tuples, and the lists behind them.
use Rattle.std.specs.Prelude.{◌≡◌, ℕ, ℤ, ◌*◌, ◌<◌, ◌≤◌, ◌^◌, List, [], length, map, Bool, false, ◌==◌, not}
use Rattle.std.specs.Prelude.{◌⊎◌, if◌then◌else◌, Option, is_some, slice_index_or}
use Rattle.cla_layout.specs.Groups.{first_row_of, IsGroup}
use Rattle.cla_group.specs.Dictionaries.{DictionaryOf}
use Rattle.cla_layout.specs.Listed.{is_zero, rest_of, numbered_rest}
use Rattle.cla_layout.specs.Tuples.{tuples_of}
use Rattle.cla_packed.specs.declared.fault.FieldName.TheVariants.{Cover}
use Rattle.cla_packed.specs.Bodies.{Body}
use Rattle.cla_packed.specs.Codes.{has}
use Rattle.cla_packed.specs.Fields.{Place, Read, checked_at, then_at, list_at, as_at}
use Rattle.cla_packed.specs.Lists.{AreOwners, owners_of, lists_of}
use Rattle.cla_packed.specs.Rests.{all_named, body_of_parts, listed_at}
use Rattle.cla_pack_reader.specs.Places.{Places, Took}

-- how the rows of one tuple are read, behind those of earlier ones
abbrev pub OneList : Type 0
OneList = List (List ℕ) → Place → Read (List ℕ)

-- the number that says whether some row is in no list
abbrev pub flag : Bool → ℕ
flag has_rest = if has_rest then 1 else 0

-- the lists of d tuples: each row is in one of them, or not each where there is a rest
abbrev pub covering_at : OneList → ℕ → ℕ → ℕ → ℕ → Place → Read (List (List ℕ) × Unit {0})
covering_at one group rows d rest p = then_at (list_at (λ left earlier. one earlier) d [])
    (λ lists. checked_at (if rest == 0 then all_named rows lists else not (all_named rows lists)) group Cover) p

-- the body of a group behind its d tuples
abbrev pub behind_tuples : OneList → ℕ → ℕ → ℕ → ℕ → ℕ → List (List ℤ) → Place → Read Body
behind_tuples one group rows width d rest tuples p =
    as_at (λ x. body_of_parts rows width (d, (rest, (tuples, x)))) (covering_at one group rows d rest) p

-- what stands behind d tuples decides what the group is
abbrev pub HeadOf : OneList → ℕ → ℕ → ℕ → ℕ → Places → Places → ℕ → Bool → List (List ℤ) → Type 0
HeadOf one bits group rows width b a d has_rest tuples = (told : Bool) (q : Place) → a told q → (p : Place) × b told p
    × (listed_at one 8 bits group rows width p ≡ behind_tuples one group rows width d (flag has_rest) tuples q)

-- n tuples that are listed: none is the tuple of zeros
pub record AreListedTuples {N : Type 0} (value : N → ℤ) (width n : ℕ) (values : List N) : Type 0 where
  pub whole : length values ≡ n * width
  pub not_zero : (k : ℕ) → k < n → is_zero (slice_index_or (tuples_of width n (map value values)) k []) ≡ false

-- the owners of rows by the lists of d tuples, and the first row that has none
pub record HaveOwners (rows d : ℕ) (owners : List ℕ) (unlisted : Option ℕ) : Type 0 where
  pub owners_are : AreOwners rows d owners
  pub unlisted_is : unlisted ≡ numbered_rest rows (first_row_of owners d)

-- these lists were read, and their rows are kept; there is a row without a list exactly where there is a rest
abbrev pub CoversRows : (ℕ → List (List ℕ) → Type 0) → ℕ → ℕ → Bool → Places → Places
    → (Place → Read (List (List ℕ) × Unit {0})) → Option ℕ → Type 0
CoversRows Are rows d has_rest b a read unlisted = (lists : List (List ℕ)) × Took b a read (lists, tt)
    × HaveOwners rows d (owners_of rows lists) unlisted × Are rows (lists_of d (owners_of rows lists))
    × (is_some unlisted ≡ has_rest)

-- how many rows and columns a group has
pub record AreFewCells (rows width : ℕ) : Type 0 where
  pub a_row : 1 ≤ rows
  pub a_column : 1 ≤ width
  pub few : rows * width ≤ 2 ^ 26

-- some row is in no list of d tuples, and this is the first of them
pub record HasRest (rows d : ℕ) (owners : List ℕ) (first : ℕ) : Type 0 where
  pub owners_are : AreOwners rows d owners
  pub some : first < rows
  pub first_is : first ≡ first_row_of owners d

-- each row is in some list of d tuples
pub record AreAllListed (rows d : ℕ) (owners : List ℕ) : Type 0 where
  pub owners_are : AreOwners rows d owners
  pub all : has owners d ≡ false

-- a dictionary of these tuples makes a group of rows with these codes, and has this rest
pub record IsDictionaryFor (bits width : ℕ) (codes : List ℕ) (rest : ℕ) (tuples : List (List ℤ))
    (dictionary : DictionaryOf) : Type 0 where
  pub group : IsGroup bits dictionary.width codes dictionary.tuples
  pub tuples_are : dictionary.tuples ≡ tuples
  pub rest_is : numbered_rest (length dictionary.tuples) rest ≡ rest_of codes dictionary.tuples

-- rows as a group takes them: those of the codes but the rest, or each row is listed and the tuples are the codes
abbrev pub AreGrouped : (ℕ → List (List ℕ) → Type 0) → (List ℕ → ℕ → ℕ → ℕ → ℕ → Type 0) → List ℕ → ℕ → ℕ → ℕ → ℕ
    → Type 0
AreGrouped Of Coded codes rows tuples rest first = Coded codes rows tuples rest first
    ⊎ ((width : ℕ) × AreFewCells rows width × AreAllListed rows tuples codes × Of rows (lists_of tuples codes)
    × (rest ≡ tuples) × (first ≡ rows))
