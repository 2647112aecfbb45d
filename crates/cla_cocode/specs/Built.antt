-- The groups that are built of columns of a matrix.
use Rattle.std.specs.Prelude.{◌≡◌, ℕ, ℤ, ◌<◌, List, [], ◌∷◌, ◌++◌, length, slice_index_or}
use Rattle.cla_spec.specs.Matrix.{Matrix, entry}
use Rattle.cla_layout.specs.Groups.{code_of, cell_of, IsGroup, AreNumbered}
use Rattle.cla_layout.specs.Canonical.{HasKind}
use Rattle.cla_layout.specs.Layouts.{LayoutPart, part_at}
use Rattle.cla_coded.specs.AnyGroups.{FormOf, plain_form, form_of}
use Rattle.cla_grouping.specs.Tuples.{tuple_in_row}

-- the values of these columns in these rows, row after row
abbrev pub values_in_rows : Matrix → List ℕ → List ℕ → List ℤ
values_in_rows m columns [] = []
values_in_rows m columns (row ∷ rows) = tuple_in_row m columns row ++ values_in_rows m columns rows

-- a group holds the entries of these columns
abbrev pub HasEntries : Matrix → List ℕ → List ℕ → List (List ℤ) → Type 0
HasEntries m columns codes tuples = (i c : ℕ) → i < m.rows → c < length columns → cell_of codes tuples i c
    ≡ entry m i (code_of columns c)

-- a part of a matrix: a group of its columns that holds their entries
pub record IsBuilt (bits : ℕ) (m : Matrix) (part : LayoutPart) : Type 0 where
  pub a_code_each : length part.codes ≡ m.rows
  pub group : IsGroup bits (length part.columns) part.codes part.tuples
  pub entries : HasEntries m part.columns part.codes part.tuples

abbrev pub AreBuilt : ℕ → Matrix → List LayoutPart → Type 0
AreBuilt bits m parts = (q : ℕ) → q < length parts → IsBuilt bits m (part_at parts q)

-- how the group of part q is kept
abbrev pub form_at : List FormOf → ℕ → FormOf
form_at forms q = slice_index_or forms q plain_form

-- a group is kept as if it were made of its own codes and tuples: its rest is the one of the rule
abbrev pub IsOwnForm : FormOf → LayoutPart → Type 0
IsOwnForm form part = form ≡ form_of form.kind part.codes part.tuples

abbrev pub AreOwnForms : List FormOf → List LayoutPart → Type 0
AreOwnForms forms parts = (q : ℕ) → q < length parts → IsOwnForm (form_at forms q) (part_at parts q)

-- a part in the one form of its kind: its tuples are numbered by first row, and distinct where the kind asks it
pub record IsInForm (form : FormOf) (part : LayoutPart) : Type 0 where
  pub numbered : AreNumbered part.codes (length part.tuples)
  pub has_kind : HasKind form.kind part
  pub own : IsOwnForm form part

abbrev pub AreInForm : List FormOf → List LayoutPart → Type 0
AreInForm forms parts = (q : ℕ) → q < length parts → IsInForm (form_at forms q) (part_at parts q)
