-- Packed layouts as layouts with a kind for each part, and back.
use Rattle.std.specs.Prelude.{ℕ, List, [], ◌∷◌, map, Option, None, Some, Result, Ok, Err}
use Rattle.cla_layout.specs.declared.kind.Kind.{Kind}
use Rattle.cla_layout.specs.Layouts.{LayoutPart, Layout}
use Rattle.cla_packed.specs.declared.fault.PackFault.{PackFault}
use Rattle.cla_packed.specs.Bodies.{Body}
use Rattle.cla_packed.specs.Fields.{whole_at}
use Rattle.cla_packed.specs.Files.{PackedGroup, PackedLayout, file_at, file_bytes}

abbrev pub part_of : PackedGroup → LayoutPart
part_of g = record { columns = g.columns; codes = g.body.codes; tuples = g.body.tuples }

abbrev pub layout_in : PackedLayout → Layout
layout_in l = record { rows = l.rows; cols = l.cols; parts = map part_of l.groups }

abbrev pub kinds_in : PackedLayout → List Kind
kinds_in l = map (λ g. g.kind) l.groups

abbrev pub body_in : LayoutPart → Body
body_in part = record { codes = part.codes; tuples = part.tuples }

-- parts, each with its kind
abbrev pub groups_of : List LayoutPart → List Kind → List PackedGroup
groups_of [] kinds = []
groups_of (part ∷ parts) [] = []
groups_of (part ∷ parts) (kind ∷ kinds) = record {
  kind = kind;
  columns = part.columns;
  body =
      body_in part;
} ∷ groups_of parts kinds

-- a layout, each part with its kind
abbrev pub packed_of : Layout → List Kind → PackedLayout
packed_of layout kinds = record { rows = layout.rows; cols = layout.cols; groups = groups_of layout.parts kinds }

-- the bytes of a layout of these kinds: a value has k of them
abbrev pub encoded : ℕ → Layout → List Kind → List ℕ
encoded k layout kinds = file_bytes k (packed_of layout kinds)

-- what is wrong, if anything is
abbrev pub fault_in : {A : Type 0} → Result A PackFault → Option PackFault
fault_in (Ok x) = None
fault_in (Err fault) = Some fault

-- the first field, in the order of the file, that is cut short or breaks its condition, or what else is wrong at its
-- place
-- in that order; values have k bytes, and are in range of so many bits
abbrev pub first_bad_field : ℕ → ℕ → ℕ → List ℕ → Option PackFault
first_bad_field k bits limit bytes = fault_in (whole_at (file_at k bits) limit bytes)
