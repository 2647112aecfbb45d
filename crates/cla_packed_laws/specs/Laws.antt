-- What holds of packed files, whoever reads and writes them.
use Rattle.std.specs.Prelude.{◌≡◌, ℕ, ◌≤◌, List, length, map, Ok, None}
use Rattle.cla_layout.specs.declared.kind.Kind.{Kind}
use Rattle.cla_layout.specs.Layouts.{Layout, matrix_in}
use Rattle.cla_layout.specs.Canonical.{IsCanonical}
use Rattle.cla_packed.specs.Fields.{IsBytes, whole_at}
use Rattle.cla_packed.specs.Files.{PackedLayout, file_at, file_bytes}
use Rattle.cla_packed.specs.Layouts.{layout_in, kinds_in, encoded, first_bad_field}

-- the bytes of a canonical layout are read as it
abbrev pub WrittenIsRead : Type 0
WrittenIsRead = (limit : ℕ) (l : PackedLayout) → IsCanonical 47 (layout_in l) (kinds_in l)
    → length (file_bytes 8 l) ≤ limit → whole_at (file_at 8 47) limit (file_bytes 8 l) ≡ Ok l

-- what is read is a canonical layout with these bytes
abbrev pub ReadIsWritten : Type 0
ReadIsWritten = (limit : ℕ) (file : List ℕ) (l : PackedLayout) → IsBytes file → whole_at (file_at 8 47) limit file
    ≡ Ok l
    → IsCanonical 47 (layout_in l) (kinds_in l) × (file_bytes 8 l ≡ file) × (length file ≤ limit)

-- the encoding of a canonical layout has no bad field
abbrev pub EncodedHasNoBadField : Type 0
EncodedHasNoBadField = (limit : ℕ) (layout : Layout) (kinds : List Kind) → IsCanonical 47 layout kinds
    → length (encoded 8 layout kinds) ≤ limit → first_bad_field 8 47 limit (encoded 8 layout kinds) ≡ None

-- this canonical layout of these kinds has these bytes, and no other has
pub record IsEncodedIn (file : List ℕ) (layout : Layout) (kinds : List Kind) : Type 0 where
  pub canonical : IsCanonical 47 layout kinds
  pub bytes : encoded 8 layout kinds ≡ file
  pub only : (other : Layout) (others : List Kind) → IsCanonical 47 other others → encoded 8 other others ≡ file
      → (other ≡ layout) × (others ≡ kinds)

-- a file without a bad field encodes exactly one canonical layout with its kinds, and is no longer than the limit
abbrev pub OneLayoutIsEncoded : Type 0
OneLayoutIsEncoded = (limit : ℕ) (file : List ℕ) → IsBytes file → first_bad_field 8 47 limit file ≡ None
    → (layout : Layout) × (kinds : List Kind) × IsEncodedIn file layout kinds × (length file ≤ limit)

-- a canonical layout is fixed by its matrix, the columns of its parts, and their kinds
abbrev pub LayoutsAreFixed : Type 0
LayoutsAreFixed = (bits : ℕ) (layout other : Layout) (kinds : List Kind) → IsCanonical bits layout kinds
    → IsCanonical bits other kinds → matrix_in layout ≡ matrix_in other
    → map (λ part. part.columns) layout.parts ≡ map (λ part. part.columns) other.parts → layout ≡ other
