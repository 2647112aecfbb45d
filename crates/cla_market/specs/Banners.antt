-- The banner, the first line of a Matrix Market text: `%%MatrixMarket`, the object, the format, the field and the
-- symmetry, each in any mixture of upper and lower case.
use Rattle.std.specs.Prelude.{ℕ, List, codes, Option, Some, None, Result, Ok, Err, if◌then◌else◌}
use Rattle.cla_text.specs.Words.{is_same_word}
use Rattle.cla_market.specs.declared.banner.Format.{Format}
use Rattle.cla_market.specs.declared.banner.Format.TheVariants.{Coordinate, Array}
use Rattle.cla_market.specs.declared.banner.Field.{Field}
use Rattle.cla_market.specs.declared.banner.Field.TheVariants.{Integer, Pattern}
use Rattle.cla_market.specs.declared.banner.Symmetry.{Symmetry}
use Rattle.cla_market.specs.declared.banner.Symmetry.TheVariants.{General, Symmetric, SkewSymmetric}
use Rattle.cla_market.specs.declared.banner.Banner.{Banner}
use Rattle.cla_market.specs.declared.fault.LineFault.{LineFault}
use Rattle.cla_market.specs.declared.fault.LineFault.TheVariants as faults
use Rattle.cla_market.specs.Results.{◌>>=◌, or_fault, five_of}

abbrev pub format_of : List ℕ → Option Format
format_of word = if is_same_word word (codes "coordinate") then Some Coordinate else if is_same_word word
    (codes "array") then Some Array else None

abbrev pub field_of : List ℕ → Option Field
field_of word = if is_same_word word (codes "integer") then Some Integer else if is_same_word word
    (codes "pattern") then Some Pattern else None

abbrev pub symmetry_of : List ℕ → Option Symmetry
symmetry_of word = if is_same_word word (codes "general") then Some General else if is_same_word word
    (codes "symmetric") then Some Symmetric else if is_same_word word (codes "skew-symmetric") then Some SkewSymmetric
    else None

-- the object has to be a matrix
abbrev pub object_in : List ℕ → Result (Unit {0}) LineFault
object_in word = if is_same_word word (codes "matrix") then Ok tt else Err (faults.Unsupported 2)

-- an array has values, and a skew-symmetric matrix too
abbrev pub supported : Format → Field → Symmetry → Result Banner LineFault
supported format Integer mirroring = Ok record { format = format; field = Integer; symmetry = mirroring }
supported Array Pattern mirroring = Err (faults.Unsupported 4)
supported Coordinate Pattern General = Ok record { format = Coordinate; field = Pattern; symmetry = General }
supported Coordinate Pattern Symmetric = Ok record { format = Coordinate; field = Pattern; symmetry = Symmetric }
supported Coordinate Pattern SkewSymmetric = Err (faults.Unsupported 5)

abbrev pub banner_from : Option (List ℕ × List ℕ × List ℕ × List ℕ × List ℕ) → Result Banner LineFault
banner_from None = Err faults.Banner
banner_from (Some w) = if is_same_word w.0 (codes "%%matrixmarket") then (do
  object ← object_in w.1
  format ← or_fault (faults.Unsupported 3) (format_of w.2)
  field ← or_fault (faults.Unsupported 4) (field_of w.3)
  mirroring ← or_fault (faults.Unsupported 5) (symmetry_of w.4)
  supported format field mirroring) else Err faults.Banner

-- what the banner's words say
unfoldable pub banner_in : List (List ℕ) → Result Banner LineFault
banner_in words = banner_from (five_of words)
