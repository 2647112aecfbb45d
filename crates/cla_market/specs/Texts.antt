-- Whole Matrix Market texts: the first bad line, and the matrix that a text spells.
use Rattle.std.specs.Prelude.{◌≡◌, ℕ, ℤ, pos, negsuc, ◌+◌, ◌≤◌, List, [], ◌∷◌, ◌++◌, length, map, codes, Bool, true}
use Rattle.std.specs.Prelude.{false, ◌==◌, not, nat_lt, Option, Some, None, Result, Ok, Err, if◌then◌else◌}
use Rattle.std.specs.Prelude.{slice_index}
use Rattle.std.specs.List.{slice_split, list_all, filter, range_with_len, flat_map}
use Rattle.cla_spec.specs.Lines.{is_lf, without_cr}
use Rattle.cla_spec.specs.Matrix.{Matrix, entry, row_by_row, IsWellMade}
use Rattle.cla_spec.specs.Numbers.{in_range, decimal_of}
use Rattle.cla_text.specs.Words.{words_of}
use Rattle.cla_market.specs.declared.banner.Banner.{Banner}
use Rattle.cla_market.specs.declared.size.Size.{Size}
use Rattle.cla_market.specs.declared.fault.LineFault.{LineFault}
use Rattle.cla_market.specs.declared.fault.LineFault.TheVariants as line
use Rattle.cla_market.specs.declared.fault.MtxFault.{MtxFault}
use Rattle.cla_market.specs.declared.fault.MtxFault.TheVariants as faults
use Rattle.cla_market.specs.Results.{◌>>=◌}
use Rattle.cla_market.specs.Banners.{banner_in}
use Rattle.cla_market.specs.Sizes.{size_in}
use Rattle.cla_market.specs.Entries.{Triple, entry_in, added_by, entries_added, sum_at}

-- a fault of line n
abbrev pub fault_at : ℕ → LineFault → MtxFault
fault_at n line.Banner = faults.Banner n
fault_at n (line.Unsupported place) = faults.Unsupported place
fault_at n line.Size = faults.Size n
fault_at n (line.TooLarge rows cols) = faults.TooLarge rows cols
fault_at n line.Entry = faults.Entry n
fault_at n line.Index = faults.Index n
fault_at n line.Diagonal = faults.Diagonal n
fault_at n line.Range = faults.Range n

abbrev pub at_line : {A : Type 0} → ℕ → Result A LineFault → Result A MtxFault
at_line n (Ok x) = Ok x
at_line n (Err fault) = Err (fault_at n fault)

-- after the banner, a line without words is skipped, and one whose first word begins with %
abbrev pub is_skipped : List (List ℕ) → Bool
is_skipped [] = true
is_skipped (word ∷ words) = slice_index word 0 == 37

-- what has been read: nothing, the banner, or the banner, the size and the triples of some entry lines
pub data Reading : Type 0 where
  AtBanner : Reading
  AtSize : Banner → Reading
  AtEntries : Banner → Size → List Triple → Reading

-- one more triple, if each sum that it changes stays in range
abbrev pub with_triple : ℕ → ℕ → Banner → Size → List Triple → Triple → Result Reading MtxFault
with_triple bits n banner size ts t =
    let all = ts ++ t ∷ [] in
    let fits = λ (a : Triple). in_range bits (sum_at (entries_added banner.symmetry all) a.row a.col) in
    if list_all fits (added_by banner.symmetry t) then Ok (AtEntries banner size all) else Err (faults.Range n)

-- what line n adds to what has been read
unfoldable pub with_line : ℕ → ℕ → Reading → List (List ℕ) → Result Reading MtxFault
with_line bits n AtBanner words = at_line n (banner_in words) >>= λ banner. Ok (AtSize banner)
with_line bits n (AtSize banner) words =
    if is_skipped words then Ok (AtSize banner)
    else (at_line n (size_in banner words) >>= λ size. Ok (AtEntries banner size []))
with_line bits n (AtEntries banner size ts) words =
    if is_skipped words then Ok (AtEntries banner size ts)
    else if length ts == size.entries then Err (faults.TooMany n)
    else (at_line n (entry_in bits banner size (length ts) words) >>= λ t. with_triple bits n banner size ts t)

-- the matrix of the sums
abbrev pub matrix_of : Banner → Size → List Triple → Matrix
matrix_of banner size ts
    = record {
      rows = size.rows;
      cols = size.cols;
      cells = row_by_row size.rows size.cols
          (sum_at (entries_added banner.symmetry ts));
    }

-- what the end says, in the place of line n
unfoldable pub at_end : ℕ → Reading → Result Matrix MtxFault
at_end n AtBanner = Err (faults.Banner n)
at_end n (AtSize banner) = Err (faults.Size n)
at_end n (AtEntries banner size ts) =
    if nat_lt (length ts) size.entries then Err (faults.TooFew n) else Ok (matrix_of banner size ts)

-- the pieces between the LFs, but for an empty last one, each with the place behind its end; the first begins at `at`
abbrev pub ends_from : ℕ → List (List ℕ) → List (List ℕ × ℕ)
ends_from at [] = []
ends_from at (piece ∷ []) = if length piece == 0 then [] else (without_cr piece, at + length piece) ∷ []
ends_from at (piece ∷ next ∷ more) = (without_cr piece, at + (length piece + 1)) ∷ ends_from (at + (length piece + 1))
    (next ∷ more)

-- the lines of a text that stands from `at` on, each with the place behind its end
unfoldable pub placed_lines : ℕ → List ℕ → List (List ℕ × ℕ)
placed_lines at text = ends_from at (slice_split is_lf text)

-- what the lines from line n on say; `TooLong` stands at the first line that needs a byte past the limit
unfoldable pub read_from : ℕ → ℕ → ℕ → Reading → List (List ℕ × ℕ) → Result Matrix MtxFault
read_from bits limit n reading [] = at_end n reading
read_from bits limit n reading (l ∷ ls) = if nat_lt limit l.1 then Err faults.TooLong else
    (with_line bits n reading (words_of l.0) >>= λ next. read_from bits limit (n + 1) next ls)

-- the matrix of a text, or its first fault
abbrev pub matrix_in : ℕ → ℕ → List ℕ → Result Matrix MtxFault
matrix_in bits limit text = read_from bits limit 1 AtBanner (placed_lines 0 text)

abbrev pub fault_in : Result Matrix MtxFault → Option MtxFault
fault_in (Ok m) = None
fault_in (Err fault) = Some fault

-- the first fault of a text in the order of its lines, if there is one
abbrev pub first_bad_line : ℕ → ℕ → List ℕ → Option MtxFault
first_bad_line bits limit text = fault_in (matrix_in bits limit text)

-- a text spells this matrix
abbrev pub Spells : ℕ → ℕ → List ℕ → Matrix → Type 0
Spells bits limit text m = matrix_in bits limit text ≡ Ok m

-- lines that each end with LF
abbrev pub text_of : List (List ℕ) → List ℕ
text_of lines = flat_map (λ line. line ++ 10 ∷ []) lines

abbrev pub is_zero_value : ℤ → Bool
is_zero_value (pos n) = n == 0
is_zero_value (negsuc n) = false

-- the cells of a matrix that aren't 0, column by column, each as a triple
abbrev pub nonzeros : Matrix → List Triple
nonzeros m = filter (λ (t : Triple). not (is_zero_value t.value))
    (flat_map (λ j. map (λ i. record { row = i; col = j; value = entry m i j }) (range_with_len 0 m.rows))
    (range_with_len 0 m.cols))

-- three numbers, parted by blanks
abbrev pub number_line : ℤ → ℤ → ℤ → List ℕ
number_line a b c = decimal_of a ++ 32 ∷ (decimal_of b ++ 32 ∷ decimal_of c)

abbrev pub triple_line : Triple → List ℕ
triple_line t = number_line (pos (t.row + 1)) (pos (t.col + 1)) t.value

-- the text that is written for a matrix: a coordinate file of its entries that aren't 0
abbrev pub matrix_market_text : Matrix → List ℕ
matrix_market_text m = text_of
    (codes "%%MatrixMarket matrix coordinate integer general" ∷ number_line (pos m.rows) (pos m.cols)
    (pos (length (nonzeros m))) ∷ map triple_line (nonzeros m))

-- the text that is written for a matrix spells it, if the text is within the limit
abbrev pub WrittenTextsSpell : Type 0
WrittenTextsSpell = (bits limit : ℕ) (m : Matrix) → bits ≤ 63 → IsWellMade bits m
    → length (matrix_market_text m) ≤ limit → Spells bits limit (matrix_market_text m) m
