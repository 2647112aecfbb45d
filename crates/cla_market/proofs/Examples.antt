-- Texts that are worked out: what the definitions say of them.
use Rattle.std.proofs.Common.{◌≡◌, ℕ, pos, neg_ℤ, ◌^◌, List, [], ◌∷◌, ◌++◌, codes, Some, refl}
use Rattle.cla_market.specs.declared.fault.MtxFault.TheVariants as faults
use Rattle.cla_market.specs.Banners.{banner_in}
use Rattle.cla_market.specs.Sizes.{size_in}
use Rattle.cla_market.specs.Entries.{entry_in}
use Rattle.cla_market.specs.Texts.{first_bad_line, Spells, text_of, with_line, at_end, placed_lines, read_from}
use Rattle.cla_text.specs.Integers.{is_int_word, int_of}
use Rattle.cla_text.specs.Words.{pieces_of}

abbrev limit : ℕ
limit = 2 ^ 32

abbrev coordinate : List ℕ
coordinate = codes "%%MatrixMarket matrix coordinate integer general"

abbrev array : List ℕ
array = codes "%%MatrixMarket matrix array integer general"

-- a symmetric pattern: each entry has the value 1, and its mirror image is there too
pattern : Spells 47 limit
    (text_of (codes "%%MatrixMarket matrix coordinate pattern symmetric" ∷ codes "2 2 1" ∷ codes "2 1" ∷ [])) record
    { rows = 2; cols = 2; cells = pos 0 ∷ pos 1 ∷ pos 1 ∷ pos 0 ∷ [] }
unfolding with_line at_end placed_lines read_from banner_in size_in entry_in int_of is_int_word pieces_of
pattern = refl

-- two entries of a cell are added
twice : Spells 47 limit (text_of (coordinate ∷ codes "1 1 2" ∷ codes "1 1 4" ∷ codes "1 1 -4" ∷ [])) record
    { rows = 1; cols = 1; cells = pos 0 ∷ [] }
unfolding with_line at_end placed_lines read_from banner_in size_in entry_in int_of is_int_word pieces_of
twice = refl

-- any mixture of case, comments, empty lines, CR LF, tabs, a sign, leading zeros, and a last line without an end
spelled : Spells 47 limit
    (codes "%%matrixmarket MATRIX Coordinate Integer General" ++ 13 ∷ 10 ∷ codes "% c" ++ 13 ∷ 10 ∷ 13 ∷ 10
    ∷ codes "2 2 1" ++ 13 ∷ 10 ∷ codes " 1" ++ 9 ∷ codes "2  +007")
    record { rows = 2; cols = 2; cells = pos 0 ∷ pos 7 ∷ pos 0 ∷ pos 0 ∷ [] }
unfolding with_line at_end placed_lines read_from banner_in size_in entry_in int_of is_int_word pieces_of
spelled = refl

unsupported : first_bad_line 47 limit
    (text_of (codes "%%MatrixMarket matrix coordinate real general" ∷ codes "2 2 3" ∷ [])) ≡ Some
    (faults.Unsupported 4)
unfolding with_line at_end placed_lines read_from banner_in size_in entry_in int_of is_int_word pieces_of
unsupported = refl

-- the end of the file counts as a line
too_few : first_bad_line 47 limit (text_of (coordinate ∷ codes "2 2 3" ∷ codes "1 1 1" ∷ codes "2 2 1" ∷ [])) ≡ Some
    (faults.TooFew 5)
unfolding with_line at_end placed_lines read_from banner_in size_in entry_in int_of is_int_word pieces_of
too_few = refl

too_large : first_bad_line 47 limit (text_of (coordinate ∷ codes "8193 8193 0" ∷ [])) ≡ Some
    (faults.TooLarge 8193 8193)
unfolding with_line at_end placed_lines read_from banner_in size_in entry_in int_of is_int_word pieces_of
too_large = refl

-- the first line of the same file needs a byte past a limit of 40
too_long : first_bad_line 47 40 (text_of (coordinate ∷ codes "8193 8193 0" ∷ [])) ≡ Some faults.TooLong
unfolding with_line at_end placed_lines read_from banner_in size_in entry_in int_of is_int_word pieces_of
too_long = refl

-- a bad banner comes before the limit
banner_first : first_bad_line 47 40 (text_of (codes "a" ∷ coordinate ∷ codes "8193 8193 0" ∷ [])) ≡ Some
    (faults.Banner 1)
unfolding with_line at_end placed_lines read_from banner_in size_in entry_in int_of is_int_word pieces_of
banner_first = refl

skew : Spells 47 limit
    (text_of (codes "%%MatrixMarket matrix coordinate integer skew-symmetric" ∷ codes "3 3 1" ∷ codes "3 1 5" ∷ []))
    record {
      rows = 3;
      cols = 3;
      cells = pos 0 ∷ pos 0 ∷ neg_ℤ (pos 5) ∷ pos 0 ∷ pos 0 ∷ pos 0 ∷ pos 5 ∷ pos 0 ∷ pos
          0 ∷ [];
    }
unfolding with_line at_end placed_lines read_from banner_in size_in entry_in int_of is_int_word pieces_of
skew = refl

diagonal : first_bad_line 47 limit
    (text_of (codes "%%MatrixMarket matrix coordinate integer skew-symmetric" ∷ codes "3 3 1" ∷ codes "2 2 1" ∷ [])) ≡
    Some (faults.Diagonal 3)
unfolding with_line at_end placed_lines read_from banner_in size_in entry_in int_of is_int_word pieces_of
diagonal = refl

-- a value out of range, and a sum that leaves it
range : first_bad_line 47 limit (text_of (array ∷ codes "1 1" ∷ codes "140737488355328" ∷ [])) ≡ Some (faults.Range 3)
unfolding with_line at_end placed_lines read_from banner_in size_in entry_in int_of is_int_word pieces_of
range = refl

sum_range : first_bad_line 47 limit
    (text_of (coordinate ∷ codes "1 1 2" ∷ codes "1 1 140737488355327" ∷ codes "1 1 1" ∷ [])) ≡ Some (faults.Range 4)
unfolding with_line at_end placed_lines read_from banner_in size_in entry_in int_of is_int_word pieces_of
sum_range = refl

-- an array file's entries stand column by column, and those of a symmetric one from the diagonal down
columns : Spells 47 limit
    (text_of (codes "%%MatrixMarket matrix array integer symmetric" ∷ codes "2 2" ∷ codes "1" ∷ codes "2" ∷ codes
    "3" ∷ [])) record { rows = 2; cols = 2; cells = pos 1 ∷ pos 2 ∷ pos 2 ∷ pos 3 ∷ [] }
unfolding with_line at_end placed_lines read_from banner_in size_in entry_in int_of is_int_word pieces_of
columns = refl
