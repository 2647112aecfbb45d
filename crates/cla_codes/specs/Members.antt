-- What contracts see of groups with one code for each row.
use Rattle.std.specs.Prelude.{ℕ, ℤ, List}
use Rattle.std.specs.declared.cmp.Ord as ord
use Rattle.std.specs.declared.cmp.PartialEq as partial_eq
use Rattle.std.specs.declared.cmp.PartialOrd as partial_ord
use Rattle.std.specs.declared.hash.Hash as hash
use Rattle.cla_num.specs.declared.number.Number as number
use Rattle.cla_layout.specs.Groups.{IsGroup}
use Rattle.cla_codes.specs.declared.codes.Codes.{Codes}

module _ {N : Type 0} {w : ℕ} {n : number.Ghosts N} {o : ord.Ghosts N} {e : partial_eq.Ghosts N}
    {p : partial_ord.Ghosts N} {h : hash.Ghosts N} where
  abbrev pub codes_columns : Codes N w n o e p h → ℕ
  codes_columns g = g.dictionary.width

  abbrev pub codes_codes : Codes N w n o e p h → List ℕ
  codes_codes g = g.rows.value

  abbrev pub codes_dictionary : Codes N w n o e p h → List (List ℤ)
  codes_dictionary g = g.dictionary.tuples

  -- the law of groups holds of each
  pub codes_law : (g : Codes N w n o e p h) → IsGroup n.BITS (codes_columns g) (codes_codes g) (codes_dictionary g)
  codes_law g = g.is
