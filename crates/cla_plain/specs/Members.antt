-- What contracts see of plain groups.
use Rattle.std.specs.Prelude.{ℕ, ℤ, List, length}
use Rattle.std.specs.List.{range_with_len}
use Rattle.std.specs.declared.cmp.Ord as ord
use Rattle.std.specs.declared.cmp.PartialEq as partial_eq
use Rattle.std.specs.declared.cmp.PartialOrd as partial_ord
use Rattle.std.specs.declared.hash.Hash as hash
use Rattle.cla_num.specs.declared.number.Number as number
use Rattle.cla_layout.specs.Groups.{IsGroup}
use Rattle.cla_plain.specs.declared.plain.Plain.{Plain}

module _ {N : Type 0} {n : number.Ghosts N} {o : ord.Ghosts N} {e : partial_eq.Ghosts N} {p : partial_ord.Ghosts N}
    {h : hash.Ghosts N} where
  abbrev pub plain_columns : Plain N n o e p h → ℕ
  plain_columns g = g.dictionary.width

  abbrev pub plain_codes : Plain N n o e p h → List ℕ
  plain_codes g = range_with_len 0 (length g.dictionary.tuples)

  abbrev pub plain_dictionary : Plain N n o e p h → List (List ℤ)
  plain_dictionary g = g.dictionary.tuples

  -- the law of groups holds of each
  pub plain_law : (g : Plain N n o e p h) → IsGroup n.BITS (plain_columns g) (plain_codes g) (plain_dictionary g)
  plain_law g = g.is
