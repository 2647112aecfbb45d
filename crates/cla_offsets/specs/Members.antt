-- What contracts see of groups with lists of offsets.
use Rattle.std.specs.Prelude.{ℕ, ℤ, ◌/◌, List, length, map, Option}
use Rattle.std.specs.declared.cmp.Ord as ord
use Rattle.std.specs.declared.cmp.PartialEq as partial_eq
use Rattle.std.specs.declared.cmp.PartialOrd as partial_ord
use Rattle.std.specs.declared.hash.Hash as hash
use Rattle.cla_num.specs.declared.number.Number as number
use Rattle.cla_layout.specs.Groups.{IsGroup}
use Rattle.cla_layout.specs.Tuples.{tuples_of}
use Rattle.cla_group.specs.Rows.{AreRowsFrom, projected}
use Rattle.cla_offsets.specs.declared.offsets.Offsets.{Offsets}
use Rattle.cla_offsets.specs.Rows.{rest_in}

-- the tuples whose values stand one after the other
abbrev pub tuples_in : {N : Type 0} → (N → ℤ) → ℕ → List N → List (List ℤ)
tuples_in value width values = tuples_of width (length values / width) (map value values)

module _ {N : Type 0} {n : number.Ghosts N} {o : ord.Ghosts N} {e : partial_eq.Ghosts N} {p : partial_ord.Ghosts N}
    {h : hash.Ghosts N} where
  abbrev pub offsets_columns : Offsets N n o e p h → ℕ
  offsets_columns g = g.dictionary.width

  abbrev pub offsets_codes : Offsets N n o e p h → List ℕ
  offsets_codes g = g.rows.value.codes

  abbrev pub offsets_dictionary : Offsets N n o e p h → List (List ℤ)
  offsets_dictionary g = g.dictionary.tuples

  -- the code that no list names, if there is one
  abbrev pub offsets_rest : Offsets N n o e p h → Option ℕ
  offsets_rest g = rest_in g.rows.value

  -- its tuples with these places alone
  abbrev pub projected_tuples : List ℕ → Offsets N n o e p h → List (List ℤ)
  projected_tuples places g = map (projected places) (offsets_dictionary g)

  -- its tuples with other values
  abbrev pub revalued : (N → ℤ) → Offsets N n o e p h → List N → List (List ℤ)
  revalued value g values = tuples_of (offsets_columns g) (length (offsets_dictionary g)) (map value values)

  -- a group of the n rows from row a on
  abbrev pub IsSlice : ℕ → ℕ → Offsets N n o e p h → Offsets N n o e p h → Type 0
  IsSlice a n g slice = AreRowsFrom a n (offsets_columns g) (offsets_codes g) (offsets_dictionary g)
      (offsets_codes slice) (offsets_dictionary slice)

  -- the law of groups holds of each
  pub offsets_law : (g : Offsets N n o e p h) →
      IsGroup n.BITS (offsets_columns g) (offsets_codes g) (offsets_dictionary g)
  offsets_law g = g.is
