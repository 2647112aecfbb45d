-- What contracts see of groups of runs.
use Rattle.std.specs.Prelude.{ℕ, ℤ, List, Option}
use Rattle.std.specs.declared.cmp.Ord as ord
use Rattle.std.specs.declared.cmp.PartialEq as partial_eq
use Rattle.std.specs.declared.cmp.PartialOrd as partial_ord
use Rattle.std.specs.declared.hash.Hash as hash
use Rattle.cla_num.specs.declared.number.Number as number
use Rattle.cla_layout.specs.Groups.{IsGroup}
use Rattle.cla_runs.specs.Rows.{rest_in}
use Rattle.cla_runs.specs.declared.runs.Runs.{Runs}

module _ {N : Type 0} {n : number.Ghosts N} {o : ord.Ghosts N} {e : partial_eq.Ghosts N} {p : partial_ord.Ghosts N}
    {h : hash.Ghosts N} where
  abbrev pub runs_columns : Runs N n o e p h → ℕ
  runs_columns g = g.dictionary.width

  abbrev pub runs_codes : Runs N n o e p h → List ℕ
  runs_codes g = g.rows.value.codes

  abbrev pub runs_dictionary : Runs N n o e p h → List (List ℤ)
  runs_dictionary g = g.dictionary.tuples

  -- the code that no run names, if there is one
  abbrev pub runs_rest : Runs N n o e p h → Option ℕ
  runs_rest g = rest_in g.rows.value

  -- the law of groups holds of each
  pub runs_law : (g : Runs N n o e p h) → IsGroup n.BITS (runs_columns g) (runs_codes g) (runs_dictionary g)
  runs_law g = g.is
