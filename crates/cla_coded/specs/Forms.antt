-- How the groups of a table are kept.
use Rattle.std.specs.Prelude.{ℕ, List, map, Option}
use Rattle.std.specs.declared.cmp.Ord as ord
use Rattle.std.specs.declared.cmp.PartialEq as partial_eq
use Rattle.std.specs.declared.cmp.PartialOrd as partial_ord
use Rattle.std.specs.declared.hash.Hash as hash
use Rattle.cla_num.specs.declared.number.Number as number
use Rattle.cla_layout.specs.declared.kind.Kind.{Kind}
use Rattle.cla_coded.specs.declared.any_group.AnyGroup.{AnyGroup}
use Rattle.cla_coded.specs.AnyGroups.{FormOf, any_form}
use Rattle.cla_coded.specs.Tables.{TableOf}

module _ {N : Type 0} {n : number.Ghosts N} {o : ord.Ghosts N} {e : partial_eq.Ghosts N} {p : partial_ord.Ghosts N}
    {h : hash.Ghosts N} where
  -- how each part is kept
  abbrev pub forms_of : TableOf (AnyGroup N n o e p h) → List FormOf
  forms_of table = map (λ part. any_form part.group) table.parts

  -- the kind of each part
  abbrev pub kinds_of : TableOf (AnyGroup N n o e p h) → List Kind
  kinds_of table = map (λ part. (any_form part.group).kind) table.parts

  -- the tuple of each part that no list names, if there is one
  abbrev pub rests_of : TableOf (AnyGroup N n o e p h) → List (Option ℕ)
  rests_of table = map (λ part. (any_form part.group).rest) table.parts
