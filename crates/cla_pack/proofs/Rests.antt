-- Tables whose groups are kept in the forms of their kinds have the rests that packed files ask for.
use Rattle.std.proofs.Common.{List, [], ◌∷◌, ap}
use Rattle.std.specs.List.{AllByRecursion}
use Rattle.std.specs.declared.cmp.Ord as ord
use Rattle.std.specs.declared.cmp.PartialEq as partial_eq
use Rattle.std.specs.declared.cmp.PartialOrd as partial_ord
use Rattle.std.specs.declared.hash.Hash as hash
use Rattle.cla_num.specs.declared.number.Number as number
use Rattle.cla_coded.specs.declared.any_group.AnyGroup.{AnyGroup}
use Rattle.cla_coded.specs.declared.part.Part.{Part}
use Rattle.cla_coded.specs.AnyGroups.{FormOf}
use Rattle.cla_coded.specs.Tables.{TableOf}
use Rattle.cla_pack_reader.specs.Kept.{HaveTheirForms}
use Rattle.cla_pack_writer.specs.Groups.{HasItsRest, HaveTheirRests}

module _ {N : Type 0} {n : number.Ghosts N} {o : ord.Ghosts N} {e : partial_eq.Ghosts N} {p : partial_ord.Ghosts N}
    {h : hash.Ghosts N} where
  rests_in : (parts : List (Part (AnyGroup N n o e p h))) → HaveTheirForms parts
      → AllByRecursion (λ part. HasItsRest part.group) parts
  rests_in [] forms = tt
  rests_in (part ∷ parts) forms = (ap (λ (form : FormOf). form.rest) forms.0, rests_in parts forms.1)

  pub rests_of_forms : (table : TableOf (AnyGroup N n o e p h)) → HaveTheirForms table.parts → HaveTheirRests table
  rests_of_forms table forms = rests_in table.parts forms
