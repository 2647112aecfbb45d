-- Tables whose groups are kept in their own forms, as those that are built of codes and tuples.
use Rattle.std.proofs.Common.{◌≡◌, ℕ, zero, suc, ◌<◌, List, [], ◌∷◌, length, map, ap, arith}
use Rattle.std.specs.List.{AllByRecursion}
use Rattle.std.specs.Prelude.{slice_index_or}
use Rattle.std.specs.declared.cmp.Ord as ord
use Rattle.std.specs.declared.cmp.PartialEq as partial_eq
use Rattle.std.specs.declared.cmp.PartialOrd as partial_ord
use Rattle.std.specs.declared.hash.Hash as hash
use Rattle.cla_num.specs.declared.number.Number as number
use Rattle.cla_layout.specs.Layouts.{LayoutPart, part_at}
use Rattle.cla_coded.specs.declared.any_group.AnyGroup.{AnyGroup}
use Rattle.cla_coded.specs.declared.part.Part.{Part}
use Rattle.cla_coded.specs.AnyGroups.{FormOf, plain_form, form_of, any_codes, any_dictionary, any_form}
use Rattle.cla_coded.specs.Forms.{forms_of}
use Rattle.cla_coded.specs.Parts.{parts_of}
use Rattle.cla_coded.specs.Tables.{TableOf}
use Rattle.cla_pack_writer.specs.Groups.{HasItsRest, HaveTheirRests}

-- each of these forms is that of its part's codes and tuples
abbrev pub AreOwn : List FormOf → List LayoutPart → Type 0
AreOwn forms parts = (q : ℕ) → q < length parts → slice_index_or forms q plain_form
    ≡ form_of (slice_index_or forms q plain_form).kind (part_at parts q).codes (part_at parts q).tuples

module _ {N : Type 0} {n : number.Ghosts N} {o : ord.Ghosts N} {e : partial_eq.Ghosts N} {p : partial_ord.Ghosts N}
    {h : hash.Ghosts N} where
  own_rests : (parts : List (Part (AnyGroup N n o e p h)))
      → AreOwn (map (λ part. any_form part.group) parts) (parts_of any_codes any_dictionary parts)
      → AllByRecursion (λ part. HasItsRest part.group) parts
  own_rests [] own = tt
  own_rests (part ∷ parts) own = (
    ap (λ (form : FormOf). form.rest) (own 0 (omega arith)),
    own_rests parts (λ q lt. own (suc q) (omega (arith, lt))),
  )

  -- such a table's groups have their rests
  pub rests_of_forms : (table : TableOf (AnyGroup N n o e p h))
      → AreOwn (forms_of table) (parts_of any_codes any_dictionary table.parts) → HaveTheirRests table
  rests_of_forms table own = own_rests table.parts own
