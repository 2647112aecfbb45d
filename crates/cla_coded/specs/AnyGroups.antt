-- Groups of any kind, as contracts see them.
use Rattle.std.specs.Prelude.{◌≡◌, ℕ, ℤ, ◌<◌, ◌^◌, List, length, Option, None, nat_le, if◌then◌else◌}
use Rattle.std.specs.List.{range_with_len}
use Rattle.std.specs.declared.cmp.Ord as ord
use Rattle.std.specs.declared.cmp.PartialEq as partial_eq
use Rattle.std.specs.declared.cmp.PartialOrd as partial_ord
use Rattle.std.specs.declared.hash.Hash as hash
use Rattle.cla_num.specs.declared.number.Number as number
use Rattle.cla_layout.specs.declared.kind.Kind.{Kind}
use Rattle.cla_layout.specs.declared.kind.Kind.TheVariants as kind
use Rattle.cla_layout.specs.Groups.{cell_of, IsGroup}
use Rattle.cla_layout.specs.Listed.{rest_of}
use Rattle.cla_plain.specs.Members.{plain_columns, plain_codes, plain_dictionary, plain_law}
use Rattle.cla_codes.specs.Members.{codes_columns, codes_codes, codes_dictionary, codes_law}
use Rattle.cla_offsets.specs.Members.{offsets_columns, offsets_codes, offsets_dictionary, offsets_rest, offsets_law}
use Rattle.cla_runs.specs.Members.{runs_columns, runs_codes, runs_dictionary, runs_rest, runs_law}
use Rattle.cla_coded.specs.declared.any_group.AnyGroup.{AnyGroup}
use Rattle.cla_coded.specs.declared.any_group.AnyGroup.TheVariants.{Plain, Codes1, Codes2, Codes4, Offsets, Runs}

-- how a group is kept: its kind, how many bytes a row's code takes, and the tuple that no list names; 0 and none for
-- the
-- kinds that have no such thing
pub record FormOf : Type 0 where
  pub kind : Kind
  pub code_bytes : ℕ
  pub rest : Option ℕ

-- the fewest bytes, of one, two and four, that can name so many tuples
abbrev pub least_code_bytes : ℕ → ℕ
least_code_bytes tuples = if nat_le tuples (2 ^ 8) then 1 else if nat_le tuples (2 ^ 16) then 2 else 4

-- how a plain group is kept
abbrev pub plain_form : FormOf
plain_form = record { kind = kind.Plain; code_bytes = 0; rest = None }

-- how a group of this kind is kept when it is made of these codes and tuples
abbrev pub form_of : Kind → List ℕ → List (List ℤ) → FormOf
form_of kind.Plain codes tuples = plain_form
form_of kind.Codes codes tuples = record {
  kind = kind.Codes;
  code_bytes = least_code_bytes (length tuples);
  rest =
      None;
}
form_of kind.Offsets codes tuples = record { kind = kind.Offsets; code_bytes = 0; rest = rest_of codes tuples }
form_of kind.Runs codes tuples = record { kind = kind.Runs; code_bytes = 0; rest = rest_of codes tuples }

-- how some rows of a group are kept, with these codes and tuples: as the group, and the rest is found anew
abbrev pub form_cut : FormOf → List ℕ → List (List ℤ) → FormOf
form_cut form codes tuples = record {
  kind = form.kind;
  code_bytes = form.code_bytes;
  rest =
      (form_of form.kind codes tuples).rest;
}

module _ {N : Type 0} {n : number.Ghosts N} {o : ord.Ghosts N} {e : partial_eq.Ghosts N} {p : partial_ord.Ghosts N}
    {h : hash.Ghosts N} where
  abbrev pub any_columns : AnyGroup N n o e p h → ℕ
  any_columns (Plain g) = plain_columns g
  any_columns (Codes1 g) = codes_columns g
  any_columns (Codes2 g) = codes_columns g
  any_columns (Codes4 g) = codes_columns g
  any_columns (Offsets g) = offsets_columns g
  any_columns (Runs g) = runs_columns g

  abbrev pub any_codes : AnyGroup N n o e p h → List ℕ
  any_codes (Plain g) = plain_codes g
  any_codes (Codes1 g) = codes_codes g
  any_codes (Codes2 g) = codes_codes g
  any_codes (Codes4 g) = codes_codes g
  any_codes (Offsets g) = offsets_codes g
  any_codes (Runs g) = runs_codes g

  abbrev pub any_dictionary : AnyGroup N n o e p h → List (List ℤ)
  any_dictionary (Plain g) = plain_dictionary g
  any_dictionary (Codes1 g) = codes_dictionary g
  any_dictionary (Codes2 g) = codes_dictionary g
  any_dictionary (Codes4 g) = codes_dictionary g
  any_dictionary (Offsets g) = offsets_dictionary g
  any_dictionary (Runs g) = runs_dictionary g

  abbrev pub any_form : AnyGroup N n o e p h → FormOf
  any_form (Plain g) = plain_form
  any_form (Codes1 g) = record { kind = kind.Codes; code_bytes = 1; rest = None }
  any_form (Codes2 g) = record { kind = kind.Codes; code_bytes = 2; rest = None }
  any_form (Codes4 g) = record { kind = kind.Codes; code_bytes = 4; rest = None }
  any_form (Offsets g) = record { kind = kind.Offsets; code_bytes = 0; rest = offsets_rest g }
  any_form (Runs g) = record { kind = kind.Runs; code_bytes = 0; rest = runs_rest g }

  -- the law of groups holds of each
  pub any_law : (g : AnyGroup N n o e p h) → IsGroup n.BITS (any_columns g) (any_codes g) (any_dictionary g)
  any_law (Plain g) = plain_law g
  any_law (Codes1 g) = codes_law g
  any_law (Codes2 g) = codes_law g
  any_law (Codes4 g) = codes_law g
  any_law (Offsets g) = offsets_law g
  any_law (Runs g) = runs_law g

-- the group that is made of these codes and tuples: in a plain one row i has code i and the tuple of its code, and in
-- the
-- others codes and tuples are these
abbrev pub HasCodes : Kind → List ℕ → List (List ℤ) → List ℕ → List (List ℤ) → ℕ → Type 0
HasCodes kind.Plain codes tuples codes' tuples' width =
    (codes' ≡ range_with_len 0 (length codes))
    × ((i c : ℕ) → i < length codes → c < width → cell_of codes' tuples' i c ≡ cell_of codes tuples i c)
HasCodes kind.Codes codes tuples codes' tuples' width = (codes' ≡ codes) × (tuples' ≡ tuples)
HasCodes kind.Offsets codes tuples codes' tuples' width = (codes' ≡ codes) × (tuples' ≡ tuples)
HasCodes kind.Runs codes tuples codes' tuples' width = (codes' ≡ codes) × (tuples' ≡ tuples)

-- a group of this kind that is made of these codes and tuples
pub record IsGroupFrom (kind : Kind) (width : ℕ) (codes : List ℕ) (tuples : List (List ℤ)) (form : FormOf) (columns : ℕ)
    (codes' : List ℕ) (tuples' : List (List ℤ)) : Type 0 where
  pub form_is : form ≡ form_of kind codes tuples
  pub columns_are : columns ≡ width
  pub has : HasCodes kind codes tuples codes' tuples' width
