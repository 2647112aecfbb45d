-- Lists of columns: those that rise, and those of all parts.
use Rattle.std.proofs.Common.{◌≡◌, ℕ, ℤ, ◌+◌, ◌<◌, ◌≤◌, List, [], ◌∷◌, ◌++◌, length, map, take, get_or, ap, sym, ◌∙◌}
use Rattle.std.proofs.Common.{arith, inl, inr}
use Rattle.std.proofs.lemmas.Bool.{cases_lt}
use Rattle.std.proofs.lemmas.List.{append_assoc, append-nil, length-map, get_or-map, take_more}
use Rattle.cla_layout.specs.Groups.{code_of, occurrences_of}
use Rattle.cla_layout.proofs.Regroup.{first_row_there, code_of_first_row}
use Rattle.cla_coded.specs.declared.part.Part.{Part}
use Rattle.cla_layout.specs.Layouts.{LayoutPart, all_columns}
use Rattle.cla_coded.specs.Parts.{part_of, parts_of}

-- no item past the end is there, where each is below it
pub none_past : (items : List ℕ) (end : ℕ) → ((i : ℕ) → i < length items → code_of items i < end) → (j : ℕ) → end ≤ j
    → occurrences_of items j ≡ 0
none_past items end below j past = elim (cases_lt 0 (occurrences_of items j)) [
  | inl some ↦
      let is = code_of_first_row items j some in
      absurd (omega (arith, past, is, below _ (first_row_there items j some)))
  | inr none ↦ omega (arith, none)
]

-- the columns of one part more
pub columns_more : (parts : List LayoutPart) (part : LayoutPart) → all_columns (parts ++ part ∷ []) ≡ all_columns parts
    ++ part.columns
columns_more [] part = append-nil part.columns
columns_more (p ∷ parts) part = ap (λ (xs : List ℕ). p.columns ++ xs) (columns_more parts part)
    ∙ sym (append_assoc p.columns (all_columns parts) part.columns)

-- the columns of the parts up to one, and of that one
pub columns_taken : {G : Type 0} (c : G → List ℕ) (d : G → List (List ℤ)) (parts : List (Part G)) (i : ℕ)
    (part : Part G) → i < length parts
    → part ≡ get_or parts i part
    → all_columns (take (i + 1) (parts_of c d parts)) ≡ all_columns (take i (parts_of c d parts)) ++ part.columns.items
columns_taken c d parts i part there is =
    let f = part_of c d in
    let within : i < length (map f parts) = rw (length-map parts f) there in
    let item : get_or (map f parts) i (f part) ≡ f part = get_or-map f parts i part (f part) there ∙ ap f (sym is) in
    ap all_columns (take_more (map f parts) i (f part) within
    ∙ ap (λ (y : LayoutPart). take i (map f parts) ++ y ∷ []) item)
    ∙ columns_more (take i (map f parts)) (f part)
