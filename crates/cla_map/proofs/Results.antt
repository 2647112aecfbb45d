-- The result of a chain.
use Rattle.std.proofs.Common.{◌≡◌, true, ℕ, ℤ, pos, ◌+◌, ◌*◌, ◌/◌, ◌%◌, ◌^◌, ◌<◌, ◌≤◌, List, [], ◌∷◌, ◌++◌, length, map}
use Rattle.std.proofs.Common.{take, refl, ap, sym, ◌∙◌, arith}
use Rattle.std.proofs.Math.Nat.{mul-le-mul}
use Rattle.std.proofs.lemmas.Bool.{ltb-true}
use Rattle.std.proofs.lemmas.Nat.{div-mul-add, mod-mul-add}
use Rattle.std.proofs.lemmas.List.{length-map, get_or-map, map-append, take_more}
use Rattle.std.proofs.lemmas.List.FromFn.{length-map-range_with_len, get_or-map-range_with_len}
use Rattle.cla_spec.specs.Numbers.{InRange}
use Rattle.cla_spec.specs.Matrix.{most_cells}
use Rattle.cla_layout.specs.Groups.{code_of, value_of, cell_of, first_row_of}
use Rattle.cla_layout.proofs.Tuples.{tuples_count, tuple_width, tuple_value, place_within}
use Rattle.cla_coded.specs.declared.part.Part.{Part}
use Rattle.cla_coded.specs.Parts.{part_of, parts_of}
use Rattle.cla_layout.specs.Layouts.{LayoutPart, Layout, IsPart, IsWhole, column_at, part_at, no_part, all_columns}
use Rattle.cla_layout.specs.Layouts.{has_column, entry_in}
use Rattle.cla_layout.proofs.Matrices.{column_there}
use Rattle.cla_layout.proofs.Wholes.{some_part, entry_of_part}
use Rattle.cla_map.specs.Stops.{mapped_values}
use Rattle.cla_map.specs.FirstStops.{part_values, mapped_part, mapped_layout}

pub few_runs : (m s : ℕ) → m ≤ most_cells → s < 2 ^ 32 → m * s ≤ 2 ^ 58
few_runs m s few short = omega
    (arith, mul-le-mul {n₁ = m} {m₁ = s} {n₂ = most_cells} {m₂ = 2 ^ 32} few (omega (arith, short)))

pub mapped_count : (h : ℕ → ℤ → ℤ) (w : ℕ) (tuples : List (List ℤ)) (m : ℕ) → length (mapped_values h w tuples m) ≡ m
mapped_count h w tuples m = length-map-range_with_len (λ p. h (p % w) (value_of tuples (p / w) (p % w))) 0 m

pub equal_parts : (p q : LayoutPart) → p.columns ≡ q.columns → p.codes ≡ q.codes → p.tuples ≡ q.tuples → p ≡ q
equal_parts p q columns codes tuples =
    ap (λ (cs : List ℕ). record { columns = cs; codes = p.codes; tuples = p.tuples }) columns
    ∙ ap (λ (cs : List ℕ). record { columns = q.columns; codes = cs; tuples = p.tuples }) codes
    ∙ ap (λ (ts : List (List ℤ)). record { columns = q.columns; codes = q.codes; tuples = ts }) tuples

-- a value of a mapped part
pub mapped_value : (h : ℕ → ℤ → ℤ) (part : LayoutPart) (k c : ℕ) → k < length part.tuples → c < length part.columns
    → value_of (mapped_part h part).tuples k c ≡ h (column_at part.columns c) (value_of part.tuples k c)
mapped_value h part k c tuple col =
    let w = length part.columns in
    let n = length part.tuples in
    let p = k * w + c in
    tuple_value w n (part_values h part (n * w)) k c tuple col
    ∙ get_or-map-range_with_len (λ q. h (column_at part.columns (q % w)) (value_of part.tuples (q / w) (q % w))) 0
    (n * w) p p (pos 0) (place_within w n k c tuple col) (omega arith)
    ∙ rw (div-mul-add k w c col, mod-mul-add k w c col) refl

pub mapped_tuples : (h : ℕ → ℤ → ℤ) (part : LayoutPart) → length (mapped_part h part).tuples ≡ length part.tuples
mapped_tuples h part = tuples_count (length part.columns) (length part.tuples)
    (part_values h part (length part.tuples * length part.columns))

-- a mapped part is a part
pub mapped_is : (bits rows : ℕ) (h : ℕ → ℤ → ℤ) (part : LayoutPart)
    → ((j : ℕ) (z : ℤ) → InRange bits z → InRange bits (h j z)) → IsPart bits rows part
    → IsPart bits rows (mapped_part h part)
mapped_is bits rows h part ranged is =
    let count = mapped_tuples h part in
    record {
      rising = is.rising;
      a_code_each = is.a_code_each;
      group = record {
        a_row = is.group.a_row;
        a_column = is.group.a_column;
        few_cells = is.group.few_cells;
        in_tuples = λ i row. rw count (is.group.in_tuples i row);
        used = λ k there. is.group.used k (rw count at there);
        full = λ k there. tuple_width (length part.columns) (length part.tuples) _ k (rw count at there);
        small = λ k c there col. (let tuple : k < length part.tuples = rw count at there in
            rw (mapped_value h part k c tuple col)
            (ranged (column_at part.columns c) (value_of part.tuples k c) (is.group.small k c tuple col)));
      };
    }

mapped_at : (h : ℕ → ℤ → ℤ) (parts : List LayoutPart) (q : ℕ) → q < length parts
    → part_at (map (mapped_part h) parts) q ≡ mapped_part h (part_at parts q)
mapped_at h parts q there = get_or-map (mapped_part h) parts q no_part no_part there

mapped_columns : (h : ℕ → ℤ → ℤ) (parts : List LayoutPart) → all_columns (map (mapped_part h) parts) ≡ all_columns parts
mapped_columns h [] = refl
mapped_columns h (part ∷ parts) = ap (λ (cs : List ℕ). part.columns ++ cs) (mapped_columns h parts)

-- a mapped layout is whole
pub mapped_whole : (bits : ℕ) (h : ℕ → ℤ → ℤ) (layout : Layout)
    → ((j : ℕ) (z : ℤ) → InRange bits z → InRange bits (h j z)) → IsWhole bits layout
    → IsWhole bits (mapped_layout h layout)
mapped_whole bits h layout ranged whole = record {
  a_row = whole.a_row;
  a_col = whole.a_col;
  few = whole.few;
  partition = rw (mapped_columns h layout.parts) whole.partition;
  each = λ q there. (let within : q < length layout.parts = rw (length-map layout.parts (mapped_part h)) at there in
      rw (mapped_at h layout.parts q within)
      (mapped_is bits layout.rows h (part_at layout.parts q) ranged (whole.each q within)));
}

-- and each entry is mapped
pub mapped_entry : (bits : ℕ) (h : ℕ → ℤ → ℤ) (layout : Layout) (i j : ℕ)
    → ((j : ℕ) (z : ℤ) → InRange bits z → InRange bits (h j z)) → IsWhole bits layout → i < layout.rows
    → j < layout.cols → entry_in (mapped_layout h layout).parts i j ≡ h j (entry_in layout.parts i j)
mapped_entry bits h layout i j ranged whole row col =
    let found = some_part layout.cols layout.parts j whole.partition col in
    let q = found.0 in
    let part = part_at layout.parts q in
    let are = whole.each q found.1 in
    let there : q < length (map (mapped_part h) layout.parts) = rw (length-map layout.parts (mapped_part h)) found.1 in
    let is = mapped_at h layout.parts q found.1 in
    let has : has_column (part_at (map (mapped_part h) layout.parts) q) j ≡ true = rw is found.2 in
    entry_of_part layout.cols (map (mapped_part h) layout.parts) q i j
    (mapped_whole bits h layout ranged whole).partition there col has
    ∙ ap (λ (p : LayoutPart). cell_of p.codes p.tuples i (first_row_of p.columns j)) is
    ∙ mapped_value h part (code_of part.codes i) (first_row_of part.columns j)
    (are.group.in_tuples i (rw are.a_code_each row)) (ltb-true _ _ found.2)
    ∙ ap (λ (d : ℕ). h d (cell_of part.codes part.tuples i (first_row_of part.columns j)))
    (column_there part.columns j (ltb-true _ _ found.2))
    ∙ ap (h j) (sym (entry_of_part layout.cols layout.parts q i j whole.partition found.1 col found.2))

-- one more part is mapped
pub parts_more : {G : Type 0} (codes_of : G → List ℕ) (dictionary_of : G → List (List ℤ)) (h : ℕ → ℤ → ℤ)
    (parts : List LayoutPart) (q : ℕ) (done : List (Part G)) (next : Part G) → q < length parts
    → parts_of codes_of dictionary_of done ≡ take q (map (mapped_part h) parts)
    → part_of codes_of dictionary_of next ≡ mapped_part h (part_at parts q)
    → parts_of codes_of dictionary_of (done ++ next ∷ []) ≡ take (q + 1) (map (mapped_part h) parts)
parts_more codes_of dictionary_of h parts q done next there so_far same =
    let within : q < length (map (mapped_part h) parts) = rw (length-map parts (mapped_part h)) there in
    map-append (part_of codes_of dictionary_of) done (next ∷ [])
    ∙ ap (λ (ps : List LayoutPart). ps ++ part_of codes_of dictionary_of next ∷ []) so_far
    ∙ ap (λ (p : LayoutPart). take q (map (mapped_part h) parts) ++ p ∷ []) (same ∙ sym (mapped_at h parts q there))
    ∙ sym (take_more (map (mapped_part h) parts) q no_part within)
