-- Parts with the same outlines: where one list of them is whole, so is the other.
use Rattle.std.proofs.Common.{◌≡◌, ℕ, ℤ, zero, suc, ◌+◌, ◌<◌, ◌≤◌, ◌++◌, List, [], ◌∷◌, length, map, take, get_or}
use Rattle.std.proofs.Common.{refl, ap, sym, ◌∙◌}
use Rattle.std.proofs.Common.{arith}
use Rattle.std.proofs.lemmas.List.{length-map, get_or-map, map-append, take_more, take_all}
use Rattle.cla_layout.specs.Groups.{IsGroup}
use Rattle.cla_coded.specs.declared.part.Part.{Part}
use Rattle.cla_layout.specs.Layouts.{no_part, layout_with, part_at, all_columns, IsPart, IsWhole}
use Rattle.cla_coded.specs.Parts.{part_of, parts_of}
use Rattle.cla_coded.specs.Outlines.{OutlineOf, outline}
use Rattle.cla_layout.proofs.Wholes.{same_width}

-- one more item under two maps
pub mapped_more : {A B C : Type 0} (f : A → C) (h : B → C) (xs : List A) (i : ℕ) (x : A) (done : List B) (next : B) →
    i < length xs → x
    ≡ get_or xs i x
    → map h done ≡ take i (map f xs) → h next ≡ f x → map h (done ++ next ∷ []) ≡ take (i + 1) (map f xs)
mapped_more {A} {B} {C} f h xs i x done next there is so_far same =
    let within : i < length (map f xs) = rw (length-map xs f) there in
    let item : get_or (map f xs) i (f x) ≡ h next = get_or-map f xs i x (f x) there ∙ ap f (sym is) ∙ sym same in
    map-append h done (next ∷ []) ∙ ap (λ (ys : List C). ys ++ h next ∷ []) so_far
    ∙ sym (take_more (map f xs) i (f x) within ∙ ap (λ (y : C). take i (map f xs) ++ y ∷ []) item)

-- and all items
pub mapped_all : {A B C : Type 0} (f : A → C) (h : B → C) (xs : List A) (i : ℕ) (done : List B) → length xs ≤ i →
    map h done
    ≡ take i (map f xs) → map h done ≡ map f xs
mapped_all f h xs i done all so_far = so_far ∙ take_all i (map f xs) (rw (length-map xs f) all)

abbrev columns_in : List OutlineOf → List ℕ
columns_in [] = []
columns_in (x ∷ xs) = x.columns ++ columns_in xs

outlined_columns : {G : Type 0} (width : G → ℕ) (codes : G → List ℕ) (tuples : G → List (List ℤ))
    (parts : List (Part G))
    → all_columns (parts_of codes tuples parts) ≡ columns_in (map (outline width codes) parts)
outlined_columns width codes tuples [] = refl
outlined_columns width codes tuples (part ∷ parts) = ap (λ (xs : List ℕ). part.columns.items ++ xs)
    (outlined_columns width codes tuples parts)

part_with : (bits rows : ℕ) (columns columns' codes codes' : List ℕ) (width width' : ℕ) (tuples tuples' : List (List ℤ))
    → columns'
    ≡ columns → codes' ≡ codes → width' ≡ width → IsGroup bits width codes tuples → IsGroup bits width' codes' tuples'
    → IsPart bits rows (record { columns = columns; codes = codes; tuples = tuples })
    → IsPart bits rows (record { columns = columns'; codes = codes'; tuples = tuples' })
part_with bits rows columns columns' codes codes' width width' tuples tuples' same_columns same_codes same is is' part =
    let wide : width' ≡ length columns' = same ∙ same_width bits width (length columns) codes tuples is part.group
    ∙ ap length (sym same_columns) in
    record {
      rising = rw same_columns part.rising;
      a_code_each = ap length same_codes ∙ part.a_code_each;
      group = rw wide at is';
    }

parts_with : {G H : Type 0} (bits rows : ℕ) (w : G → ℕ) (c : G → List ℕ) (d : G → List (List ℤ)) (w' : H → ℕ) (c' : H →
    List ℕ)
    (d' : H → List (List ℤ))
    → ((g : G) → IsGroup bits (w g) (c g) (d g)) → ((h : H) → IsGroup bits (w' h) (c' h) (d' h))
    → (ps : List (Part G)) (qs : List (Part H)) → map (outline w' c') qs ≡ map (outline w c) ps
    → ((k : ℕ) → k < length (parts_of c d ps) → IsPart bits rows (part_at (parts_of c d ps) k)) → (k : ℕ) →
    k < length (parts_of c' d' qs)
    → IsPart bits rows (part_at (parts_of c' d' qs) k)
parts_with bits rows w c d w' c' d' is is' ps [] same each k there = absurd (omega (arith, there))
parts_with bits rows w c d w' c' d' is is' [] (q ∷ qs) same each k there = absurd (cc same)
parts_with bits rows w c d w' c' d' is is' (p ∷ ps) (q ∷ qs) same each zero there =
    let head : outline w' c' q ≡ outline w c p = cc same in
    part_with bits rows p.columns.items q.columns.items (c p.group) (c' q.group) (w p.group) (w' q.group) (d p.group)
    (d' q.group)
    (ap (λ (o : OutlineOf). o.columns) head) (ap (λ (o : OutlineOf). o.codes) head)
    (ap (λ (o : OutlineOf). o.width) head)
    (is p.group) (is' q.group) (each 0 (omega arith))
parts_with bits rows w c d w' c' d' is is' (p ∷ ps) (q ∷ qs) same each (suc k) there =
    let tail : map (outline w' c') qs ≡ map (outline w c) ps = cc same in
    parts_with bits rows w c d w' c' d' is is' ps qs tail (λ j l. each (suc j) (omega (arith, l))) k
    (omega (arith, there))

-- groups of the same codes with other tuples make a whole layout where the first ones do
pub whole_with : {G H : Type 0} (bits rows cols : ℕ) (w : G → ℕ) (c : G → List ℕ) (d : G → List (List ℤ)) (w' : H →
    ℕ) (c' : H → List ℕ)
    (d' : H → List (List ℤ))
    → ((g : G) → IsGroup bits (w g) (c g) (d g)) → ((h : H) → IsGroup bits (w' h) (c' h) (d' h))
    → (ps : List (Part G)) (qs : List (Part H)) → map (outline w' c') qs ≡ map (outline w c) ps
    → IsWhole bits (layout_with rows cols (parts_of c d ps)) → IsWhole bits (layout_with rows cols (parts_of c' d' qs))
whole_with bits rows cols w c d w' c' d' is is' ps qs same whole =
    let columns : all_columns (parts_of c' d' qs) ≡ all_columns (parts_of c d ps) = outlined_columns w' c' d' qs
    ∙ ap columns_in same
    ∙ sym (outlined_columns w c d ps) in
    record {
      a_row = whole.a_row;
      a_col = whole.a_col;
      few = whole.few;
      partition = rw columns whole.partition;
      each = parts_with bits rows w c d w' c' d' is is' ps qs same whole.each;
    }

-- the part of an item
pub part_of_item : {G : Type 0} (codes_of : G → List ℕ) (dictionary_of : G → List (List ℤ)) (parts : List (Part G))
    (q : ℕ)
    (item : Part G) → q < length parts → item ≡ get_or parts q item
    → part_at (parts_of codes_of dictionary_of parts) q ≡ part_of codes_of dictionary_of item
part_of_item codes_of dictionary_of parts q item there is =
    get_or-map (part_of codes_of dictionary_of) parts q item no_part there
    ∙ ap (part_of codes_of dictionary_of) (sym is)

pub parts_count : {G : Type 0} (codes_of : G → List ℕ) (dictionary_of : G → List (List ℤ)) (parts : List (Part G))
    → length (parts_of codes_of dictionary_of parts) ≡ length parts
parts_count codes_of dictionary_of parts = length-map parts (part_of codes_of dictionary_of)

-- an item of a whole layout is a part
pub part_of_whole : {G : Type 0} (codes_of : G → List ℕ) (dictionary_of : G → List (List ℤ)) (bits rows cols : ℕ)
    (parts : List (Part G))
    (q : ℕ) (item : Part G) → IsWhole bits (layout_with rows cols (parts_of codes_of dictionary_of parts)) →
    q < length parts
    → item ≡ get_or parts q item → IsPart bits rows (part_of codes_of dictionary_of item)
part_of_whole codes_of dictionary_of bits rows cols parts q item whole there is =
    rw (part_of_item codes_of dictionary_of parts q item there is) at
    (whole.each q (rw (parts_count codes_of dictionary_of parts) there))
