-- A file, group by group.
use Rattle.std.proofs.Common.{◌≡◌, ℕ, ℤ, zero, suc, ◌<◌, ◌≤◌, List, [], ◌∷◌, ◌++◌, length, map, get_or, refl, sym, ap}
use Rattle.std.proofs.Common.{subst, ◌∙◌, append_assoc, length-append, arith}
use Rattle.std.specs.List.{flat_map, AllByRecursion}
use Rattle.std.proofs.lemmas.List.{length-map}
use Rattle.std.proofs.lemmas.List.Folds.{flat_map-map}
use Rattle.cla_layout.specs.declared.kind.Kind.{Kind}
use Rattle.cla_layout.specs.Layouts.{LayoutPart, Layout, IsPart, IsWhole, all_columns, part_at, layout_with}
use Rattle.cla_layout.proofs.PartValues.{columns_count}
use Rattle.cla_spec.specs.Bytes.{bytes_of}
use Rattle.cla_coded.specs.declared.part.Part.{Part}
use Rattle.cla_coded.specs.Parts.{part_of}
use Rattle.cla_coded.specs.Tables.{TableOf, layout_of}
use Rattle.cla_coded.proofs.Outlines.{part_of_whole}
use Rattle.cla_packed.specs.Files.{PackedGroup, magic, group_bytes}
use Rattle.cla_packed.specs.Layouts.{body_in, groups_of, encoded}

-- the header of a file with so many groups
abbrev pub header_bytes : ℕ → ℕ → ℕ → List ℕ
header_bytes rows cols groups = bytes_of 8 magic ++ (bytes_of 4 rows ++ (bytes_of 4 cols ++ bytes_of 4 groups))

abbrev pub group_with : {X : Type 0} → (X → LayoutPart) → (X → Kind) → X → PackedGroup
group_with part kind x = record { kind = kind x; columns = (part x).columns; body = body_in (part x) }

groups_mapped : {X : Type 0} (part : X → LayoutPart) (kind : X → Kind) (xs : List X)
    → groups_of (map part xs) (map kind xs) ≡ map (group_with part kind) xs
groups_mapped part kind [] = refl
groups_mapped part kind (x ∷ xs) = ap (λ (gs : List PackedGroup). group_with part kind x ∷ gs)
    (groups_mapped part kind xs)

pub file_put : {X : Type 0} (part : X → LayoutPart) (kind : X → Kind) (rows cols : ℕ) (xs : List X)
    → header_bytes rows cols (length xs) ++ flat_map (λ x. group_bytes 8 rows (group_with part kind x)) xs
    ≡ encoded 8 (layout_with rows cols (map part xs)) (map kind xs)
file_put part kind rows cols xs =
    let m = bytes_of 8 magic in
    let r = bytes_of 4 rows in
    let c = bytes_of 4 cols in
    let n = bytes_of 4 (length xs) in
    let body = flat_map (λ x. group_bytes 8 rows (group_with part kind x)) xs in
    let mapped = groups_mapped part kind xs in
    let count : length xs ≡ length (groups_of (map part xs) (map kind xs)) =
    sym (ap length mapped ∙ length-map xs (group_with part kind)) in
    let groups : body ≡ flat_map (group_bytes 8 rows) (groups_of (map part xs) (map kind xs)) =
    sym (ap (flat_map (group_bytes 8 rows)) mapped ∙ flat_map-map (group_bytes 8 rows) (group_with part kind) xs) in
    append_assoc m (r ++ (c ++ n)) body ∙ ap (λ (t : List ℕ). m ++ t) (append_assoc r (c ++ n) body)
    ∙ ap (λ (t : List ℕ). m ++ (r ++ t)) (append_assoc c n body)
    ∙ ap (λ (k : ℕ). m ++ (r ++ (c ++ (bytes_of 4 k ++ body)))) count
    ∙ ap (λ (t : List ℕ). m ++ (r ++ (c ++ (bytes_of 4 (length (groups_of (map part xs) (map kind xs))) ++ t)))) groups

-- no more parts than columns
parts_few : (parts : List LayoutPart) → ((q : ℕ) → q < length parts → 1 ≤ length (part_at parts q).columns)
    → length parts ≤ length (all_columns parts)
parts_few [] each = omega arith
parts_few (part ∷ parts) each =
    let first = each 0 (omega arith) in
    let more = parts_few parts (λ q lt. each (suc q) (omega (arith, lt))) in
    omega (arith, first, more, length-append part.columns (all_columns parts))

pub few_parts : (bits : ℕ) (layout : Layout) → IsWhole bits layout → length layout.parts ≤ layout.cols
few_parts bits layout whole =
    omega (
      arith,
      parts_few layout.parts (λ q lt. (whole.each q lt).group.a_column),
      columns_count layout.cols
          (all_columns layout.parts) whole.partition,
    )

-- what holds of each thing holds of one
pub each_at : {X : Type 0} (P : X → Type 0) (xs : List X) (i : ℕ) (x : X) → AllByRecursion P xs → i < length xs
    → x ≡ get_or xs i x → P x
each_at P [] i x all lt same = absurd (omega (arith, lt))
each_at P (y ∷ xs) zero x all lt same = subst P (sym same) all.0
each_at P (y ∷ xs) (suc i) x all lt same = each_at P xs i x all.1 (omega (arith, lt)) same

-- a thing of a list is that of an equal list
pub same_item : {X : Type 0} (items xs : List X) (i : ℕ) (x : X) → items ≡ xs → i < length items → x ≡ get_or items i x
    → (i < length xs) × (x ≡ get_or xs i x)
same_item {X} items xs i x same lt is =
    (subst (λ (l : List X). i < length l) same lt, is ∙ ap (λ (l : List X). get_or l i x) same)

-- an item of a table is a part of its layout
pub part_here : {G : Type 0} (bits : ℕ) (codes : G → List ℕ) (dictionary : G → List (List ℤ)) (m : TableOf G) (q : ℕ)
    (part : Part G)
    → IsWhole bits (layout_of codes dictionary m) → (q < length m.parts) × (part ≡ get_or m.parts q part)
    → IsPart bits m.rows (part_of codes dictionary part)
part_here bits codes dictionary m q part whole here =
    part_of_whole codes dictionary bits m.rows m.cols m.parts q part whole here.0 here.1
