-- Tables that were read, as layouts of files.
use Rattle.std.proofs.Common.{◌≡◌, ℕ, false, List, [], ◌∷◌, length, map, refl, ap, subst, ◌∙◌}
use Rattle.std.specs.declared.cmp.Ord as ord
use Rattle.std.specs.declared.cmp.PartialEq as partial_eq
use Rattle.std.specs.declared.cmp.PartialOrd as partial_ord
use Rattle.std.specs.declared.hash.Hash as hash
use Rattle.cla_num.specs.declared.number.Number as number
use Rattle.cla_layout.specs.declared.kind.Kind.{Kind}
use Rattle.cla_layout.specs.Layouts.{Layout, LayoutPart}
use Rattle.cla_layout.specs.Canonical.{IsCanonical}
use Rattle.cla_coded.specs.declared.any_group.AnyGroup.{AnyGroup}
use Rattle.cla_coded.specs.declared.part.Part.{Part}
use Rattle.cla_coded.specs.AnyGroups.{any_codes, any_dictionary, any_form}
use Rattle.cla_coded.specs.Forms.{kinds_of}
use Rattle.cla_coded.specs.Parts.{parts_of}
use Rattle.cla_coded.specs.Tables.{TableOf, layout_of}
use Rattle.cla_packed.specs.Files.{PackedGroup, PackedLayout, IsFile, file_bytes}
use Rattle.cla_packed.specs.Layouts.{part_of, kinds_in, groups_of, encoded}
use Rattle.cla_packed_laws.proofs.Canonical.{canonical_of}
use Rattle.cla_pack_reader.specs.Kept.{group_kept}

module _ {N : Type 0} {n : number.Ghosts N} {o : ord.Ghosts N} {e : partial_eq.Ghosts N} {p : partial_ord.Ghosts N}
    {h : hash.Ghosts N} where
  abbrev kinds_kept : List (Part (AnyGroup N n o e p h)) → List Kind
  kinds_kept parts = map (λ part. (any_form part.group).kind) parts

  abbrev parts_kept : List (Part (AnyGroup N n o e p h)) → List LayoutPart
  parts_kept parts = parts_of any_codes any_dictionary parts

  abbrev in_file : ℕ → ℕ → List (Part (AnyGroup N n o e p h)) → PackedLayout
  in_file rows cols parts = record { rows = rows; cols = cols; groups = map group_kept parts }

  parts_same : (parts : List (Part (AnyGroup N n o e p h))) → map part_of (map group_kept parts) ≡ parts_kept parts
  parts_same [] = refl
  parts_same (part ∷ parts) = ap (λ (l : List LayoutPart). part_of (group_kept part) ∷ l) (parts_same parts)

  kinds_same : (parts : List (Part (AnyGroup N n o e p h))) → map (λ g. g.kind) (map group_kept parts)
      ≡ kinds_kept parts
  kinds_same [] = refl
  kinds_same (part ∷ parts) = ap (λ (l : List Kind). (any_form part.group).kind ∷ l) (kinds_same parts)

  groups_same : (parts : List (Part (AnyGroup N n o e p h))) → groups_of (parts_kept parts) (kinds_kept parts)
      ≡ map group_kept parts
  groups_same [] = refl
  groups_same (part ∷ parts) = ap (λ (l : List PackedGroup). group_kept part ∷ l) (groups_same parts)

  module _ (rows cols : ℕ) (parts : List (Part (AnyGroup N n o e p h))) where
    abbrev layout_here : Layout
    layout_here = record { rows = rows; cols = cols; parts = parts_kept parts }

    -- the table is canonical
    pub table_canonical : (bits : ℕ) → IsFile 8 bits (in_file rows cols parts)
        → IsCanonical bits (record { rows = rows; cols = cols; parts = parts_kept parts }) (kinds_kept parts)
    table_canonical bits good =
        let l = in_file rows cols parts in
        subst (λ (kinds : List Kind). IsCanonical bits layout_here kinds) (kinds_same parts)
        (subst (λ (ps : List LayoutPart). IsCanonical bits (record { rows = rows; cols = cols; parts = ps })
        (kinds_in l)) (parts_same parts) (canonical_of bits l good))

    -- its encoding is that of the file's layout
    pub table_encoded : encoded 8 (record { rows = rows; cols = cols; parts = parts_kept parts }) (kinds_kept parts)
        ≡ file_bytes 8 (in_file rows cols parts)
    table_encoded = ap (λ (gs : List PackedGroup). file_bytes 8 (record { rows = rows; cols = cols; groups = gs }))
        (groups_same parts)

    -- and as long
    pub table_length : (table : TableOf (AnyGroup N n o e p h))
        → table ≡ record { rows = rows; cols = cols; flipped = false; parts = parts }
        → length (encoded 8 (layout_of any_codes any_dictionary table) (kinds_of table))
        ≡ length (file_bytes 8 (in_file rows cols parts))
    table_length table is =
        ap (λ (t : TableOf (AnyGroup N n o e p h)).
        length (encoded 8 (layout_of any_codes any_dictionary t) (kinds_of t))) is
        ∙ ap (λ (l : List ℕ). length l) table_encoded
