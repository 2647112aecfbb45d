-- Layouts with their kinds are packed layouts.
use Rattle.std.proofs.Common.{◌≡◌, ℕ, ◌≤◌, List, [], ◌∷◌, length, map, refl, sym, ap, subst, ◌∙◌, arith, Ok, Err}
use Rattle.std.proofs.Common.{None, Result}
use Rattle.cla_layout.specs.declared.kind.Kind.{Kind}
use Rattle.cla_layout.specs.Layouts.{LayoutPart, Layout}
use Rattle.cla_layout.specs.Canonical.{IsCanonical}
use Rattle.cla_packed.specs.declared.fault.PackFault.{PackFault}
use Rattle.cla_packed.specs.Fields.{IsBytes, whole_at}
use Rattle.cla_packed.specs.Files.{PackedGroup, PackedLayout, file_at, file_bytes}
use Rattle.cla_packed.specs.Layouts.{part_of, layout_in, kinds_in, groups_of, packed_of, encoded, fault_in}
use Rattle.cla_packed.specs.Layouts.{first_bad_field}
use Rattle.cla_packed_laws.specs.Laws.{IsEncodedIn}
use Rattle.cla_packed_laws.proofs.Files.{file_form}
use Rattle.cla_packed_laws.proofs.Canonical.{canonical_from, file_from}

parts_back : (parts : List LayoutPart) (kinds : List Kind) → length kinds ≡ length parts
    → map part_of (groups_of parts kinds) ≡ parts
parts_back [] kinds e = refl
parts_back (part ∷ parts) [] e = absurd (omega (arith, e))
parts_back (part ∷ parts) (kind ∷ kinds) e =
    ap (λ (ps : List LayoutPart). part ∷ ps) (parts_back parts kinds (omega (arith, e)))

kinds_back : (parts : List LayoutPart) (kinds : List Kind) → length kinds ≡ length parts
    → map (λ (g : PackedGroup). g.kind) (groups_of parts kinds) ≡ kinds
kinds_back [] [] e = refl
kinds_back [] (kind ∷ kinds) e = absurd (omega (arith, e))
kinds_back (part ∷ parts) [] e = absurd (omega (arith, e))
kinds_back (part ∷ parts) (kind ∷ kinds) e =
    ap (λ (ks : List Kind). kind ∷ ks) (kinds_back parts kinds (omega (arith, e)))

groups_back : (groups : List PackedGroup) → groups_of (map part_of groups) (map (λ (g : PackedGroup). g.kind) groups)
    ≡ groups
groups_back [] = refl
groups_back (g ∷ groups) = ap (λ (gs : List PackedGroup). g ∷ gs) (groups_back groups)

pub layout_back : (layout : Layout) (kinds : List Kind) → length kinds ≡ length layout.parts
    → layout_in (packed_of layout kinds) ≡ layout
layout_back layout kinds e = ap (λ (ps : List LayoutPart). record {
  rows = layout.rows;
  cols = layout.cols;
  parts =
      ps;
}) (parts_back layout.parts kinds e)

pub packed_back : (l : PackedLayout) → packed_of (layout_in l) (kinds_in l) ≡ l
packed_back l = ap (λ (gs : List PackedGroup). record { rows = l.rows; cols = l.cols; groups = gs })
    (groups_back l.groups)

canonical_packed : (bits : ℕ) (layout : Layout) (kinds : List Kind) → IsCanonical bits layout kinds
    → IsCanonical bits (layout_in (packed_of layout kinds)) (kinds_in (packed_of layout kinds))
canonical_packed bits layout kinds c =
    subst (λ (ks : List Kind). IsCanonical bits (layout_in (packed_of layout kinds)) ks)
    (sym (kinds_back layout.parts kinds c.a_kind_each))
    (subst (λ (l : Layout). IsCanonical bits l kinds) (sym (layout_back layout kinds c.a_kind_each)) c)

-- the bytes of a canonical layout are read as it
is_read : (limit : ℕ) (layout : Layout) (kinds : List Kind) → IsCanonical 47 layout kinds
    → length (encoded 8 layout kinds) ≤ limit
    → whole_at (file_at 8 47) limit (encoded 8 layout kinds) ≡ Ok (packed_of layout kinds)
is_read limit layout kinds c small = (file_form 8 47 (omega arith, refl)).again limit (packed_of layout kinds)
    (file_from (packed_of layout kinds) (canonical_packed 47 layout kinds c)) small

pub no_bad_field : (limit : ℕ) (layout : Layout) (kinds : List Kind) → IsCanonical 47 layout kinds
    → length (encoded 8 layout kinds) ≤ limit
    → first_bad_field 8 47 limit (encoded 8 layout kinds) ≡ None
no_bad_field limit layout kinds c small = ap (λ (r : Result PackedLayout PackFault). fault_in r)
    (is_read limit layout kinds c small)

without_fault : {A : Type 0} (r : Result A PackFault) → fault_in r ≡ None → (a : A) × (r ≡ Ok a)
without_fault (Ok a) e = (a, refl)
without_fault (Err fault) e = absurd (cc)

same_ok : {A : Type 0} (r : Result A PackFault) (a b : A) → r ≡ Ok a → r ≡ Ok b → a ≡ b
same_ok r a b e f = cc

one_of : (limit : ℕ) (file : List ℕ) (l : PackedLayout) → IsBytes file → whole_at (file_at 8 47) limit file ≡ Ok l
    → IsEncodedIn file (layout_in l) (kinds_in l) × (length file ≤ limit)
one_of limit file l fits e =
    let t = (file_form 8 47 (omega arith, refl)).takes limit file l fits e in (
      record {
        canonical = canonical_from l t.0;
        bytes = ap (λ (p : PackedLayout). file_bytes 8 p) (packed_back l) ∙ t.1;
        only = λ layout kinds c same.
            let few : length (encoded 8 layout kinds) ≤ limit =
            subst (λ (bs : List ℕ). length bs ≤ limit) (sym same) t.2 in
            let read = subst (λ (bs : List ℕ). whole_at (file_at 8 47) limit bs ≡ Ok (packed_of layout kinds)) same
            (is_read limit layout kinds c few) in
            let one : packed_of layout kinds ≡ l =
            same_ok (whole_at (file_at 8 47) limit file) (packed_of layout kinds) l read e in (
              sym (layout_back layout kinds c.a_kind_each) ∙ ap (λ (p : PackedLayout). layout_in p) one,
              sym (kinds_back layout.parts kinds c.a_kind_each) ∙ ap (λ (p : PackedLayout). kinds_in p) one,
            );
      },
      t.2,
    )

pub one_layout : (limit : ℕ) (file : List ℕ) → IsBytes file → first_bad_field 8 47 limit file ≡ None
    → (layout : Layout) × (kinds : List Kind) × IsEncodedIn file layout kinds × (length file ≤ limit)
one_layout limit file fits none =
    let l = without_fault (whole_at (file_at 8 47) limit file) none in
    let one = one_of limit file l.0 fits l.1 in
    (layout_in l.0, kinds_in l.0, one.0, one.1)
