-- What files in memory tell, by a look-up.
use Rattle.std.proofs.Common.{arith, ◌≡◌, ℕ, List, [], ◌∷◌, Option, Some, None, option_map, Bool, cond, true, false}
use Rattle.std.proofs.Common.{refl, sym, ap, ◌∙◌, Bor}
use Rattle.std.specs.Prelude.{option_copied, IsSome, unwrap_or, ◌++◌}
use Rattle.std.specs.Ordering.{nat_cmp, is_eq, eq_by_cmp}
use Rattle.std.specs.Cmp.Lexicographic.{slice_cmp, nat_list_cmp_total}
use Rattle.std.specs.Cmp.{eq_by_cmp_equiv, Equal-is}
use Rattle.std.specs.FinMap as fin
use Rattle.std.specs.BTreeMap.{BTreeMap, get_by, is_at}
use Rattle.std.specs.Map.{lookup}
use Rattle.std.specs.declared.vec.Vec.{Vec}
use Rattle.std.specs.declared.alloc.Global.{Global}
use Rattle.std.proofs.lemmas.Map.Text.{is_eq-slice_cmp}
use Rattle.std.specs.Str.{bytes_eq}
use Rattle.cla_spec.specs.Files.{Told, bytes_at}
use Rattle.cla_io.specs.MemTold.{told_items, told_of}

-- the bytes of a file
abbrev pub items_of : Vec ℕ Global → List ℕ
items_of bytes = bytes.items

found_items : (name : List ℕ) (entries : List (List ℕ × Vec ℕ Global)) →
    fin.find (slice_cmp nat_cmp) name (told_items entries)
    ≡ option_map items_of (lookup (is_at (slice_cmp nat_cmp name)) entries)
found_items name [] = refl
found_items name (e ∷ es) =
    elim (is_eq (slice_cmp nat_cmp name e.0)) as
    (λ b. cond b (Some e.1.items) (fin.find (slice_cmp nat_cmp) name (told_items es))
    ≡ option_map items_of (cond b (Some e.1) (lookup (is_at (slice_cmp nat_cmp name)) es))) [
      | true ↦ refl
      | false ↦ found_items name es
    ]

-- what a scan of the entries finds
pub told_by_scan : (name : List ℕ) (entries : List (List ℕ × Vec ℕ Global)) → fin.get (told_of entries) name
    ≡ fin.find (slice_cmp nat_cmp) name (told_items entries)
told_by_scan name entries = fin.get-from_entries nat_list_cmp_total (told_items entries) name

copied_items : (found : Option (Bor (Vec ℕ Global))) → option_map items_of (option_copied found)
    ≡ option_map (λ (b : Bor (Vec ℕ Global)). b.now.items) found
copied_items None = refl
copied_items (Some b) = refl

-- what a look-up gives
pub told_by_get : (name : List ℕ) (files : BTreeMap (List ℕ) (Vec ℕ Global)) (found : Option (Bor (Vec ℕ Global))) →
    option_copied found ≡ get_by (slice_cmp nat_cmp name) files → fin.get (told_of files.entries) name
    ≡ option_map (λ (b : Bor (Vec ℕ Global)). b.now.items) found
told_by_get name files found is = told_by_scan name files.entries ∙ found_items name files.entries
    ∙ ap (option_map items_of) (sym is) ∙ copied_items found

-- the first entry of a scan
pub scan_hit : (name key : List ℕ) (bytes : Vec ℕ Global) (all rest : List (List ℕ × Vec ℕ Global)) →
    all ≡ (key, bytes) ∷ rest → bytes_eq name key ≡ true → fin.find (slice_cmp nat_cmp) name (told_items all)
    ≡ Some bytes.items
scan_hit name key bytes all rest first is = rw (first, is_eq-slice_cmp name key, is)

pub scan_miss : (name key : List ℕ) (bytes : Vec ℕ Global) (all rest : List (List ℕ × Vec ℕ Global)) →
    all ≡ (key, bytes) ∷ rest → bytes_eq name key ≡ false → fin.find (slice_cmp nat_cmp) name (told_items all)
    ≡ fin.find (slice_cmp nat_cmp) name (told_items rest)
scan_miss name key bytes all rest first is = rw (first, is_eq-slice_cmp name key, is)

-- what they tell at a name is what the map has there
told_at_key : (q : List ℕ) (files : BTreeMap (List ℕ) (Vec ℕ Global)) → fin.get (told_of files.entries) q
    ≡ option_map items_of (get_by (slice_cmp nat_cmp q) files)
told_at_key q files = told_by_scan q files.entries ∙ found_items q files.entries

some_mapped : (found : Option (Vec ℕ Global)) → IsSome (option_map items_of found) → IsSome found
some_mapped None h = h
some_mapped (Some bytes) h = grind arith

-- names that tie are equal
pub ties_equal : fin.IsAntisymmetric (slice_cmp nat_cmp)
ties_equal = fin.slice_cmp-IsAntisymmetric fin.nat_cmp-IsAntisymmetric

pub name_equal : (name other : List ℕ) → eq_by_cmp (slice_cmp nat_cmp) name other ≡ true → name ≡ other
name_equal name other e = ties_equal name other ((Equal-is (slice_cmp nat_cmp name other)).0 e)

mapped_cond : (b : Bool) (bytes : Vec ℕ Global) (found : Option (Vec ℕ Global)) →
    option_map items_of (cond b (Some bytes) found) ≡ cond b (Some bytes.items) (option_map items_of found)
mapped_cond true bytes found = refl
mapped_cond false bytes found = refl

-- names tie both ways alike
tied : (name q : List ℕ) → is_eq (slice_cmp nat_cmp name q) ≡ is_eq (slice_cmp nat_cmp q name)
tied name q = (eq_by_cmp_equiv nat_list_cmp_total).symm name q

-- one file has other bytes
pub told_updated : (old new : BTreeMap (List ℕ) (Vec ℕ Global)) (name : List ℕ) (bytes : Vec ℕ Global)
    → ((q : List ℕ) → get_by (slice_cmp nat_cmp q) new ≡ cond (is_at (slice_cmp nat_cmp name) q) (Some bytes)
    (get_by (slice_cmp nat_cmp q) old))
    → told_of new.entries ≡ fin.insert (told_of old.entries) name bytes.items
told_updated old new name bytes updates =
    fin.same_map nat_list_cmp_total ties_equal (told_of new.entries) (fin.insert (told_of old.entries) name bytes.items)
    (λ q.
    told_at_key q new ∙ ap (option_map items_of) (updates q)
    ∙ mapped_cond (is_at (slice_cmp nat_cmp name) q) bytes (get_by (slice_cmp nat_cmp q) old)
    ∙ ap (λ (found : Option (List ℕ)). cond (is_eq (slice_cmp nat_cmp name q)) (Some bytes.items) found)
    (sym (told_at_key q old))
    ∙ ap (λ (b : Bool). cond b (Some bytes.items) (fin.get (told_of old.entries) q)) (tied name q)
    ∙ sym (fin.get-insert nat_list_cmp_total (told_of old.entries) name bytes.items q))

-- to write the bytes again that a file has changes nothing
same_again : (told : Told) (name bytes : List ℕ) → fin.get told name ≡ Some bytes → fin.insert told name bytes ≡ told
same_again told name bytes is = fin.same_map nat_list_cmp_total ties_equal (fin.insert told name bytes) told (λ q.
    fin.get-insert nat_list_cmp_total told name bytes q
    ∙ (elim (eq_by_cmp (slice_cmp nat_cmp) q name) as (λ (b : Bool). eq_by_cmp (slice_cmp nat_cmp) q name ≡ b →
    cond b (Some bytes) (fin.get told q) ≡ fin.get told q) [
      | true ↦ λ e. sym is ∙ ap (fin.get told) (sym (name_equal q name e))
      | false ↦ λ e. refl
    ]) refl)

-- there is an entry for a name that they tell
pub entry_there : (name : List ℕ) (files : BTreeMap (List ℕ) (Vec ℕ Global)) →
    IsSome (fin.get (told_of files.entries) name) → IsSome (get_by (slice_cmp nat_cmp name) files)
entry_there name files there =
    some_mapped (get_by (slice_cmp nat_cmp name) files) (rw (told_at_key name files) at there)

-- a file's bytes grew
pub told_grown : (old new : BTreeMap (List ℕ) (Vec ℕ Global)) (name piece : List ℕ) (bytes grown : Vec ℕ Global)
    → Some bytes ≡ get_by (slice_cmp nat_cmp name) old
    → ((q : List ℕ) → get_by (slice_cmp nat_cmp q) new ≡ cond (is_at (slice_cmp nat_cmp name) q) (Some grown)
    (get_by (slice_cmp nat_cmp q) old))
    → grown.items ≡ bytes.items ++ piece
    → told_of new.entries ≡ fin.insert (told_of old.entries) name (bytes_at (told_of old.entries) name ++ piece)
told_grown old new name piece bytes grown there updates grew =
    told_updated old new name grown updates
    ∙ ap (fin.insert (told_of old.entries) name) (grew
    ∙ ap (λ (found : Option (List ℕ)). unwrap_or found [] ++ piece) (ap (option_map items_of) there
    ∙ sym (told_at_key name old)))

-- a file's bytes stayed
pub told_kept : (old new : BTreeMap (List ℕ) (Vec ℕ Global)) (name : List ℕ) (bytes same : Vec ℕ Global)
    → Some bytes ≡ get_by (slice_cmp nat_cmp name) old
    → ((q : List ℕ) → get_by (slice_cmp nat_cmp q) new ≡ cond (is_at (slice_cmp nat_cmp name) q) (Some same)
    (get_by (slice_cmp nat_cmp q) old))
    → same.items ≡ bytes.items
    → told_of new.entries ≡ told_of old.entries
told_kept old new name bytes same there updates is =
    told_updated old new name same updates ∙ same_again (told_of old.entries) name same.items (told_at_key name old
    ∙ ap (option_map items_of) (sym there) ∙ ap Some (sym is))
