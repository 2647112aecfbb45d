-- Lists that were read, as the rows of owners.
use Rattle.std.proofs.Common.{◌≡◌, ℕ, ℤ, ◌+◌, ◌^◌, ◌<◌, ◌≤◌, Bool, true, false, eqb, List, [], ◌∷◌, ◌++◌, length}
use Rattle.std.proofs.Common.{refl, sym, ap, subst, ◌∙◌, arith, inl, inr}
use Rattle.std.specs.Prelude.{not}
use Rattle.std.specs.List.{AllByRecursion}
use Rattle.std.proofs.lemmas.Bool.{cases_eq, eq-eqb, ne_eqb, and_parts, not-true}
use Rattle.std.proofs.lemmas.List.FromFn.{length-map-range_with_len}
use Rattle.cla_io.specs.Lines.{Progress}
use Rattle.cla_io.specs.State.{State}
use Rattle.cla_layout.specs.Listed.{is_zero, rows_of}
use Rattle.cla_packed.specs.declared.fault.FieldName.TheVariants.{Rest}
use Rattle.cla_packed.specs.Fields.{Place, EachIs, field_at, list_at}
use Rattle.cla_packed.specs.Lists.{IsList, AreOwners, owners_of, lists_of, rows_from}
use Rattle.cla_packed.specs.Rests.{fits_listed}
use Rattle.cla_packed.specs.Values.{IsTuple, is_among, tuples_at}
use Rattle.cla_packed_laws.proofs.Forms.{IsAt, list_form}
use Rattle.cla_packed_laws.proofs.Lists.{owners_from, in_map}
use Rattle.cla_packed_laws.proofs.Values.{tuples_form}
use Rattle.cla_rows.specs.Chains.{lists_to, begins_to}
use Rattle.cla_pack_reader.specs.Listings.{Listing, rows_at}
use Rattle.cla_pack_reader.specs.ListedParts.{flag}
use Rattle.cla_pack_reader.specs.ListedRows.{list_in, AreListsOf}
use Rattle.cla_pack_reader.specs.Places.{places_of, Took}
use Rattle.cla_pack_reader.proofs.InsertedLists.{lists_same, begins_same}
use Rattle.cla_pack_reader.proofs.Renumbered.{rows_are}
use Rattle.cla_pack_reader.proofs.ZeroLaws.{none_bytes, near_field, list_bytes, list_form_of}

-- lists that are those of these owners
pub record AreOwned (rows d : ℕ) (lists : List (List ℕ)) : Type 0 where
  pub count : length lists ≡ d
  pub owners_are : AreOwners rows d (owners_of rows lists)
  pub lists_are : lists_of d (owners_of rows lists) ≡ lists

pub lists_owned : (listing : Listing) (rows group d : ℕ) (lists : List (List ℕ)) (t1 t2 : Progress) (s1 s2 : State)
    → 0 < rows → rows < 2 ^ 31 → t1.at ≤ t1.limit
    → Took (places_of t1 s1) (places_of t2 s2) (list_at (λ left earlier. rows_at listing rows group earlier) d []) lists
    → AreOwned rows d lists
lists_owned listing rows group d lists t1 t2 s1 s2 some few near took =
    let q : Place = record { offset = t2.at; limit = t2.limit; rest = [] } in
    let p = took false q (refl, refl, none_bytes) in
    let at : IsAt p.0 = record { fits = p.1.2; near = omega (arith, p.1.0, p.1.1, near) } in
    let form = list_form (λ left earlier. rows_at listing rows group earlier)
    (λ left earlier list. IsList rows earlier list) (list_bytes listing rows)
    (λ left earlier. list_form_of listing rows group some few earlier) d in
    let l = form.takes p.0 q lists at p.2 in
    let made = owners_from rows lists l.0.1 in
    record {
      count = l.0.0;
      owners_are = subst (λ (n : ℕ). AreOwners rows n (owners_of rows lists)) l.0.0 made.0;
      lists_are = ap (λ (n : ℕ). lists_of n (owners_of rows lists)) (sym l.0.0) ∙ made.1;
    }

pub owned_rows : (d : ℕ) (owners : List ℕ) (t : ℕ) → t < d → list_in (lists_of d owners) t ≡ rows_of owners t
owned_rows d owners t lt = in_map (rows_from 0 owners) d t [] lt ∙ rows_are owners t

pub list_count : (d : ℕ) (owners : List ℕ) → length (lists_of d owners) ≡ d
list_count d owners = length-map-range_with_len (rows_from 0 owners) 0 d

-- the lists of owners one behind the other
pub by_owner : (d : ℕ) (owners starts places : List ℕ) → AreListsOf (lists_of d owners) starts places
    → (starts ≡ begins_to (rows_of owners) (d + 1)) × (places ≡ lists_to (rows_of owners) d)
by_owner d owners starts places s =
    let lists = list_in (lists_of d owners) in
    let count = list_count d owners in (
      s.starts_are ∙ ap (λ (n : ℕ). begins_to lists (n + 1)) count
          ∙ begins_same lists (rows_of owners) d (owned_rows d owners),
      s.places_are ∙ ap (λ (n : ℕ). lists_to lists n) count
          ∙ lists_same lists (rows_of owners) d (owned_rows d owners),
    )

-- ---- tuples that were read

no_zeros : (k bits width : ℕ) (so_far ts : List (List ℤ))
    → EachIs (λ left before tuple. IsTuple k bits width tuple × (fits_listed left before tuple ≡ true)) so_far ts
    → AllByRecursion (λ t. is_zero t ≡ false) ts
no_zeros k bits width so_far [] h = tt
no_zeros k bits width so_far (t ∷ ts) h = (
  not-true (is_zero t) (and_parts (not (is_among so_far t)) (not (is_zero t)) h.0.1).1,
  no_zeros k bits width (so_far ++ t ∷ []) ts h.1,
)

-- none of them is the tuple of zeros, and the input stands within its limit behind them
pub tuples_taken : (bits group width d rest : ℕ) (ts : List (List ℤ)) (test : ℕ → Bool) (t1 t2 t3 : Progress)
    (s1 s2 s3 : State) → 0 < width → Took (places_of t1 s1) (places_of t2 s2) (field_at 1 test group Rest) rest
    → Took (places_of t2 s2) (places_of t3 s3) (tuples_at 8 bits group width fits_listed d) ts
    → AllByRecursion (λ t. is_zero t ≡ false) ts × (t3.at ≤ t3.limit)
tuples_taken bits group width d rest ts test t1 t2 t3 s1 s2 s3 wide flag tuples =
    let q : Place = record { offset = t3.at; limit = t3.limit; rest = [] } in
    let two = tuples false q (refl, refl, none_bytes) in
    let one = flag false two.0 two.1 in
    let at : IsAt two.0 = record { fits = two.1.2; near = near_field 1 test group Rest one.0 two.0 rest one.2 } in
    let t = (tuples_form 8 bits group width fits_listed d wide).takes two.0 q ts at two.2 in
    (no_zeros 8 bits width [] ts t.0.1, t.2.near)

pub flag_is : (n : ℕ) → n ≤ 1 → n ≡ flag (eqb n 1)
flag_is n le = elim (cases_eq n 1) [
  | inl e ↦ e ∙ sym (ap flag (eq-eqb n 1 e))
  | inr other ↦ (let zero_is : n ≡ 0 = omega (arith, le, other) in zero_is ∙ sym (ap flag (ne_eqb n 1 other)))
]
