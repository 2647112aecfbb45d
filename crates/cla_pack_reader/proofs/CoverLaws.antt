-- Which rows are in lists, by the first one that is in none.
use Rattle.std.proofs.Common.{◌≡◌, ℕ, ◌+◌, ◌<◌, ◌≤◌, Bool, true, false, cond, eqb, Option, Some, None, is_some, List}
use Rattle.std.proofs.Common.{[], ◌∷◌, length, map, refl, sym, ap, ◌∙◌, arith, inl, inr}
use Rattle.std.specs.Prelude.{not, unwrap_or}
use Rattle.std.specs.List.{position_or_len, range_with_len}
use Rattle.std.proofs.lemmas.Bool.{cases_Bool, cases_lt, lt-ltb, le-ltb, eq-eqb, ne_eqb, not-true, false≢true}
use Rattle.std.proofs.lemmas.List.FromFn.{length-map-range_with_len}
use Rattle.cla_layout.specs.Groups.{first_row_of}
use Rattle.cla_layout.specs.Listed.{numbered_rest}
use Rattle.cla_packed.specs.Codes.{has}
use Rattle.cla_packed.specs.Lists.{named, owner_in, owners_of}
use Rattle.cla_packed.specs.Rests.{all_named}
use Rattle.cla_packed_laws.proofs.Codes.{first_among}
use Rattle.cla_packed_laws.proofs.Listed.{named_owner, unnamed_is}
use Rattle.cla_pack_reader.specs.ListedParts.{flag, HaveOwners, AreAllListed, HasRest}
use Rattle.cla_pack_reader.specs.ListedRows.{AreNamed}
use Rattle.cla_pack_reader.proofs.ListedCodes.{has_first}

-- ---- the first row without a mark is the first that has no owner

not_named : (lists : List (List ℕ)) (i : ℕ) → not (named lists i) ≡ eqb (owner_in lists i) (length lists)
not_named lists i =
    let h = named_owner lists i in
    elim (cases_lt (owner_in lists i) (length lists)) [
      | inl listed ↦ ap not (h.0 ∙ lt-ltb (owner_in lists i) (length lists) listed)
          ∙ sym (ne_eqb (owner_in lists i) (length lists) (λ e. omega (arith, e, listed)))
      | inr none ↦ ap not (h.0 ∙ le-ltb (owner_in lists i) (length lists) none)
          ∙ sym (eq-eqb (owner_in lists i) (length lists) (omega (arith, none, h.1)))
    ]

same_place : (lists : List (List ℕ)) (rows : List ℕ) → position_or_len not (map (named lists) rows)
    ≡ position_or_len (λ o. eqb o (length lists)) (map (owner_in lists) rows)
same_place lists [] = refl
same_place lists (i ∷ rows) = λ j. cond (not (not_named lists i j)) (1 + same_place lists rows j) 0

pub first_is_unlisted : (rows d : ℕ) (lists : List (List ℕ)) (marks : List Bool) → length lists ≡ d
    → AreNamed rows lists marks
    → numbered_rest (length marks) (position_or_len not marks)
    ≡ numbered_rest rows (first_row_of (owners_of rows lists) d)
first_is_unlisted rows d lists marks count are =
    let size : length marks ≡ rows = ap (λ (l : List Bool). length l) are
    ∙ length-map-range_with_len (named lists) 0 rows in
    let first : position_or_len not marks ≡ first_row_of (owners_of rows lists) d = ap (position_or_len not) are
    ∙ same_place lists (range_with_len 0 rows)
    ∙ ap (λ (k : ℕ). first_row_of (owners_of rows lists) k) count in
    λ j. numbered_rest (size j) (first j)

-- ---- whether there is one

module _ (rows d : ℕ) (owners : List ℕ) (unlisted : Option ℕ) (h : HaveOwners rows d owners unlisted) where
  here : first_row_of owners d < rows → unlisted ≡ Some (first_row_of owners d)
  here lt = h.unlisted_is
      ∙ ap (λ (b : Bool). cond b (Some (first_row_of owners d)) None) (lt-ltb (first_row_of owners d) rows lt)

  nowhere : rows ≤ first_row_of owners d → unlisted ≡ None
  nowhere le = h.unlisted_is
      ∙ ap (λ (b : Bool). cond b (Some (first_row_of owners d)) None) (le-ltb (first_row_of owners d) rows le)

  unlisted_has : is_some unlisted ≡ has owners d
  unlisted_has = elim (cases_lt (first_row_of owners d) rows) [
    | inl lt ↦ ap is_some (here lt)
        ∙ sym (has_first owners d (omega (arith, lt, h.owners_are.count)))
    | inr le ↦ ap is_some (nowhere le) ∙ elim (cases_Bool (has owners d)) [
      | inl there ↦ absurd (omega (arith, (first_among owners [] d there).1, le, h.owners_are.count))
      | inr none ↦ sym none
    ]
  ]

pub all_listed : (rows d : ℕ) (owners : List ℕ) → HaveOwners rows d owners None → AreAllListed rows d owners
all_listed rows d owners h = record {
  owners_are = h.owners_are;
  all = sym (unlisted_has rows d owners None h);
}

pub some_unlisted : (rows d : ℕ) (owners : List ℕ) (first : ℕ) → HaveOwners rows d owners (Some first)
    → HasRest rows d owners first
some_unlisted rows d owners first h = elim (cases_lt (first_row_of owners d) rows) [
  | inl lt ↦
      let same : first ≡ first_row_of owners d =
      ap (λ (o : Option ℕ). unwrap_or o 0) (here rows d owners (Some first) h lt) in
      record { owners_are = h.owners_are; some = omega (arith, same, lt); first_is = same }
  | inr le ↦ absurd (false≢true (sym (ap is_some (nowhere rows d owners (Some first) h le))))
]

-- ---- the test of the cover

pub cover_test : (has_rest some all : Bool) → some ≡ not all
    → cond has_rest some (not some) ≡ cond (eqb (flag has_rest) 0) all (not all)
cover_test true some all e = e
cover_test false some true e = ap not e
cover_test false some false e = ap not e

pub covered_has : (has_rest some : Bool) → cond has_rest some (not some) ≡ true → some ≡ has_rest
covered_has true some e = e
covered_has false some e = not-true some e

-- by the first row that is in no list
pub some_not_all : (rows d : ℕ) (lists : List (List ℕ)) (unlisted : Option ℕ) → length lists ≡ d
    → HaveOwners rows d (owners_of rows lists) unlisted → is_some unlisted ≡ not (all_named rows lists)
some_not_all rows d lists unlisted count h =
    unlisted_has rows d (owners_of rows lists) unlisted h ∙ ap (has (owners_of rows lists)) (sym count)
    ∙ unnamed_is rows lists
