-- Lists that were read, and the test of the rows that they have.
use Rattle.std.proofs.Common.{◌≡◌, ℕ, ◌^◌, ◌<◌, ◌≤◌, Bool, true, cond, eqb, Option, is_some, List, [], length, sym, ◌∙◌}
use Rattle.std.specs.Prelude.{not}
use Rattle.std.specs.List.{position_or_len}
use Rattle.cla_io.specs.Lines.{Progress}
use Rattle.cla_io.specs.State.{State}
use Rattle.cla_layout.specs.Listed.{numbered_rest}
use Rattle.cla_packed.specs.Fields.{list_at}
use Rattle.cla_packed.specs.Lists.{owners_of}
use Rattle.cla_packed.specs.Rests.{all_named}
use Rattle.cla_pack_reader.specs.ListedParts.{flag, HaveOwners}
use Rattle.cla_pack_reader.specs.ListedRows.{AreNamed}
use Rattle.cla_pack_reader.specs.Listings.{Listing, rows_at}
use Rattle.cla_pack_reader.specs.Places.{places_of, Took}
use Rattle.cla_pack_reader.proofs.CoverLaws.{first_is_unlisted, cover_test, covered_has, some_not_all}
use Rattle.cla_pack_reader.proofs.ListsTaken.{AreOwned, lists_owned}

-- the first row that is in no list, and whether it is there where it is to be
pub record AreTested (rows d : ℕ) (lists : List (List ℕ)) (unlisted : Option ℕ) (has_rest covered : Bool) : Type 0
  where
    pub owned : AreOwned rows d lists
    pub have : HaveOwners rows d (owners_of rows lists) unlisted
    pub test : covered ≡ cond (eqb (flag has_rest) 0) (all_named rows lists) (not (all_named rows lists))
    pub has : covered ≡ true → is_some unlisted ≡ has_rest

pub lists_tested : (listing : Listing) (rows group d : ℕ) (lists : List (List ℕ)) (t1 t2 : Progress) (s1 s2 : State)
    (marks : List Bool) (unlisted : Option ℕ) (has_rest covered : Bool) → 0 < rows → rows < 2 ^ 31
    → t1.at ≤ t1.limit
    → Took (places_of t1 s1) (places_of t2 s2) (list_at (λ left earlier. rows_at listing rows group earlier) d []) lists
    → AreNamed rows lists marks → unlisted ≡ numbered_rest (length marks) (position_or_len not marks)
    → covered ≡ cond has_rest (is_some unlisted) (not (is_some unlisted))
    → AreTested rows d lists unlisted has_rest covered
lists_tested listing rows group d lists t1 t2 s1 s2 marks unlisted has_rest covered some few near took named unlisted_is
    covered_is =
    let owned = lists_owned listing rows group d lists t1 t2 s1 s2 some few near took in
    let have : HaveOwners rows d (owners_of rows lists) unlisted = record {
      owners_are = owned.owners_are;
      unlisted_is = unlisted_is ∙ first_is_unlisted rows d lists marks owned.count named;
    } in
    record {
      owned = owned;
      have = have;
      test = covered_is ∙ cover_test has_rest (is_some unlisted) (all_named rows lists)
          (some_not_all rows d lists unlisted owned.count have);
      has = λ e. covered_has has_rest (is_some unlisted) (sym covered_is ∙ e);
    }
