-- Lists of rows, with the lists of codes that they are.
use Rattle.std.proofs.Common.{◌≡◌, ℕ, ◌+◌, ◌<◌, ◌≤◌, List, map, refl, sym, ap, ◌∙◌, arith}
use Rattle.std.specs.List.{insert}
use Rattle.std.proofs.lemmas.Bool.{eq-eqb, ne_eqb, lt-ltb, le-ltb}
use Rattle.std.proofs.lemmas.List.{length-map}
use Rattle.cla_spec.specs.Matrix.{most_cells}
use Rattle.cla_layout.specs.Groups.{code_of, first_row_of}
use Rattle.cla_layout.specs.Listed.{rows_of}
use Rattle.cla_rows.specs.Chains.{lists_to, begins_to}
use Rattle.cla_offsets.specs.RowLists.{AreRowLists}
use Rattle.cla_offsets.specs.Segments.{listed}
use Rattle.cla_packed.specs.Lists.{AreOwners}
use Rattle.cla_packed.specs.Rests.{with_rest}
use Rattle.cla_pack_reader.proofs.InsertedLists.{IsPut, lists_same, begins_same, put_lists, put_begins}
use Rattle.cla_pack_reader.proofs.Renumbered.{code_rows, rest_numbers, rest_first}

module _ (rows d : ℕ) (owners starts places : List ℕ) (o : AreOwners rows d owners) (few : rows ≤ most_cells)
    (starts_are : starts ≡ begins_to (rows_of owners) (d + 1))
    (places_are : places ≡ lists_to (rows_of owners) d) where
  -- each row is listed
  pub all_in_lists : d ≤ rows → ((i : ℕ) → i < rows → code_of owners i < d)
      → AreRowLists owners rows d d rows starts places
  all_in_lists few_tuples in_tuples =
      let same : (k : ℕ) → k < d → listed owners d k ≡ rows_of owners k = λ k lt.
      rw (ne_eqb k d (λ e. omega (arith, e, lt))) refl in
      record {
        count = o.count;
        few = few;
        few_tuples = omega (arith, few, few_tuples);
        in_tuples = in_tuples;
        starts_are = starts_are ∙ sym (begins_same (listed owners d) (rows_of owners) d same);
        places_are = places_are ∙ sym (lists_same (listed owners d) (rows_of owners) d same);
        unlisted = λ lt. absurd (omega (arith, lt));
      }

  module _ (r : ℕ) (fits : r ≤ d) where
    rows_before : (k : ℕ) → k < r → listed (map (with_rest d r) owners) r k ≡ rows_of owners k
    rows_before k lt =
        let is : with_rest d r k ≡ k = rw (ne_eqb k d (λ e. omega (arith, e, lt, fits)), lt-ltb k r lt) refl in
        rw (ne_eqb k r (λ e. omega (arith, e, lt)))
        (ap (rows_of (map (with_rest d r) owners)) (sym is)
        ∙ code_rows d (with_rest d r) owners (map (with_rest d r) owners) (rest_numbers rows d r owners o fits) k
        (omega (arith, lt, fits)))

    rows_behind : (k : ℕ) → r ≤ k → k < d → listed (map (with_rest d r) owners) r (k + 1) ≡ rows_of owners k
    rows_behind k le lt =
        let is : with_rest d r k ≡ k + 1 = rw (ne_eqb k d (λ e. omega (arith, e, lt)), le-ltb k r le) refl in
        rw (ne_eqb (k + 1) r (λ e. omega (arith, e, le)))
        (ap (rows_of (map (with_rest d r) owners)) (sym is)
        ∙ code_rows d (with_rest d r) owners (map (with_rest d r) owners) (rest_numbers rows d r owners o fits) k
        (omega (arith, lt)))

    put : IsPut (listed (map (with_rest d r) owners) r) (rows_of owners) r d
    put = record {
      within = fits;
      before = rows_before;
      here = rw (eq-eqb r r refl) refl;
      behind = rows_behind;
    }

    -- the rest has no list
    pub in_lists_but_rest : (first : ℕ) → first ≡ first_row_of owners d → d + 1 ≤ rows
        → ((i : ℕ) → i < rows → code_of (map (with_rest d r) owners) i < d + 1)
        → AreRowLists (map (with_rest d r) owners) rows (d + 1) r first (insert starts r (code_of starts r)) places
    in_lists_but_rest first first_is few_tuples in_tuples =
        let codes = map (with_rest d r) owners in
        record {
          count = length-map owners (with_rest d r) ∙ o.count;
          few = few;
          few_tuples = omega (arith, few, few_tuples);
          in_tuples = in_tuples;
          starts_are = ap (λ (l : List ℕ). insert l r (code_of l r)) starts_are
              ∙ sym (put_begins (listed codes r) (rows_of owners) r d put);
          places_are = places_are ∙ sym (put_lists (listed codes r) (rows_of owners) r d put);
          unlisted = λ lt. first_is ∙ sym (rest_first rows d r owners o fits);
        }
