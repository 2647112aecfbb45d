-- What groups are made of, where their tuples are listed with their rows.
use Rattle.std.proofs.Common.{mul-le-mul_left, ◌≡◌, ℕ, ℤ, pos, ◌+◌, ◌*◌, ◌^◌, ◌≤◌, List, ◌∷◌, length, map, take, drop}
use Rattle.std.proofs.Common.{replicate, refl, sym, ap, subst, ◌∙◌, arith, inl, inr}
use Rattle.std.specs.List.{insert}
use Rattle.std.proofs.lemmas.Bool.{eq-eqb}
use Rattle.std.proofs.lemmas.List.{length-append, length-drop, length-take-le, map-id}
use Rattle.std.proofs.lemmas.List.FromFn.{length-map-range_with_len}
use Rattle.cla_group.specs.Dictionaries.{DictionaryOf}
use Rattle.cla_layout.specs.Groups.{code_of}
use Rattle.cla_layout.specs.Tuples.{tuple_at, tuples_of}
use Rattle.cla_offsets.specs.RowLists.{AreRowLists}
use Rattle.cla_packed.specs.Lists.{lists_of}
use Rattle.cla_packed.specs.Rests.{rest_code, with_rest, with_tuple}
use Rattle.cla_runs.specs.declared.run_list.KeyedRun.{KeyedRun}
use Rattle.cla_runs.specs.KeyedRuns.{AreKeyedRuns}
use Rattle.cla_pack_reader.specs.Keys.{keyed}
use Rattle.cla_pack_reader.specs.ListedParts.{AreAllListed, AreFewCells, AreGrouped, HasRest, IsDictionaryFor}
use Rattle.cla_pack_reader.specs.ListedRows.{AreListsOf, AreRunsOf}
use Rattle.cla_pack_reader.proofs.KeyedRunLaws.{keyed_runs}
use Rattle.cla_pack_reader.proofs.ListedCodes.{all_below, all_few, rest_below, rest_few, rest_fits}
use Rattle.cla_pack_reader.proofs.ListsTaken.{owned_rows, list_count, by_owner}
use Rattle.cla_pack_reader.proofs.Renumbered.{own_numbers, rest_numbers}
use Rattle.cla_pack_reader.proofs.RowListLaws.{all_in_lists, in_lists_but_rest}

pub few_rows : (rows width : ℕ) → AreFewCells rows width → rows ≤ 2 ^ 26
few_rows rows width cells = (let wide : rows * 1 ≤ rows * width = mul-le-mul_left rows cells.a_column in
    omega (arith, wide, cells.few))

tuples_size : (width d : ℕ) (values : List ℤ) → length (tuples_of width d values) ≡ d
tuples_size width d values = length-map-range_with_len (tuple_at width values) 0 d

one_more : (r d : ℕ) (z : List ℤ) (ts : List (List ℤ)) → length ts ≡ d → r ≤ d → length (with_tuple r z ts) ≡ d + 1
one_more r d z ts size le = omega (
  arith,
  length-append (take r ts) (z ∷ drop r ts),
  length-take-le r ts (omega (arith, size, le)),
  length-drop r ts,
  size,
  le,
)

-- ---- each row is listed

whole_lists : (starts places : List ℕ) (rows width d : ℕ) (owners : List ℕ) → AreFewCells rows width
    → AreAllListed rows d owners → AreListsOf (lists_of d owners) starts places
    → AreRowLists owners rows d d rows starts places
whole_lists starts places rows width d owners cells all s =
    let by = by_owner d owners starts places s in
    all_in_lists rows d owners starts places all.owners_are (few_rows rows width cells) by.0 by.1
    (all_few rows width d owners cells all) (all_below rows width d owners cells all)

pub lists_grouped : (starts places codes : List ℕ) (rows tuples rest first : ℕ)
    → AreGrouped (λ rows lists. AreListsOf lists starts places)
    (λ codes rows tuples rest first. AreRowLists codes rows tuples rest first starts places) codes rows tuples rest
    first
    → AreRowLists codes rows tuples rest first starts places
lists_grouped starts places codes rows tuples rest first h = elim h [
  | inl coded ↦ coded
  | inr w ↦ subst (λ (n : ℕ). AreRowLists codes rows tuples n first starts places) (sym w.4)
      (subst (λ (n : ℕ). AreRowLists codes rows tuples tuples n starts places) (sym w.5)
      (whole_lists starts places rows w.0 tuples codes w.1 w.2 w.3))
]

whole_runs : (runs : List KeyedRun) (rows width d : ℕ) (owners : List ℕ) → AreFewCells rows width
    → AreAllListed rows d owners → AreRunsOf rows (lists_of d owners) runs → AreKeyedRuns owners rows d d runs
whole_runs runs rows width d owners cells all s =
    subst (λ (l : List KeyedRun). AreKeyedRuns owners rows d d l) (map-id runs)
    (keyed_runs rows d d (λ o. o) owners owners all.owners_are (own_numbers rows d owners all.owners_are)
    (lists_of d owners) (list_count d owners) (owned_rows d owners) runs s (few_rows rows width cells)
    (all_below rows width d owners cells all))

pub runs_grouped : (runs : List KeyedRun) (codes : List ℕ) (rows tuples rest first : ℕ)
    → AreGrouped (λ rows lists. AreRunsOf rows lists runs)
    (λ codes rows tuples rest first. AreKeyedRuns codes rows tuples rest runs) codes rows tuples rest first
    → AreKeyedRuns codes rows tuples rest runs
runs_grouped runs codes rows tuples rest first h = elim h [
  | inl coded ↦ coded
  | inr w ↦ subst (λ (n : ℕ). AreKeyedRuns codes rows tuples n runs) (sym w.4)
      (whole_runs runs rows w.0 tuples codes w.1 w.2 w.3)
]

pub tuples_made : (bits width d : ℕ) (codes : List ℕ) (values : List ℤ) (made : DictionaryOf)
    → IsDictionaryFor bits width codes d (tuples_of width d values) made → length made.tuples ≡ d
tuples_made bits width d codes values made t =
    ap (λ (l : List (List ℤ)). length l) t.tuples_are ∙ tuples_size width d values

-- ---- some row isn't

module _ (rows width d r first : ℕ) (owners : List ℕ) (cells : AreFewCells rows width)
    (h : HasRest rows d owners first) (r_is : r ≡ rest_code d owners) where
  fits : r ≤ d
  fits = (rest_fits rows width d r first owners cells h r_is).within

  pub rest_lists : (starts places new : List ℕ) → AreListsOf (lists_of d owners) starts places
      → new ≡ insert starts r (code_of starts r)
      → AreRowLists (map (with_rest d r) owners) rows (d + 1) r first new places
  rest_lists starts places new s new_is =
      let codes = map (with_rest d r) owners in
      let by = by_owner d owners starts places s in
      subst (λ (l : List ℕ). AreRowLists codes rows (d + 1) r first l places) (sym new_is)
      (in_lists_but_rest rows d owners starts places h.owners_are (few_rows rows width cells) by.0 by.1 r fits first
      h.first_is (rest_few rows width d r first owners cells h r_is)
      (rest_below rows width d r first owners cells h r_is))

  pub rest_runs : (runs new : List KeyedRun) → AreRunsOf rows (lists_of d owners) runs
      → new ≡ map (keyed (with_rest d r)) runs → AreKeyedRuns (map (with_rest d r) owners) rows (d + 1) r new
  rest_runs runs new s new_is =
      let codes = map (with_rest d r) owners in
      let rest : with_rest d r d ≡ r = rw (eq-eqb d d refl) refl in
      subst (λ (l : List KeyedRun). AreKeyedRuns codes rows (d + 1) r l) (sym new_is)
      (subst (λ (k : ℕ). AreKeyedRuns codes rows (d + 1) k (map (keyed (with_rest d r)) runs)) rest
      (keyed_runs rows d (d + 1) (with_rest d r) owners codes h.owners_are
      (rest_numbers rows d r owners h.owners_are fits) (lists_of d owners) (list_count d owners)
      (owned_rows d owners) runs s (few_rows rows width cells)
      (rest_below rows width d r first owners cells h r_is)))

  pub tuples_made_more : (bits : ℕ) (codes : List ℕ) (values : List ℤ) (made : DictionaryOf)
      → IsDictionaryFor bits width codes r (with_tuple r (replicate width (pos 0)) (tuples_of width d values)) made
      → length made.tuples ≡ d + 1
  tuples_made_more bits codes values made t = ap (λ (l : List (List ℤ)). length l) t.tuples_are
      ∙ one_more r d (replicate width (pos 0)) (tuples_of width d values) (tuples_size width d values) fits
