-- The codes and the dictionary of a group that lists its tuples.
use Rattle.std.proofs.Common.{◌≡◌, ℕ, ℤ, pos, suc, ◌+◌, ◌*◌, ◌/◌, ◌^◌, ◌<◌, ◌≤◌, true, false, List, [], ◌++◌, length}
use Rattle.std.proofs.Common.{map, take, drop, replicate, sym, ap, subst, ◌∙◌, arith, inl, inr}
use Rattle.std.specs.List.{AllByRecursion}
use Rattle.std.proofs.lemmas.Bool.{cases_eq, false≢true}
use Rattle.std.proofs.lemmas.List.{append-nil, length-map, length-replicate, length-take-le, take-append-drop}
use Rattle.std.proofs.lemmas.List.FromFn.{length-map-range_with_len}
use Rattle.cla_group.specs.Dictionaries.{DictionaryOf}
use Rattle.cla_layout.specs.Groups.{code_of, first_row_of, IsGroup}
use Rattle.cla_layout.specs.Listed.{is_zero, rest_of, numbered_rest}
use Rattle.cla_layout.specs.Tuples.{AreCodes, tuple_at, tuples_of}
use Rattle.cla_packed.specs.Bodies.{AreCanonical}
use Rattle.cla_packed.specs.Codes.{has}
use Rattle.cla_packed.specs.Rests.{IsRestCode, rest_code, with_rest, with_tuple}
use Rattle.cla_packed_laws.proofs.Codes.{first_within, has_at, occurs}
use Rattle.cla_packed_laws.proofs.Coded.{few_codes}
use Rattle.cla_packed_laws.proofs.Rests.{codes_from_owners, rest_code_fits}
use Rattle.cla_packed_laws.proofs.Zeros.{rest_in, none_zero, zero_found, zeros_are, all-parts, all_out}
use Rattle.cla_pack_reader.specs.ListedParts.{AreAllListed, AreFewCells, AreListedTuples, HasRest, IsDictionaryFor}
use Rattle.cla_pack_reader.proofs.CodedLaws.{tuples_in}
use Rattle.cla_pack_reader.proofs.ZeroLaws.{tuple_in, count_in}

-- ---- each row is listed

module _ (rows width d : ℕ) (owners : List ℕ) (cells : AreFewCells rows width) (all : AreAllListed rows d owners) where
  pub all_below : (i : ℕ) → i < rows → code_of owners i < d
  all_below i lt =
      let o = all.owners_are in
      elim (cases_eq (code_of owners i) d) [
        | inl rest ↦ absurd (false≢true (sym all.all ∙ ap (has owners) (sym rest)
            ∙ has_at owners i (omega (arith, lt, o.count))))
        | inr listed ↦ omega (arith, o.each i lt, listed)
      ]

  all_canonical : AreCanonical d owners
  all_canonical = record {
    codes_are = record {
      in_tuples = λ i lt. all_below i (omega (arith, lt, all.owners_are.count));
      used = λ k lt. occurs owners k (all.owners_are.used k lt);
    };
    numbered = all.owners_are.numbered;
  }

  pub all_few : d ≤ rows
  all_few = omega (arith, few_codes d owners all_canonical, all.owners_are.count)

  pub all_codes : (values : ℕ) → values ≡ d * width → AreCodes width (values / width) owners values
  all_codes values whole =
      let count = all.owners_are.count in
      subst (λ (n : ℕ). AreCodes width n owners values) (tuples_in width d values cells.a_column whole) (record {
        a_row = omega (arith, count, cells.a_row);
        a_column = cells.a_column;
        few_cells = subst (λ (m : ℕ). m * width ≤ 2 ^ 26) (sym count) cells.few;
        whole = whole;
        in_tuples = λ i lt. all_below i (omega (arith, lt, count));
        used = λ k lt. occurs owners k (all.owners_are.used k lt);
      })

-- ---- some row isn't

pub has_first : (owners : List ℕ) (k : ℕ) → first_row_of owners k < length owners → has owners k ≡ true
has_first owners k lt = (let same = ap (λ (l : List ℕ). first_row_of l k) (append-nil owners) in
    first_within owners [] k (omega (arith, same, lt)))

module _ (rows d first : ℕ) (owners : List ℕ) (h : HasRest rows d owners first) where
  pub rest_has : has owners d ≡ true
  rest_has = has_first owners d (omega (arith, h.some, h.first_is, h.owners_are.count))

  rest_is_code : IsRestCode d (rest_code d owners) owners
  rest_is_code = rest_code_fits rows d owners h.owners_are rest_has

module _ (rows width d r first : ℕ) (owners : List ℕ) (cells : AreFewCells rows width)
    (h : HasRest rows d owners first) (r_is : r ≡ rest_code d owners) where
  pub rest_fits : IsRestCode d r owners
  rest_fits = subst (λ (n : ℕ). IsRestCode d n owners) (sym r_is) (rest_is_code rows d first owners h)

  rest_canonical : AreCanonical (suc d) (map (with_rest d r) owners)
  rest_canonical = (codes_from_owners rows d r owners h.owners_are (rest_has rows d first owners h) rest_fits).0

  rest_count : length (map (with_rest d r) owners) ≡ rows
  rest_count = length-map owners (with_rest d r) ∙ h.owners_are.count

  pub rest_few : d + 1 ≤ rows
  rest_few = omega (arith, few_codes (suc d) (map (with_rest d r) owners) rest_canonical, rest_count)

  pub rest_below : (i : ℕ) → i < rows → code_of (map (with_rest d r) owners) i < d + 1
  rest_below i lt = (let below = rest_canonical.codes_are.in_tuples i (omega (arith, lt, rest_count)) in
      omega (arith, below))

  pub rest_codes : (values : ℕ) → values ≡ (d + 1) * width
      → AreCodes width (values / width) (map (with_rest d r) owners) values
  rest_codes values whole =
      let codes = map (with_rest d r) owners in
      subst (λ (n : ℕ). AreCodes width n codes values) (tuples_in width (d + 1) values cells.a_column whole) (record {
        a_row = omega (arith, rest_count, cells.a_row);
        a_column = cells.a_column;
        few_cells = subst (λ (m : ℕ). m * width ≤ 2 ^ 26) (sym rest_count) cells.few;
        whole = whole;
        in_tuples = λ i lt. rest_below i (omega (arith, lt, rest_count));
        used = λ k lt. rest_canonical.codes_are.used k (omega (arith, lt));
      })

-- ---- the dictionary

module _ {N : Type 0} (value : N → ℤ) (width d : ℕ) (values : List N)
    (listed : AreListedTuples value width d values) where
  tuples_size : length (tuples_of width d (map value values)) ≡ d
  tuples_size = length-map-range_with_len (tuple_at width (map value values)) 0 d

  none_zeros : AllByRecursion (λ t. is_zero t ≡ false) (tuples_of width d (map value values))
  none_zeros = all_out (λ t. is_zero t ≡ false) (tuples_of width d (map value values))
      (λ k lt. listed.not_zero k (omega (arith, lt, tuples_size)))

  pub whole_dictionary : (bits rows : ℕ) (owners : List ℕ) (made : DictionaryOf) → AreFewCells rows width
      → AreAllListed rows d owners
      → made ≡ record { width = width; tuples = tuples_of width (length values / width) (map value values) }
      → ((codes : List ℕ) → AreCodes width (length values / width) codes (length values)
      → IsGroup bits made.width codes made.tuples)
      → IsDictionaryFor bits width owners d (tuples_of width d (map value values)) made
  whole_dictionary bits rows owners made cells all made_is group =
      let ts = tuples_of width d (map value values) in
      let tuples_are : made.tuples ≡ ts = ap (λ (x : DictionaryOf). x.tuples) made_is
      ∙ ap (λ (n : ℕ). tuples_of width n (map value values))
      (sym (tuples_in width d (length values) cells.a_column listed.whole)) in
      let found : rest_in ts ≡ d = none_zero ts none_zeros ∙ tuples_size in
      record {
        group = group owners (all_codes rows width d owners cells all (length values) listed.whole);
        tuples_are = tuples_are;
        rest_is = subst (λ (l : List (List ℤ)). numbered_rest (length l) d ≡ rest_of owners l) (sym tuples_are)
            (ap (numbered_rest (length ts)) (sym found));
      }

  pub rest_size : (r : ℕ) (new : List N) → r ≤ d
      → map value new ≡ take (r * width) (map value values)
      ++ (replicate width (pos 0) ++ drop (r * width) (map value values)) → length new ≡ (d + 1) * width
  rest_size r new le new_is =
      sym (length-map new value) ∙ ap (λ (l : List ℤ). length l) new_is
      ∙ count_in width d r (map value values) (replicate width (pos 0)) (length-map values value ∙ listed.whole) le
      (length-replicate width (pos 0))

  pub dictionary_beside_rest : (bits rows r first : ℕ) (owners : List ℕ) (new : List N) (made : DictionaryOf)
      → AreFewCells rows width → HasRest rows d owners first → r ≡ rest_code d owners
      → map value new ≡ take (r * width) (map value values)
      ++ (replicate width (pos 0) ++ drop (r * width) (map value values))
      → made ≡ record { width = width; tuples = tuples_of width (length new / width) (map value new) }
      → ((codes : List ℕ) → AreCodes width (length new / width) codes (length new)
      → IsGroup bits made.width codes made.tuples)
      → IsDictionaryFor bits width (map (with_rest d r) owners) r
      (with_tuple r (replicate width (pos 0)) (tuples_of width d (map value values))) made
  dictionary_beside_rest bits rows r first owners new made cells h r_is new_is made_is group =
      let old = map value values in
      let z = replicate width (pos 0) in
      let ts = tuples_of width d old in
      let codes = map (with_rest d r) owners in
      let fits = rest_fits rows width d r first owners cells h r_is in
      let all : length old ≡ d * width = length-map values value ∙ listed.whole in
      let full : length z ≡ width = length-replicate width (pos 0) in
      let count = rest_size r new fits.within new_is in
      let tuples_are : made.tuples ≡ with_tuple r z ts = ap (λ (x : DictionaryOf). x.tuples) made_is
      ∙ ap (λ (n : ℕ). tuples_of width n (map value new))
      (sym (tuples_in width (d + 1) (length new) cells.a_column count))
      ∙ ap (λ (l : List ℤ). tuples_of width (d + 1) l) new_is ∙ tuple_in width d r old z all fits.within full in
      let near : r ≤ length ts = omega (arith, fits.within, tuples_size) in
      let nonzero = all-parts (λ t. is_zero t ≡ false) (take r ts) (drop r ts)
      (subst (λ (l : List (List ℤ)). AllByRecursion (λ t. is_zero t ≡ false) l) (sym (take-append-drop r ts))
      none_zeros) in
      let found : rest_in (with_tuple r z ts) ≡ r = zero_found (take r ts) (drop r ts) z nonzero.0 (zeros_are width)
      ∙ length-take-le r ts near in
      record {
        group = group codes (rest_codes rows width d r first owners cells h r_is (length new) count);
        tuples_are = tuples_are;
        rest_is = subst (λ (l : List (List ℤ)). numbered_rest (length l) r ≡ rest_of codes l) (sym tuples_are)
            (ap (numbered_rest (length (with_tuple r z ts))) (sym found));
      }
