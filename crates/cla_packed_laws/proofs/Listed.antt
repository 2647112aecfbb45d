-- Kinds 3 and 4, both ways, whichever way one tuple's rows are read.
use Rattle.std.proofs.Common.{◌≡◌, ℕ, ℤ, pos, zero, suc, ◌+◌, ◌-◌, ◌<◌, ◌≤◌, Bool, true, false, cond, eqb, List, []}
use Rattle.std.proofs.Common.{◌∷◌, ◌++◌, length, get_or, take, drop, map, replicate, refl, sym, ap, subst, ◌∙◌, arith}
use Rattle.std.proofs.Common.{inl, inr}
use Rattle.std.specs.Prelude.{nat_lt, nat_le, not}
use Rattle.std.specs.List.{list_all, flat_map, range_with_len, AllByRecursion}
use Rattle.std.proofs.lemmas.Bool.{cases_lt, cases_eq, cases_Bool, lt-ltb, le-ltb, ltb-true, ltb-false, le-leb}
use Rattle.std.proofs.lemmas.Bool.{eq-eqb, ne_eqb, and_parts, and_from, cond-true, cond-false, not-true}
use Rattle.std.proofs.lemmas.Bool.{not_from_false, false≢true, not-false, false_from_ne_true}
use Rattle.std.proofs.lemmas.List.FromFn.{length-map-range_with_len}
use Rattle.std.proofs.lemmas.List.{length-append, length-map, length-replicate, length-take-le, length-drop}
use Rattle.std.proofs.lemmas.List.{take-append-drop}
use Rattle.std.proofs.lemmas.List.Sums.{passes_at_first, fails_before_first}
use Rattle.cla_spec.specs.Bytes.{Holds, bytes_of, past}
use Rattle.cla_packed.specs.declared.fault.FieldName.TheVariants.{Tuples, Rest, Cover}
use Rattle.cla_packed.specs.Fields.{Place, Read, field_at, checked_at, then_at, list_at, EachIs}
use Rattle.cla_layout.specs.Groups.{code_of, first_row_of}
use Rattle.cla_spec.specs.Numbers.{in_range}
use Rattle.cla_layout.specs.Canonical.{AreDistinct}
use Rattle.cla_packed.specs.Values.{tuple_bytes, tuples_at, is_among, IsTuple}
use Rattle.cla_packed.specs.Codes.{has}
use Rattle.cla_packed.specs.Bodies.{Body, AreCanonical, IsBody}
use Rattle.cla_packed.specs.Lists.{named, IsList, owner_in, owners_of, rows_from, lists_of, AreOwners}
use Rattle.cla_packed.specs.Rests.{with_rest, without_rest, rest_code, all_named, fits_listed, with_tuple}
use Rattle.cla_packed.specs.Rests.{without_tuple, Parts, body_with, body_of_parts, parts_in, listed_parts_at}
use Rattle.cla_packed.specs.Rests.{listed_at, parts_bytes, listed_bytes}
use Rattle.cla_packed_laws.proofs.Forms.{IsForm, field_form, checked_form, then_form, list_form, as_form}
use Rattle.cla_packed_laws.proofs.Values.{tuples_form}
use Rattle.cla_packed_laws.proofs.Distinct.{distinct_from, distinct_each}
use Rattle.cla_packed_laws.proofs.Codes.{has_at, first_among, first_holds, has_occurring, occurs}
use Rattle.cla_packed_laws.proofs.Coded.{few_codes}
use Rattle.cla_packed_laws.proofs.Lists.{owners_from, owners_again}
use Rattle.cla_packed_laws.proofs.Rests.{codes_from_owners, owners_from_codes, rest_code_is, rest_code_fits}
use Rattle.cla_layout.specs.Listed.{is_zero}
use Rattle.cla_packed_laws.proofs.Zeros.{rest_in, parts_from, parts_found, zeros_are, zero_is, none_zero, zero_found}
use Rattle.cla_packed_laws.proofs.Zeros.{distinct_without, apart_from_one, distinct_with, parts_is, without_with}
use Rattle.cla_packed_laws.proofs.Zeros.{with_without, all-parts, all-append, all_in, all_out}

-- ---- cover

pub lt_suc : (a b : ℕ) → nat_lt a b ≡ nat_lt (1 + a) (suc b)
lt_suc a b = elim (cases_lt a b) [
  | inl lt ↦ lt-ltb a b lt ∙ sym (lt-ltb (1 + a) (suc b) (omega (arith, lt)))
  | inr ge ↦ le-ltb a b ge ∙ sym (le-ltb (1 + a) (suc b) (omega (arith, ge)))
]

pub named_owner : (lists : List (List ℕ)) (i : ℕ) → (named lists i ≡ nat_lt (owner_in lists i) (length lists))
    × (owner_in lists i ≤ length lists)
named_owner [] i = (sym (le-ltb 0 0 (omega arith)), omega arith)
named_owner (list ∷ lists) i =
    let more = named_owner lists i in
    elim (cases_Bool (has list i)) [
      | inl here ↦ (rw here (sym (lt-ltb 0 (suc (length lists)) (omega arith))), rw here (omega arith))
      | inr other ↦ (rw other (more.0 ∙ lt_suc (owner_in lists i) (length lists)), rw other (omega (arith, more.1)))
    ]

not_all : (f : ℕ → ℕ) (t : ℕ → Bool) (d a n : ℕ) → ((i : ℕ) → (t i ≡ nat_lt (f i) d) × (f i ≤ d))
    → has (map f (range_with_len a n)) d ≡ not (list_all t (range_with_len a n))
not_all f t d a zero h = refl
not_all f t d a (suc n) h =
    let one = h a in
    elim (cases_lt (f a) d) [
      | inl listed ↦ rw (ne_eqb (f a) d (λ e. omega (arith, e, listed)), one.0, lt-ltb (f a) d listed)
          (not_all f t d (a + 1) n h)
      | inr rest ↦ rw (eq-eqb (f a) d (omega (arith, rest, one.1)), one.0, le-ltb (f a) d rest) refl
    ]

-- some row has no list exactly where not all are named
pub unnamed_is : (rows : ℕ) (lists : List (List ℕ)) → has (owners_of rows lists) (length lists)
    ≡ not (all_named rows lists)
unnamed_is rows lists = not_all (owner_in lists) (named lists) (length lists) 0 rows (named_owner lists)

-- ---- no rest

canonical_owners : (rows d : ℕ) (owners : List ℕ) → AreOwners rows d owners → has owners d ≡ false
    → AreCanonical d owners
canonical_owners rows d owners o none = record {
  codes_are = record {
    in_tuples = λ i lt. elim (cases_eq (code_of owners i) d) [
      | inl rest ↦ absurd (false≢true (sym none ∙ ap (has owners) (sym rest) ∙ has_at owners i lt))
      | inr listed ↦ omega (arith, o.each i (omega (arith, lt, o.count)), listed)
    ];
    used = λ k lt. occurs owners k (o.used k lt);
  };
  numbered = o.numbered;
}

owners_canonical : (rows d : ℕ) (codes : List ℕ) → length codes ≡ rows → AreCanonical d codes
    → AreOwners rows d codes × (has codes d ≡ false)
owners_canonical rows d codes count c = (
  record {
    count = count;
    each = λ i lt. (let below : code_of codes i < d = c.codes_are.in_tuples i (omega (arith, lt, count)) in
        omega (arith, below));
    used = λ k lt. has_occurring codes k (c.codes_are.used k lt);
    numbered = c.numbered;
  },
  elim (cases_Bool (has codes d)) [
    | inl there ↦ (let row = first_among codes [] d there in
        absurd (omega (arith, c.codes_are.in_tuples (first_row_of codes d) row.1, first_holds codes d there)))
    | inr none ↦ none
  ],
)

-- ---- the parts of a body

module _ (k bits rows width : ℕ) (a_row : 0 < rows) (fits : rows < past 4) (holds : Holds k (pos 0)
    × (in_range bits (pos 0) ≡ true)) where
  IsListed : ℕ → List (List ℤ) → List ℤ → Type 0
  IsListed left before tuple = IsTuple k bits width tuple × (fits_listed left before tuple ≡ true)

  AreParts : Parts → Type 0
  AreParts x = ((x.0 < past 4) × (nat_le x.0 rows ≡ true)) × (((x.1.0 < past 1) × (nat_lt x.1.0 2 ≡ true))
      × (((length x.1.1.0 ≡ x.0) × EachIs (λ left before tuple. IsTuple k bits width tuple
      × (fits_listed left before tuple ≡ true)) [] x.1.1.0)
      × (((length x.1.1.1.0 ≡ x.0) × EachIs (λ left earlier list. IsList rows earlier list) [] x.1.1.1.0)
      × (cond (eqb x.1.0 0) (all_named rows x.1.1.1.0) (not (all_named rows x.1.1.1.0)) ≡ true))))

  zeros : List ℤ
  zeros = replicate width (pos 0)

  new_part : (before : List (List ℤ)) (t : List ℤ) → fits_listed 0 before t ≡ true → (not (is_among before t) ≡ true)
      × (is_zero t ≡ false)
  new_part before t h = (let p = and_parts (not (is_among before t)) (not (is_zero t)) h in
      (p.0, not-true (is_zero t) p.1))

  zeros_fit : (n : ℕ) → AllByRecursion (λ v. Holds k v × (in_range bits v ≡ true)) (replicate n (pos 0))
  zeros_fit zero = tt
  zeros_fit (suc n) = (holds, zeros_fit n)

  zeros_tuple : IsTuple k bits width (replicate width (pos 0))
  zeros_tuple = record { full = length-replicate width (pos 0); each = zeros_fit width }

  tuples_say : (so_far ts : List (List ℤ)) → EachIs (λ left before tuple. IsTuple k bits width tuple
      × (fits_listed left before tuple ≡ true)) so_far ts
      → AllByRecursion (IsTuple k bits width) ts × EachIs (λ left before t. not (is_among before t) ≡ true) so_far ts
      × AllByRecursion (λ t. is_zero t ≡ false) ts
  tuples_say so_far [] h = (tt, tt, tt)
  tuples_say so_far (t ∷ ts) h =
      let p = new_part so_far t h.0.1 in
      let more = tuples_say (so_far ++ t ∷ []) ts h.1 in
      ((h.0.0, more.0), (p.0, more.1), (p.1, more.2))

  tuples_fit : (so_far ts : List (List ℤ)) → AllByRecursion (IsTuple k bits width) ts
      → EachIs (λ left before t. not (is_among before t) ≡ true) so_far ts
      → AllByRecursion (λ t. is_zero t ≡ false) ts
      → EachIs (λ left before tuple. IsTuple k bits width tuple × (fits_listed left before tuple ≡ true)) so_far ts
  tuples_fit so_far [] h g z = tt
  tuples_fit so_far (t ∷ ts) h g z = (
    (h.0, and_from (not (is_among so_far t)) (not (is_zero t)) g.0 (not_from_false (is_zero t) z.0)),
    tuples_fit (so_far ++ t ∷ []) ts h.1 g.1 z.1,
  )

  -- what is read without a rest
  without_there : (d : ℕ) (ts : List (List ℤ)) (lists : List (List ℕ)) → (length ts ≡ d)
      → EachIs (λ left before tuple. IsTuple k bits width tuple × (fits_listed left before tuple ≡ true)) [] ts
      → length lists ≡ d → EachIs (λ left earlier list. IsList rows earlier list) [] lists → all_named rows lists
      ≡ true
      → IsBody k bits rows width (record { codes = owners_of rows lists; tuples = ts })
      × (parts_in (record { codes = owners_of rows lists; tuples = ts }) ≡ (d, (0, (ts, (lists, tt)))))
  without_there d ts lists ts_count ts_fit lists_count lists_fit cover =
      let t = tuples_say [] ts ts_fit in
      let o = owners_from rows lists lists_fit in
      let none : has (owners_of rows lists) (length lists) ≡ false = unnamed_is rows lists ∙ ap not cover in
      let c = canonical_owners rows (length lists) (owners_of rows lists) o.0 none in
      let no_rest : nat_lt (rest_in ts) (length ts) ≡ false =
      le-ltb (rest_in ts) (length ts) (omega (arith, none_zero ts t.2)) in (
        record {
          a_code_each = o.0.count;
          canonical = subst (λ (n : ℕ). AreCanonical n (owners_of rows lists))
              (lists_count ∙ sym ts_count) c;
          each = t.0;
          distinct = distinct_from ts t.1;
        },
        rw no_rest (λ i. (
          ts_count i,
          (
            0,
            (
              ts,
              (
                (ap (λ (n : ℕ). lists_of n (owners_of rows lists)) (ts_count ∙ sym lists_count) ∙ o.1) i,
                tt,
              ),
            ),
          ),
        )),
      )

  with_parts : (d r : ℕ) (codes : List ℕ) (tuples ts : List (List ℤ)) (lists : List (List ℕ))
      → nat_lt r (length tuples) ≡ true → length tuples - 1 ≡ d → without_tuple r tuples ≡ ts
      → lists_of d (map (without_rest d r) codes) ≡ lists
      → parts_from r (record { codes = codes; tuples = tuples }) ≡ (d, (1, (ts, (lists, tt))))
  with_parts d r codes tuples ts lists test less ts_are lists_are =
      rw (test, less) (λ i. (d, (1, (ts_are i, (lists_are i, tt)))))

  -- what is read with a rest
  with_there : (d : ℕ) (ts : List (List ℤ)) (lists : List (List ℕ)) → (length ts ≡ d)
      → EachIs (λ left before tuple. IsTuple k bits width tuple × (fits_listed left before tuple ≡ true)) [] ts
      → length lists ≡ d → EachIs (λ left earlier list. IsList rows earlier list) [] lists
      → not (all_named rows lists) ≡ true
      → IsBody k bits rows width (record {
        codes = map (with_rest d (rest_code d (owners_of rows lists)))
            (owners_of rows lists);
        tuples =
            with_tuple (rest_code d (owners_of rows lists)) (replicate width (pos 0)) ts;
      })
      × (parts_in (record {
        codes = map (with_rest d (rest_code d (owners_of rows lists))) (owners_of rows lists);
        tuples = with_tuple (rest_code d (owners_of rows lists)) (replicate width (pos 0)) ts;
      })
      ≡ (d, (1, (ts, (lists, tt)))))
  with_there d ts lists ts_count ts_fit lists_count lists_fit cover =
      let t = tuples_say [] ts ts_fit in
      let owners = owners_of rows lists in
      let made = owners_from rows lists lists_fit in
      let o : AreOwners rows d owners = subst (λ (n : ℕ). AreOwners rows n owners) lists_count made.0 in
      let back : lists_of d owners ≡ lists = ap (λ (n : ℕ). lists_of n owners) (sym lists_count) ∙ made.1 in
      let some : has owners d ≡ true = ap (has owners) (sym lists_count) ∙ unnamed_is rows lists ∙ cover in
      let r = rest_code d owners in
      let s = rest_code_fits rows d owners o some in
      let c = codes_from_owners rows d r owners o some s in
      let z = replicate width (pos 0) in
      let tuples = with_tuple r z ts in
      let near : r ≤ length ts = omega (arith, s.within, ts_count) in
      let whole = take-append-drop r ts in
      let front : length (take r ts) ≡ r = length-take-le r ts near in
      let size : length tuples ≡ suc d = omega (
        arith,
        length-append (take r ts) (z ∷ drop r ts),
        front,
        length-drop r ts,
        ts_count,
        s.within,
      ) in
      let nonzero = all-parts (λ t. is_zero t ≡ false) (take r ts) (drop r ts)
      (subst (λ (l : List (List ℤ)). AllByRecursion (λ t. is_zero t ≡ false) l) (sym whole) t.2) in
      let each = all-parts (IsTuple k bits width) (take r ts) (drop r ts)
      (subst (λ (l : List (List ℤ)). AllByRecursion (IsTuple k bits width) l) (sym whole) t.0) in
      let found : rest_in tuples ≡ r = zero_found (take r ts) (drop r ts) z nonzero.0 (zeros_are width) ∙ front in
      let distinct : AreDistinct tuples =
      distinct_with (take r ts) (drop r ts) z (subst (λ (l : List (List ℤ)). AreDistinct l) (sym whole)
      (distinct_from ts t.1))
      (λ j lt e. false≢true (sym (all_in (λ t. is_zero t ≡ false) (take r ts ++ drop r ts) j
      (subst (λ (l : List (List ℤ)). AllByRecursion (λ t. is_zero t ≡ false) l) (sym whole) t.2) lt)
      ∙ ap is_zero e ∙ zeros_are width)) in
      let codes = map (with_rest d r) owners in
      let test : nat_lt r (length tuples) ≡ true = lt-ltb r (length tuples) (omega (arith, size, s.within)) in
      let less : length tuples - 1 ≡ d = omega (arith, size) in (
        record {
          a_code_each = length-map owners (with_rest d r) ∙ o.count;
          canonical =
              subst (λ (n : ℕ). AreCanonical n codes) (sym size) c.0;
          each =
              all-append (IsTuple k bits width) (take r ts) (z ∷ drop r ts) each.0 (zeros_tuple, each.1);
          distinct =
              distinct;
        },
        parts_found (record { codes = codes; tuples = tuples })
            ∙ ap (λ (n : ℕ). parts_from n (record { codes = codes; tuples = tuples })) found
            ∙ with_parts d r codes tuples ts lists test less (without_with r z ts near) (ap (lists_of d) c.1 ∙ back),
      )

  -- a body without a rest is read again
  without_home : (body : Body) → IsBody k bits rows width body → nat_lt (rest_in body.tuples) (length body.tuples)
      ≡ false
      → AreParts (length body.tuples, (0, (body.tuples, (lists_of (length body.tuples) body.codes, tt))))
      × (body_of_parts rows width (
        length body.tuples,
        (0, (body.tuples, (lists_of (length body.tuples) body.codes, tt))),
      ) ≡ body)
  unfolding AreParts
  without_home body h none =
      let d = length body.tuples in
      let o = owners_canonical rows d body.codes h.a_code_each h.canonical in
      let again = owners_again rows d body.codes o.0 in
      let lists = lists_of d body.codes in
      let count : length lists ≡ d = length-map-range_with_len (rows_from 0 body.codes) 0 d in
      let few : d ≤ rows = omega (arith, few_codes d body.codes h.canonical, h.a_code_each) in
      let nonzero = all_out (λ t. is_zero t ≡ false) body.tuples (λ j lt. fails_before_first is_zero body.tuples j []
      (omega (arith, lt, ltb-false (rest_in body.tuples) d none))) in
      let cover : all_named rows lists ≡ true = not-false (all_named rows lists) (sym (unnamed_is rows lists)
      ∙ (λ i. has (again.1 i) (count i)) ∙ o.1) in (
        (
          (omega (arith, few, fits), le-leb d rows few),
          (
            (omega arith, lt-ltb 0 2 (omega arith)),
            (
              (refl, tuples_fit [] body.tuples h.each (distinct_each body.tuples h.distinct) nonzero),
              ((count, again.0), cover),
            ),
          ),
        ),
        λ i. record { codes = again.1 i; tuples = body.tuples },
      )

  -- a body with a rest is read again
  with_home : (body : Body) (d r : ℕ) → IsBody k bits rows width body → r ≡ rest_in body.tuples
      → r < length body.tuples → length body.tuples ≡ suc d
      → AreParts (d, (1, (without_tuple r body.tuples, (lists_of d (map (without_rest d r) body.codes), tt))))
      × (body_of_parts rows width (
        d,
        (1, (without_tuple r body.tuples, (lists_of d (map (without_rest d r) body.codes), tt))),
      ) ≡ body)
  unfolding AreParts
  with_home body d r h r-is below size =
      let ts = body.tuples in
      let o = owners_from_codes rows d r body.codes h.a_code_each
      (subst (λ (n : ℕ). AreCanonical n body.codes) size h.canonical) (omega (arith, below, size)) in
      let owners = map (without_rest d r) body.codes in
      let again = owners_again rows d owners o.0 in
      let lists = lists_of d owners in
      let count : length lists ≡ d = length-map-range_with_len (rows_from 0 owners) 0 d in
      let few : suc d ≤ rows = omega (arith, few_codes (length ts) body.codes h.canonical, h.a_code_each, size) in
      let z = get_or ts r [] in
      let z_zero : is_zero z ≡ true = subst (λ (n : ℕ). is_zero (get_or ts n []) ≡ true) (sym r-is)
      (passes_at_first is_zero ts [] (omega (arith, r-is, below))) in
      let z_width : length z ≡ width = (all_in (IsTuple k bits width) ts r h.each below).full in
      let z_is : z ≡ replicate width (pos 0) = zero_is z z_zero ∙ ap (λ (n : ℕ). replicate n (pos 0)) z_width in
      let split = parts_is r ts below in
      let whole : AreDistinct (take r ts ++ z ∷ drop (r + 1) ts) =
      subst (λ (l : List (List ℤ)). AreDistinct l) split h.distinct in
      let each = all-parts (IsTuple k bits width) (take r ts) (z ∷ drop (r + 1) ts)
      (subst (λ (l : List (List ℤ)). AllByRecursion (IsTuple k bits width) l) split h.each) in
      let left = without_tuple r ts in
      let left_each = all-append (IsTuple k bits width) (take r ts) (drop (r + 1) ts) each.0 each.1.1 in
      let left_count : length left ≡ d = omega (
        arith,
        length-append (take r ts) (drop (r + 1) ts),
        length-take-le r ts (omega (arith, below)),
        length-drop (r + 1) ts,
        size,
        below,
      ) in
      let nonzero = all_out (λ t. is_zero t ≡ false) left (λ j lt. false_from_ne_true (is_zero (get_or left j []))
      (λ zero_there.
      apart_from_one (take r ts) (drop (r + 1) ts) z j whole lt (zero_is (get_or left j []) zero_there
      ∙ ap (λ (n : ℕ). replicate n (pos 0)) (all_in (IsTuple k bits width) left j left_each lt).full
      ∙ sym z_is))) in
      let cover : not (all_named rows lists) ≡ true = sym (unnamed_is rows lists) ∙ (λ i. has (again.1 i) (count i))
      ∙ o.1 in
      let code : rest_code d owners ≡ r = rest_code_is d r owners o.2 in (
        (
          (omega (arith, few, fits), le-leb d rows (omega (arith, few))),
          (
            (omega arith, lt-ltb 1 2 (omega arith)),
            (
              (
                left_count,
                tuples_fit [] left left_each
                    (distinct_each left (distinct_without (take r ts) (drop (r + 1) ts) z whole)) nonzero,
              ),
              ((count, again.0), cover),
            ),
          ),
        ),
        ap (λ (os : List ℕ). body_with width d left os 1) again.1
            ∙ ap (λ (n : ℕ). record {
              codes = map (with_rest d n) owners;
              tuples =
                  with_tuple n (replicate width (pos 0)) left;
            }) code
            ∙ (λ i. record { codes = o.3 i; tuples = with_without r (replicate width (pos 0)) ts below z_is i }),
      )

  -- what is read is a body, and comes from it
  there : (x : Parts) → AreParts x → IsBody k bits rows width (body_of_parts rows width x)
      × (parts_in (body_of_parts rows width x) ≡ x)
  unfolding AreParts
  there x h = elim (cases_eq x.1.0 0) [
    | inl none ↦
        let cover : all_named rows x.1.1.1.0 ≡ true = rw (eq-eqb x.1.0 0 none) at h.1.1.1.1 in
        let t = without_there x.0 x.1.1.0 x.1.1.1.0 h.1.1.0.0 h.1.1.0.1 h.1.1.1.0.0 h.1.1.1.0.1 cover in
        let view : body_of_parts rows width x ≡ record { codes = owners_of rows x.1.1.1.0; tuples = x.1.1.0 } =
        rw (eq-eqb x.1.0 0 none) refl in (
          subst (λ (b : Body). IsBody k bits rows width b) (sym view) t.0,
          ap parts_in view ∙ t.1
              ∙ (λ i. (x.0, (sym none i, (x.1.1.0, (x.1.1.1.0, tt))))),
        )
    | inr some ↦
        let cover : not (all_named rows x.1.1.1.0) ≡ true = rw (ne_eqb x.1.0 0 some) at h.1.1.1.1 in
        let one : x.1.0 ≡ 1 = omega (arith, some, ltb-true x.1.0 2 h.1.0.1) in
        let t = with_there x.0 x.1.1.0 x.1.1.1.0 h.1.1.0.0 h.1.1.0.1 h.1.1.1.0.0 h.1.1.1.0.1 cover in
        let view : body_of_parts rows width x
        ≡ record {
          codes = map (with_rest x.0 (rest_code x.0 (owners_of rows x.1.1.1.0)))
              (owners_of rows x.1.1.1.0);
          tuples = with_tuple (rest_code x.0 (owners_of rows x.1.1.1.0))
              (replicate width (pos 0)) x.1.1.0;
        } = rw (ne_eqb x.1.0 0 some) refl in (
          subst (λ (b : Body). IsBody k bits rows width b) (sym view) t.0,
          ap parts_in view ∙ t.1
              ∙ (λ i. (x.0, (sym one i, (x.1.1.0, (x.1.1.1.0, tt))))),
        )
  ]

  home : (body : Body) → IsBody k bits rows width body → AreParts (parts_in body)
      × (body_of_parts rows width (parts_in body) ≡ body)
  home body h =
      let r = rest_in body.tuples in
      let Good = λ (x : Parts). AreParts x × (body_of_parts rows width x ≡ body) in
      subst Good (sym (parts_found body)) (elim (cases_lt r (length body.tuples)) [
        | inl some ↦
            let d = length body.tuples - 1 in
            let size : length body.tuples ≡ suc d = omega (arith, some) in
            subst Good (sym (cond-true (nat_lt r (length body.tuples)) (
              d,
              (1, (without_tuple r body.tuples, (lists_of d (map (without_rest d r) body.codes), tt))),
            )
            (length body.tuples, (0, (body.tuples, (lists_of (length body.tuples) body.codes, tt))))
            (lt-ltb r (length body.tuples) some)))
            (with_home body d r h refl some size)
        | inr none ↦
            let d = length body.tuples - 1 in
            subst Good (sym (cond-false (nat_lt r (length body.tuples)) (
              d,
              (1, (without_tuple r body.tuples, (lists_of d (map (without_rest d r) body.codes), tt))),
            )
            (length body.tuples, (0, (body.tuples, (lists_of (length body.tuples) body.codes, tt))))
            (le-ltb r (length body.tuples) none)))
            (without_home body h (le-ltb r (length body.tuples) none))
      ])

  pub listed_form : (one : List (List ℕ) → Place → Read (List ℕ)) (bytes : List ℕ → List ℕ) (group : ℕ) → 0 < width
      → ((earlier : List (List ℕ)) → IsForm (one earlier) (IsList rows earlier) bytes)
      → IsForm (listed_at one k bits group rows width) (IsBody k bits rows width) (listed_bytes bytes k)
  unfolding AreParts
  listed_form one bytes group wide form =
      let Count = λ (d : ℕ). (d < past 4) × (nat_le d rows ≡ true) in
      let Flag = λ (rest : ℕ). (rest < past 1) × (nat_lt rest 2 ≡ true) in
      let Ts = λ (d : ℕ) (ts : List (List ℤ)). (length ts ≡ d)
      × EachIs (λ left before tuple. IsTuple k bits width tuple × (fits_listed left before tuple ≡ true)) [] ts in
      let Ls = λ (d : ℕ) (lists : List (List ℕ)). (length lists ≡ d)
      × EachIs (λ left earlier list. IsList rows earlier list) [] lists in
      let Covers = λ (rest : ℕ) (lists : List (List ℕ)) (u : Unit {0}). cond (eqb rest 0) (all_named rows lists)
      (not (all_named rows lists)) ≡ true in
      let lists_at = λ (d : ℕ). list_at (λ left earlier. one earlier) d [] in
      let cover_at = λ (rest : ℕ) (lists : List (List ℕ)).
      checked_at (cond (eqb rest 0) (all_named rows lists) (not (all_named rows lists))) group Cover in
      let ends = λ (d rest : ℕ). then_form (lists_at d) (Ls d) (flat_map bytes) (cover_at rest) (Covers rest)
      (λ lists u. [])
      (list_form (λ left earlier. one earlier) (λ left earlier list. IsList rows earlier list) bytes (λ left earlier.
      form earlier) d)
      (λ lists h. checked_form (cond (eqb rest 0) (all_named rows lists) (not (all_named rows lists))) group Cover) in
      let middle = λ (d rest : ℕ). then_form (tuples_at k bits group width fits_listed d) (Ts d)
      (flat_map (tuple_bytes k)) (λ ts. then_at (lists_at d) (cover_at rest)) (λ ts y. Ls d y.0
      × Covers rest y.0 y.1) (λ ts y. flat_map bytes y.0 ++ [])
      (tuples_form k bits group width fits_listed d wide) (λ ts h. ends d rest) in
      let front = λ (d : ℕ). then_form (field_at 1 (λ rest. nat_lt rest 2) group Rest) Flag (bytes_of 1)
      (λ rest. then_at (tuples_at k bits group width fits_listed d) (λ ts. then_at (lists_at d) (cover_at rest)))
      (λ rest y. Ts d y.0 × (Ls d y.1.0 × Covers rest y.1.0 y.1.1)) (λ rest y. flat_map (tuple_bytes k) y.0
      ++ (flat_map bytes y.1.0 ++ []))
      (field_form 1 (λ rest. nat_lt rest 2) group Rest) (λ rest h. middle d rest) in
      as_form (listed_parts_at one k bits group rows width) AreParts (parts_bytes bytes k)
      (body_of_parts rows width) parts_in (IsBody k bits rows width)
      (then_form (field_at 4 (λ d. nat_le d rows) group Tuples) Count (bytes_of 4)
      (λ d. then_at (field_at 1 (λ rest. nat_lt rest 2) group Rest)
      (λ rest. then_at (tuples_at k bits group width fits_listed d) (λ ts. then_at (lists_at d) (cover_at rest))))
      (λ d y. Flag y.0 × (Ts d y.1.0 × (Ls d y.1.1.0 × Covers y.0 y.1.1.0 y.1.1.1))) (λ d y. bytes_of 1 y.0
      ++ (flat_map (tuple_bytes k) y.1.0 ++ (flat_map bytes y.1.1.0 ++ [])))
      (field_form 4 (λ d. nat_le d rows) group Tuples) (λ d h. front d))
      there home
