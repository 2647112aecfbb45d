-- Owners and the code of the rest are codes that are numbered by first row.
use Rattle.std.proofs.Common.{◌≡◌, ℕ, suc, ◌+◌, ◌-◌, ◌<◌, ◌≤◌, Bool, true, eqb, List, [], ◌∷◌, length, get_or, map}
use Rattle.std.proofs.Common.{refl, sym, ap, subst, ◌∙◌, arith, inl, inr}
use Rattle.std.specs.Prelude.{nat_lt, ◌||◌}
use Rattle.std.specs.List.{position_or_len, range_with_len, AllByRecursion}
use Rattle.std.proofs.lemmas.Bool.{cases_lt, cases_eq, cases_Bool, lt-ltb, le-ltb, ltb-true, ltb-false, eq-eqb}
use Rattle.std.proofs.lemmas.Bool.{ne_eqb, or_left}
use Rattle.std.proofs.lemmas.List.{length-map, get_or-map}
use Rattle.std.proofs.lemmas.List.FromFn.{length-range_with_len, get_or-range_with_len}
use Rattle.std.proofs.lemmas.List.Sums.{position_or_len_is, passes_at_first, fails_before_first}
use Rattle.cla_layout.specs.Groups.{code_of, first_row_of}
use Rattle.cla_packed.specs.Codes.{has}
use Rattle.cla_packed.specs.Bodies.{AreCanonical}
use Rattle.cla_packed.specs.Lists.{AreOwners}
use Rattle.cla_packed.specs.Rests.{with_rest, without_rest, IsRestCode, rest_code}
use Rattle.cla_packed_laws.proofs.Codes.{first_here, first_later, first_holds, occurs, has_occurring, numbered_apart}

-- ---- codes and owners

pub there_back : (d r o : ℕ) → r ≤ d → o ≤ d → without_rest d r (with_rest d r o) ≡ o
there_back d r o fits le = elim (cases_eq o d) [
  | inl rest ↦ rw (eq-eqb o d rest) (rw (eq-eqb r r refl) (sym rest))
  | inr listed ↦ rw (ne_eqb o d listed) (elim (cases_lt o r) [
    | inl before ↦ rw (lt-ltb o r before) (rw (ne_eqb o r (λ e. omega (arith, e, before)), lt-ltb o r before) refl)
    | inr behind ↦ rw (le-ltb o r behind) (rw (
      ne_eqb (o + 1) r (λ e. omega (arith, e, behind)),
      le-ltb (o + 1) r (omega (arith, behind)),
    ) (omega arith))
  ])
]

pub back_there : (d r c : ℕ) → r ≤ d → c ≤ d → with_rest d r (without_rest d r c) ≡ c
back_there d r c fits le = elim (cases_eq c r) [
  | inl rest ↦ rw (eq-eqb c r rest) (rw (eq-eqb d d refl) (sym rest))
  | inr listed ↦ rw (ne_eqb c r listed) (elim (cases_lt c r) [
    | inl before ↦ rw (lt-ltb c r before) (rw (
      ne_eqb c d (λ e. omega (arith, e, before, fits)),
      lt-ltb c r before,
    ) refl)
    | inr behind ↦ rw (le-ltb c r behind) (rw (
      ne_eqb (c - 1) d (λ e. omega (arith, e, behind, listed, le)),
      le-ltb (c - 1) r (omega (arith, behind, listed)),
    ) (omega (arith, behind, listed)))
  ])
]

pub with_within : (d r o : ℕ) → r ≤ d → o ≤ d → with_rest d r o ≤ d
with_within d r o fits le = elim (cases_eq o d) [
  | inl rest ↦ rw (eq-eqb o d rest) fits
  | inr listed ↦ rw (ne_eqb o d listed) (elim (cases_lt o r) [
    | inl before ↦ rw (lt-ltb o r before) le
    | inr behind ↦ rw (le-ltb o r behind) (omega (arith, le, listed))
  ])
]

pub without_within : (d r c : ℕ) → r ≤ d → c ≤ d → without_rest d r c ≤ d
without_within d r c fits le = elim (cases_eq c r) [
  | inl rest ↦ rw (eq-eqb c r rest) (omega arith)
  | inr listed ↦ rw (ne_eqb c r listed) (elim (cases_lt c r) [
    | inl before ↦ rw (lt-ltb c r before) le
    | inr behind ↦ rw (le-ltb c r behind) (omega (arith, le))
  ])
]

-- ---- codes under another name

unfoldable pub Alike : (ℕ → ℕ) → ℕ → List ℕ → Type 0
Alike f o codes = AllByRecursion (λ c. eqb (f c) (f o) ≡ eqb c o) codes

pub first_row_map : (f : ℕ → ℕ) (o : ℕ) (codes : List ℕ) → Alike f o codes
    → (first_row_of (map f codes) (f o) ≡ first_row_of codes o) × (has (map f codes) (f o) ≡ has codes o)
unfolding Alike
first_row_map f o [] h = (refl, refl)
first_row_map f o (c ∷ codes) h =
    let more = first_row_map f o codes h.1 in
    elim (cases_Bool (eqb c o)) [
      | inl here ↦ (
        first_here (f c) (f o) (map f codes) (h.0 ∙ here) ∙ sym (first_here c o codes here),
        or_left (eqb (f c) (f o)) (has (map f codes) (f o)) (h.0 ∙ here)
            ∙ sym (or_left (eqb c o) (has codes o) here),
      )
      | inr other ↦ (
        first_later (f c) (f o) (map f codes) (h.0 ∙ other) ∙ ap suc more.0
            ∙ sym (first_later c o codes other),
        λ i. (h.0 i || more.1 i),
      )
    ]

pub alike_from : (d : ℕ) (f g : ℕ → ℕ) (o : ℕ) (codes : List ℕ) → ((c : ℕ) → c ≤ d → g (f c) ≡ c) → o ≤ d
    → AllByRecursion (λ c. c ≤ d) codes → Alike f o codes
unfolding Alike
alike_from d f g o [] back le h = tt
alike_from d f g o (c ∷ codes) back le h = (
  elim (cases_eq c o) [
    | inl same ↦ eq-eqb (f c) (f o) (ap f same) ∙ sym (eq-eqb c o same)
    | inr other ↦ ne_eqb (f c) (f o) (λ e. other (sym (back c h.0) ∙ ap g e ∙ back o le)) ∙ sym (ne_eqb c o other)
  ],
  alike_from d f g o codes back le h.1,
)

pub all_at : (d : ℕ) (codes : List ℕ) → ((i : ℕ) → i < length codes → code_of codes i ≤ d)
    → AllByRecursion (λ c. c ≤ d) codes
all_at d [] h = tt
all_at d (c ∷ codes) h = (h 0 (omega arith), all_at d codes (λ i lt. h (suc i) (omega (arith, lt))))

map_back : (d : ℕ) (f g : ℕ → ℕ) (codes : List ℕ) → ((c : ℕ) → c ≤ d → g (f c) ≡ c)
    → AllByRecursion (λ c. c ≤ d) codes → map g (map f codes) ≡ codes
map_back d f g [] back h = refl
map_back d f g (c ∷ codes) back h = λ i. (back c h.0 i ∷ map_back d f g codes back h.1 i)

-- ---- canonical

pub codes_from_owners : (rows d r : ℕ) (owners : List ℕ) → AreOwners rows d owners → has owners d ≡ true
    → IsRestCode d r owners
    → AreCanonical (suc d) (map (with_rest d r) owners) × (map (without_rest d r) (map (with_rest d r) owners)
    ≡ owners)
codes_from_owners rows d r owners o some s =
    let f = with_rest d r in
    let g = without_rest d r in
    let all = all_at d owners (λ i lt. o.each i (omega (arith, lt, o.count))) in
    let back = λ (c : ℕ) (le : c ≤ d). there_back d r c s.within le in
    let named = λ (k : ℕ) (le : k ≤ d). first_row_map f (g k) owners
    (alike_from d f g (g k) owners back (without_within d r k s.within le) all) in
    let at = λ (k : ℕ) (le : k ≤ d). back_there d r k s.within le in
    let first = λ (k : ℕ) (le : k ≤ d). ap (λ (c : ℕ). first_row_of (map f owners) c) (sym (at k le))
    ∙ (named k le).0 in (
      record {
        codes_are = record {
          in_tuples = λ i lt.
              let row : i < length owners = omega (arith, lt, length-map owners f) in
              omega (
                arith,
                get_or-map f owners i 0 0 row,
                with_within d r (code_of owners i) s.within (o.each i (omega (arith, row, o.count))),
              );
          used = λ k lt.
              let le : k ≤ d = omega (arith, lt) in
              let there : has owners (g k) ≡ true = elim (cases_eq (g k) d) [
                | inl rest ↦ ap (has owners) rest ∙ some
                | inr listed ↦ o.used (g k) (omega (arith, listed, without_within d r k s.within le))
              ] in
              occurs (map f owners) k (ap (has (map f owners)) (sym (at k le)) ∙ (named k le).1 ∙ there);
        };
        numbered = λ k lt.
            let one = first k (omega (arith, lt)) in
            let two = first (k + 1) (omega (arith, lt)) in
            let order : first_row_of owners (g k) < first_row_of owners (g (k + 1)) = elim (cases_lt k r) [
              | inl before ↦
                  let here : g k ≡ k = rw (ne_eqb k r (λ e. omega (arith, e, before)), lt-ltb k r before) refl in
                  elim (cases_eq (k + 1) r) [
                    | inl rest ↦ rw here (rw (eq-eqb (k + 1) r rest) (s.before k before))
                    | inr other ↦ (let next : g (k + 1) ≡ k + 1 =
                        rw (ne_eqb (k + 1) r other, lt-ltb (k + 1) r (omega (arith, other, before))) refl in
                        subst (λ (a : ℕ). first_row_of owners a < first_row_of owners (g (k + 1))) (sym here)
                        (subst (λ (b : ℕ). first_row_of owners k < first_row_of owners b) (sym next)
                        (o.numbered k (omega (arith, other, before, s.within)))))
                  ]
              | inr from ↦
                  let next : g (k + 1) ≡ k = rw (
                    ne_eqb (k + 1) r (λ e. omega (arith, e, from)),
                    le-ltb (k + 1) r (omega (arith, from)),
                  ) (omega arith) in
                  elim (cases_eq k r) [
                    | inl rest ↦ (let here : g k ≡ d = rw (eq-eqb k r rest) refl in
                        subst (λ (a : ℕ). first_row_of owners a < first_row_of owners (g (k + 1))) (sym here)
                        (subst (λ (b : ℕ). first_row_of owners d < first_row_of owners b) (sym next)
                        (s.behind k from (omega (arith, lt)))))
                    | inr other ↦ (let here : g k ≡ k - 1 = rw (ne_eqb k r other, le-ltb k r from) refl in
                        let last : (k - 1) + 1 ≡ k = omega (arith, from, other) in
                        subst (λ (a : ℕ). first_row_of owners a < first_row_of owners (g (k + 1))) (sym here)
                        (subst (λ (b : ℕ). first_row_of owners (k - 1) < first_row_of owners b) (last
                        ∙ sym next) (o.numbered (k - 1) (omega (arith, lt, last)))))
                  ]
            ] in
            omega (arith, one, two, order);
      },
      map_back d f g owners back all,
    )

pub below_suc : (c d : ℕ) → c < suc d → c ≤ d
below_suc c d lt = omega (arith, lt)

pub suc_below : (c d : ℕ) → c ≤ d → c < suc d
suc_below c d le = omega (arith, le)

pub the_before : (d r k : ℕ) → r ≤ d → k < r → with_rest d r k ≡ k
the_before d r k fits lt = rw (ne_eqb k d (λ e. omega (arith, e, lt, fits)), lt-ltb k r lt) refl

the_behind : (d r k : ℕ) → r ≤ k → k < d → with_rest d r k ≡ k + 1
the_behind d r k le lt = rw (ne_eqb k d (λ e. omega (arith, e, lt)), le-ltb k r le) refl

with_rises : (d r k : ℕ) → k + 1 < d → with_rest d r k < with_rest d r (k + 1)
with_rises d r k lt =
    let one = ne_eqb k d (λ e. omega (arith, e, lt)) in
    let two = ne_eqb (k + 1) d (λ e. omega (arith, e, lt)) in
    rw (one, two) (elim (cases_lt (k + 1) r) [
      | inl before ↦ rw (lt-ltb (k + 1) r before, lt-ltb k r (omega (arith, before))) (omega arith)
      | inr behind ↦ rw (le-ltb (k + 1) r behind) (elim (cases_lt k r) [
        | inl last ↦ rw (lt-ltb k r last) (omega arith)
        | inr past ↦ rw (le-ltb k r past) (omega arith)
      ])
    ])

pub owners_from_codes : (rows d r : ℕ) (codes : List ℕ) → length codes ≡ rows → AreCanonical (suc d) codes → r ≤ d
    → AreOwners rows d (map (without_rest d r) codes) × (has (map (without_rest d r) codes) d ≡ true)
    × IsRestCode d r (map (without_rest d r) codes) × (map (with_rest d r) (map (without_rest d r) codes) ≡ codes)
owners_from_codes rows d r codes count c fits =
    let f = without_rest d r in
    let g = with_rest d r in
    let small = λ (i : ℕ) (lt : i < length codes). below_suc (code_of codes i) d (c.codes_are.in_tuples i lt) in
    let all = all_at d codes small in
    let back = λ (k : ℕ) (le : k ≤ d). back_there d r k fits le in
    let at = λ (o : ℕ) (le : o ≤ d). there_back d r o fits le in
    let named = λ (o : ℕ) (le : o ≤ d). first_row_map f (g o) codes
    (alike_from d f g (g o) codes back (with_within d r o fits le) all) in
    let first = λ (o : ℕ) (le : o ≤ d). ap (λ (k : ℕ). first_row_of (map f codes) k) (sym (at o le))
    ∙ (named o le).0 in
    let holds = λ (o : ℕ) (le : o ≤ d). ap (has (map f codes)) (sym (at o le)) ∙ (named o le).1
    ∙ has_occurring codes (g o) (c.codes_are.used (g o) (suc_below (g o) d (with_within d r o fits le))) in
    let rest : g d ≡ r = rw (eq-eqb d d refl) refl in
    let before = λ (k : ℕ) (lt : k < r). the_before d r k fits lt in
    let behind = λ (k : ℕ) (le : r ≤ k) (lt : k < d). the_behind d r k le lt in (
      record {
        count = length-map codes f ∙ count;
        each = λ i lt.
            let row : i < length codes = omega (arith, lt, count) in
            omega (arith, get_or-map f codes i 0 0 row, without_within d r (code_of codes i) fits (small i row));
        used = λ k lt. holds k (omega (arith, lt));
        numbered = λ k lt.
            let one = first k (omega (arith, lt)) in
            let two = first (k + 1) (omega (arith, lt)) in
            omega (
              arith,
              one,
              two,
              numbered_apart codes (suc d) c.numbered (g k) (g (k + 1)) (with_rises d r k lt)
                  (suc_below (g (k + 1)) d (with_within d r (k + 1) fits (omega (arith, lt)))),
            );
      },
      holds d (omega arith),
      record {
        within = fits;
        before = λ k lt.
            let one = first k (omega (arith, lt, fits)) in
            let two = first d (omega arith) in
            omega (
              arith,
              one,
              two,
              numbered_apart codes (suc d) c.numbered (g k) (g d)
                  (omega (arith, rest, before k lt, lt)) (omega (arith, rest, fits)),
            );
        behind = λ k le lt.
            let one = first k (omega (arith, lt)) in
            let two = first d (omega arith) in
            omega (
              arith,
              one,
              two,
              numbered_apart codes (suc d) c.numbered (g d) (g k)
                  (omega (arith, rest, behind k le lt, le)) (omega (arith, behind k le lt, lt)),
            );
      },
      map_back d f g codes back all,
    )

-- ---- the code of the rest is found

pub place_of_range : (d k : ℕ) → k < d → get_or (range_with_len 0 d) k 0 ≡ k
place_of_range d k lt = get_or-range_with_len 0 d k 0 lt ∙ omega arith

pub rest_code_is : (d r : ℕ) (owners : List ℕ) → IsRestCode d r owners → rest_code d owners ≡ r
unfolding rest_code
rest_code_is d r owners s =
    let test = λ (k : ℕ). nat_lt (first_row_of owners d) (first_row_of owners k) in
    position_or_len_is test (range_with_len 0 d) r 0 (omega (arith, s.within, length-range_with_len 0 d))
    (λ k lt. ap test (place_of_range d k (omega (arith, lt, s.within)))
    ∙ le-ltb (first_row_of owners d) (first_row_of owners k) (omega (arith, s.before k lt)))
    (λ lt. (let below : r < d = omega (arith, lt, length-range_with_len 0 d) in ap test (place_of_range d r below)
    ∙ lt-ltb (first_row_of owners d) (first_row_of owners r) (s.behind r (omega arith) below)))

position_le : (p : ℕ → Bool) (xs : List ℕ) → position_or_len p xs ≤ length xs
position_le p [] = omega arith
position_le p (x ∷ xs) = elim (cases_Bool (p x)) [
  | inl here ↦ rw here (omega arith)
  | inr other ↦ rw other (omega (arith, position_le p xs))
]

pub rest_code_fits : (rows d : ℕ) (owners : List ℕ) → AreOwners rows d owners → has owners d ≡ true
    → IsRestCode d (rest_code d owners) owners
unfolding rest_code
rest_code_fits rows d owners o some =
    let test = λ (k : ℕ). nat_lt (first_row_of owners d) (first_row_of owners k) in
    let r = position_or_len test (range_with_len 0 d) in
    let size = length-range_with_len 0 d in
    let fits : r ≤ d = omega (arith, size, position_le test (range_with_len 0 d)) in
    record {
      within = fits;
      before = λ k lt.
          let below : k < d = omega (arith, lt, fits) in
          let le : first_row_of owners k ≤ first_row_of owners d =
          ltb-false (first_row_of owners d) (first_row_of owners k) (ap test (sym (place_of_range d k below))
          ∙ fails_before_first test (range_with_len 0 d) k 0 lt) in
          let apart : first_row_of owners k ≡ first_row_of owners d → ⊥ =
          λ e. (let same : k ≡ d = sym (first_holds owners k (o.used k below)) ∙ ap (code_of owners) e
          ∙ first_holds owners d some in omega (arith, same, below)) in
          omega (arith, le, apart);
      behind = λ k le lt.
          let here : r < length (range_with_len 0 d) = omega (arith, size, le, lt) in
          let passes : first_row_of owners d < first_row_of owners r =
          ltb-true (first_row_of owners d) (first_row_of owners r)
          (ap test (sym (place_of_range d r (omega (arith, le, lt))))
          ∙ passes_at_first test (range_with_len 0 d) 0 here) in
          elim (cases_eq r k) [
            | inl same ↦ subst (λ (n : ℕ). first_row_of owners d < first_row_of owners n) same passes
            | inr other ↦ omega (arith, passes, numbered_apart owners d o.numbered r k (omega (arith, le, other)) lt)
          ];
    }
