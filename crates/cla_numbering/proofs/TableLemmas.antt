-- Numbering pairs of codes through a table.
use Rattle.std.proofs.Common.{◌≡◌, ℕ, zero, suc, ◌+◌, ◌*◌, ◌<◌, ◌≤◌, ◌≢◌, Bool, true, false, cond, not, ◌&&◌, ◌||◌}
use Rattle.std.proofs.Common.{◌==◌, nat_eq, List, [], ◌∷◌, ◌++◌, map, length, get_or, set, refl, sym, ap, ◌∙◌, subst}
use Rattle.std.proofs.Common.{arith, eq-eqb, eqb-true, append_assoc, length-append, replicate, drop, drop-cons}
use Rattle.std.specs.List.{position_or_len, list_any, range_with_len}
use Rattle.std.specs.Cmp.{both_ways}
use Rattle.std.proofs.lemmas.List.{length-set, get_or-set_same, get_or-set_other, length-map, drop_all}
use Rattle.std.proofs.lemmas.List.Folds.{list_any-append}
use Rattle.std.proofs.lemmas.List.FromFn.{get_or-map-range_with_len, length-range_with_len}
use Rattle.cla_layout.specs.Groups.{code_of}
use Rattle.cla_grouping.specs.Numbering.{with_item, codes_from, firsts_from, codes_by, same_pair}
use Rattle.cla_numbering.specs.Tables.{no_number, number_at, number_put, table_put, next_put, place_at}
use Rattle.cla_numbering.specs.Together.{number_or}
use Rattle.cla_grouping.proofs.CodeLemmas.{codes_from-map, firsts_from-map, position-within}
use Rattle.cla_grouping.proofs.JoinLemmas.{codes_by-same, first_rows-same}

-- the table numbers what was seen, and the codes so far and those of what is left are all codes
pub record IsNumbered (table codes : List ℕ) (next : ℕ) (left all : List ℕ) : Type 0 where
  pub seen : List ℕ
  pub holds : (p : ℕ) → number_at table p ≡ number_or seen p
  pub count : next ≡ length seen
  pub so_far : codes ++ codes_from nat_eq seen left ≡ codes_from nat_eq [] all
  pub firsts : firsts_from nat_eq seen left ≡ firsts_from nat_eq [] all

not_equal : (a b : ℕ) → a ≢ b → nat_eq a b ≡ false
not_equal a b h = by (nat_eq a b) refl
  where
    by : (t : Bool) → nat_eq a b ≡ t → nat_eq a b ≡ false
    by true e = absurd (h (eqb-true a b e))
    by false e = e

pub position-none : {A : Type 0} (p : A → Bool) (xs : List A) → list_any p xs ≡ false → position_or_len p xs ≡ length xs
position-none p [] h = refl
position-none p (y ∷ ys) h = at (p y) (λ e. position-none p ys e) h
  where
    at : (b : Bool) → (list_any p ys ≡ false → position_or_len p ys ≡ length ys) → (b || list_any p ys) ≡ false
        → cond (not b) (1 + position_or_len p ys) 0 ≡ suc (length ys)
    at true k e = absurd (cc)
    at false k e = ap (λ n. 1 + n) (k e) ∙ omega arith

position-absent : {A : Type 0} (p : A → Bool) (xs : List A) (x : A) → list_any p xs ≡ false → p x ≡ true
    → position_or_len p (xs ++ x ∷ []) ≡ length xs
position-absent p [] x h g = ap (λ b. cond (not b) (1 + 0) 0) g
position-absent p (y ∷ ys) x h g = at (p y) (λ e. position-absent p ys x e g) h
  where
    at : (b : Bool) → (list_any p ys ≡ false → position_or_len p (ys ++ x ∷ []) ≡ length ys)
        → (b || list_any p ys) ≡ false → cond (not b) (1 + position_or_len p (ys ++ x ∷ [])) 0 ≡ suc (length ys)
    at true k e = absurd (cc)
    at false k e = ap (λ n. 1 + n) (k e) ∙ omega arith

position-present : {A : Type 0} (p : A → Bool) (xs : List A) (x : A) → list_any p xs ≡ true
    → position_or_len p (xs ++ x ∷ []) ≡ position_or_len p xs
position-present p [] x h = absurd (cc)
position-present p (y ∷ ys) x h = at (p y) (λ e. position-present p ys x e) h
  where
    at : (b : Bool) → (list_any p ys ≡ true → position_or_len p (ys ++ x ∷ []) ≡ position_or_len p ys)
        → (b || list_any p ys) ≡ true →
        cond (not b) (1 + position_or_len p (ys ++ x ∷ [])) 0 ≡ cond (not b) (1 + position_or_len p ys) 0
    at true k e = refl
    at false k e = ap (λ n. 1 + n) (k e)

-- the table once a place has the next number
holds_more : (table seen : List ℕ) (p : ℕ) → ((r : ℕ) → number_at table r ≡ number_or seen r)
    → list_any (nat_eq p) seen ≡ false → p < length table →
    (r : ℕ) → number_at (set table p (length seen)) r ≡ number_or (seen ++ p ∷ []) r
holds_more table seen p holds fresh within r = by (nat_eq r p) refl
  where
    by : (t : Bool) → nat_eq r p ≡ t → number_at (set table p (length seen)) r ≡ number_or (seen ++ p ∷ []) r
    by true e =
        let same : r ≡ p = eqb-true r p e in
        let absent : list_any (nat_eq r) seen ≡ false = ap (λ q. list_any (nat_eq q) seen) same ∙ fresh in
        ap (number_at (set table p (length seen))) same ∙ get_or-set_same table p (length seen) no_number within
        ∙ sym
        (ap (λ b. cond b (position_or_len (nat_eq r) (seen ++ p ∷ [])) no_number)
        (list_any-append (nat_eq r) seen (p ∷ []) ∙ ap (λ b. b || (nat_eq r p || false)) absent
        ∙ ap (λ b. b || false) e)
        ∙ position-absent (nat_eq r) seen p absent e)
    by false e =
        get_or-set_other table p r (length seen) no_number (λ s. absurd (cc (e, eq-eqb r p s)))
        ∙ holds r ∙ other (list_any (nat_eq r) seen) refl
      where
        last : (b : Bool) → (b || (false || false)) ≡ b
        last true = refl
        last false = refl

        any : list_any (nat_eq r) (seen ++ p ∷ []) ≡ list_any (nat_eq r) seen
        any = list_any-append (nat_eq r) seen (p ∷ []) ∙ ap (λ b. list_any (nat_eq r) seen || (b || false)) e
            ∙ last (list_any (nat_eq r) seen)

        other : (b : Bool) → list_any (nat_eq r) seen ≡ b → number_or seen r ≡ number_or (seen ++ p ∷ []) r
        other true f =
            ap (λ b. cond b (position_or_len (nat_eq r) seen) no_number) f ∙ sym (position-present (nat_eq r) seen p f)
            ∙ sym (ap (λ b. cond b (position_or_len (nat_eq r) (seen ++ p ∷ [])) no_number) (any ∙ f))
        other false f =
            ap (λ b. cond b (position_or_len (nat_eq r) seen) no_number) f
            ∙ sym (ap (λ b. cond b (position_or_len (nat_eq r) (seen ++ p ∷ [])) no_number) (any ∙ f))

-- one more place
pub numbered_more : (table codes : List ℕ) (next p : ℕ) (rest all : List ℕ)
    → IsNumbered table codes next (p ∷ rest) all → p < length table → next < no_number →
    IsNumbered (table_put table next p) (codes ++ number_put table next p ∷ []) (next_put table next p) rest all
numbered_more table codes next p rest all s within few = by (list_any (nat_eq p) s.seen) refl
  where
    new : Bool → Type 0
    new b =
        IsNumbered (cond b (set table p next) table) (codes ++ cond b next (number_at table p) ∷ [])
        (cond b (next + 1) next) rest all

    by : (t : Bool) → list_any (nat_eq p) s.seen ≡ t
        → IsNumbered (table_put table next p) (codes ++ number_put table next p ∷ []) (next_put table next p) rest all
    by true e =
        let kept : number_at table p ≡ position_or_len (nat_eq p) s.seen = s.holds p
        ∙ ap (λ b. cond b (position_or_len (nat_eq p) s.seen) no_number) e in
        let small : position_or_len (nat_eq p) s.seen < length s.seen = position-within (nat_eq p) s.seen e in
        let count = s.count in
        let known : nat_eq (number_at table p) no_number ≡ false =
        not_equal (number_at table p) no_number (omega (arith, kept, small, count, few)) in
        subst new (sym known) (record {
          seen = s.seen;
          holds = s.holds;
          count = s.count;
          so_far = append_assoc codes (number_at table p ∷ []) (codes_from nat_eq s.seen rest)
              ∙ ap (λ c. codes ++ c ∷ codes_from nat_eq s.seen rest) kept
              ∙ ap
              (λ b. codes ++ position_or_len (nat_eq p) s.seen ∷ codes_from nat_eq
              (cond b s.seen (s.seen ++ p ∷ [])) rest) (sym e) ∙ s.so_far;
          firsts = ap (λ b. firsts_from nat_eq (cond b s.seen (s.seen ++ p ∷ [])) rest) (sym e) ∙ s.firsts;
        })
    by false e =
        let none : number_at table p ≡ no_number = s.holds p
        ∙ ap (λ b. cond b (position_or_len (nat_eq p) s.seen) no_number) e in
        let place : position_or_len (nat_eq p) s.seen ≡ length s.seen = position-none (nat_eq p) s.seen e in
        subst new (sym (eq-eqb (number_at table p) no_number none)) (record {
          seen = s.seen ++ p ∷ [];
          holds = λ r. ap (λ n. number_at (set table p n) r) s.count ∙ holds_more table s.seen p s.holds e within r;
          count = ap (λ n. n + 1) s.count ∙ sym (length-append s.seen (p ∷ []));
          so_far = append_assoc codes (next ∷ []) (codes_from nat_eq (s.seen ++ p ∷ []) rest)
              ∙ ap (λ c. codes ++ c ∷ codes_from nat_eq (s.seen ++ p ∷ []) rest) (s.count ∙ sym place)
              ∙ ap
              (λ b. codes ++ position_or_len (nat_eq p) s.seen ∷ codes_from nat_eq
              (cond b s.seen (s.seen ++ p ∷ [])) rest) (sym e) ∙ s.so_far;
          firsts = ap (λ b. firsts_from nat_eq (cond b s.seen (s.seen ++ p ∷ [])) rest) (sym e) ∙ s.firsts;
        })

-- the same without the codes
abbrev pub IsSeen : List ℕ → ℕ → List ℕ → List ℕ → Type 0
IsSeen table next left all = (codes : List ℕ) × IsNumbered table codes next left all

pub seen_more : (table : List ℕ) (next p : ℕ) (rest all : List ℕ) → IsSeen table next (p ∷ rest) all
    → p < length table → next < no_number →
    IsSeen (table_put table next p) (next_put table next p) rest all
seen_more table next p rest all s within few =
    (s.0 ++ number_put table next p ∷ [], numbered_more table s.0 next p rest all s.1 within few)

pub next-le : (table : List ℕ) (next p : ℕ) → next_put table next p ≤ next + 1
next-le table next p = by (nat_eq (number_at table p) no_number)
  where
    by : (b : Bool) → cond b (next + 1) next ≤ next + 1
    by true = omega arith
    by false = omega arith

pub length-table_put : (table : List ℕ) (next p : ℕ) → length (table_put table next p) ≡ length table
length-table_put table next p = by (nat_eq (number_at table p) no_number)
  where
    by : (b : Bool) → length (cond b (set table p next) table) ≡ length table
    by true = length-set table p next
    by false = refl

-- no fewer are seen in the end
pub firsts-more : (seen xs : List ℕ) → length seen ≤ length (firsts_from nat_eq seen xs)
firsts-more seen [] = omega arith
firsts-more seen (x ∷ xs) =
    let rest = firsts-more (with_item nat_eq seen x) xs in
    let here = by (list_any (nat_eq x) seen) in
    omega (arith, rest, here)
  where
    by : (b : Bool) → length seen ≤ length (cond b seen (seen ++ x ∷ []))
    by true = omega arith
    by false = omega (arith, length-append seen (x ∷ []))

pub seen-most : (table : List ℕ) (next : ℕ) (left all : List ℕ) → IsSeen table next left all
    → next ≤ length (firsts_from nat_eq [] all)
seen-most table next left all s =
    let more = firsts-more s.1.seen left in
    let count = s.1.count in
    let same = ap length s.1.firsts in
    omega (arith, more, count, same)

-- one row of a list of rows
pub places-drop : (a b : List ℕ) (wide n i : ℕ) → i < n →
    drop i (map (place_at a b wide) (range_with_len 0 n))
    ≡ place_at a b wide i ∷ drop (i + 1) (map (place_at a b wide) (range_with_len 0 n))
places-drop a b wide n i h =
    let all = map (place_at a b wide) (range_with_len 0 n) in
    let more : suc i ≡ i + 1 = omega arith in
    drop-cons all i 0 (omega (arith, length-map (range_with_len 0 n) (place_at a b wide), length-range_with_len 0 n))
    ∙ ap (λ m. get_or all i 0 ∷ drop m all) more
    ∙ ap (λ p. p ∷ drop (i + 1) all) (get_or-map-range_with_len (place_at a b wide) 0 n i i 0 h (omega arith))

-- the same, at a state that equals the one after a place
pub numbered_next : (table codes new_table new_codes : List ℕ) (next new_next code p : ℕ) (rest left all : List ℕ)
    → IsNumbered table codes next left all → left ≡ p ∷ rest → p < length table → next < no_number →
    code ≡ number_put table next p → new_table ≡ table_put table next p → new_next ≡ next_put table next p
    → new_codes ≡ codes ++ code ∷ [] → IsNumbered new_table new_codes new_next rest all
numbered_next table codes new_table new_codes next new_next code p rest left all s is within few c t n cs =
    let m =
    numbered_more table codes next p rest all (subst (λ l. IsNumbered table codes next l all) is s) within few in
    record {
      seen = m.seen;
      holds = λ r. ap (λ l. number_at l r) t ∙ m.holds r;
      count = n ∙ m.count;
      so_far = ap (λ l. l ++ codes_from nat_eq m.seen rest) (cs ∙ ap (λ k. codes ++ k ∷ []) c) ∙ m.so_far;
      firsts = m.firsts;
    }

pub seen_next : (table new_table : List ℕ) (next new_next p : ℕ) (rest left all : List ℕ) → IsSeen table next left all
    → left ≡ p ∷ rest → p < length table → next < no_number →
    new_table ≡ table_put table next p → new_next ≡ next_put table next p → IsSeen new_table new_next rest all
seen_next table new_table next new_next p rest left all s is within few t n = (
  s.0 ++ number_put table next p ∷ [],
  numbered_next table s.0 new_table (s.0 ++ number_put table next p ∷ []) next new_next
      (number_put table next p) p rest left all s.1 is within few refl t n refl,
)

pub place_within : (x y t w : ℕ) → x < t → y < w → x * w + y < t * w
place_within x y t w hx hy = grind arith

pub numbered_whole : (table codes : List ℕ) (next : ℕ) (left all : List ℕ) → left ≡ []
    → IsNumbered table codes next left all
    → (codes ≡ codes_from nat_eq [] all) × (next ≡ length (firsts_from nat_eq [] all))
numbered_whole table codes next left all is s = (
  sym (append-nil codes) ∙ ap (λ l. codes ++ codes_from nat_eq s.seen l) (sym is) ∙ s.so_far,
  s.count
      ∙ ap (λ l. length (firsts_from nat_eq s.seen l)) (sym is) ∙ ap length s.firsts,
)
  where
    append-nil : (xs : List ℕ) → xs ++ [] ≡ xs
    append-nil [] = refl
    append-nil (x ∷ xs) = ap (λ l. x ∷ l) (append-nil xs)

pub places-none : (a b : List ℕ) (wide n i : ℕ) → n ≤ i → drop i (map (place_at a b wide) (range_with_len 0 n)) ≡ []
places-none a b wide n i h =
    drop_all i (map (place_at a b wide) (range_with_len 0 n))
    (omega (arith, h, length-map (range_with_len 0 n) (place_at a b wide), length-range_with_len 0 n))

-- nothing is seen yet
pub numbered_none : (many : ℕ) (all : List ℕ) → IsNumbered (replicate many no_number) [] 0 all all
numbered_none many all = record { seen = []; holds = at many; count = refl; so_far = refl; firsts = refl }
  where
    at : (n r : ℕ) → get_or (replicate n no_number) r no_number ≡ no_number
    at zero r = refl
    at (suc n) zero = refl
    at (suc n) (suc r) = at n r

pub digits-high : (x y u v w : ℕ) → y < w → v < w → x * w + y ≡ u * w + v → x ≡ u
digits-high zero y zero v w hy hv e = refl
digits-high zero y (suc u) v w hy hv e = absurd (grind (arith, hy, hv, e))
digits-high (suc x) y zero v w hy hv e = absurd (grind (arith, hy, hv, e))
digits-high (suc x) y (suc u) v w hy hv e = ap suc (digits-high x y u v w hy hv (grind (arith, e)))

-- two rows stand at one place exactly where both codes agree
same_place : (a b : List ℕ) (wide i j : ℕ) → code_of b i < wide → code_of b j < wide
    → nat_eq (place_at a b wide i) (place_at a b wide j) ≡ same_pair a b i j
same_place a b wide i j hi hj = both_ways _ _
    (λ e. let eq = eqb-true (place_at a b wide i) (place_at a b wide j) e in
    both (code_of a i == code_of a j) (code_of b i == code_of b j) (eq-eqb _ _ (high eq)) (eq-eqb _ _ (low eq)))
    (λ e. eq-eqb (place_at a b wide i) (place_at a b wide j)
    (grind (
      arith,
      eqb-true (code_of a i) (code_of a j) (left (code_of a i == code_of a j) (code_of b i == code_of b j) e),
      eqb-true (code_of b i) (code_of b j) (right (code_of a i == code_of a j) (code_of b i == code_of b j) e),
    )))
  where
    both : (x y : Bool) → x ≡ true → y ≡ true → (x && y) ≡ true
    both true y h g = g
    both false y h g = h

    left : (a b : Bool) → (a && b) ≡ true → a ≡ true
    left true b h = refl
    left false b h = h

    right : (a b : Bool) → (a && b) ≡ true → b ≡ true
    right true b h = h
    right false b h = absurd (cc)

    high : place_at a b wide i ≡ place_at a b wide j → code_of a i ≡ code_of a j
    high e = digits-high (code_of a i) (code_of b i) (code_of a j) (code_of b j) wide hi hj e

    low : place_at a b wide i ≡ place_at a b wide j → code_of b i ≡ code_of b j
    low e = let h = high e in grind (arith, h, e)

-- the codes of the places are those of the pairs
pub codes-of_places : (a b : List ℕ) (wide n : ℕ) → ((i : ℕ) → i < n → code_of b i < wide) →
    codes_from nat_eq [] (map (place_at a b wide) (range_with_len 0 n)) ≡ codes_by (same_pair a b) n
codes-of_places a b wide n within =
    codes_from-map nat_eq (place_at a b wide) [] (range_with_len 0 n)
    ∙ codes_by-same _ _ n (λ i j hi hj. same_place a b wide i j (within i hi) (within j hj))

pub firsts-of_places : (a b : List ℕ) (wide n : ℕ) → ((i : ℕ) → i < n → code_of b i < wide) →
    length (firsts_from nat_eq [] (map (place_at a b wide) (range_with_len 0 n)))
    ≡ length (firsts_from (same_pair a b) [] (range_with_len 0 n))
firsts-of_places a b wide n within =
    ap length (firsts_from-map nat_eq (place_at a b wide) [] (range_with_len 0 n)) ∙ length-map _ (place_at a b wide)
    ∙ ap length (first_rows-same _ _ n (λ i j hi hj. same_place a b wide i j (within i hi) (within j hj)))
