-- The tuples of columns: their codes tell them apart, and joining codes agrees with asking the rows anew.
use Rattle.std.proofs.Common.{◌≡◌, ℕ, pos, zero, suc, ◌+◌, ◌<◌, ◌≤◌, Bool, true, false, cond, not, ◌&&◌, ◌==◌, nat_lt}
use Rattle.std.proofs.Common.{lt-ltb, List, [], ◌∷◌, ◌++◌, length, get_or, refl, sym, ap, ◌∙◌, arith, Option, Some}
use Rattle.std.proofs.Common.{None, length-append, inl, inr}
use Rattle.std.specs.List.{position_or_len, range_with_len}
use Rattle.std.specs.Ordering.{int_eq}
use Rattle.std.specs.Cmp.{IsEquivalence, both_ways, int_eq_equiv}
use Rattle.std.proofs.lemmas.Bool.{cases_lt}
use Rattle.std.proofs.lemmas.List.Folds.{list_all-append}
use Rattle.std.proofs.lemmas.List.Sums.{passes_at_first, fails_before_first}
use Rattle.std.proofs.lemmas.List.FromFn.{get_or-range_with_len, length-range_with_len}
use Rattle.cla_spec.specs.Matrix.{Matrix, entry}
use Rattle.cla_layout.specs.Groups.{code_of}
use Rattle.cla_layout.specs.Listed.{is_rest}
use Rattle.cla_grouping.specs.Numbering.{with_item, codes_from, codes_by, first_rows_by, same_pair}
use Rattle.cla_grouping.specs.Tuples.{TuplesOf, same_tuple, is_zero_row, code_where, tuples_by, tuples_in, joined}
use Rattle.cla_grouping.proofs.JoinLemmas.{same-code, codes_by-same, first_rows-same}

and_left : (a b : Bool) → (a && b) ≡ true → a ≡ true
and_left true b h = refl
and_left false b h = h

and_right : (a b : Bool) → (a && b) ≡ true → b ≡ true
and_right true b h = h
and_right false b h = absurd (cc)

-- to have the same tuple is an equivalence
pub same_tuple-equiv : (m : Matrix) (cs : List ℕ) → IsEquivalence (same_tuple m cs)
same_tuple-equiv m cs = record { refl = r cs; symm = s cs; congr = t cs }
  where
    is : IsEquivalence int_eq
    is = int_eq_equiv

    r : (cs : List ℕ) (x : ℕ) → same_tuple m cs x x ≡ true
    r [] x = refl
    r (c ∷ cs) x = ap (λ b. b && same_tuple m cs x x) (is.refl (entry m x c)) ∙ r cs x

    s : (cs : List ℕ) (x y : ℕ) → same_tuple m cs x y ≡ same_tuple m cs y x
    s [] x y = refl
    s (c ∷ cs) x y = ap (λ b. b && same_tuple m cs x y) (is.symm (entry m x c) (entry m y c))
        ∙ ap (λ b. int_eq (entry m y c) (entry m x c) && b) (s cs x y)

    t : (cs : List ℕ) (x y z : ℕ) → same_tuple m cs x y ≡ true → same_tuple m cs x z ≡ same_tuple m cs y z
    t [] x y z h = refl
    t (c ∷ cs) x y z h =
        ap (λ b. b && same_tuple m cs x z) (is.congr (entry m x c) (entry m y c) (entry m z c) (and_left _ _ h))
        ∙ ap (λ b. int_eq (entry m y c) (entry m z c) && b)
        (t cs x y z (and_right (int_eq (entry m x c) (entry m y c)) _ h))

-- the same tuples are zero together
pub zero-like : (m : Matrix) (cs : List ℕ) (x y : ℕ) → same_tuple m cs x y ≡ true
    → is_zero_row m cs x ≡ is_zero_row m cs y
zero-like m [] x y h = refl
zero-like m (c ∷ cs) x y h =
    ap (λ b. b && is_zero_row m cs x) (int_eq_equiv.congr (entry m x c) (entry m y c) (pos 0) (and_left _ _ h))
    ∙ ap (λ b. int_eq (entry m y c) (pos 0) && b)
    (zero-like m cs x y (and_right (int_eq (entry m x c) (entry m y c)) _ h))

-- and all rows of zeros have the same
pub zeros-same : (m : Matrix) (cs : List ℕ) (x y : ℕ) → is_zero_row m cs x ≡ true → is_zero_row m cs y ≡ true
    → same_tuple m cs x y ≡ true
zeros-same m [] x y h g = refl
zeros-same m (c ∷ cs) x y h g =
    ap (λ b. b && same_tuple m cs x y)
    (int_eq_equiv.congr (entry m x c) (pos 0) (entry m y c) (and_left _ _ h) ∙ int_eq_equiv.symm (pos 0) (entry m y c)
    ∙ and_left _ _ g)
    ∙ zeros-same m cs x y (and_right (int_eq (entry m x c) (pos 0)) _ h) (and_right (int_eq (entry m y c) (pos 0)) _ g)

-- there is a code for each row
pub length-codes_from : {A : Type 0} (eq : A → A → Bool) (seen xs : List A) → length (codes_from eq seen xs) ≡ length xs
length-codes_from eq seen [] = refl
length-codes_from eq seen (x ∷ xs) = ap suc (length-codes_from eq (with_item eq seen x) xs)

pub length-codes_by : (e : ℕ → ℕ → Bool) (n : ℕ) → length (codes_by e n) ≡ n
length-codes_by e n = length-codes_from e [] (range_with_len 0 n) ∙ length-range_with_len 0 n

-- rows and a test of them: it tells the same rows alike, and all that pass are the same
pub record IsClass (e : ℕ → ℕ → Bool) (z : ℕ → Bool) : Type 0 where
  pub like : (x y : ℕ) → e x y ≡ true → z x ≡ z y
  pub same : (x y : ℕ) → z x ≡ true → z y ≡ true → e x y ≡ true

pub zeros-class : (m : Matrix) (cs : List ℕ) → IsClass (same_tuple m cs) (is_zero_row m cs)
zeros-class m cs = record { like = zero-like m cs; same = zeros-same m cs }

row_is : (n i : ℕ) → i < n → get_or (range_with_len 0 n) i 0 ≡ i
row_is n i h = get_or-range_with_len 0 n i 0 h ∙ omega arith

-- where the first row that passes stands
abbrev first_passing : (ℕ → Bool) → ℕ → ℕ
first_passing z n = position_or_len z (range_with_len 0 n)

first_passes : (z : ℕ → Bool) (n : ℕ) → first_passing z n < n → z (first_passing z n) ≡ true
first_passes z n h =
    ap z (sym (row_is n (first_passing z n) h))
    ∙ passes_at_first z (range_with_len 0 n) 0 (omega (arith, h, length-range_with_len 0 n))

none_passes : (z : ℕ → Bool) (n i : ℕ) → n ≤ first_passing z n → i < n → z i ≡ false
none_passes z n i h row =
    ap z (sym (row_is n i row)) ∙ fails_before_first z (range_with_len 0 n) i 0 (omega (arith, h, row))

-- a row has the code of the class exactly where it passes
pub class-code : (e : ℕ → ℕ → Bool) (z : ℕ → Bool) → IsEquivalence e → IsClass e z → (n i : ℕ) → i < n →
    is_rest (code_where z (codes_by e n)) (code_of (codes_by e n) i) ≡ z i
class-code e z is class n i row =
    ap
    (λ (k : ℕ). is_rest (cond (nat_lt (first_passing z k) k) (Some (code_of (codes_by e n) (first_passing z k))) None)
    (code_of (codes_by e n) i)) (length-codes_by e n)
    ∙ elim (cases_lt (first_passing z n) n) [
      | inl there ↦
          ap
          (λ b. is_rest (cond b (Some (code_of (codes_by e n) (first_passing z n))) None) (code_of (codes_by e n) i))
          (lt-ltb _ _ there)
          ∙ same-code e is n i (first_passing z n) row there
          ∙ both_ways (e i (first_passing z n)) (z i)
          (λ h. class.like i (first_passing z n) h ∙ first_passes z n there)
          (λ h. class.same i (first_passing z n) h (first_passes z n there))
      | inr past ↦
          ap
          (λ b. is_rest (cond b (Some (code_of (codes_by e n) (first_passing z n))) None) (code_of (codes_by e n) i))
          (not_less (first_passing z n) n past)
          ∙ sym (none_passes z n i past row)
    ]
  where
    not_less : (a b : ℕ) → b ≤ a → nat_lt a b ≡ false
    not_less a b h = grind arith

-- tests that agree on the rows find one code
position-range : (p q : ℕ → Bool) (n a : ℕ) → ((i : ℕ) → a ≤ i → i < a + n → p i ≡ q i)
    → position_or_len p (range_with_len a n) ≡ position_or_len q (range_with_len a n)
position-range p q zero a h = refl
position-range p q (suc n) a h =
    ap (λ b. cond (not b) (1 + position_or_len p (range_with_len (a + 1) n)) 0) (h a (omega arith) (omega arith))
    ∙ ap (λ k. cond (not (q a)) (1 + k) 0)
    (position-range p q n (a + 1) (λ i low high. h i (omega (arith, low)) (omega (arith, high))))

pub code_where-same : (p q : ℕ → Bool) (codes : List ℕ) → ((i : ℕ) → i < length codes → p i ≡ q i)
    → code_where p codes ≡ code_where q codes
code_where-same p q codes h =
    ap (λ (k : ℕ). cond (nat_lt k (length codes)) (Some (code_of codes k)) None)
    (position-range p q (length codes) 0 (λ i low high. h i (omega (arith, high))))

-- the same tests give the same tuples
pub tuples_by-same : (w v n : ℕ) (e f : ℕ → ℕ → Bool) (z y : ℕ → Bool) → w ≡ v
    → ((i j : ℕ) → i < n → j < n → e i j ≡ f i j) → ((i : ℕ) → i < n → z i ≡ y i) →
    tuples_by w e z n ≡ tuples_by v f y n
tuples_by-same w v n e f z y width same zeros =
    let codes : codes_by e n ≡ codes_by f n = codes_by-same e f n same in
    let distinct : length (first_rows_by e n) ≡ length (first_rows_by f n) = ap length (first_rows-same e f n same) in
    let zero_is : code_where z (codes_by e n) ≡ code_where y (codes_by f n) =
    ap (code_where z) codes ∙ code_where-same z y (codes_by f n)
    (λ i h. zeros i (omega (arith, h, length-codes_by f n))) in
    made w v (length (first_rows_by e n)) (length (first_rows_by f n)) (codes_by e n) (codes_by f n)
    (code_where z (codes_by e n)) (code_where y (codes_by f n)) width distinct codes zero_is
  where
    with : ℕ → ℕ → List ℕ → Option ℕ → TuplesOf
    with w d xs a = record { width = w; distinct = d; codes = xs; zero = a }

    made : (w v d c : ℕ) (xs ys : List ℕ) (a b : Option ℕ) → w ≡ v → d ≡ c → xs ≡ ys → a ≡ b
        → with w d xs a ≡ with v c ys b
    made w v d c xs ys a b h k l m = ap (λ t. with t d xs a) h ∙ ap (λ t. with v t xs a) k ∙ ap (λ t. with v c t a) l
        ∙ ap (with v c ys) m

-- joining codes agrees with asking the rows anew
pub joins-agree : (m : Matrix) (a b : List ℕ) → joined (tuples_in m a) (tuples_in m b) ≡ tuples_in m (a ++ b)
joins-agree m a b =
    let n = m.rows in
    let ea = same_tuple m a in
    let eb = same_tuple m b in
    let za = is_zero_row m a in
    let zb = is_zero_row m b in
    let first = code_where za (codes_by ea n) in
    let second = code_where zb (codes_by eb n) in
    ap
    (tuples_by (length a + length b) (same_pair (codes_by ea n) (codes_by eb n))
    (λ i. is_rest first (code_of (codes_by ea n) i) && is_rest second (code_of (codes_by eb n) i)))
    (length-codes_by ea n)
    ∙ tuples_by-same (length a + length b) (length (a ++ b)) n
    (same_pair (codes_by ea n) (codes_by eb n)) (same_tuple m (a ++ b))
    (λ i. is_rest first (code_of (codes_by ea n) i) && is_rest second (code_of (codes_by eb n) i))
    (is_zero_row m (a ++ b))
    (sym (length-append a b))
    (λ i j hi hj.
    ap (λ t. t && (code_of (codes_by eb n) i == code_of (codes_by eb n) j))
    (same-code ea (same_tuple-equiv m a) n i j hi hj)
    ∙ ap (λ t. ea i j && t) (same-code eb (same_tuple-equiv m b) n i j hi hj)
    ∙ sym (list_all-append (λ d. int_eq (entry m i d) (entry m j d)) a b))
    (λ i hi.
    ap (λ t. t && is_rest second (code_of (codes_by eb n) i))
    (class-code ea za (same_tuple-equiv m a) (zeros-class m a) n i hi)
    ∙ ap (λ t. za i && t) (class-code eb zb (same_tuple-equiv m b) (zeros-class m b) n i hi)
    ∙ sym (list_all-append (λ d. int_eq (entry m i d) (pos 0)) a b))
