-- Items that are numbered by first place.
use Rattle.std.proofs.Common.{◌≡◌, ℕ, zero, suc, ◌+◌, ◌<◌, Bool, true, false, cond, not, ◌||◌, List, [], ◌∷◌, ◌++◌, map}
use Rattle.std.proofs.Common.{length, get_or, refl, sym, ap, ◌∙◌, arith, eqb, eq-eqb, eqb-true}
use Rattle.std.specs.List.{position_or_len, list_any}
use Rattle.std.specs.Cmp.{IsEquivalence, both_ways}
use Rattle.std.proofs.lemmas.List.Folds.{list_any-append}
use Rattle.std.proofs.lemmas.List.Sums.{passes_at_first}
use Rattle.cla_grouping.specs.Numbering.{with_item, codes_from, firsts_from}

-- numbering depends on the test alone
pub list_any-map : {A B : Type 0} (p : B → Bool) (f : A → B) (xs : List A)
    → list_any p (map f xs) ≡ list_any (λ x. p (f x)) xs
list_any-map p f [] = refl
list_any-map p f (x ∷ xs) = ap (λ b. p (f x) || b) (list_any-map p f xs)

pub position-map : {A B : Type 0} (p : B → Bool) (f : A → B) (xs : List A)
    → position_or_len p (map f xs) ≡ position_or_len (λ x. p (f x)) xs
position-map p f [] = refl
position-map p f (x ∷ xs) = ap (λ n. cond (not (p (f x))) (1 + n) 0) (position-map p f xs)

map-append : {A B : Type 0} (f : A → B) (xs : List A) (y : A) → map f (xs ++ y ∷ []) ≡ map f xs ++ f y ∷ []
map-append f [] y = refl
map-append f (x ∷ xs) y = ap (λ l. f x ∷ l) (map-append f xs y)

with_item_by : {A B : Type 0} (b c : Bool) (f : A → B) (seen : List A) (x : A) → b ≡ c →
    cond b (map f seen) (map f seen ++ f x ∷ []) ≡ map f (cond c seen (seen ++ x ∷ []))
with_item_by b true f seen x e = ap (λ t. cond t (map f seen) (map f seen ++ f x ∷ [])) e
with_item_by b false f seen x e = ap (λ t. cond t (map f seen) (map f seen ++ f x ∷ [])) e ∙ sym (map-append f seen x)

pub with_item-map : {A B : Type 0} (eq : B → B → Bool) (f : A → B) (seen : List A) (x : A) →
    with_item eq (map f seen) (f x) ≡ map f (with_item (λ a b. eq (f a) (f b)) seen x)
with_item-map eq f seen x =
    with_item_by (list_any (eq (f x)) (map f seen)) (list_any (λ b. eq (f x) (f b)) seen) f seen x
    (list_any-map (eq (f x)) f seen)

pub codes_from-map : {A B : Type 0} (eq : B → B → Bool) (f : A → B) (seen xs : List A) →
    codes_from eq (map f seen) (map f xs) ≡ codes_from (λ a b. eq (f a) (f b)) seen xs
codes_from-map eq f seen [] = refl
codes_from-map eq f seen (x ∷ xs) =
    ap (λ s. position_or_len (eq (f x)) (map f seen) ∷ codes_from eq s (map f xs)) (with_item-map eq f seen x)
    ∙ ap (λ n. n ∷ codes_from eq (map f (with_item (λ a b. eq (f a) (f b)) seen x)) (map f xs))
    (position-map (eq (f x)) f seen)
    ∙ ap (λ l. position_or_len (λ a. eq (f x) (f a)) seen ∷ l)
    (codes_from-map eq f (with_item (λ a b. eq (f a) (f b)) seen x) xs)

pub firsts_from-map : {A B : Type 0} (eq : B → B → Bool) (f : A → B) (seen xs : List A) →
    firsts_from eq (map f seen) (map f xs) ≡ map f (firsts_from (λ a b. eq (f a) (f b)) seen xs)
firsts_from-map eq f seen [] = refl
firsts_from-map eq f seen (x ∷ xs) =
    ap (λ s. firsts_from eq s (map f xs)) (with_item-map eq f seen x)
    ∙ firsts_from-map eq f (with_item (λ a b. eq (f a) (f b)) seen x) xs

-- a place that has been found stays
pub position-with : {A : Type 0} (eq : A → A → Bool) (p : A → Bool) (seen : List A) (x : A) →
    list_any p seen ≡ true → position_or_len p (with_item eq seen x) ≡ position_or_len p seen
position-with {A} eq p seen x h = by (list_any (eq x) seen)
  where
    in_front : (xs : List A) → list_any p xs ≡ true → position_or_len p (xs ++ x ∷ []) ≡ position_or_len p xs
    in_front [] h = grind arith
    in_front (y ∷ ys) h = at (p y) (λ e. in_front ys e) h
      where
        at : (b : Bool) → (list_any p ys ≡ true → position_or_len p (ys ++ x ∷ []) ≡ position_or_len p ys)
            → (b || list_any p ys) ≡ true →
            cond (not b) (1 + position_or_len p (ys ++ x ∷ [])) 0 ≡ cond (not b) (1 + position_or_len p ys) 0
        at true k e = refl
        at false k e = ap (λ n. 1 + n) (k e)

    by : (b : Bool) → position_or_len p (cond b seen (seen ++ x ∷ [])) ≡ position_or_len p seen
    by true = refl
    by false = in_front seen h

or_true : (a b : Bool) → a ≡ true → (a || b) ≡ true
or_true true b h = refl
or_true false b h = absurd (cc)

pub any-with : {A : Type 0} (eq : A → A → Bool) (p : A → Bool) (seen : List A) (x : A) → list_any p seen ≡ true
    → list_any p (with_item eq seen x) ≡ true
any-with eq p seen x h = by (list_any (eq x) seen)
  where
    by : (b : Bool) → list_any p (cond b seen (seen ++ x ∷ [])) ≡ true
    by true = h
    by false = list_any-append p seen (x ∷ []) ∙ or_true (list_any p seen) (list_any p (x ∷ [])) h

pub position-firsts : {A : Type 0} (eq : A → A → Bool) (p : A → Bool) (seen xs : List A) → list_any p seen ≡ true →
    position_or_len p (firsts_from eq seen xs) ≡ position_or_len p seen
position-firsts eq p seen [] h = refl
position-firsts eq p seen (x ∷ xs) h = position-firsts eq p (with_item eq seen x) xs (any-with eq p seen x h)
    ∙ position-with eq p seen x h

any-firsts : {A : Type 0} (eq : A → A → Bool) (p : A → Bool) (seen xs : List A) → list_any p seen ≡ true
    → list_any p (firsts_from eq seen xs) ≡ true
any-firsts eq p seen [] h = h
any-firsts eq p seen (x ∷ xs) h = any-firsts eq p (with_item eq seen x) xs (any-with eq p seen x h)

-- an item that was put in is found
pub any-put : {A : Type 0} (eq : A → A → Bool) → IsEquivalence eq → (seen : List A) (x : A)
    → list_any (eq x) (with_item eq seen x) ≡ true
any-put {A} eq is seen x = by (list_any (eq x) seen) refl
  where
    by : (b : Bool) → list_any (eq x) seen ≡ b → list_any (eq x) (cond b seen (seen ++ x ∷ [])) ≡ true
    by true h = h
    by false h = list_any-append (eq x) seen (x ∷ []) ∙ ap (λ b. list_any (eq x) seen || (b || false)) (is.refl x)
        ∙ last (list_any (eq x) seen)
      where
        last : (b : Bool) → (b || (true || false)) ≡ true
        last true = refl
        last false = refl

-- where an item stands once it is put in
position-put : {A : Type 0} (eq : A → A → Bool) → IsEquivalence eq → (seen : List A) (x : A)
    → position_or_len (eq x) (with_item eq seen x) ≡ position_or_len (eq x) seen
position-put {A} eq is seen x = by (list_any (eq x) seen) refl
  where
    at_end : (xs : List A) → list_any (eq x) xs ≡ false
        → position_or_len (eq x) (xs ++ x ∷ []) ≡ position_or_len (eq x) xs
    at_end [] h = ap (λ b. cond (not b) (1 + 0) 0) (is.refl x)
    at_end (y ∷ ys) h = at (eq x y) (λ e. at_end ys e) h
      where
        at : (b : Bool)
            → (list_any (eq x) ys ≡ false → position_or_len (eq x) (ys ++ x ∷ []) ≡ position_or_len (eq x) ys)
            → (b || list_any (eq x) ys) ≡ false →
            cond (not b) (1 + position_or_len (eq x) (ys ++ x ∷ [])) 0 ≡ cond (not b) (1 + position_or_len (eq x) ys) 0
        at true k e = refl
        at false k e = ap (λ n. 1 + n) (k e)

    by : (b : Bool) → list_any (eq x) seen ≡ b
        → position_or_len (eq x) (cond b seen (seen ++ x ∷ [])) ≡ position_or_len (eq x) seen
    by true h = refl
    by false h = at_end seen h

-- the codes are the places among all first items
pub codes-places : {A : Type 0} (eq : A → A → Bool) → IsEquivalence eq → (seen xs : List A) →
    codes_from eq seen xs ≡ map (λ x. position_or_len (eq x) (firsts_from eq seen xs)) xs
codes-places eq is seen [] = refl
codes-places {A} eq is seen (x ∷ xs) =
    ap (λ n. n ∷ codes_from eq (with_item eq seen x) xs)
    (sym (position-put eq is seen x) ∙ sym (position-firsts eq (eq x) (with_item eq seen x) xs (any-put eq is seen x)))
    ∙ ap (λ l. position_or_len (eq x) (firsts_from eq (with_item eq seen x) xs) ∷ l)
    (codes-places eq is (with_item eq seen x) xs)

pub any-item : {A : Type 0} (eq : A → A → Bool) → IsEquivalence eq → (seen xs : List A) (i : ℕ) (d : A)
    → i < length xs → list_any (eq (get_or xs i d)) (firsts_from eq seen xs) ≡ true
any-item eq is seen [] i d h = absurd (omega arith)
any-item eq is seen (x ∷ xs) zero d h = any-firsts eq (eq x) (with_item eq seen x) xs (any-put eq is seen x)
any-item eq is seen (x ∷ xs) (suc i) d h = any-item eq is (with_item eq seen x) xs i d (omega arith)

position-same : {A : Type 0} (p q : A → Bool) → ((x : A) → p x ≡ q x) → (xs : List A)
    → position_or_len p xs ≡ position_or_len q xs
position-same p q h [] = refl
position-same p q h (x ∷ xs) = ap (λ b. cond (not b) (1 + position_or_len p xs) 0) (h x)
    ∙ ap (λ n. cond (not (q x)) (1 + n) 0) (position-same p q h xs)

pub position-within : {A : Type 0} (p : A → Bool) (xs : List A) → list_any p xs ≡ true
    → position_or_len p xs < length xs
position-within p [] h = absurd (cc)
position-within p (x ∷ xs) h = at (p x) (λ e. position-within p xs e) h
  where
    at : (b : Bool) → (list_any p xs ≡ true → position_or_len p xs < length xs) → (b || list_any p xs) ≡ true
        → cond (not b) (1 + position_or_len p xs) 0 < suc (length xs)
    at true k e = omega arith
    at false k e = let h : position_or_len p xs < length xs = k e in omega arith

-- items at one place are equal
same_place : {A : Type 0} (eq : A → A → Bool) → IsEquivalence eq → (firsts : List A) (x y : A)
    → list_any (eq x) firsts ≡ true → list_any (eq y) firsts ≡ true →
    position_or_len (eq x) firsts ≡ position_or_len (eq y) firsts → eq x y ≡ true
same_place eq is firsts x y hx hy e =
    let f = get_or firsts (position_or_len (eq x) firsts) x in
    let a : eq x f ≡ true = passes_at_first (eq x) firsts x (position-within (eq x) firsts hx) in
    let b : eq y f ≡ true = ap (λ n. eq y (get_or firsts n x)) e
    ∙ passes_at_first (eq y) firsts x (position-within (eq y) firsts hy) in
    is.symm x y ∙ is.congr y f x b ∙ is.symm f x ∙ a

-- equal codes are equal rows
pub code-equal : {A : Type 0} (eq : A → A → Bool) → IsEquivalence eq → (firsts : List A) (x y : A)
    → list_any (eq x) firsts ≡ true → list_any (eq y) firsts ≡ true →
    eqb (position_or_len (eq x) firsts) (position_or_len (eq y) firsts) ≡ eq x y
code-equal eq is firsts x y hx hy = both_ways _ _
    (λ e. same_place eq is firsts x y hx hy (eqb-true _ _ e))
    (λ e. eq-eqb _ _ (position-same (eq x) (eq y) (λ z. is.congr x y z e) firsts))
