-- What is read is spelled so, and what is spelled so is read: one field, and what is made of fields.
use Rattle.std.proofs.Common.{◌≡◌, ℕ, zero, suc, ◌+◌, ◌*◌, ◌/◌, ◌%◌, ◌<◌, ◌≤◌, Bool, true, false, cond, eqb, List, []}
use Rattle.std.proofs.Common.{◌∷◌, ◌++◌, length, take, drop, min, Result, Ok, Err, refl, sym, ap, subst, ◌∙◌}
use Rattle.std.proofs.Common.{append_assoc, append-nil, arith, inl, inr}
use Rattle.std.specs.Prelude.{nat_lt}
use Rattle.std.specs.List.{flat_map}
use Rattle.std.proofs.lemmas.Bool.{cases_Bool, cond-true, cond-false, eqb-true, cases_lt, ltb-false, le-ltb}
use Rattle.std.proofs.lemmas.List.{nil_from_length, take_at, drop_at, take-append-drop, length-append, length-take}
use Rattle.std.proofs.lemmas.List.{get_or-drop, get_or-take, get_or_past}
use Rattle.cla_spec.specs.Bytes.{bytes_of, number_of, past}
use Rattle.cla_packed.specs.declared.fault.FieldName.{FieldName}
use Rattle.cla_packed.specs.declared.fault.PackFault.{PackFault}
use Rattle.cla_packed.specs.declared.fault.PackFault.TheVariants.{Field, TooLong, Trailing}
use Rattle.cla_packed.specs.Fields.{Place, Read, ◌>>=◌, after, number_at, tested, field_at, refused_at, checked_at}
use Rattle.cla_packed.specs.Fields.{start_of, ended, whole_at, then_at, list_at, as_at, EachIs, Takes, IsBytes}

IsBytes-drop : (n : ℕ) (bytes : List ℕ) → IsBytes bytes → IsBytes (drop n bytes)
IsBytes-drop n bytes h i = rw get_or-drop (h (n + i))

IsBytes-take : (n : ℕ) (bytes : List ℕ) → IsBytes bytes → IsBytes (take n bytes)
IsBytes-take n bytes h i =
    elim (cases_lt i n) [
      | inl lt ↦ rw (get_or-take n bytes i 0 lt) (h i)
      | inr le ↦ rw (get_or_past (take n bytes) i 0 (omega (arith, length-take n bytes))) (omega arith)
    ]

pub bind_ok : {A B : Type 0} (r : Result A PackFault) (f : A → Result B PackFault) (y : B) → (r >>= f) ≡ Ok y
    → (x : A) × (r ≡ Ok x) × (f x ≡ Ok y)
bind_ok (Ok x) f y e = (x, refl, e)
bind_ok (Err d) f y e = absurd cc

abbrev done : {A : Type 0} → A → Result A PackFault
done x = Ok x

pub ok_is : {A : Type 0} (x y : A) → done x ≡ done y → x ≡ y
ok_is x y e = cc

pub passed : {A : Type 0} (b : Bool) (d : PackFault) (x y : A) → tested b d x ≡ Ok y → (b ≡ true) × (x ≡ y)
passed true d x y e = (refl, cc)
passed false d x y e = absurd cc

not_refused : {A : Type 0} (b : Bool) (d : PackFault) (r : Result A PackFault) (y : A) → cond b (Err d) r ≡ Ok y
    → (b ≡ false) × (r ≡ Ok y)
not_refused true d r y e = absurd cc
not_refused false d r y e = (refl, e)

-- a place within the limit, with bytes behind it
pub record IsAt (p : Place) : Type 0 where
  pub fits : IsBytes p.rest
  pub near : p.offset ≤ p.limit

-- what is read is good and is spelled so; and what is good and is spelled so is read
pub record IsForm {A : Type 0} (read : Place → Read A) (good : A → Type 0) (bytes : A → List ℕ) : Type 0 where
  pub takes : (p q : Place) (a : A) → IsAt p → read p ≡ Ok (a, q) → good a × Takes p (bytes a) q × IsAt q
  pub again : (p q : Place) (a : A) → good a → Takes p (bytes a) q → read p ≡ Ok (a, q)

-- ---- places

pub Takes-then : (p q r : Place) (x y : List ℕ) → Takes p x q → Takes q y r → Takes p (x ++ y) r
Takes-then p q r x y a b = record {
  parts = a.parts ∙ ap (λ (t : List ℕ). x ++ t) b.parts ∙ sym (append_assoc x y r.rest);
  moved = omega (arith, a.moved, b.moved, length-append x y);
  same = b.same ∙ a.same;
  within = b.within;
}

pub Takes-none : (p : Place) → p.offset ≤ p.limit → Takes p [] p
Takes-none p near = record { parts = refl; moved = omega arith; same = refl; within = near }

-- the place between two parts
pub between : Place → List ℕ → List ℕ → Place
between p x rest = record { offset = p.offset + length x; limit = p.limit; rest = rest }

pub Takes-first : (p q : Place) (x y : List ℕ) → Takes p (x ++ y) q → Takes p x (between p x (y ++ q.rest))
unfolding between
Takes-first p q x y t = record {
  parts = t.parts ∙ append_assoc x y q.rest;
  moved = refl;
  same = refl;
  within =
      omega (arith, t.moved, t.same, t.within, length-append x y);
}

pub Takes-second : (p q : Place) (x y : List ℕ) → Takes p (x ++ y) q → Takes (between p x (y ++ q.rest)) y q
unfolding between
Takes-second p q x y t = record {
  parts = refl;
  moved = omega (arith, t.moved, length-append x y);
  same = t.same;
  within = t.within;
}

pub same_place : (p q : Place) → p.offset ≡ q.offset → p.limit ≡ q.limit → p.rest ≡ q.rest → p ≡ q
same_place p q a b c = λ i. record { offset = a i; limit = b i; rest = c i }

pub Takes-nothing : (p q : Place) → Takes p [] q → p ≡ q
Takes-nothing p q t = same_place p q (omega (arith, t.moved)) (sym t.same) t.parts

-- ---- numbers

pub length-bytes_of : (k n : ℕ) → length (bytes_of k n) ≡ k
length-bytes_of zero n = refl
length-bytes_of (suc k) n = ap suc (length-bytes_of k (n / 256))

pub number_of-bytes_of : (k n : ℕ) → n < past k → number_of (bytes_of k n) ≡ n
number_of-bytes_of zero n lt = omega arith
number_of-bytes_of (suc k) n lt =
    let part : n / 256 < past k = omega (arith, lt) in
    rw (number_of-bytes_of k (n / 256) part) (omega arith)

pub number_of-below : (k : ℕ) (bytes : List ℕ) → length bytes ≡ k → IsBytes bytes → number_of bytes < past k
number_of-below zero [] e h = omega arith
number_of-below zero (b ∷ bs) e h = absurd (omega (arith, e))
number_of-below (suc k) [] e h = absurd (omega (arith, e))
number_of-below (suc k) (b ∷ bs) e h =
    let more : number_of bs < past k = number_of-below k bs (omega (arith, e)) (λ i. h (suc i)) in
    omega (arith, more, h 0)

pub bytes_of-number_of : (k : ℕ) (bytes : List ℕ) → length bytes ≡ k → IsBytes bytes → bytes_of k (number_of bytes)
    ≡ bytes
bytes_of-number_of zero [] e h = refl
bytes_of-number_of zero (b ∷ bs) e h = absurd (omega (arith, e))
bytes_of-number_of (suc k) [] e h = absurd (omega (arith, e))
bytes_of-number_of (suc k) (b ∷ bs) e h =
    let low : (b + 256 * number_of bs) % 256 ≡ b = omega (arith, h 0) in
    let high : (b + 256 * number_of bs) / 256 ≡ number_of bs = omega (arith, h 0) in
    rw (low, high) (ap (λ (t : List ℕ). b ∷ t) (bytes_of-number_of k bs (omega (arith, e)) (λ i. h (suc i))))

pub number_form : (k group : ℕ) (name : FieldName) → IsForm (number_at k group name) (λ n. n < past k) (bytes_of k)
unfolding number_at
number_form k group name = record {
  takes = λ p q n at e.
      let a = not_refused (nat_lt p.limit (p.offset + min k (length p.rest))) TooLong
      (cond (nat_lt (length p.rest) k) (Err (Field group name p.offset)) (Ok (
        number_of (take k p.rest),
        after k p,
      ))) (n, q) e in
      let b = not_refused (nat_lt (length p.rest) k) (Field group name p.offset) (Ok (
        number_of (take k p.rest),
        after k p,
      )) (n, q) a.1 in
      let long : k ≤ length p.rest = ltb-false _ _ b.0 in
      let near : p.offset + min k (length p.rest) ≤ p.limit = ltb-false _ _ a.0 in
      let pair = ok_is (number_of (take k p.rest), after k p) (n, q) b.1 in
      let size : length (take k p.rest) ≡ k = omega (arith, length-take k p.rest) in
      let front = IsBytes-take k p.rest at.fits in
      subst (λ (x : ℕ × Place). (x.0 < past k) × Takes p (bytes_of k x.0) x.1 × IsAt x.1) pair (
        number_of-below k (take k p.rest) size front,
        record {
          parts = rw (bytes_of-number_of k (take k p.rest) size front) (sym (take-append-drop k p.rest));
          moved = omega (arith, length-bytes_of k (number_of (take k p.rest)));
          same = refl;
          within =
              omega (arith, near, long);
        },
        record { fits = IsBytes-drop k p.rest at.fits; near = omega (arith, near, long) },
      );
  again = λ p q n lt t.
      let len = length-bytes_of k n in
      let size : length p.rest ≡ k + length q.rest = ap (λ (bytes : List ℕ). length bytes) t.parts
      ∙ omega (arith, len, length-append (bytes_of k n) q.rest) in
      let near : nat_lt p.limit (p.offset + min k (length p.rest)) ≡ false =
      le-ltb _ _ (omega (arith, size, len, t.moved, t.same, t.within)) in
      let long : nat_lt (length p.rest) k ≡ false = le-ltb _ _ (omega (arith, size)) in
      let front : take k p.rest ≡ bytes_of k n = rw t.parts (take_at (bytes_of k n) q.rest k len) in
      let back : drop k p.rest ≡ q.rest = rw t.parts (drop_at (bytes_of k n) q.rest k len) in
      let moved : p.offset + k ≡ q.offset = omega (arith, t.moved, len) in
      rw (near, long, front, back, number_of-bytes_of k n lt, moved, ← t.same) refl;
}

pub field_form : (k : ℕ) (test : ℕ → Bool) (group : ℕ) (name : FieldName)
    → IsForm (field_at k test group name) (λ n. (n < past k) × (test n ≡ true)) (bytes_of k)
unfolding field_at
field_form k test group name = record {
  takes = λ p q n at e.
      let b = bind_ok (number_at k group name p) (λ n. tested (test n.0) (Field group name p.offset) n) (n, q) e in
      let c = passed (test b.0.0) (Field group name p.offset) b.0 (n, q) b.2 in
      let d = (number_form k group name).takes p q n at (b.1 ∙ ap (λ (x : ℕ × Place). Ok x) c.1) in
      ((d.0, ap (λ (x : ℕ × Place). test x.0) (sym c.1) ∙ c.0), d.1, d.2);
  again = λ p q n h t. rw ((number_form k group name).again p q n h.0 t, h.1) refl;
}

pub refused_form : (test : Bool) (fault : PackFault) → IsForm (refused_at test fault) (λ u. test ≡ true) (λ u. [])
unfolding refused_at
refused_form test fault = record {
  takes = λ p q u at e.
      let c = passed test fault (tt, p) (u, q) e in
      let same : p ≡ q = ap (λ (x : Unit {0} × Place). x.1) c.1 in
      (c.0, subst (λ (r : Place). Takes p [] r) same (Takes-none p at.near), subst IsAt same at);
  again = λ p q u h t. rw h (ap (λ (r : Place). Ok (tt, r)) (Takes-nothing p q t));
}

pub checked_form : (test : Bool) (group : ℕ) (name : FieldName) → IsForm (checked_at test group name) (λ u. test
    ≡ true) (λ u. [])
unfolding checked_at
checked_form test group name = record {
  takes = λ p q u at e. (refused_form test (Field group name p.offset)).takes p q u at e;
  again = λ p q u h t. (refused_form test (Field group name p.offset)).again p q u h t;
}

-- ---- parts

pub then_form : {A B : Type 0} (first : Place → Read A) (good : A → Type 0) (bytes : A → List ℕ) (second : A → Place
    → Read B) (good' : A → B → Type 0) (bytes' : A → B → List ℕ)
    → IsForm first good bytes → ((a : A) → good a → IsForm (second a) (good' a) (bytes' a))
    → IsForm (then_at first second) (λ x. good x.0 × good' x.0 x.1) (λ x. bytes x.0 ++ bytes' x.0 x.1)
unfolding then_at
then_form {A} {B} first good bytes second good' bytes' f g = record {
  takes = λ p q x at e.
      let a = bind_ok (first p) (λ a. second a.0 a.1 >>= λ b. Ok ((a.0, b.0), b.1)) (x, q) e in
      let b = bind_ok (second a.0.0 a.0.1) (λ b. Ok ((a.0.0, b.0), b.1)) (x, q) a.2 in
      let same = ok_is ((a.0.0, b.0.0), b.0.1) (x, q) b.2 in
      let c = f.takes p a.0.1 a.0.0 at a.1 in
      let d = (g a.0.0 c.0).takes a.0.1 b.0.1 b.0.0 c.2 b.1 in
      subst (λ (y : (A × B) × Place). (good y.0.0 × good' y.0.0 y.0.1)
      × Takes p (bytes y.0.0 ++ bytes' y.0.0 y.0.1) y.1 × IsAt y.1) same
      ((c.0, d.0), Takes-then p a.0.1 b.0.1 (bytes a.0.0) (bytes' a.0.0 b.0.0) c.1 d.1, d.2);
  again = λ p q x h t.
      rw (
        f.again p (between p (bytes x.0) (bytes' x.0 x.1 ++ q.rest)) x.0 h.0
            (Takes-first p q (bytes x.0) (bytes' x.0 x.1) t),
        (g x.0 h.0).again (between p (bytes x.0) (bytes' x.0 x.1 ++ q.rest)) q x.1 h.1
            (Takes-second p q (bytes x.0) (bytes' x.0 x.1) t),
      ) refl;
}

-- ---- lists

module _ {A : Type 0} (step : ℕ → List A → Place → Read A) (good : ℕ → List A → A → Type 0) (bytes : A
    → List ℕ) (each : (left : ℕ) (so_far : List A) → IsForm (step left so_far) (good left so_far) bytes) where
  pub list_takes : (n : ℕ) (so_far : List A) (p q : Place) (xs : List A) → IsAt p → list_at step n so_far p
      ≡ Ok (xs, q)
      → (items : List A) × (xs ≡ so_far ++ items) × (length items ≡ n) × EachIs good so_far items
      × Takes p (flat_map bytes items) q × IsAt q
  unfolding list_at
  list_takes zero so_far p q xs at e =
      subst (λ (y : List A × Place). (items : List A) × (y.0 ≡ so_far ++ items) × (length items ≡ 0)
      × EachIs good so_far items × Takes p (flat_map bytes items) y.1 × IsAt y.1) (ok_is (so_far, p) (xs, q) e)
      ([], sym (append-nil so_far), refl, tt, Takes-none p at.near, at)
  list_takes (suc left) so_far p q xs at e =
      let a = bind_ok (step left so_far p) (λ a. list_at step left (so_far ++ a.0 ∷ []) a.1) (xs, q) e in
      let f = (each left so_far).takes p a.0.1 a.0.0 at a.1 in
      let more = list_takes left (so_far ++ a.0.0 ∷ []) a.0.1 q xs f.2 a.2 in (
        a.0.0 ∷ more.0,
        more.1 ∙ append_assoc so_far (a.0.0 ∷ []) more.0,
        ap suc more.2,
        (subst (λ (m : ℕ). good m so_far a.0.0) (sym more.2) f.0, more.3),
        Takes-then p a.0.1 q (bytes a.0.0) (flat_map bytes more.0) f.1 more.4,
        more.5,
      )

  pub list_again : (so_far items : List A) (p q : Place) → EachIs good so_far items
      → Takes p (flat_map bytes items) q → list_at step (length items) so_far p ≡ Ok (so_far ++ items, q)
  unfolding list_at
  list_again so_far [] p q h t = λ i. Ok (sym (append-nil so_far) i, Takes-nothing p q t i)
  list_again so_far (a ∷ items) p q h t =
      let middle = between p (bytes a) (flat_map bytes items ++ q.rest) in
      rw ((each (length items) so_far).again p middle a h.0 (Takes-first p q (bytes a) (flat_map bytes items) t))
      (list_again (so_far ++ a ∷ []) items middle q h.1 (Takes-second p q (bytes a) (flat_map bytes items) t)
      ∙ ap (λ (all : List A). Ok (all, q)) (append_assoc so_far (a ∷ []) items))

  pub list_form : (n : ℕ) → IsForm (list_at step n []) (λ items. (length items ≡ n) × EachIs good [] items)
      (flat_map bytes)
  list_form n = record {
    takes = λ p q xs at e.
        let l = list_takes n [] p q xs at e in
        subst (λ (ys : List A). ((length ys ≡ n) × EachIs good [] ys) × Takes p (flat_map bytes ys) q
        × IsAt q) (sym l.1) ((l.2, l.3), l.4, l.5);
    again = λ p q items h t. subst (λ (m : ℕ). list_at step m [] p ≡ Ok (items, q)) h.0
        (list_again [] items p q h.1 t);
  }

-- what is read, seen in another way
pub as_form : {A B : Type 0} (read : Place → Read A) (good : A → Type 0) (bytes : A → List ℕ) (view : A
    → B) (back : B → A) (good' : B → Type 0)
    → IsForm read good bytes → ((a : A) → good a → good' (view a) × (back (view a) ≡ a))
    → ((b : B) → good' b → good (back b) × (view (back b) ≡ b))
    → IsForm (as_at view read) good' (λ b. bytes (back b))
unfolding as_at
as_form {A} {B} read good bytes view back good' f there home = record {
  takes = λ p q b at e.
      let a = bind_ok (read p) (λ a. Ok (view a.0, a.1)) (b, q) e in
      let same = ok_is (view a.0.0, a.0.1) (b, q) a.2 in
      let c = f.takes p a.0.1 a.0.0 at a.1 in
      let t = there a.0.0 c.0 in
      subst (λ (y : B × Place). good' y.0 × Takes p (bytes (back y.0)) y.1 × IsAt y.1) same (t.0, rw t.1 c.1, c.2);
  again = λ p q b h t. rw (f.again p q (back b) (home b h).0 t) (ap (λ (y : B). Ok (y, q)) (home b h).1);
}

-- ---- whole files

two_faults : {A : Type 0} (b : Bool) (d e : PackFault) (a : A) → cond b (Err d) (Err e) ≡ Ok a → ⊥
two_faults true d e a h = absurd cc
two_faults false d e a h = absurd cc

pub ended_ok : {A : Type 0} (x : A × Place) (a : A) → ended x ≡ Ok a → (length x.1.rest ≡ 0) × (x.0 ≡ a)
ended_ok x a e = elim (cases_Bool (eqb (length x.1.rest) 0)) [
  | inl none ↦ (
    eqb-true (length x.1.rest) 0 none,
    ok_is x.0 a (sym (cond-true (eqb (length x.1.rest) 0) (Ok x.0)
        (cond (nat_lt x.1.offset x.1.limit) (Err (Trailing x.1.offset)) (Err TooLong)) none) ∙ e),
  )
  | inr some ↦ absurd (two_faults (nat_lt x.1.offset x.1.limit) (Trailing x.1.offset) TooLong a
      (sym (cond-false (eqb (length x.1.rest) 0) (Ok x.0)
      (cond (nat_lt x.1.offset x.1.limit) (Err (Trailing x.1.offset)) (Err TooLong)) some) ∙ e))
]

-- the laws of a whole file: what is read is good and has these bytes, and the bytes of what is good are read as it
pub record IsFileForm {A : Type 0} (read : ℕ → List ℕ → Result A PackFault) (good : A → Type 0) (bytes : A
    → List ℕ) : Type 0 where
  pub takes : (limit : ℕ) (file : List ℕ) (a : A) → IsBytes file → read limit file ≡ Ok a → good a × (bytes a ≡ file)
      × (length file ≤ limit)
  pub again : (limit : ℕ) (a : A) → good a → length (bytes a) ≤ limit → read limit (bytes a) ≡ Ok a

pub whole_form : {A : Type 0} (read : Place → Read A) (good : A → Type 0) (bytes : A → List ℕ)
    → IsForm read good bytes → IsFileForm (whole_at read) good bytes
unfolding whole_at
whole_form {A} read good bytes f = record {
  takes = λ limit file a fits e.
      let b = bind_ok (read (start_of limit file)) ended a e in
      let c = ended_ok b.0 a b.2 in
      let t = f.takes (start_of limit file) b.0.1 b.0.0 (record { fits = fits; near = omega arith }) b.1 in
      let none : b.0.1.rest ≡ [] = nil_from_length b.0.1.rest c.0 in
      let whole : bytes b.0.0 ≡ file = sym (append-nil (bytes b.0.0))
      ∙ ap (λ (r : List ℕ). bytes b.0.0 ++ r) (sym none) ∙ sym t.1.parts in (
        subst good c.1 t.0,
        ap bytes (sym c.1) ∙ whole,
        omega (
          arith,
          t.1.moved,
          t.1.same,
          t.1.within,
          ap (λ (l : List ℕ). length l) whole,
        ),
      );
  again = λ limit a h small.
      let q : Place = record { offset = length (bytes a); limit = limit; rest = [] } in
      rw (f.again (start_of limit (bytes a)) q a h (record {
        parts = sym (append-nil (bytes a));
        moved = omega arith;
        same = refl;
        within = small;
      })) refl;
}
