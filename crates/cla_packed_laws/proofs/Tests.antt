-- Lists whose things each pass a test where they stand.
use Rattle.std.proofs.Common.{◌≡◌, ℕ, ◌<◌, Bool, true, List, [], ◌∷◌, ◌++◌, length, sym, ap, subst, ◌∙◌, append_assoc}
use Rattle.std.proofs.Common.{append-nil, arith}
use Rattle.std.specs.Prelude.{nat_lt, ◌||◌}
use Rattle.std.specs.List.{AllByRecursion}
use Rattle.std.proofs.lemmas.Bool.{lt-ltb, or_left}
use Rattle.cla_packed.specs.Fields.{Place, Read, EachIs}
use Rattle.cla_packed_laws.proofs.Forms.{IsForm}

-- the same form, said in other words
pub form_by : {A : Type 0} {read : Place → Read A} {good : A → Type 0} {bytes : A → List ℕ} (good' : A → Type 0)
    → IsForm read good bytes → ((a : A) → good a → good' a) → ((a : A) → good' a → good a) → IsForm read good' bytes
form_by good' f there back = record {
  takes = λ p q a at e. (let t = f.takes p q a at e in (there a t.0, t.1, t.2));
  again = λ p q a h t. f.again p q a (back a h) t;
}

-- a fact on each thing and a test on all of them at the last one
module _ {A : Type 0} (P : A → Type 0) (test : List A → Bool) where
  AtLast : ℕ → List A → A → Type 0
  AtLast left so_far a = P a × ((nat_lt 0 left || test (so_far ++ a ∷ [])) ≡ true)

  pub at_last : (so_far items : List A) → 0 < length items
      → EachIs (λ left so_far a. P a × ((nat_lt 0 left || test (so_far ++ a ∷ [])) ≡ true)) so_far items
      → AllByRecursion P items × (test (so_far ++ items) ≡ true)
  at_last so_far [] some h = absurd (omega (arith, some))
  at_last so_far (a ∷ []) some h = ((h.0.0, tt), h.0.1)
  at_last so_far (a ∷ b ∷ more) some h =
      let t = at_last (so_far ++ a ∷ []) (b ∷ more) (omega arith) h.1 in
      ((h.0.0, t.0), ap test (sym (append_assoc so_far (a ∷ []) (b ∷ more))) ∙ t.1)

  pub from_last : (so_far items : List A) → AllByRecursion P items → test (so_far ++ items) ≡ true
      → EachIs (λ left so_far a. P a × ((nat_lt 0 left || test (so_far ++ a ∷ [])) ≡ true)) so_far items
  from_last so_far [] h t = tt
  from_last so_far (a ∷ []) h t = ((h.0, t), tt)
  from_last so_far (a ∷ b ∷ more) h t = (
    (
      h.0,
      or_left (nat_lt 0 (length (b ∷ more))) (test (so_far ++ a ∷ []))
          (lt-ltb 0 (length (b ∷ more)) (omega arith)),
    ),
    from_last (so_far ++ a ∷ []) (b ∷ more) h.1 (ap test (append_assoc so_far (a ∷ []) (b ∷ more)) ∙ t),
  )

pub each_by : {A : Type 0} (good good' : ℕ → List A → A → Type 0) → ((left : ℕ) (so_far : List A) (a : A)
    → good left so_far a → good' left so_far a) → (so_far items : List A) → EachIs good so_far items
    → EachIs good' so_far items
each_by good good' go so_far [] h = tt
each_by good good' go so_far (a ∷ items) h =
    (go (length items) so_far a h.0, each_by good good' go (so_far ++ a ∷ []) items h.1)

-- what holds of the things so far, if each that is good keeps it
pub each_to : {A : Type 0} (good : ℕ → List A → A → Type 0) (Holds : List A → Type 0)
    → ((left : ℕ) (so_far : List A) (a : A) → good left so_far a → Holds so_far → Holds (so_far ++ a ∷ []))
    → (so_far items : List A) → EachIs good so_far items → Holds so_far → Holds (so_far ++ items)
each_to good Holds step so_far [] h start = subst Holds (sym (append-nil so_far)) start
each_to good Holds step so_far (a ∷ items) h start = subst Holds (append_assoc so_far (a ∷ []) items)
    (each_to good Holds step (so_far ++ a ∷ []) items h.1 (step (length items) so_far a h.0 start))

-- each thing is good where it stands, if what holds of those before it says so
pub each_from : {A : Type 0} (good : ℕ → List A → A → Type 0) (Holds : List A → Type 0) (all : List A)
    → ((so_far : List A) (a : A) (items : List A) → all ≡ so_far ++ a ∷ items → Holds so_far
    → good (length items) so_far a × Holds (so_far ++ a ∷ []))
    → (so_far items : List A) → all ≡ so_far ++ items → Holds so_far → EachIs good so_far items
each_from good Holds all step so_far [] e start = tt
each_from good Holds all step so_far (a ∷ items) e start =
    let s = step so_far a items e start in
    (s.0, each_from good Holds all step (so_far ++ a ∷ []) items (e ∙ sym (append_assoc so_far (a ∷ []) items)) s.1)
