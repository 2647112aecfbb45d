-- What was read, step by step.
use Rattle.std.proofs.Common.{◌≡◌, ℕ, ◌+◌, ◌-◌, ◌<◌, ◌≤◌, Bool, true, false, List, [], ◌∷◌, ◌++◌, IsSome, Ok, Err}
use Rattle.std.proofs.Common.{refl, sym, ap, subst, ◌∙◌, arith}
use Rattle.cla_io.specs.State.{State}
use Rattle.cla_io.specs.Lines.{Progress}
use Rattle.cla_packed.specs.declared.fault.FieldName.{FieldName}
use Rattle.cla_packed.specs.declared.fault.PackFault.{PackFault}
use Rattle.cla_packed.specs.declared.fault.PackFault.TheVariants.{Field}
use Rattle.cla_packed.specs.Fields.{Place, Read, Fails, number_at, field_at, then_at, list_at, as_at}
use Rattle.cla_pack_reader.specs.Places.{Places, places_of, place_of, Took, Refused}
use Rattle.cla_pack_reader.proofs.Loops.{goes_on, ends, is_done, field_reads, field_fails, field_ends, view_reads}
use Rattle.cla_pack_reader.proofs.Loops.{view_ends, then_reads, then_stops, then_ends}

-- the files tell one place before, and one behind
pub record Follows (before after : Places) : Type 0 where
  pub there : (p : Place) → before true p → (q : Place) × after true q
  pub same : (p r : Place) → before true p → before true r → p ≡ r

pub follows : (old new : Progress) (s u : State) → u.told ≡ s.told → Follows (places_of old s) (places_of new u)
follows old new s u told = record {
  there = λ p h. (place_of new u, (subst IsSome (sym told) h.0, refl));
  same = λ p r h g. h.1 ∙ sym g.1;
}

module _ {A : Type 0} (b m : Places) (read : Place → Read A) where
  -- what was read, at the one place that the files tell
  pub reads_on : (a : A) → Follows b m → Took b m read a → (p : Place) → b true p
      → (q : Place) × m true q × (read p ≡ Ok (a, q))
  reads_on a f took p h =
      let q = f.there p h in
      let t = took true q.0 q.1 in
      (q.0, q.1, subst (λ (r : Place). read r ≡ Ok (a, q.0)) (f.same t.0 p t.1 h) t.2)

  -- where something was read, what comes behind it decides what is wrong
  pub behind : {B C : Type 0} (whole : Place → Read B) (rest : Place → Read C) (a : A) (e : PackFault) → Follows b m
      → Took b m read a → Refused m rest e
      → ((p q : Place) → read p ≡ Ok (a, q) → Fails e (rest q) → Fails e (whole p)) → Refused b whole e
  behind whole rest a e f took bad go p h =
      let q = f.there p h in
      let t = took true q.0 q.1 in
      let same = f.same t.0 p t.1 h in
      go p q.0 (subst (λ (r : Place). read r ≡ Ok (a, q.0)) same t.2) (bad q.0 q.1)

-- ---- one field

module _ (k group : ℕ) (name : FieldName) (test : ℕ → Bool) (b m : Places) where
  pub took_field : (n : ℕ) → Took b m (number_at k group name) n → test n ≡ true
      → Took b m (field_at k test group name) n
  took_field n took good told q h =
      let t = took told q h in
      (t.0, t.1, field_reads k test group name t.0 q n t.2 good)

  pub refused_field : (e : PackFault) → Refused b (number_at k group name) e → Refused b (field_at k test group name) e
  refused_field e bad p h = field_ends k test group name p e (bad p h)

  pub unfit_field : (n at : ℕ) → Follows b m → Took b m (number_at k group name) n → test n ≡ false
      → ((p : Place) → b true p → p.offset ≡ at) → Refused b (field_at k test group name) (Field group name at)
  unfit_field n at f took bad here p h =
      let q = f.there p h in
      let t = took true q.0 q.1 in
      let same = f.same t.0 p t.1 h in
      field_fails k test group name p q.0 n (subst (λ (r : Place). number_at k group name r ≡ Ok (n, q.0)) same t.2) bad
      ∙ ap (λ (o : ℕ). Err (Field group name o)) (here p h)

-- where a place stands
pub offset_is : (old : Progress) (s : State) (at : ℕ) → at ≡ old.at → (p : Place) → places_of old s true p
    → p.offset ≡ at
offset_is old s at same p h = ap (λ (r : Place). r.offset) h.1 ∙ sym same

-- ---- things seen in another way, and one thing behind another

module _ {A B : Type 0} (view : A → B) (read : Place → Read A) (b m : Places) where
  pub took_view : (a : A) → Took b m read a → Took b m (as_at view read) (view a)
  took_view a took told q h =
      let t = took told q h in
      (t.0, t.1, view_reads view read t.0 q a t.2)

  pub refused_view : (e : PackFault) → Refused b read e → Refused b (as_at view read) e
  refused_view e bad p h = view_ends view read p e (bad p h)

module _ {A B : Type 0} (first : Place → Read A) (second : A → Place → Read B) (b m r : Places) where
  pub took_then : (x : A) (y : B) → Took b m first x → Took m r (second x) y → Took b r (then_at first second) (x, y)
  took_then x y one two told q h =
      let t = two told q h in
      let s = one told t.0 t.1 in
      (s.0, s.1, then_reads first second s.0 x y t.0 q s.2 t.2)

  pub refused_first : (e : PackFault) → Refused b first e → Refused b (then_at first second) e
  refused_first e bad p h = then_stops first second p e (bad p h)

  pub refused_second : (x : A) (e : PackFault) → Follows b m → Took b m first x → Refused m (second x) e
      → Refused b (then_at first second) e
  refused_second x e f took bad =
      behind b m first (then_at first second) (second x) x e f took bad
      (λ p q read wrong. then_ends first second p x q e read wrong)

-- ---- lists

-- what is left of a list, behind those so far, decides
abbrev pub Decides : {A : Type 0} → Places → Places → (ℕ → List A → Place → Read A) → ℕ → ℕ → List A → Type 0
Decides b m step n i so_far = (told : Bool) (q : Place) → m told q → (p : Place) × b told p
    × (list_at step (n - i) so_far q ≡ list_at step n [] p)

module _ {A : Type 0} (b m r : Places) (step : ℕ → List A → Place → Read A) (n : ℕ) where
  pub decides_more : (i left : ℕ) (so_far : List A) (a : A) → i < n → left ≡ n - 1 - i
      → Decides b m step n i so_far → Took m r (step left so_far) a → Decides b r step n (i + 1) (so_far ++ a ∷ [])
  decides_more i left so_far a lt is d took told q h =
      let t = took told q h in
      let s = d told t.0 t.1 in
      (s.0, s.1, goes_on step n i left so_far t.0 (list_at step n [] s.0) a q lt is t.2 s.2)

module _ {A : Type 0} (b m : Places) (step : ℕ → List A → Place → Read A) (n : ℕ) where
  pub decides_none : Decides b b step n 0 []
  decides_none told q h =
      let all : n - 0 ≡ n = omega arith in
      (q, h, ap (λ (k : ℕ). list_at step k [] q) all)

  pub took_list : (i : ℕ) (so_far : List A) → n ≤ i → Decides b m step n i so_far → Took b m (list_at step n []) so_far
  took_list i so_far done d told q h =
      let s = d told q h in
      (s.0, s.1, is_done step n i 0 so_far q (list_at step n [] s.0) done s.2)

  pub refused_list : (i left : ℕ) (so_far : List A) (e : PackFault) → i < n → left ≡ n - 1 - i → Follows b m
      → Decides b m step n i so_far → Refused m (step left so_far) e → Refused b (list_at step n []) e
  refused_list i left so_far e lt is f d bad p h =
      let q = f.there p h in
      let s = d true q.0 q.1 in
      let same = f.same s.0 p s.1 h in
      subst (λ (x : Place). Fails e (list_at step n [] x)) same
      (ends step n i left so_far q.0 (list_at step n [] s.0) e lt is (bad q.0 q.1) s.2)
