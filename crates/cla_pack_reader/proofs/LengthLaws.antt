-- What was read stood there: its bytes and those behind it are the ones that were ahead.
use Rattle.std.proofs.Common.{◌≡◌, ℕ, ℤ, zero, suc, ◌+◌, ◌≤◌, Bool, true, false, List, [], ◌∷◌, ◌++◌, length, take}
use Rattle.std.proofs.Common.{min, Result, Ok, Err, refl, sym, ap, subst, ◌∙◌, cond, arith}
use Rattle.std.specs.Prelude.{nat_lt, not, ◌==◌, if◌then◌else◌}
use Rattle.cla_packed.specs.declared.fault.FieldName.TheVariants.{Cover}
use Rattle.std.proofs.lemmas.Bool.{ltb-false}
use Rattle.std.proofs.lemmas.List.{length-drop}
use Rattle.cla_spec.specs.Bytes.{number_of}
use Rattle.cla_layout.specs.declared.kind.Kind.{Kind}
use Rattle.cla_layout.specs.declared.kind.Kind.TheVariants as kinds
use Rattle.cla_packed.specs.declared.fault.FieldName.{FieldName}
use Rattle.cla_packed.specs.declared.fault.PackFault.{PackFault}
use Rattle.cla_packed.specs.declared.fault.PackFault.TheVariants.{Field, TooLong}
use Rattle.cla_packed.specs.Fields.{Place, Read, after, number_at, tested, field_at, refused_at, checked_at, then_at}
use Rattle.cla_packed.specs.Fields.{list_at, as_at, ◌>>=◌}
use Rattle.cla_packed.specs.Values.{value_at, tuples_at}
use Rattle.cla_packed.specs.Codes.{code_bytes, codes_at}
use Rattle.cla_packed.specs.Offsets.{offsets_at}
use Rattle.cla_packed.specs.Runs.{runs_at}
use Rattle.cla_packed.specs.Bodies.{is_new, coded_at}
use Rattle.cla_packed.specs.Rests.{fits_listed, all_named, listed_at}
use Rattle.cla_packed.specs.Files.{PackedGroup, any_tuple, body_at, group_at, file_at}
use Rattle.cla_packed_laws.proofs.Forms.{bind_ok, ok_is, passed}

-- where the bytes end, as it is known at a place
abbrev pub end_from : Place → ℕ
end_from p = p.offset + length p.rest

-- reading loses no byte and finds none
abbrev pub KeepsEnd : {A : Type 0} → (Place → Read A) → Type 0
KeepsEnd {A} read = (p q : Place) (a : A) → read p ≡ Ok (a, q) → end_from q ≡ end_from p

not_refused : {A : Type 0} (b : Bool) (d : PackFault) (r : Result A PackFault) (y : A) → cond b (Err d) r ≡ Ok y
    → (b ≡ false) × (r ≡ Ok y)
not_refused true d r y e = absurd cc
not_refused false d r y e = (refl, e)

number_kept : (k group : ℕ) (name : FieldName) → KeepsEnd (number_at k group name)
unfolding number_at
number_kept k group name p q n e =
    let a = not_refused (nat_lt p.limit (p.offset + min k (length p.rest))) TooLong
    (cond (nat_lt (length p.rest) k) (Err (Field group name p.offset)) (Ok (
      number_of (take k p.rest),
      after k p,
    ))) (n, q) e in
    let b = not_refused (nat_lt (length p.rest) k) (Field group name p.offset) (Ok (
      number_of (take k p.rest),
      after k p,
    )) (n, q) a.1 in
    let long : k ≤ length p.rest = ltb-false _ _ b.0 in
    subst (λ (x : ℕ × Place). end_from x.1 ≡ end_from p) (ok_is (number_of (take k p.rest), after k p) (n, q) b.1)
    (omega (arith, long, length-drop k p.rest))

field_kept : (k : ℕ) (test : ℕ → Bool) (group : ℕ) (name : FieldName) → KeepsEnd (field_at k test group name)
unfolding field_at
field_kept k test group name p q n e =
    let b = bind_ok (number_at k group name p) (λ n. tested (test n.0) (Field group name p.offset) n) (n, q) e in
    let c = passed (test b.0.0) (Field group name p.offset) b.0 (n, q) b.2 in
    number_kept k group name p q n (b.1 ∙ ap (λ (x : ℕ × Place). Ok x) c.1)

refused_kept : (test : Bool) (fault : PackFault) → KeepsEnd (refused_at test fault)
unfolding refused_at
refused_kept test fault p q u e =
    ap (λ (x : Unit {0} × Place). end_from x.1) (sym (passed test fault (tt, p) (u, q) e).1)

checked_kept : (test : Bool) (group : ℕ) (name : FieldName) → KeepsEnd (checked_at test group name)
unfolding checked_at
checked_kept test group name p q u e = refused_kept test (Field group name p.offset) p q u e

module _ {A B : Type 0} where
  then_kept : (first : Place → Read A) (second : A → Place → Read B) → KeepsEnd first
      → ((a : A) → KeepsEnd (second a)) → KeepsEnd (then_at first second)
  unfolding then_at
  then_kept first second f g p q x e =
      let a = bind_ok (first p) (λ a. second a.0 a.1 >>= λ b. Ok ((a.0, b.0), b.1)) (x, q) e in
      let b = bind_ok (second a.0.0 a.0.1) (λ b. Ok ((a.0.0, b.0), b.1)) (x, q) a.2 in
      subst (λ (y : (A × B) × Place). end_from y.1 ≡ end_from p) (ok_is ((a.0.0, b.0.0), b.0.1) (x, q) b.2)
      (g a.0.0 a.0.1 b.0.1 b.0.0 b.1 ∙ f p a.0.1 a.0.0 a.1)

  as_kept : (view : A → B) (read : Place → Read A) → KeepsEnd read → KeepsEnd (as_at view read)
  unfolding as_at
  as_kept view read f p q b e =
      let a = bind_ok (read p) (λ a. Ok (view a.0, a.1)) (b, q) e in
      subst (λ (y : B × Place). end_from y.1 ≡ end_from p) (ok_is (view a.0.0, a.0.1) (b, q) a.2)
      (f p a.0.1 a.0.0 a.1)

module _ {A : Type 0} (step : ℕ → List A → Place → Read A)
    (each : (left : ℕ) (so_far : List A) → KeepsEnd (step left so_far)) where
  list_kept : (n : ℕ) (so_far : List A) → KeepsEnd (list_at step n so_far)
  unfolding list_at
  list_kept zero so_far p q xs e =
      ap (λ (y : List A × Place). end_from y.1) (sym (ok_is (so_far, p) (xs, q) e))
  list_kept (suc left) so_far p q xs e =
      let a = bind_ok (step left so_far p) (λ a. list_at step left (so_far ++ a.0 ∷ []) a.1) (xs, q) e in
      list_kept left (so_far ++ a.0.0 ∷ []) a.0.1 q xs a.2 ∙ each left so_far p a.0.1 a.0.0 a.1

-- ---- values, tuples and codes

value_kept : (k : ℕ) (test : ℤ → Bool) (group : ℕ) → KeepsEnd (value_at k test group)
unfolding value_at
value_kept k test group = as_kept _ _ (field_kept k _ group _)

tuples_kept : (k bits group width : ℕ) (whole : ℕ → List (List ℤ) → List ℤ → Bool) (n : ℕ)
    → KeepsEnd (tuples_at k bits group width whole n)
tuples_kept k bits group width whole n =
    list_kept _ (λ left so_far. list_kept _ (λ l s. value_kept k _ group) width []) n []

codes_kept : (k group d rows : ℕ) → KeepsEnd (codes_at k group d rows)
codes_kept k group d rows = list_kept _ (λ left so_far. field_kept k _ group _) rows []

-- ---- lists of rows

offsets_kept : (size rows group : ℕ) (earlier : List (List ℕ)) → KeepsEnd (offsets_at size rows group earlier)
offsets_kept size rows group earlier =
    as_kept _ _ (list_kept _ (λ left before. as_kept _ _ (then_kept _ _ (field_kept 2 _ group _)
    (λ n. list_kept _ (λ l s. as_kept _ _ (field_kept 2 _ group _)) n []))) _ [])

runs_kept : (rows group : ℕ) (earlier : List (List ℕ)) → KeepsEnd (runs_at rows group earlier)
runs_kept rows group earlier =
    as_kept _ _ (then_kept _ _ (field_kept 4 _ group _)
    (λ n. list_kept _ (λ l s. then_kept _ _ (field_kept 4 _ group _) (λ gap. field_kept 4 _ group _)) n []))

-- ---- groups and files

coded_kept : (k bits group rows width : ℕ) → KeepsEnd (coded_at k bits group rows width)
coded_kept k bits group rows width =
    as_kept _ _ (then_kept _ _ (field_kept 4 _ group _)
    (λ d. then_kept _ _ (tuples_kept k bits group width is_new d) (λ tuples. codes_kept (code_bytes d) group d rows)))

listed_kept : (one : List (List ℕ) → Place → Read (List ℕ)) (k bits group rows width : ℕ)
    → ((earlier : List (List ℕ)) → KeepsEnd (one earlier)) → KeepsEnd (listed_at one k bits group rows width)
listed_kept one k bits group rows width each =
    as_kept _ _ (then_kept _ _ (field_kept 4 _ group _) (λ d. then_kept _ _ (field_kept 1 _ group _)
    (λ rest. then_kept _ _ (tuples_kept k bits group width fits_listed d) (λ tuples. then_kept _ _
    (list_kept _ (λ left earlier. each earlier) d []) (λ lists. checked_kept (if rest == 0 then all_named rows lists
    else not (all_named rows lists)) group Cover)))))

body_kept : (kind : Kind) (k bits group rows width : ℕ) → KeepsEnd (body_at kind k bits group rows width)
body_kept kinds.Plain k bits group rows width = as_kept _ _ (tuples_kept k bits group width any_tuple rows)
body_kept kinds.Codes k bits group rows width = coded_kept k bits group rows width
body_kept kinds.Offsets k bits group rows width =
    listed_kept _ k bits group rows width (λ earlier. offsets_kept 32768 rows group earlier)
body_kept kinds.Runs k bits group rows width =
    listed_kept _ k bits group rows width (λ earlier. runs_kept rows group earlier)

group_kept : (k bits rows cols left : ℕ) (before : List PackedGroup) → KeepsEnd (group_at k bits rows cols left before)
group_kept k bits rows cols left before =
    let g = length before + 1 in
    as_kept _ _ (then_kept _ _ (as_kept _ _ (field_kept 1 _ g _)) (λ kind. then_kept _ _
    (as_kept _ _ (then_kept _ _ (field_kept 4 _ g _) (λ w. list_kept _ (λ l s. field_kept 4 _ g _) w [])))
    (λ columns. body_kept kind k bits g rows (length columns))))

pub file_kept : (k bits : ℕ) → KeepsEnd (file_at k bits)
file_kept k bits =
    as_kept _ _ (then_kept _ _ (field_kept 8 _ 0 _) (λ m. then_kept _ _ (field_kept 4 _ 0 _)
    (λ rows. then_kept _ _ (field_kept 4 _ 0 _) (λ cols. then_kept _ _ (refused_kept _ _) (λ u. then_kept _ _
    (field_kept 4 _ 0 _) (λ n. list_kept _ (λ left before. group_kept k bits rows cols left before) n []))))))
