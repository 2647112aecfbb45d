-- The lists of tuples and the test of the rows that they have, behind the tuples.
use Rattle.std.proofs.Common.{◌≡◌, ℕ, ℤ, Bool, true, false, List, [], Err, refl, sym, ap, subst, ◌∙◌}
use Rattle.std.specs.Prelude.{not, ◌==◌, if◌then◌else◌}
use Rattle.cla_packed.specs.declared.fault.FieldName.{FieldName}
use Rattle.cla_packed.specs.declared.fault.FieldName.TheVariants.{Cover}
use Rattle.cla_packed.specs.declared.fault.PackFault.{PackFault}
use Rattle.cla_packed.specs.declared.fault.PackFault.TheVariants.{Field}
use Rattle.cla_packed.specs.Bodies.{Body}
use Rattle.cla_packed.specs.Fields.{Place, Read, Fails, checked_at, refused_at, list_at}
use Rattle.cla_packed.specs.Lists.{owners_of}
use Rattle.cla_packed.specs.Rests.{all_named, body_of_parts, body_with, listed_at}
use Rattle.cla_pack_reader.specs.ListedParts.{OneList, flag, covering_at, HeadOf}
use Rattle.cla_pack_reader.specs.Places.{Places, Took, Refused}
use Rattle.cla_pack_reader.proofs.Steps.{Follows, took_view, refused_view, took_then, refused_first, refused_second}

-- ---- a condition with no bytes

took_checked : (test : Bool) (group : ℕ) (name : FieldName) (b : Places) → test ≡ true
    → Took b b (checked_at test group name) tt
unfolding checked_at refused_at
took_checked test group name b good told q h = (q, h, rw good refl)

refused_checked : (test : Bool) (group : ℕ) (name : FieldName) (b : Places) (at : ℕ) → test ≡ false
    → ((p : Place) → b true p → p.offset ≡ at) → Refused b (checked_at test group name) (Field group name at)
unfolding checked_at refused_at
refused_checked test group name b at bad here p h = rw bad (ap (λ (o : ℕ). Err (Field group name o)) (here p h))

-- ---- the lists, and then the test

module _ (one : OneList) (group rows d rest : ℕ) (b : Places) where
  lists_at : Place → Read (List (List ℕ))
  lists_at = list_at (λ left earlier. one earlier) d []

  cover_at : List (List ℕ) → Place → Read (Unit {0})
  cover_at lists = checked_at (if rest == 0 then all_named rows lists else not (all_named rows lists)) group Cover

  pub no_lists : (e : PackFault) → Refused b (list_at (λ left earlier. one earlier) d []) e
      → Refused b (covering_at one group rows d rest) e
  unfolding lists_at cover_at
  no_lists e bad = refused_first lists_at cover_at b b b e bad

  module _ (m : Places) (lists : List (List ℕ)) (f : Follows b m)
      (took : Took b m (list_at (λ left earlier. one earlier) d []) lists) where
    pub no_cover : (at : ℕ) → (if rest == 0 then all_named rows lists else not (all_named rows lists)) ≡ false
        → ((p : Place) → m true p → p.offset ≡ at)
        → Refused b (covering_at one group rows d rest) (Field group Cover at)
    unfolding lists_at cover_at
    no_cover at bad here = refused_second lists_at cover_at b m m lists (Field group Cover at) f took
        (refused_checked (if rest == 0 then all_named rows lists else not (all_named rows lists)) group Cover m at bad
        here)

    pub covering_took : (if rest == 0 then all_named rows lists else not (all_named rows lists)) ≡ true
        → Took b m (covering_at one group rows d rest) (lists, tt)
    unfolding lists_at cover_at
    covering_took good = took_then lists_at cover_at b m m lists tt took
        (took_checked (if rest == 0 then all_named rows lists else not (all_named rows lists)) group Cover m good)

-- ---- behind the tuples

module _ (one : OneList) (bits group rows width : ℕ) (b m : Places) (d : ℕ) (has_rest : Bool) (ts : List (List ℤ))
    (head : HeadOf one bits group rows width b m d has_rest ts) where
  view : List (List ℕ) × Unit {0} → Body
  view x = body_of_parts rows width (d, (flag has_rest, (ts, x)))

  pub group_took : (a : Places) (lists : List (List ℕ))
      → Took m a (covering_at one group rows d (flag has_rest)) (lists, tt)
      → Took b a (listed_at one 8 bits group rows width) (body_with width d ts (owners_of rows lists) (flag has_rest))
  unfolding view
  group_took a lists took told q h =
      let t = took_view view (covering_at one group rows d (flag has_rest)) m a (lists, tt) took told q h in
      let s = head told t.0 t.1 in
      (s.0, s.1, s.2 ∙ t.2)

  pub group_refused : (e : PackFault) → Follows b m → Refused m (covering_at one group rows d (flag has_rest)) e
      → Refused b (listed_at one 8 bits group rows width) e
  unfolding view
  group_refused e f bad p h =
      let q = f.there p h in
      let s = head true q.0 q.1 in
      let same = f.same s.0 p s.1 h in
      let wrong = refused_view view (covering_at one group rows d (flag has_rest)) m m e bad q.0 q.1 in
      subst (λ (x : Place). Fails e (listed_at one 8 bits group rows width x)) same
      (subst (λ (r : Read Body). Fails e r) (sym s.2) wrong)
