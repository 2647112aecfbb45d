use Rattle.std.proofs.Common.{◌≡◌, ◌<◌, ◌+◌, List, ℕ, ℤ, pos, get_or, length, refl, ap, subst, sym, ◌∙◌, arith, inl}
use Rattle.std.proofs.Common.{inr}
use Rattle.std.specs.Prelude.{slice_set}
use Rattle.std.proofs.lemmas.Bool.{cases_eq}
use Rattle.std.proofs.lemmas.List.{get_or_default, get_or-set_same, get_or-set_other}
use Rattle.cla_layout.specs.Groups.{at, code_of}
use Rattle.cla_offsets.specs.Walks.{IsRising}
use Rattle.cla_offsets.proofs.walks.join_list.Goals as goal

-- the place of the next offset is as it was
unjoined : (first : ℕ) (old : List ℤ) (offsets : List ℕ) (into : List ℤ) (m : ℕ) (v : ℤ) →
    v ≡ get_or into (first + code_of offsets m) v →
    first + code_of offsets m < length into → m < length offsets → IsRising offsets →
    ((i : ℕ) → ((n : ℕ) → n < m → first + code_of offsets n ≡ i → ⊥) → at into i ≡ at old i) →
    v ≡ at old (first + code_of offsets m)
unjoined first old offsets into m v is within there rising others =
    let place = first + code_of offsets m in
    is ∙ get_or_default into place v (pos 0) within
    ∙ others place (λ n before same. absurd (omega (arith, same, rising n m before there)))

pub joined-requires : goal.joined-requires
joined-requires g c =
    let m = c.loop-offset.offset-index in
    let there : m < length c.args.offsets.now = c.loop-offset-test.true in
    let place = c.args.first + code_of c.args.offsets.now m in
    let within : place < length c.loop-offset.into =
    omega (arith, c.requires.within m there, c.loop-offset.auto.into) in
    let others = c.loop-offset.invariant.others in
    let is = unjoined c.args.first c.args.into.now _ _ m _ c.index-into-place.is within there c.requires.rising others
    in
    subst (λ (z : ℤ). g.J.Join.can_join z c.args.part) (sym is) (c.requires.fits m there)

pub loop-offset-preserved : goal.loop-offset-preserved
loop-offset-preserved g c =
    let offsets = c.args.offsets.now in
    let into = c.loop-offset.into in
    let m = c.loop-offset.offset-index in
    let place = λ (n : ℕ). c.args.first + code_of offsets n in
    let there : m < length offsets = c.loop-offset-test.true in
    let within : place m < length into = omega (arith, c.requires.within m there, c.loop-offset.auto.into) in
    let so_far = c.loop-offset.invariant in
    let is = unjoined c.args.first c.args.into.now offsets into m _ c.index-into-place.is within there c.requires.rising
    so_far.others in
    let part = λ (z : ℤ). g.J.Join.join z c.args.part in
    record {
      joined = λ n n_there. elim (cases_eq n m) [
        | inl same ↦
            ap (λ (x : ℕ). at (slice_set into (place m) c.joined.result) (place x)) same
            ∙ get_or-set_same into (place m) c.joined.result (pos 0) within
            ∙ c.joined.ensures ∙ ap part is ∙ ap (λ (x : ℕ). part (at c.args.into.now (place x))) (sym same)
        | inr other ↦
            let before : n < m = omega (arith, n_there, other) in
            let apart : place n ≡ place m → ⊥ = λ same. absurd (omega (arith, same, c.requires.rising n m before there))
            in
            get_or-set_other into (place m) (place n) c.joined.result (pos 0) apart ∙ so_far.joined n before
      ];
      others = λ i apart.
          get_or-set_other into (place m) i c.joined.result (pos 0) (λ same. apart m (omega arith) (sym same))
          ∙ so_far.others i (λ n before. apart n (omega (arith, before)));
    }

pub returns-then-leaves_all : goal.returns-then-leaves_all
returns-then-leaves_all g c = record {
  joined =
      λ n there. sym
      (c.leaves_all.ensures c.if-leaves_all.true (at c.args.into.now (c.args.first + code_of c.args.offsets.now n)));
  others = λ i apart. refl;
}
