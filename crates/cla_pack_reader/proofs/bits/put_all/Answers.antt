use Rattle.std.proofs.Common.{ℕ, ◌+◌, ◌*◌, ◌/◌, ◌%◌, ◌<◌, ◌≤◌, Bool, get_or, length, refl, sym, ap, ◌∙◌, arith, inl}
use Rattle.std.proofs.Common.{inr}
use Rattle.std.specs.Prelude.{◌||◌}
use Rattle.std.proofs.lemmas.Bool.{cases_eq, cases_lt}
use Rattle.std.proofs.lemmas.Grind.{get_or-set_at}
use Rattle.std.proofs.lemmas.List.{length-set, get_or-set_other}
use Rattle.cla_pack_reader.specs.Bits.{mark_in}
use Rattle.cla_pack_reader.proofs.BitLaws.{item_is, marked}
use Rattle.cla_pack_reader.proofs.OwnerLaws.{or_false}
use Rattle.cla_pack_reader.proofs.WalkLaws.{in_range, left_of, right_of}
use Rattle.cla_pack_reader.proofs.bits.put_all.Goals as goal

pub loop-place-init : goal.loop-place-init
loop-place-init c = record {
  size = refl;
  done = λ w k lt small.
      let words = c.args.words.now in
      let item = 64 * w + k in
      sym (ap (λ (b : Bool). marked (get_or words w 0) k || b)
      (left_of c.args.begin c.args.end item (omega (arith, lt, small))) ∙ or_false (marked (get_or words w 0) k));
  later = λ w ge. refl;
}

pub loop-place-preserved : goal.loop-place-preserved
loop-place-preserved c =
    let place = c.loop-place.place in
    let words = c.loop-place.words in
    let word = c.with_bits.result in
    let size = c.loop-place.invariant.size in
    let there : place < length words =
    omega (arith, size, c.requires.within, c.loop-place-test.true, c.div_ceil-place-end.ensures) in
    record {
      size = length-set words place word ∙ size;
      done = λ w k lt small. elim (cases_eq w place) [
        | inl here ↦
            let old = c.loop-place.invariant.later place (omega arith) in
            ap (λ (x : ℕ). marked x k) (get_or-set_at words place w word 0 here there) ∙ c.with_bits.ensures k
            ∙ (λ i. (marked (old i) k || c.bits_between.ensures k small i))
            ∙ ap (λ (v : ℕ). marked (get_or c.args.words.now v 0) k || in_range c.args.begin c.args.end (64 * v + k))
            (sym here)
        | inr other ↦
            ap (λ (x : ℕ). marked x k) (get_or-set_other words place w word 0 other)
            ∙ c.loop-place.invariant.done w k (omega (arith, lt, other)) small
      ];
      later = λ w ge. get_or-set_other words place w word 0 (λ e. omega (arith, e, ge))
          ∙ c.loop-place.invariant.later w (omega (arith, ge));
    }

pub returns-clause-marks : goal.returns-clause-marks
returns-clause-marks c i lt =
    let words = c.loop-place.words in
    let old = c.args.words.now in
    let w = i / 64 in
    let k = i % 64 in
    elim (cases_lt w c.loop-place.place) [
      | inl less ↦ c.loop-place.invariant.done w k less (omega arith)
          ∙ ap (λ (j : ℕ). mark_in old i || in_range c.args.begin c.args.end j) (sym (item_is i))
      | inr ge ↦
          let far : c.args.end ≤ i = omega (arith, ge, c.loop-place-test.false, c.div_ceil-place-end.ensures) in
          ap (λ (x : ℕ). marked x k) (c.loop-place.invariant.later w ge)
          ∙ sym (ap (λ (b : Bool). mark_in old i || b) (right_of c.args.begin c.args.end i far)
          ∙ or_false (mark_in old i))
    ]
