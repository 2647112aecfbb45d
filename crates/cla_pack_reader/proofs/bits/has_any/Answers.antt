use Rattle.std.proofs.Common.{◌≡◌, ℕ, ◌+◌, ◌*◌, ◌/◌, ◌%◌, ◌<◌, ◌==◌, get_or, sym, ap, ◌∙◌, arith, inl, inr}
use Rattle.std.specs.Int.{bit_at}
use Rattle.std.proofs.lemmas.Bool.{cases_lt, eq-eqb, eqb-true}
use Rattle.cla_pack_reader.proofs.BitLaws.{mark_of}
use Rattle.cla_pack_reader.proofs.WalkLaws.{inside, range_parts}
use Rattle.cla_pack_reader.proofs.bits.has_any.Goals as goal

pub loop-place-init : goal.loop-place-init
loop-place-init c = record { none = λ i ge lt far. absurd (omega (arith, ge, far)) }

pub returns-then-shares_bit-clause-some : goal.returns-then-shares_bit-clause-some
returns-then-shares_bit-clause-some c h =
    let place = c.loop-place.place in
    let words = c.args.words.now in
    let s = c.shares_bit.ensures.some c.if-shares_bit.true in
    let k = s.0 in
    let p = range_parts c.args.begin c.args.end (64 * place + k)
    (sym (c.bits_between.ensures k s.1) ∙ eq-eqb (bit_at c.bits_between.result k) 1 s.3) in (
      64 * place + k,
      p.0,
      p.1,
      mark_of words place k s.1 ∙ eq-eqb (bit_at (get_or words place 0) k) 1 s.2,
    )

pub loop-place-preserved : goal.loop-place-preserved
loop-place-preserved c = record {
  none = λ i ge lt far. elim (cases_lt i (64 * c.loop-place.place)) [
    | inl less ↦ c.loop-place.invariant.none i ge lt less
    | inr here ↦
        let place = c.loop-place.place in
        let words = c.args.words.now in
        let k = i % 64 in
        let small : k < 64 = omega arith in
        let item : 64 * place + k ≡ i = omega (arith, here, far) in
        let bit = c.bits_between.ensures k small
        ∙ inside c.args.begin c.args.end (64 * place + k) (omega (arith, ge, item)) (omega (arith, lt, item)) in
        let none =
        c.shares_bit.ensures.none c.if-shares_bit.false k (eqb-true (bit_at c.bits_between.result k) 1 bit) in
        let word : i / 64 ≡ place = omega (arith, here, far) in
        ap (λ (w : ℕ). bit_at (get_or words w 0) k == 1) word ∙ ap (λ (b : ℕ). b == 1) none
  ];
}

pub returns-clause-none : goal.returns-clause-none
returns-clause-none c h i ge lt =
    c.loop-place.invariant.none i ge lt (omega (arith, lt, c.loop-place-test.false, c.div_ceil-place-end.ensures))
