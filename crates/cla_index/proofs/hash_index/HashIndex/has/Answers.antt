use Rattle.std.proofs.Common.{rules, ◌≡◌, ◌-◌, suc, ℕ, false, sym, ap, subst, ◌∙◌, arith, inl, inr}
use Rattle.std.proofs.lemmas.Bool.{cases_eq, cases_lt}
use Rattle.cla_index.specs.Chains.{hash_at}
use Rattle.cla_index.proofs.ChainLaws.{front_begins, front_goes_on, hash_here}
use Rattle.cla_index.proofs.hash_index.HashIndex.has.Given as given
use Rattle.cla_index.proofs.hash_index.HashIndex.has.Goals.{else-link-hash-via-then-link-hash+else-test}
use Rattle.cla_index.proofs.hash_index.HashIndex.has.Goals.{else-link-hash-via-else-link-hash}
use Rattle.cla_index.proofs.hash_index.HashIndex.has.Goals as goal

pub loop-front-init : goal.loop-front-init
loop-front-init g c =
    let front = front_begins c.self.inside.latest.items c.self.inside.links.items c.args.self.now c.args.hash
    c.self.invariant (search rules) c.bucket.result c.index.result.now (search rules) (search rules) c.index.ensures in
    record {
      within = front.within;
      front = front.last;
      absent = λ k from to same. elim (front.behind k from to same) [ ];
    }

pub loop-front-smaller : goal.loop-front-smaller
loop-front-smaller g c =
    let here : c.loop-front.front ≡ suc (c.loop-front.front - 1) = omega (arith, c.loop-front-test.true) in
    let on = front_goes_on c.self.inside.latest.items c.self.inside.links.items c.args.self.now c.args.hash
    c.self.invariant (search rules) c.loop-front.front (c.loop-front.front - 1) c.index-link.result.now
    c.loop-front.invariant.within c.loop-front.invariant.front here c.index-link.ensures in
    omega (arith, on.within, here)

pub loop-front-preserved : goal.loop-front-preserved
loop-front-preserved g c =
    let last = c.loop-front.front - 1 in
    let here : c.loop-front.front ≡ suc last = omega (arith, c.loop-front-test.true) in
    let on = front_goes_on c.self.inside.latest.items c.self.inside.links.items c.args.self.now c.args.hash
    c.self.invariant (search rules) c.loop-front.front last c.index-link.result.now
    c.loop-front.invariant.within c.loop-front.invariant.front here c.index-link.ensures in
    record {
      within = omega (arith, on.within, here, c.loop-front.invariant.within);
      front = on.last;
      absent = λ k from to same. elim (cases_lt k last) [
        | inl less ↦ elim (on.behind k from less same) [ ]
        | inr more ↦ elim (cases_eq k last) [
          | inl at ↦ elim c.else-link-hash.branch [
            | else-link-hash-via-then-link-hash+else-test w ↦
                subst (λ (j : ℕ). given.F-post g c.args.test j false) (sym at) w.if-test.ensures
            | else-link-hash-via-else-link-hash w ↦
                elim (w.if-link-hash.false (sym (hash_here c.self.inside.latest.items c.self.inside.links.items
                c.args.self.now c.args.hash c.self.invariant (search rules) last c.index-link.result.now
                (omega (arith, here, c.loop-front.invariant.within)) c.index-link.ensures)
                ∙ ap (hash_at c.args.self.now) (sym at) ∙ same)) [ ]
          ]
          | inr other ↦ c.loop-front.invariant.absent k (grind (arith, more, other, here)) to same
        ]
      ];
    }
