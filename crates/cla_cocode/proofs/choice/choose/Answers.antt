use Rattle.std.proofs.Common.{◌≡◌, suc, ◌+◌, ◌-◌, ◌∷◌, length, map, drop, drop-cons, sym, ap, ◌∙◌, arith}
use Rattle.std.proofs.lemmas.List.{drop-map, drop_all, length-map}
use Rattle.cla_grouping.specs.Grouping.{window}
use Rattle.cla_cocode.specs.declared.kept.Kept.{Kept}
use Rattle.cla_cocode.specs.declared.choice.Chosen.{Chosen}
use Rattle.cla_cocode.specs.Kept.{code_saving}
use Rattle.cla_cocode.proofs.Choices.{choice_from, chosen}
use Rattle.cla_cocode.proofs.choice.choose.Goals as goal

pub loop-k-preserved : goal.loop-k-preserved
loop-k-preserved c =
    let groups = c.args.groups.now in
    let saving = λ (g : Kept). code_saving g c.args.single.now in
    let k = c.loop-k.k in
    let item = c.index-groups-k.result in
    let next : suc k ≡ k + 1 = omega arith in
    let left = drop-cons groups k item c.loop-k-test.true ∙ ap (λ (g : Kept). g ∷ drop (suc k) groups)
    (sym c.index-groups-k.is)
    ∙ ap (λ n. item ∷ drop n groups) next in
    record {
      choice = ap (choice_from (k + 1) (map saving (drop (k + 1) groups)))
          (c.better_of-best.ensures.value (saving item) c.in_ok-saving.ensures)
          ∙ sym (ap (λ l. choice_from k (map saving l) c.loop-k.best) left)
          ∙ c.loop-k.invariant.choice;
      within = c.better_of-best.ensures.within (length groups) c.loop-k-test.true c.loop-k.invariant.within;
    }

pub returns : goal.returns
returns c =
    let groups = c.args.groups.now in
    let saving = λ (g : Kept). code_saving g c.args.single.now in
    let from = length groups - window in
    let none : Chosen = record { place = 0; saving = 0 } in
    let left = drop_all c.loop-k.k groups (omega (arith, c.loop-k-test.false)) in
    chosen (map saving groups) (length groups) c.loop-k.best (length-map groups saving) c.loop-k.invariant.within
    (sym (ap (λ l. choice_from c.loop-k.k (map saving l) c.loop-k.best) left)
    ∙ c.loop-k.invariant.choice ∙ ap (λ l. choice_from from l none) (sym (drop-map saving from groups)))
