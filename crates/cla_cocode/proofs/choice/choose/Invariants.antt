use Rattle.std.proofs.Common.{◌≡◌, ◌-◌, ◌<◌, map, drop, length}
use Rattle.cla_grouping.specs.Grouping.{window}
use Rattle.cla_cocode.specs.Kept.{code_saving}
use Rattle.cla_cocode.proofs.Choices.{choice_from}
use Rattle.cla_cocode.proofs.choice.choose.Given as goal

-- the best so far and the groups that are left give the choice
abbrev pub invariant-loop-k : goal.invariant-loop-k
invariant-loop-k l =
    let first = length l.groups - window in
    record {
      choice : choice_from l.k (map (λ g. code_saving g l.single) (drop l.k l.groups)) l.best
          ≡ choice_from first (map (λ g. code_saving g l.single) (drop first l.groups)) (record {
            place = 0;
            saving =
                0;
          });
      within : 0 < l.best.saving → l.best.place < length l.groups;
    }
