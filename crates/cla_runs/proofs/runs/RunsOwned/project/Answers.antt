use Rattle.std.proofs.Common.{◌∙◌, sym}
use Rattle.std.proofs.lemmas.List.{length-map}
use Rattle.cla_group.specs.Rows.{projected}
use Rattle.cla_group.proofs.GroupsMade.{group_projected}
use Rattle.cla_runs.proofs.runs.RunsOwned.project.Goals as goal

pub invariant_of-result : goal.invariant_of-result
invariant_of-result g c =
    let p = c.args.self.now in
    rw (c.in_ok-clone.ensures.cases, c.in_ok-project.ensures) (record {
      is = group_projected _ _ _ _ _ p.is c.requires.places;
      all = p.all ∙ sym (length-map p.dictionary.tuples (projected c.args.places.now));
    })
