use Rattle.std.proofs.Common.{ℕ, length, subst}
use Rattle.cla_packed.specs.declared.fault.FieldName.TheVariants.{Runs}
use Rattle.cla_packed.specs.Fields.{field_at}
use Rattle.cla_packed.specs.Runs.{rows_of_runs}
use Rattle.cla_pack_reader.proofs.RunLaws.{count_ends, runs_end, runs_read}
use Rattle.cla_pack_reader.proofs.Steps.{follows}
use Rattle.cla_pack_reader.proofs.WalkLaws.{list_pushed}
use Rattle.cla_pack_reader.specs.Places.{places_of, Took, Refused}
use Rattle.cla_pack_reader.specs.Ranges.{within}
use Rattle.cla_pack_reader.proofs.run.run_list_of.Goals as goal

pub returns-in-Err-clause-exact : goal.returns-in-Err-clause-exact
returns-in-Err-clause-exact g c earlier st is =
    let b = places_of c.args.input.now.taken (g.F.Files.state c.args.input.now.files.now) in
    count_ends (length c.args.marks.now) c.args.group earlier b b b c.in-Err.fault
    (subst (λ (m : ℕ). Refused b (field_at 4 (within 1 m) c.args.group Runs) c.in-Err.fault) c.len-rows.ensures
    c.in-Err.ensures.exact)

pub returns-in-Err-runs_of-clause-exact : goal.returns-in-Err-runs_of-clause-exact
returns-in-Err-runs_of-clause-exact g c earlier st is =
    let old = c.args.input.now.taken in
    let s = g.F.Files.state c.args.input.now.files.now in
    let new = c.field.new.input.taken in
    let u = g.F.Files.state c.field.new.input.files.now in
    let took = subst (λ (m : ℕ). Took (places_of old s) (places_of new u) (field_at 4 (within 1 m) c.args.group Runs)
    c.in-Ok.n) c.len-rows.ensures c.in-Ok.ensures.exact in
    runs_end (length c.args.marks.now) c.args.group earlier (places_of old s) (places_of new u) (places_of new u)
    c.in-Ok.n took c.in-Err-runs_of.fault (follows old new s u c.in-Ok.ensures.frame.told)
    (c.in-Err-runs_of.ensures.exact earlier st is)

pub returns-in-Ok-runs_of-clause-exact : goal.returns-in-Ok-runs_of-clause-exact
returns-in-Ok-runs_of-clause-exact g c earlier st is =
    let b = places_of c.args.input.now.taken (g.F.Files.state c.args.input.now.files.now) in
    let m = places_of c.field.new.input.taken (g.F.Files.state c.field.new.input.files.now) in
    let r = places_of c.runs_of.new.input.taken (g.F.Files.state c.runs_of.new.input.files.now) in
    let runs = c.in-Ok-runs_of.ensures.exact earlier st is in
    let rows = rows_of_runs 0 runs.0 in
    let took = subst (λ (k : ℕ). Took b m (field_at 4 (within 1 k) c.args.group Runs) c.in-Ok.n) c.len-rows.ensures
    c.in-Ok.ensures.exact in (
      rows,
      runs_read (length c.args.marks.now) c.args.group earlier b m r c.in-Ok.n took runs.0 runs.1,
      record {
        state = list_pushed earlier rows c.runs_of.new.marks c.in-Ok-runs_of.walk c.args.floor runs.2.state;
        runs = runs.3;
      },
    )
