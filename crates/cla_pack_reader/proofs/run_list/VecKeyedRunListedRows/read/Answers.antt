use Rattle.std.proofs.Common.{rules, ◌≡◌, ℕ, ◌+◌, ◌-◌, ◌++◌, ◌∷◌, Bool, false, List, [], length, refl, sym, ap, subst}
use Rattle.std.proofs.Common.{◌∙◌}
use Rattle.std.proofs.lemmas.List.{length_push, length-replicate}
use Rattle.cla_packed.specs.Runs.{runs_at}
use Rattle.cla_runs.specs.declared.run_list.KeyedRun.{KeyedRun}
use Rattle.cla_pack_reader.proofs.KeptRuns.{no_runs_of}
use Rattle.cla_pack_reader.proofs.Steps.{follows, decides_none, decides_more, took_list, refused_list}
use Rattle.cla_pack_reader.proofs.WalkLaws.{all_named, no_lists}
use Rattle.cla_pack_reader.specs.ListedRows.{AreRunsOf}
use Rattle.cla_pack_reader.specs.Places.{places_of, Took, Refused}
use Rattle.cla_pack_reader.specs.Runs.{AreRunsSoFar}
use Rattle.cla_pack_reader.specs.Walks.{IsState, at_start}
use Rattle.cla_pack_reader.proofs.run_list.VecKeyedRunListedRows.read.Goals as goal

pub loop-t-init : goal.loop-t-init
loop-t-init g c =
    let b = places_of c.args.input.now.taken (g.F.Files.state c.args.input.now.files.now) in
    let step = λ (left : ℕ) (earlier : List (List ℕ)). runs_at c.args.rows c.args.group earlier in
    let none : [] ≡ c.new-listed.result.items = sym c.new-listed.ensures.items in
    record {
      same_reference = refl;
      frame = search rules;
      no_fault = refl;
      size = ap (λ (l : List Bool). length l) c.in-Ok.ensures ∙ length-replicate c.args.rows false;
      so_far = (
        [],
        record {
          state = subst (λ (l : List Bool). IsState [] [] l at_start 0) (sym c.in-Ok.ensures) (no_lists c.args.rows);
          runs = subst (λ (l : List KeyedRun). AreRunsOf c.args.rows [] l) none (no_runs_of c.args.rows);
        },
        refl,
        decides_none b b step c.args.d,
      );
    }

pub returns-in-Err-clause-exact : goal.returns-in-Err-clause-exact
returns-in-Err-clause-exact g c =
    let old = c.args.input.now.taken in
    let s = g.F.Files.state c.args.input.now.files.now in
    let mid = c.loop-t.input.taken in
    let u = g.F.Files.state c.loop-t.input.files.now in
    let d = c.args.d in
    let left = d - 1 - c.loop-t.t in
    let lists = c.loop-t.invariant.so_far in
    let size = c.loop-t.invariant.size in
    let step = λ (left : ℕ) (earlier : List (List ℕ)). runs_at c.args.rows c.args.group earlier in
    let here = subst (λ (k : ℕ). AreRunsSoFar k lists.0 c.loop-t.marks c.loop-t.listed.items c.loop-t.floor) (sym size)
    lists.1 in
    let bad = c.in-Err.ensures.exact lists.0 here lists.2 in
    refused_list (places_of old s) (places_of mid u) step d c.loop-t.t left lists.0 c.in-Err.fault c.loop-t-test.true
    refl (follows old mid s u c.loop-t.invariant.frame.told) lists.3
    (subst (λ (k : ℕ). Refused (places_of mid u) (runs_at k c.args.group lists.0) c.in-Err.fault) size bad)

pub loop-t-preserved : goal.loop-t-preserved
loop-t-preserved g c =
    let b = places_of c.args.input.now.taken (g.F.Files.state c.args.input.now.files.now) in
    let m = places_of c.loop-t.input.taken (g.F.Files.state c.loop-t.input.files.now) in
    let r = places_of c.run_list_of.new.input.taken (g.F.Files.state c.run_list_of.new.input.files.now) in
    let d = c.args.d in
    let lists = c.loop-t.invariant.so_far in
    let size = c.loop-t.invariant.size in
    let step = λ (left : ℕ) (earlier : List (List ℕ)). runs_at c.args.rows c.args.group earlier in
    let here = subst (λ (k : ℕ). AreRunsSoFar k lists.0 c.loop-t.marks c.loop-t.listed.items c.loop-t.floor) (sym size)
    lists.1 in
    let good = c.in-Ok-run_list_of.ensures.exact lists.0 here lists.2 in
    let all = lists.0 ++ good.0 ∷ [] in
    let one = subst (λ (k : ℕ). Took m r (runs_at k c.args.group lists.0) good.0) size good.1 in
    record {
      same_reference = search rules;
      frame = search rules;
      no_fault = search rules;
      size = c.run_list_of.ensures.size ∙ size;
      so_far = (
        all,
        subst (λ (k : ℕ). AreRunsSoFar k all c.run_list_of.new.marks c.run_list_of.new.runs.items
            c.in-Ok-run_list_of.next) size
            good.2,
        length_push lists.0 good.0 ∙ ap (λ (k : ℕ). k + 1) lists.2,
        decides_more b m r step d c.loop-t.t (d - 1 - c.loop-t.t) lists.0 good.0 c.loop-t-test.true refl lists.3 one,
      );
    }

pub returns-clause-exact : goal.returns-clause-exact
returns-clause-exact g c =
    let b = places_of c.args.input.now.taken (g.F.Files.state c.args.input.now.files.now) in
    let m = places_of c.loop-t.input.taken (g.F.Files.state c.loop-t.input.files.now) in
    let lists = c.loop-t.invariant.so_far in
    let step = λ (left : ℕ) (earlier : List (List ℕ)). runs_at c.args.rows c.args.group earlier in (
      lists.0,
      took_list b m step c.args.d c.loop-t.t lists.0 c.loop-t-test.false lists.3,
      all_named c.args.rows lists.0 c.loop-t.marks c.loop-t.floor c.loop-t.invariant.size lists.1.state,
      lists.1.runs,
    )
