use Rattle.std.proofs.Common.{◌≡◌, ◌≤◌, length, map, get_or, sym, ap, ◌∙◌, arith, rules}
use Rattle.std.specs.Prelude.{vec_len}
use Rattle.std.proofs.lemmas.List.{ext_get_or, get_or-map, length-map}
use Rattle.cla_packed.specs.Rests.{with_rest}
use Rattle.cla_runs.specs.declared.run_list.KeyedRun.{KeyedRun}
use Rattle.cla_pack_reader.specs.Keys.{keyed}
use Rattle.cla_pack_reader.proofs.GroupParts.{few_rows, rest_runs}
use Rattle.cla_pack_reader.proofs.ListedCodes.{rest_few}
use Rattle.cla_pack_reader.proofs.RestPlaces.{run_keys}
use Rattle.cla_pack_reader.proofs.run_list.VecKeyedRunListedRows.with_rest.Goals as goal

pub code_beside-requires : goal.code_beside-requires
code_beside-requires c =
    let w = c.requires in
    let old = c.args.self.items in
    let n = c.loop-n.n in
    let run = c.index-run.result.now in
    let whole : vec_len c.args.self ≡ length old = search rules in
    let same : run ≡ get_or old n run = c.index-run.ensures ∙ c.loop-n.invariant.behind n run (omega arith) in
    let key = run_keys w.0 w.2 w.3 w.4 old w.6 w.7 n run
    (omega (arith, c.loop-n-test.true, c.len-n-end.ensures, whole)) in
    let few = rest_few w.0 w.1 w.2 c.args.r w.3 w.4 w.5 w.6 w.8 in
    omega (arith, ap (λ (x : KeyedRun). x.key) same, key, few, few_rows w.0 w.1 w.5)

pub returns : goal.returns
returns c rows width d first owners cells h s r_is =
    let old = c.args.self.items in
    let new = c.loop-n.runs.items in
    let f = keyed (with_rest d c.args.r) in
    let none : KeyedRun = record { begin = 0; end = 0; key = 0 } in
    let size : length new ≡ length old = c.loop-n.invariant.size in
    let whole : vec_len c.args.self ≡ length old = search rules in
    let done : length old ≤ c.loop-n.n = omega (arith, c.loop-n-test.false, c.len-n-end.ensures, whole) in
    let keys = run_keys rows d first owners old h s in
    rest_runs rows width d c.args.r first owners cells h r_is old new s (ext_get_or none new (map f old)
    (size ∙ sym (length-map old f)) (λ i there.
    c.loop-n.invariant.before d i none keys (omega (arith, there, size, done))
    ∙ sym (get_or-map f old i none none (omega (arith, there, size)))))
