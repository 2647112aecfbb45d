use Rattle.std.proofs.Common.{length, map, sym, ap, ◌∙◌, subst, arith, IfOk}
use Rattle.std.proofs.lemmas.List.{length-map}
use Rattle.cla_layout.specs.Groups.{code_of}
use Rattle.cla_numbering.specs.Tables.{AreBelow}
use Rattle.cla_grouping.specs.Numbering.{same_pair, first_rows_by}
use Rattle.cla_cocode.specs.Weighing.{CountGives}
use Rattle.cla_cocode.proofs.Few.{codes-below, pairs-found}
use Rattle.cla_cocode.proofs.pairs.count_pairs_in.Goals as goal

pub codes_in-requires-else-tall-wide : goal.codes_in-requires-else-tall-wide
codes_in-requires-else-tall-wide c =
    subst (λ n. AreBelow n c.args.rows.now) (sym c.requires.rows) c.requires.within

pub count_by_map-requires-clause-rows : goal.count_by_map-requires-clause-rows
count_by_map-requires-clause-rows c =
    let rows = c.args.rows.now in
    let one = c.deref.ensures.value ∙ c.in_ok-first.ensures in
    let two = c.deref-else-tall-wide.ensures.value ∙ c.in_ok-second.ensures in
    ap length two ∙ length-map rows (code_of c.args.b.now) ∙ sym (length-map rows (code_of c.args.a.now))
    ∙ sym (ap length one)

pub count_by_map-requires-clause-few : goal.count_by_map-requires-clause-few
count_by_map-requires-clause-few c =
    let one = c.deref.ensures.value ∙ c.in_ok-first.ensures in
    omega (arith, ap length one, length-map c.args.rows.now (code_of c.args.a.now), c.requires.few)

pub count_by_map-requires-clause-second : goal.count_by_map-requires-clause-second
count_by_map-requires-clause-second c =
    let a = c.args.a.now in
    let two = c.deref-else-tall-wide.ensures.value ∙ c.in_ok-second.ensures in
    subst (AreBelow c.args.wide) (sym two) (codes-below c.args.b.now c.args.rows.now (length a) c.args.wide
    c.requires.within (λ i h. c.requires.second i (omega (arith, h, c.requires.rows))))

pub returns-in_ok-second : goal.returns-in_ok-second
returns-in_ok-second c =
    let a = c.args.a.now in
    let b = c.args.b.now in
    let rows = c.args.rows.now in
    let one = c.deref.ensures.value ∙ c.in_ok-first.ensures in
    let two = c.deref-else-tall-wide.ensures.value ∙ c.in_ok-second.ensures in
    let second = c.deref-else-tall-wide.result.now in
    let same =
    ap (λ l. length (first_rows_by (same_pair l second) (length l))) one
    ∙ ap (λ l. length (first_rows_by (same_pair (map (code_of a) rows) l) (length (map (code_of a) rows)))) two
    ∙ pairs-found a b rows c.args.wide c.requires.within c.requires.rows c.requires.second in
    subst (λ n. IfOk c.count_by_map.result (CountGives c.args.most n)) same c.count_by_map.ensures
