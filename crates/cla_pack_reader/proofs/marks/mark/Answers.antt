use Rattle.std.proofs.Common.{◌≡◌, ℕ, suc, ◌+◌, ◌<◌, ◌++◌, ◌∷◌, Bool, List, [], length, take, set, true}
use Rattle.std.proofs.Common.{slice_index_or, sym, ap, subst, ◌∙◌, append_assoc, arith}
use Rattle.std.proofs.Math.Seq.{take-suc}
use Rattle.std.proofs.lemmas.List.{take_all, length-set}
use Rattle.cla_pack_reader.specs.Marks.{AreMarks}
use Rattle.cla_pack_reader.proofs.MarkLaws.{mark_more}
use Rattle.cla_pack_reader.proofs.marks.mark.Goals as goal

pub loop-column-preserved : goal.loop-column-preserved
loop-column-preserved c =
    let cols = length c.args.marks.now in
    let columns = c.args.columns.now in
    let i = c.loop-column.column-index in
    let k = slice_index_or columns i 0 in
    let marks = c.loop-column.marks in
    let size : length marks ≡ cols = c.loop-column.invariant.size in
    let lt : i < length columns = omega (arith, c.loop-column-test.true) in
    let next : i + 1 ≡ suc i = omega arith in
    let one : take (i + 1) columns ≡ take i columns ++ k ∷ [] =
    ap (λ (n : ℕ). take n columns) next ∙ take-suc columns i 0 lt in
    let put : c.put.new.self ≡ set marks k true = c.put.ensures in
    record {
      size = ap (λ (l : List Bool). length l) put ∙ length-set marks k true ∙ size;
      marks = λ taken are.
          let more : (taken ++ take i columns) ++ k ∷ [] ≡ taken ++ take (i + 1) columns =
          append_assoc taken (take i columns) (k ∷ []) ∙ ap (λ (l : List ℕ). taken ++ l) (sym one) in
          subst (λ (l : List Bool). AreMarks cols (taken ++ take (i + 1) columns) l) (sym put)
          (subst (λ (l : List ℕ). AreMarks cols l (set marks k true)) more
          (mark_more cols (taken ++ take i columns) marks k size (c.requires i lt)
          (c.loop-column.invariant.marks taken are)));
    }

pub returns-clause-marks : goal.returns-clause-marks
returns-clause-marks c taken are =
    let columns = c.args.columns.now in
    let i = c.loop-column.column-index in
    subst (λ (l : List ℕ). AreMarks (length c.args.marks.now) (taken ++ l) c.loop-column.marks)
    (take_all i columns (omega (arith, c.loop-column-test.false))) (c.loop-column.invariant.marks taken are)
