use Rattle.std.proofs.Common.{◌<◌, sym, ap, ◌∙◌, subst}
use Rattle.cla_grouping.specs.Sizes.{AreSmall, IsPast, best_bytes}
use Rattle.cla_grouping.specs.declared.sizes.Figures.{Figures}
use Rattle.cla_grouping.specs.declared.sizes.KindBytes.{KindBytes}
use Rattle.cla_cocode.specs.Weighing.{CountGives, pairs_of, floor_of, with_distinct_of}
use Rattle.cla_cocode.proofs.Unions.{union-figures, union-small, past-union}
use Rattle.cla_cocode.proofs.union.weigh_all.Goals as goal

pub returns-in_default : goal.returns-in_default
returns-in_default c =
    let a = c.args.group.now.tuples in
    let b = c.args.single.now.tuples in
    let most = c.most_tuples.result in
    let more : most < pairs_of a b = subst (CountGives most (pairs_of a b)) c.in_default.is c.in_ok-distinct.ensures in
    let past = subst (λ f. IsPast f c.args.target most) c.least_union-bound.ensures.value c.most_tuples.ensures in
    past-union a b c.args.target most c.least_union-bound.ensures.first c.least_union-bound.ensures.second
    c.requires.pair past more

pub best-union-requires : goal.best-union-requires
best-union-requires c =
    let a = c.args.group.now.tuples in
    let b = c.args.single.now.tuples in
    let most = c.most_tuples.result in
    let all = subst (CountGives most (pairs_of a b)) c.in-Some.is c.in_ok-distinct.ensures in
    let same = c.with_distinct.ensures
    ∙ ap (λ (f : Figures). with_distinct_of f c.in-Some.distinct) c.floor.ensures.value
    ∙ ap (with_distinct_of (floor_of a b)) all in
    subst AreSmall (sym same) (union-small a b c.floor.ensures.first c.floor.ensures.second c.requires.pair)

pub returns : goal.returns
returns c =
    let a = c.args.group.now.tuples in
    let b = c.args.single.now.tuples in
    let most = c.most_tuples.result in
    let all = subst (CountGives most (pairs_of a b)) c.in-Some.is c.in_ok-distinct.ensures in
    let same = c.with_distinct.ensures
    ∙ ap (λ (f : Figures). with_distinct_of f c.in-Some.distinct) c.floor.ensures.value
    ∙ ap (with_distinct_of (floor_of a b)) all ∙ sym (union-figures a b) in
    ap (λ (k : KindBytes). k.bytes) c.best-union.ensures.value ∙ ap best_bytes same
