use Rattle.std.proofs.Common.{◌≡◌, ◌&&◌, ℕ, Bool, true, false, List, refl, sym, ap, ◌∙◌, Option, Some}
use Rattle.cla_layout.specs.Groups.{code_of}
use Rattle.cla_layout.specs.Listed.{is_rest}
use Rattle.cla_grouping.specs.Tuples.{code_where}
use Rattle.cla_stats.proofs.Firsts.{found_none}
use Rattle.cla_stats.proofs.coded.joined_zero.Goals as goal

and_false : (a b : Bool) → b ≡ false → (a && b) ≡ false
and_false true b h = h
and_false false b h = refl

abbrev test : Option ℕ → Option ℕ → List ℕ → List ℕ → ℕ → Bool
test x y a b i = is_rest x (code_of a i) && is_rest y (code_of b i)

pub returns-in-Some-Some : goal.returns-in-Some-Some
returns-in-Some-Some c =
    let a = c.args.a.now.codes.items in
    let b = c.args.b.now.codes.items in
    let codes = c.args.codes.now in
    let first = c.in-Some-Some.first in
    let second = c.in-Some-Some.second in
    c.first_pair.ensures
    ∙ ap (λ xs. code_where (test (Some first) (Some second) xs c.deref-in-Some-Some.result.now) codes)
    c.deref.ensures.value
    ∙ ap (λ ys. code_where (test (Some first) (Some second) a ys) codes) c.deref-in-Some-Some.ensures.value
    ∙ ap (λ x. code_where (test x (Some second) a b) codes) (sym c.in-Some-Some.is-0)
    ∙ ap (λ y. code_where (test c.args.a.now.zero y a b) codes) (sym c.in-Some-Some.is-1)

pub returns-in_default : goal.returns-in_default
returns-in_default c =
    let a = c.args.a.now.codes.items in
    let b = c.args.b.now.codes.items in
    found_none (test c.args.a.now.zero c.args.b.now.zero a b) c.args.codes.now
    (λ j there. and_false (is_rest c.args.a.now.zero (code_of a j)) (is_rest c.args.b.now.zero (code_of b j))
    (ap (λ y. is_rest y (code_of b j)) c.in_default.is-1))

pub returns-in_default-2 : goal.returns-in_default-2
returns-in_default-2 c =
    let a = c.args.a.now.codes.items in
    let b = c.args.b.now.codes.items in
    found_none (test c.args.a.now.zero c.args.b.now.zero a b) c.args.codes.now
    (λ j there. ap (λ x. test x c.args.b.now.zero a b j) c.in_default.is-0)
