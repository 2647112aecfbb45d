use Rattle.std.proofs.Common.{◌≡◌, ℕ, ℤ, Option, List, map, refl, sym, ap, subst, inr}
use Rattle.std.specs.Result.{IfOk}
use Rattle.cla_packed.specs.Bodies.{Body}
use Rattle.cla_packed.specs.Lists.{lists_of}
use Rattle.cla_pack_reader.specs.Kept.{body_kept}
use Rattle.cla_pack_reader.specs.ListedParts.{HaveOwners, AreAllListed}
use Rattle.cla_pack_reader.proofs.CodedLaws.{with_codes}
use Rattle.cla_pack_reader.proofs.CoverLaws.{all_listed, some_unlisted}
use Rattle.cla_pack_reader.proofs.GroupParts.{tuples_made}
use Rattle.cla_pack_reader.proofs.listed_group.group_of_rows.Goals as goal

pub dictionary-requires-clause-owners : goal.dictionary-requires-clause-owners
dictionary-requires-clause-owners g c =
    let w = c.requires.owners in
    let h = subst (λ (u : Option ℕ). HaveOwners c.args.rows c.args.tuples.count w.0 u) c.in-None.is w.1 in
    (c.args.rows, w.0, c.requires.cells, all_listed c.args.rows c.args.tuples.count w.0 h)

pub group-requires : goal.group-requires
group-requires g c =
    let w = c.requires.owners in
    let rows = c.args.rows in
    let width = c.args.width in
    let d = c.args.tuples.count in
    let listed = c.args.covered.listed in
    let all = all_listed rows d w.0 (subst (λ (u : Option ℕ). HaveOwners rows d w.0 u) c.in-None.is w.1) in
    let t = c.dictionary.ensures rows w.0 c.requires.cells all in
    let count = tuples_made g.N.Number.BITS width d w.0 (map g.N.Number.value c.args.tuples.values.items)
    c.dictionary.result t in (
      w.0,
      t.group,
      t.rest_is,
      inr (
        width,
        c.requires.cells,
        subst (λ (n : ℕ). AreAllListed rows n w.0) (sym count) all,
        subst (λ (n : ℕ). g.L.ListedRows.are_of listed rows (lists_of n w.0)) (sym count) w.2,
        sym count,
        refl,
      ),
    )

pub group_with_rest-requires-clause-owners : goal.group_with_rest-requires-clause-owners
group_with_rest-requires-clause-owners g c =
    let w = c.requires.owners in
    let d = c.args.tuples.count in
    let h = subst (λ (u : Option ℕ). HaveOwners c.args.rows d w.0 u) c.in-Some.is w.1 in
    (w.0, some_unlisted c.args.rows d w.0 c.in-Some.first h, w.2)

pub returns-in-None-clause-body : goal.returns-in-None-clause-body
returns-in-None-clause-body g c owners h s =
    let rows = c.args.rows in
    let width = c.args.width in
    let d = c.args.tuples.count in
    let listed = c.args.covered.listed in
    let all = all_listed rows d owners (subst (λ (u : Option ℕ). HaveOwners rows d owners u) c.in-None.is h) in
    let t = c.dictionary.ensures rows owners c.requires.cells all in
    let count = tuples_made g.N.Number.BITS width d owners (map g.N.Number.value c.args.tuples.values.items)
    c.dictionary.result t in
    let are = inr (
      width,
      c.requires.cells,
      subst (λ (n : ℕ). AreAllListed rows n owners) (sym count) all,
      subst (λ (n : ℕ). g.L.ListedRows.are_of listed rows (lists_of n owners)) (sym count) s,
      sym count,
      refl,
    ) in
    rw c.in-None.is (subst (λ (b : Body). IfOk c.group.result (λ g'. body_kept g' ≡ b))
    (ap (λ (l : List (List ℤ)). with_codes owners l) t.tuples_are) (c.group.ensures.body owners are))

pub returns-in-Some-clause-body : goal.returns-in-Some-clause-body
returns-in-Some-clause-body g c owners h s =
    let d = c.args.tuples.count in
    let same = subst (λ (u : Option ℕ). HaveOwners c.args.rows d owners u) c.in-Some.is h in
    rw c.in-Some.is
    (c.group_with_rest.ensures.body owners (some_unlisted c.args.rows d owners c.in-Some.first same) s)
