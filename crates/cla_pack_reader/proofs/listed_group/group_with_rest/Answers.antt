use Rattle.std.proofs.Common.{◌≡◌, ℕ, pos, map, replicate, sym, ap, subst, ◌∙◌, inl}
use Rattle.std.specs.Result.{IfOk}
use Rattle.cla_layout.specs.Tuples.{tuples_of}
use Rattle.cla_packed.specs.Bodies.{Body}
use Rattle.cla_packed.specs.Rests.{with_rest, with_tuple}
use Rattle.cla_pack_reader.specs.Kept.{body_kept}
use Rattle.cla_pack_reader.proofs.GroupForms.{same_body}
use Rattle.cla_pack_reader.proofs.GroupParts.{tuples_made_more}
use Rattle.cla_pack_reader.proofs.listed_group.group_with_rest.Goals as goal

pub rest_code-r-requires : goal.rest_code-r-requires
rest_code-r-requires g c =
    let w = c.requires.owners in
    (c.args.rows, w.0, w.1, w.2)

pub dictionary_with_rest-requires-clause-owners : goal.dictionary_with_rest-requires-clause-owners
dictionary_with_rest-requires-clause-owners g c =
    let w = c.requires.owners in
    (c.args.rows, c.args.first, w.0, c.requires.cells, w.1, c.rest_code-r.ensures c.args.rows w.0 w.1 w.2)

pub with_rest-requires : goal.with_rest-requires
with_rest-requires g c =
    let w = c.requires.owners in
    let rows = c.args.rows in (
      rows,
      c.args.width,
      c.args.tuples.count,
      c.args.first,
      w.0,
      c.requires.cells,
      w.1,
      w.2,
      c.rest_code-r.ensures rows w.0 w.1 w.2,
    )

pub group-requires : goal.group-requires
group-requires g c =
    let w = c.requires.owners in
    let rows = c.args.rows in
    let width = c.args.width in
    let d = c.args.tuples.count in
    let first = c.args.first in
    let r = c.rest_code-r.result in
    let made = c.in_ok-dictionary.dictionary in
    let coded = c.in_ok-coded.coded in
    let codes = map (with_rest d r) w.0 in
    let r_is = c.rest_code-r.ensures rows w.0 w.1 w.2 in
    let t = c.in_ok-dictionary.ensures rows first w.0 c.requires.cells w.1 r_is in
    let count = tuples_made_more rows width d r first w.0 c.requires.cells w.1 r_is g.N.Number.BITS codes
    (map g.N.Number.value c.args.tuples.values.items) made t in (
      codes,
      t.group,
      t.rest_is,
      inl (subst (λ (n : ℕ). g.L.ListedRows.are_coded coded codes rows n r first) (sym count)
          (c.in_ok-coded.ensures rows width d first w.0 c.requires.cells w.1 w.2 r_is)),
    )

pub returns-clause-body : goal.returns-clause-body
returns-clause-body g c owners h s =
    let rows = c.args.rows in
    let width = c.args.width in
    let d = c.args.tuples.count in
    let first = c.args.first in
    let r = c.rest_code-r.result in
    let made = c.in_ok-dictionary.dictionary in
    let coded = c.in_ok-coded.coded in
    let codes = map (with_rest d r) owners in
    let values = map g.N.Number.value c.args.tuples.values.items in
    let r_is = c.rest_code-r.ensures rows owners h s in
    let t = c.in_ok-dictionary.ensures rows first owners c.requires.cells h r_is in
    let count = tuples_made_more rows width d r first owners c.requires.cells h r_is g.N.Number.BITS codes values made
    t in
    let are = subst (λ (n : ℕ). g.L.ListedRows.are_coded coded codes rows n r first) (sym count)
    (c.in_ok-coded.ensures rows width d first owners c.requires.cells h s r_is) in
    let z = replicate width (pos 0) in
    let ts = tuples_of width d values in
    subst (λ (b : Body). IfOk c.group.result (λ g'. body_kept g' ≡ b))
    (same_body _ _ _ _ (ap (λ (n : ℕ). map (with_rest d n) owners) r_is)
    (t.tuples_are ∙ ap (λ (n : ℕ). with_tuple n z ts) r_is)) (c.group.ensures.body codes (inl are))
