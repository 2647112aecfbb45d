use Rattle.std.proofs.Common.{◌≡◌, length, ap, ◌∙◌, arith, rules}
use Rattle.std.specs.Prelude.{vec_len}
use Rattle.std.proofs.lemmas.List.{get_or_read}
use Rattle.std.specs.List.{insert}
use Rattle.cla_layout.specs.Groups.{code_of}
use Rattle.cla_pack_reader.proofs.GroupParts.{rest_lists}
use Rattle.cla_pack_reader.proofs.ListedCodes.{rest_fits}
use Rattle.cla_pack_reader.proofs.RestPlaces.{starts_size}
use Rattle.cla_pack_reader.proofs.list.GroupedListedRows.with_rest.Goals as goal

pub index-start-requires : goal.index-start-requires
index-start-requires c =
    let w = c.requires in
    let starts = c.args.self.starts in
    let whole : vec_len starts ≡ length starts.items = search rules in
    let fits = rest_fits w.0 w.1 w.2 c.args.r w.3 w.4 w.5 w.6 w.8 in
    let size = starts_size w.0 w.2 w.3 w.4 starts.items c.args.self.places.items w.6 w.7 in
    omega (arith, whole, fits.within, size)

pub insert-requires : goal.insert-requires
insert-requires c =
    let w = c.requires in
    let fits = rest_fits w.0 w.1 w.2 c.args.r w.3 w.4 w.5 w.6 w.8 in
    omega (
      arith,
      fits.within,
      starts_size w.0 w.2 w.3 w.4 c.args.self.starts.items c.args.self.places.items w.6 w.7,
    )

pub returns : goal.returns
returns c rows width d first owners cells h s r_is =
    let starts = c.args.self.starts.items in
    let places = c.args.self.places.items in
    let r = c.args.r in
    let within = (rest_fits rows width d r first owners cells h r_is).within in
    let size = starts_size rows d first owners starts places h s in
    let start : c.index-start.result.now ≡ code_of starts r =
    get_or_read starts r c.index-start.result.now (omega (arith, within, size)) c.index-start.ensures 0 in
    rest_lists rows width d r first owners cells h r_is starts places c.insert.new.self.items s
    (c.in_ok-insert.ensures.items ∙ ap (insert starts r) start)
