use Rattle.std.proofs.Common.{ℕ, List, sym, subst, ◌∙◌}
use Rattle.cla_pack_reader.specs.ListedParts.{flag}
use Rattle.cla_pack_reader.specs.Listings.{rows_at}
use Rattle.cla_pack_reader.specs.Places.{places_of}
use Rattle.cla_pack_reader.proofs.CoverSteps.{lists_tested}
use Rattle.cla_pack_reader.proofs.CoveringLaws.{no_lists, no_cover, covering_took}
use Rattle.cla_pack_reader.proofs.Steps.{follows, offset_is}
use Rattle.cla_pack_reader.proofs.listed_group.covered_rows.Goals as goal

pub returns-in-Err-clause-exact : goal.returns-in-Err-clause-exact
returns-in-Err-clause-exact g c =
    let t0 = c.args.input.now.taken in
    let s0 = g.F.Files.state c.args.input.now.files.now in
    no_lists (rows_at g.L.ListedRows.listing c.args.rows c.args.group) c.args.group c.args.rows c.args.d
    (flag c.args.has_rest)
    (places_of t0 s0) c.in-Err.fault c.in-Err.ensures.exact

pub returns-then-not-is_covered-clause-exact : goal.returns-then-not-is_covered-clause-exact
returns-then-not-is_covered-clause-exact g c =
    let t0 = c.args.input.now.taken in
    let s0 = g.F.Files.state c.args.input.now.files.now in
    let t1 = c.read.new.input.taken in
    let s1 = g.F.Files.state c.read.new.input.files.now in
    let rows = c.args.rows in
    let read = c.in-Ok.ensures.exact in
    let tested = lists_tested g.L.ListedRows.listing rows c.args.group c.args.d read.0 t0 t1 s0 s1 c.in-Ok.marked.marks
    c.first_unlisted-unlisted.result c.args.has_rest c.is_covered.result c.requires.a_row c.requires.most
    c.requires.near read.1 read.2 c.first_unlisted-unlisted.ensures c.is_covered.ensures in
    no_cover (rows_at g.L.ListedRows.listing rows c.args.group) c.args.group rows c.args.d (flag c.args.has_rest)
    (places_of t0 s0)
    (places_of t1 s1) read.0 (follows t0 t1 s0 s1 c.in-Ok.ensures.frame.told) read.1 c.at.result
    (sym tested.test ∙ c.if-not-is_covered.true) (offset_is t1 s1 c.at.result c.at.ensures)

pub returns-clause-exact : goal.returns-clause-exact
returns-clause-exact g c =
    let t0 = c.args.input.now.taken in
    let s0 = g.F.Files.state c.args.input.now.files.now in
    let t1 = c.read.new.input.taken in
    let s1 = g.F.Files.state c.read.new.input.files.now in
    let rows = c.args.rows in
    let read = c.in-Ok.ensures.exact in
    let marked = c.in-Ok.marked in
    let tested = lists_tested g.L.ListedRows.listing rows c.args.group c.args.d read.0 t0 t1 s0 s1 marked.marks
    c.first_unlisted-unlisted.result c.args.has_rest c.is_covered.result c.requires.a_row c.requires.most
    c.requires.near read.1 read.2 c.first_unlisted-unlisted.ensures c.is_covered.ensures in (
      read.0,
      covering_took (rows_at g.L.ListedRows.listing rows c.args.group) c.args.group rows c.args.d (flag c.args.has_rest)
          (places_of t0 s0) (places_of t1 s1) read.0 (follows t0 t1 s0 s1 c.in-Ok.ensures.frame.told) read.1
          (sym tested.test ∙ c.if-not-is_covered.false),
      tested.have,
      subst (λ (l : List (List ℕ)). g.L.ListedRows.are_of marked.listed rows l) (sym tested.owned.lists_are) read.3,
      tested.has c.if-not-is_covered.false,
    )
