use Rattle.std.proofs.Common.{◌≡◌, ◌<◌, ◌+◌, ◌*◌, ◌∙◌, ℕ, ℤ, pos, length, subst, arith}
use Rattle.std.proofs.lemmas.List.{get_or_default}
use Rattle.cla_layout.specs.Groups.{at, code_of}
use Rattle.cla_offsets.specs.Segments.{segment_rows, segment_of}
use Rattle.cla_offsets.specs.Walks.{IsListJoined}
use Rattle.cla_offsets.proofs.ListedRows.{are_listed}
use Rattle.cla_offsets.proofs.SegmentRows.{segment_row}
use Rattle.cla_offsets.proofs.JoinedRows.{list_joined}
use Rattle.cla_offsets.proofs.rows.OffsetRows.join_lists.Goals as goal

pub join_list-requires : goal.join_list-requires
join_list-requires g c =
    let v = c.args.self.now in
    let s = c.args.s in
    let k = c.loop-k.k in
    let parts = c.args.parts.now in
    let are = rw c.self.view_is at c.self.invariant in
    let lists = are_listed (segment_of v.codes s) v.rest k c.list.result.now c.list.ensures in
    let there : k < length parts = omega (arith, c.loop-k-test.true, are.tuples_are, c.requires.tuples) in
    let part : c.index-parts-k.result ≡ at parts k = c.index-parts-k.is
    ∙ get_or_default parts k c.index-parts-k.result (pos 0) there in
    let may = λ (j m : ℕ). g.J.Join.can_join (at c.args.into.now (s * segment_rows + j)) (at parts m) in
    record {
      within = λ n there. omega (
        arith,
        (segment_row v.codes s _ (lists.within n there)).1,
        c.requires.rows,
        c.loop-k.auto.into,
      );
      rising = lists.rising;
      fits = λ n there.
          (let row = lists.within n there in
          rw (c.loop-k.invariant.joined.left _ row (omega (arith, lists.has n there)), part)
          (subst (may (code_of c.list.result.now n)) (lists.has n there) (c.requires.fits _ row)));
    }

pub loop-k-preserved : goal.loop-k-preserved
loop-k-preserved g c =
    let v = c.args.self.now in
    let k = c.loop-k.k in
    let parts = c.args.parts.now in
    let list = c.list.result.now in
    let first = c.args.s * segment_rows in
    let are = rw c.self.view_is at c.self.invariant in
    let there : k < length parts = omega (arith, c.loop-k-test.true, are.tuples_are, c.requires.tuples) in
    let part : c.index-parts-k.result ≡ at parts k = c.index-parts-k.is
    ∙ get_or_default parts k c.index-parts-k.result (pos 0) there in
    let walk = subst (λ (z : ℤ). IsListJoined g.J.Join.join first list z c.loop-k.into c.join_list.new.into) part
    c.join_list.ensures in
    let so_far = c.loop-k.invariant.joined in
    let segment = segment_of v.codes c.args.s in
    record {
      joined = list_joined g.J.Join.join first segment v.rest k list parts _ _ _ c.list.ensures c.requires.rest
          so_far walk;
    }

pub returns : goal.returns
returns g c =
    let v = c.args.self.now in
    let are = rw c.self.view_is at c.self.invariant in
    record {
      before = c.loop-k.invariant.joined.before;
      joined = λ j there.
          (let row = segment_row v.codes c.args.s j there in
          c.loop-k.invariant.joined.done j there
          (omega (arith, row.2, are.in_tuples _ row.1, are.tuples_are, c.loop-k-test.false)));
      past = c.loop-k.invariant.joined.past;
    }
