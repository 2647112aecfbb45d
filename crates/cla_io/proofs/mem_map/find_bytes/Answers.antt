use Rattle.std.proofs.Common.{sym, ap, ◌∙◌, Some}
use Rattle.std.specs.Map.Iter.{deref_pair}
use Rattle.std.proofs.lemmas.Map.Iter.{rest_more, rest_all}
use Rattle.cla_io.proofs.MemMap.{told_by_scan, scan_hit, scan_miss}
use Rattle.cla_io.proofs.mem_map.find_bytes.Goals as goal

pub returns-then-eq : goal.returns-then-eq
returns-then-eq c =
    let first = rest_more deref_pair c.loop-key.key-iterator c.next.new.self c.next.result (
      c.in-Some.key,
      c.in-Some.bytes,
    ) c.in-Some.is c.next.ensures.steps in
    let test = sym (rw c.as_str.ensures at c.eq.ensures) ∙ c.if-eq.true in
    let hit = scan_hit c.args.name.now c.in-Some.key.now c.in-Some.bytes.now _ _ first test in
    ap Some c.deref.ensures.value ∙ sym hit ∙ c.loop-key.invariant.same
    ∙ sym (told_by_scan c.args.name.now c.args.files.now.entries)

pub loop-key-preserved : goal.loop-key-preserved
loop-key-preserved c =
    let first = rest_more deref_pair c.loop-key.key-iterator c.next.new.self c.next.result (
      c.in-Some.key,
      c.in-Some.bytes,
    ) c.in-Some.is c.next.ensures.steps in
    let test = sym (rw c.as_str.ensures at c.eq.ensures) ∙ c.if-eq.false in
    let miss = scan_miss c.args.name.now c.in-Some.key.now c.in-Some.bytes.now _ _ first test in
    record {
      can_next = tt;
      finite = tt;
      same = sym miss ∙ c.loop-key.invariant.same;
    }

pub returns : goal.returns
returns c =
    let end = rest_all deref_pair c.loop-key.key-iterator c.next.new.self c.next.result c.in-None.is
    c.next.ensures.steps in
    let same = rw end at c.loop-key.invariant.same in
    same ∙ sym (told_by_scan c.args.name.now c.args.files.now.entries)
