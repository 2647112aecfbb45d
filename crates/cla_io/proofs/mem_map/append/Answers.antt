use Rattle.std.proofs.Common.{◌≡◌, ◌∙◌, true, false, sym, ap, is_some}
use Rattle.cla_io.proofs.MemMap.{told_grown, told_kept, entry_there}
use Rattle.cla_io.proofs.mem_map.append.Goals as goal

pub unreachable-requires : goal.unreachable-requires
unreachable-requires c =
    let there = entry_there c.args.name.now c.args.files.now c.requires in
    let none = rw c.in_default.is at c.get_mut.ensures.value in
    absurd (let e : true ≡ false = sym there ∙ ap is_some (sym none) in cc)

pub returns-in-Ok-clause-told : goal.returns-in-Ok-clause-told
returns-in-Ok-clause-told c =
    let grown = c.extend_from_slice.new.self in
    let there = entry_there c.args.name.now c.args.files.now c.requires in
    told_grown c.args.files.now (c.get_mut.follows.lender grown) c.args.name.now c.args.piece.now c.in-Some.bytes.now
    grown c.in-Some.ensures.value ((c.get_mut.follows.holds grown).3 there).0 c.in-Ok.ensures.items

pub returns-in-Err-clause-same : goal.returns-in-Err-clause-same
returns-in-Err-clause-same c =
    let same = c.extend_from_slice.new.self in
    let there = entry_there c.args.name.now c.args.files.now c.requires in
    told_kept c.args.files.now (c.get_mut.follows.lender same) c.args.name.now c.in-Some.bytes.now same
    c.in-Some.ensures.value ((c.get_mut.follows.holds same).3 there).0 c.in-Err.ensures.items
