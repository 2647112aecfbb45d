use Rattle.cla_map.proofs.Rooms.{rooms_more, rooms_all}
use Rattle.cla_map.proofs.room.rooms_for.Goals as goal

pub loop-part-preserved : goal.loop-part-preserved
loop-part-preserved g c =
    rw c.in_ok-push.ensures.items (rooms_more (λ r. r.part.now) c.loop-part.rooms.items c.in_ok-room.room
    c.args.parts.now
    c.loop-part.part-index c.part-item.result c.loop-part-test.true c.part-item.is c.loop-part.invariant
    c.in_ok-room.ensures)

pub returns : goal.returns
returns g c =
    rooms_all (λ r. r.part.now) c.loop-part.rooms.items c.args.parts.now c.loop-part.part-index c.loop-part-test.false
    c.loop-part.invariant
