use Rattle.std.proofs.Common.{◌≡◌, ◌<◌, ℤ, length, map, refl, arith}
use Rattle.std.proofs.lemmas.List.{map-set, length-map}
use Rattle.cla_layout.specs.Groups.{at, code_of}
use Rattle.cla_agg.proofs.Spread.{value_read, joined_more}
use Rattle.cla_agg.proofs.rows.set_rows.Goals as goal

pub loop-i-init : goal.loop-i-init
loop-i-init g c = record { done = λ r lt. absurd (omega (arith, lt)); left = λ r le. refl }

pub bounds-items-k : goal.bounds-items-k
bounds-items-k g c = c.requires.tuples c.loop-i.i (omega (arith, c.loop-i-test.true))

pub loop-i-preserved : goal.loop-i-preserved
loop-i-preserved g c =
    let value = g.N.Number.value in
    let codes = c.args.codes.now in
    let items = map value c.args.items.now in
    let now = map value c.loop-i.into in
    let i = c.loop-i.i in
    let row : i < length codes = omega (arith, c.loop-i-test.true) in
    let k = code_of codes i in
    let item : value c.index-items-k.result ≡ at items k =
    value_read value c.args.items.now k c.index-items-k.result (c.requires.tuples i row) c.index-items-k.is in
    let there : i < length c.loop-i.into = omega (arith, row, c.loop-i.auto.into, c.requires.rows) in
    let within : i < length now = omega (arith, there, length-map c.loop-i.into value) in
    rw (map-set value c.loop-i.into i c.index-items-k.result)
    (joined_more (λ (old v : ℤ). v) i codes items (map value c.args.into.now) now (value c.index-items-k.result) within
    item c.loop-i.invariant)

pub returns : goal.returns
returns g c i row = c.loop-i.invariant.done i (omega (arith, row, c.loop-i-test.false, c.loop-i.auto.i-end))
