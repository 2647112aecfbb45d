use Rattle.std.proofs.Common.{◌≡◌, ◌∷◌, [], map, ◌∙◌, ap, true}
use Rattle.std.specs.Prelude.{◌^◌}
use Rattle.std.specs.Int.RustNames.{unsigned_abs}
use Rattle.std.proofs.lemmas.Bool.{lt-ltb}
use Rattle.std.proofs.lemmas.List.{map-append}
use Rattle.cla_spec.specs.Numbers.{in_range}
use Rattle.cla_pack_reader.proofs.values.push_value.Goals as goal

pub returns-in-Ok-push-clause-exact : goal.returns-in-Ok-push-clause-exact
returns-in-Ok-push-clause-exact g c test in_test =
    let value = g.N.Number.value in
    let v = value c.in-Ok.next in
    let gives = c.in-Ok.ensures.exact test in_test in
    let inside : in_range g.N.Number.BITS v ≡ true =
    lt-ltb (unsigned_abs v) (2 ^ g.N.Number.BITS) (g.met.N.Number.in_range c.in-Ok.next) in (
      v,
      ap (map value) c.in-Ok-push.ensures.items ∙ map-append value c.args.values.now.items (c.in-Ok.next ∷ []),
      inside,
      gives.0,
      gives.1,
    )
