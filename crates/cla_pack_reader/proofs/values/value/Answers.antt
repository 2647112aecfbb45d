use Rattle.std.proofs.Common.{rules, refl, ◌≡◌, ◌^◌, ◌∙◌, sym, false}
use Rattle.std.proofs.lemmas.Bool.{false_from_ne_true, ltb-true}
use Rattle.std.proofs.lemmas.Int.{to_z-of_z}
use Rattle.std.specs.Int.RustNames.{unsigned_abs}
use Rattle.cla_spec.specs.Bytes.{signed_of}
use mir.Syntax.{w64}
use mir.Val.{SFits, to_z, of_z}
use Rattle.cla_spec.specs.Numbers.{InRange, in_range}
use Rattle.cla_pack_reader.specs.Places.{places_of}
use Rattle.cla_pack_reader.proofs.Steps.{follows, offset_is}
use Rattle.cla_pack_reader.proofs.ValueLaws.{refused_value, took_value, unfit_value}
use Rattle.cla_pack_reader.proofs.values.value.Goals as goal

pub returns-in-Err-clause-exact : goal.returns-in-Err-clause-exact
returns-in-Err-clause-exact g c test in_test =
    let b = places_of c.args.input.now.taken (g.F.Files.state c.args.input.now.files.now) in
    refused_value 8 c.args.group test b b c.in-Err.fault c.in-Err.ensures.exact

pub returns-in-Some-clause-exact : goal.returns-in-Some-clause-exact
returns-in-Some-clause-exact g c test in_test =
    let old = c.args.input.now.taken in
    let s = g.F.Files.state c.args.input.now.files.now in
    let new = c.number.new.input.taken in
    let u = g.F.Files.state c.number.new.input.files.now in
    let v = g.N.Number.value c.in-Some.value in
    let fits : SFits w64 c.signed.result = search rules in
    let same : to_z w64 (of_z w64 c.signed.result) ≡ c.signed.result = to_z-of_z w64 c.signed.result fits in
    let is : signed_of 8 c.in-Ok.number ≡ v = sym c.signed.ensures ∙ sym same ∙ sym c.in-Some.ensures.value in (
      λ good. took_value 8 c.args.group test (places_of old s) (places_of new u) c.in-Ok.number v c.in-Ok.ensures.exact
          is good,
      λ bad. unfit_value 8 c.args.group test (places_of old s) (places_of new u) c.in-Ok.number v old.at
          (follows old new s u c.in-Ok.ensures.frame.told) c.in-Ok.ensures.exact is bad (offset_is old s old.at refl),
    )

pub returns-in-None-clause-exact : goal.returns-in-None-clause-exact
returns-in-None-clause-exact g c test in_test =
    let old = c.args.input.now.taken in
    let s = g.F.Files.state c.args.input.now.files.now in
    let new = c.number.new.input.taken in
    let u = g.F.Files.state c.number.new.input.files.now in
    let v = signed_of 8 c.in-Ok.number in
    let fits : SFits w64 c.signed.result = search rules in
    let same : to_z w64 (of_z w64 c.signed.result) ≡ v = to_z-of_z w64 c.signed.result fits ∙ c.signed.ensures in
    let out : in_range g.N.Number.BITS v ≡ false = false_from_ne_true _ (λ h.
    let inside : InRange g.N.Number.BITS v = ltb-true (unsigned_abs v) (2 ^ g.N.Number.BITS) h in
    let no = c.in-None.ensures.cause.1 (c.requires, rw same inside) in
    cc) in
    unfit_value 8 c.args.group test (places_of old s) (places_of new u) c.in-Ok.number v c.at-at.result
    (follows old new s u c.in-Ok.ensures.frame.told) c.in-Ok.ensures.exact refl (in_test v out)
    (offset_is old s c.at-at.result c.at-at.ensures)
