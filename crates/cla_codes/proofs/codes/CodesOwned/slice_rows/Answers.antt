use Rattle.std.proofs.Common.{◌≡◌, ◌-◌, take, drop, ◌∙◌, arith}
use Rattle.cla_codes.proofs.CodeBytes.{fits_fewer}
use Rattle.cla_codes.proofs.codes.CodesOwned.slice_rows.Goals as goal
use Rattle.cla_codes.proofs.codes.CodesOwned.slice_rows.Goals.{After-deref-3}
use Rattle.cla_codes.proofs.codes.CodesOwned.slice_rows.Given.{Over}

-- the codes of the rows that are kept
cut : (g : Over) (c : After-deref-3 g) → c.deref-2.result.now
    ≡ take (c.args.b - c.args.a) (drop c.args.a c.args.self.now.rows.value)
cut g c = c.deref-2.ensures.value ∙ rw c.deref.ensures at c.in_ok-rows.ensures

pub of_codes-requires : goal.of_codes-requires
of_codes-requires g c =
    let p = c.args.self.now in
    let kept = c.in_ok-codes.ensures in
    let group = kept.group c.args.a c.args.b p.rows.value c.requires.some c.requires.within (cut g c) p.is in
    (omega arith, (rw c.deref-3.ensures.value group, fits_fewer _ _ _ p.fits kept.few))

pub returns-clause-rows : goal.returns-clause-rows
returns-clause-rows g c =
    let p = c.args.self.now in
    let made = (goal.at.returns-clause-rows g c).After-deref-3 in
    let rows = c.in_ok-codes.ensures.rows c.args.a c.args.b p.rows.value c.requires.some c.requires.within (cut g made)
    p.is in
    rw (c.in_ok-of_codes.ensures.codes, c.in_ok-of_codes.ensures.dictionary, c.deref-3.ensures.value) rows
