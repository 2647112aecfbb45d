use Rattle.std.proofs.Common.{◌≡◌, ℕ, ◌≤◌, ◌<◌, ◌++◌, length, true, false, eqb, refl, sym, subst, ◌∙◌, arith}
use Rattle.std.proofs.lemmas.List.{length-append}
use Rattle.std.proofs.lemmas.List.Folds.{list_any-append}
use Rattle.cla_packed.specs.Codes.{has}
use Rattle.cla_pack_reader.specs.Marks.{AreMarks}
use Rattle.cla_pack_reader.proofs.MarkLaws.{has_none}
use Rattle.cla_pack_reader.proofs.marks.TakenColumns.add.Goals as goal

pub returns : goal.returns
returns c before taken =
    let cols = length c.args.self.now.marks in
    let columns = c.args.columns.now in
    let all = before ++ columns in
    let both = λ (j : ℕ). list_any-append (λ m. eqb m j) before columns in
    let new = c.mark.new.marks in
    let size : length new ≡ cols = c.mark.ensures.size in
    let marks : AreMarks cols all new = c.mark.ensures.marks before taken.marks in
    let within : (j : ℕ) → cols ≤ j → has all j ≡ false = λ j le.
    both j ∙ rw (taken.within j le) (has_none columns cols j c.requires.below le) in
    let low : (j : ℕ) → j < c.args.self.now.least → has all j ≡ true = λ j lt. both j ∙ rw (taken.least.0 j lt) refl in
    record {
      places = size;
      marks = marks;
      within = within;
      count = omega (arith, length-append before columns, taken.count);
      least = c.least_unmarked-self.ensures all (subst (λ (n : ℕ). AreMarks n all new) (sym size) marks) low
          (λ j le. within j (omega (arith, le, size)));
    }
