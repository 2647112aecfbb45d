use Rattle.std.proofs.Common.{◌∙◌, ℕ, Option, ap}
use Rattle.std.specs.Option.{unwrap_or}
use Rattle.cla_layout.specs.Listed.{rest_of}
use Rattle.cla_group.proofs.Rests.{rest_kept}
use Rattle.cla_group.proofs.dictionary.Dictionary.rest_number.Goals as goal

pub returns : goal.returns
returns g c = λ codes.
    (let tuples = c.args.self.now.tuples in
    rw (c.unwrap_or.ensures ∙ ap (λ (r : Option ℕ). unwrap_or r c.len.result) (c.rest.ensures codes)
    ∙ ap (unwrap_or (rest_of codes tuples)) c.len.ensures.count) (rest_kept codes tuples))
