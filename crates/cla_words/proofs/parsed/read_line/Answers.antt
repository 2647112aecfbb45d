use Rattle.std.proofs.Common.{◌∙◌, inl, inr, ap, sym, subst, map, string_bytes}
use Rattle.clap.specs.Faults.{fault_of, is_simple_and_free}
use Rattle.clap.specs.Kinds.{IsAmong}
use Rattle.clap.specs.Values.{kind_of}
use Rattle.clap.specs.Simple.{is_simple, matches_of}
use Rattle.cla_words.proofs.Parser.{is_free}
use Rattle.cla_words.proofs.Lines.{strings_are_texts}
use Rattle.cla_words.proofs.Results.{found_line, is_simple_app, no_line}
use Rattle.cla_words.proofs.parsed.read_line.Goals as goal

pub returns-in-Ok : goal.returns-in-Ok
returns-in-Ok c =
    let has = c.args.has_budget in
    let is = c.in_ok-parser.ensures in
    let words = map string_bytes c.args.words.now in
    found_line has words c.in-Ok.matches (strings_are_texts c.args.words.now)
    (ap (λ a. fault_of a words) (sym is) ∙ c.in-Ok.ensures.kinds (ap is_simple_and_free is ∙ is_free has))
    ((c.in-Ok.ensures.matches (ap is_simple is ∙ is_simple_app has)).0 ∙ ap (λ a. matches_of a words) is)

pub returns : goal.returns
returns c =
    let has = c.args.has_budget in
    let is = c.in_ok-parser.ensures in
    let words = map string_bytes c.args.words.now in
    elim (c.in-Err.ensures.kinds (ap is_simple_and_free is ∙ is_free has)) [
      | inl memory ↦ absurd (c.in_default.not-OutOfMemory (c.kind.ensures ∙ memory))
      | inr among ↦ no_line has words (kind_of c.in-Err.error) (strings_are_texts c.args.words.now)
          (subst (λ a. IsAmong (kind_of c.in-Err.error) (fault_of a words)) is among)
    ]
