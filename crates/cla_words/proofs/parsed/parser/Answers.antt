use Rattle.std.proofs.Common.{rules, ◌≡◌, ◌∙◌, ap, ap₂, true}
use Rattle.std.proofs.lemmas.Result.{IfOk-weaker}
use Rattle.clap.specs.Walk.{rule_of}
use Rattle.clap.specs.Simple.{app_of, app_of_fields, with_rule}
use Rattle.clap.specs.declared.builder.command.Command.{Command}
use Rattle.clap.specs.declared.builder.command.Command.TheOpen.{Command-F}
use Rattle.cla_words.specs.Parsed.{bare, budget, places, with_places, without_flags}
use Rattle.cla_words.proofs.parsed.parser.Goals as goal

pub returns : goal.returns
returns c =
    let has : c.args.has_budget ≡ true = search rules in
    let places_is : rule_of c.action-places.result ≡ places = search rules in
    let budget_is : rule_of c.action-budget.result ≡ budget = search rules in
    let helpless = ap (λ (f : Command-F Command). record f { disable_help_flag = true }) c.no_binary_name.ensures in
    let flagless = ap (λ (f : Command-F Command). record f { disable_version_flag = true })
    (c.disable_help_flag.ensures ∙ helpless) in
    let made : app_of c.disable_version_flag.result ≡ bare =
    ap app_of_fields (c.disable_version_flag.ensures ∙ flagless)
    ∙ ap without_flags c.new-2.ensures.app in
    let first : app_of c.in_ok-parser.parser ≡ with_places = c.in_ok-parser.ensures.shape (search rules)
    ∙ ap₂ with_rule made places_is in
    IfOk-weaker c.arg-2.result _ _
    (λ p h. rw has (h.shape (search rules) ∙ ap₂ with_rule first budget_is)) c.arg-2.ensures
