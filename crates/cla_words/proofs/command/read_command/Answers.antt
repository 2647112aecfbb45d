use Rattle.std.proofs.Common.{◌≡◌, ◌∙◌, None, Some, ap, sym, subst, map, string_bytes, take, drop, length}
use Rattle.std.proofs.Common.{◌-◌, false}
use Rattle.std.specs.Prelude.{option_map}
use Rattle.cla_words.specs.Parsed.{Finds, line_in}
use Rattle.cla_words.specs.Words.{accepted_command, command_of, line_of, takes_budget}
use Rattle.cla_words.proofs.Chosen.{chosen_line, no_line, words_are}
use Rattle.cla_words.proofs.command.read_command.Goals as goal

pub returns-in-Some : goal.returns-in-Some
returns-in-Some c =
    let name = string_bytes c.name-item.result in
    let rest = map string_bytes (take (length c.args.words.now - 1) (drop 1 c.args.words.now)) in
    let has : c.takes_budget.result ≡ takes_budget name = c.takes_budget.ensures
    ∙ ap takes_budget c.as_str.ensures.value in
    let finds : Finds (takes_budget name) (line_of (takes_budget name) false rest) (Some (line_in c.in-Some.line)) =
    subst (λ b. Finds b (line_of b false rest) (Some (line_in c.in-Some.line))) has
    (subst (λ o. Finds c.takes_budget.result (line_of c.takes_budget.result false rest)
    (option_map line_in o)) c.in-Some.is c.in_ok-line.ensures) in
    c.chosen.ensures ∙ ap
    (λ n. command_of n (line_in c.in-Some.line).places
    (line_in c.in-Some.line).budget) c.as_str-in-Some.ensures.value
    ∙ chosen_line name (line_of (takes_budget name) false rest) (line_in c.in-Some.line) finds
    ∙ ap accepted_command (sym (words_are c.args.words.now c.name-item.result c.in-len1-up.len_at_least c.name-item.is))

pub returns-in-None : goal.returns-in-None
returns-in-None c =
    let name = string_bytes c.name-item.result in
    let rest = map string_bytes (take (length c.args.words.now - 1) (drop 1 c.args.words.now)) in
    let has : c.takes_budget.result ≡ takes_budget name = c.takes_budget.ensures
    ∙ ap takes_budget c.as_str.ensures.value in
    let finds : Finds (takes_budget name) (line_of (takes_budget name) false rest) None =
    subst (λ b. Finds b (line_of b false rest) None) has
    (subst (λ o. Finds c.takes_budget.result (line_of c.takes_budget.result false rest)
    (option_map line_in o)) c.in-None.is c.in_ok-line.ensures) in
    no_line name (line_of (takes_budget name) false rest) finds
    ∙ ap accepted_command (sym (words_are c.args.words.now c.name-item.result c.in-len1-up.len_at_least c.name-item.is))
