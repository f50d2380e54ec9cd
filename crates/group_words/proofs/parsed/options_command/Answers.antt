use Rattle.std.proofs.Common.{◌≡◌, ◌∙◌, true, false, ap, ap₂}
use Rattle.std.proofs.lemmas.Result.{IfOk-weaker}
use Rattle.clap.specs.Words.{AddsArg, App, Rule, app_of, rule_of, with_rule}
use Rattle.clap.specs.Simple.{app_of_fields, on_top}
use Rattle.clap.specs.declared.builder.arg.Arg.{Arg}
use Rattle.clap.specs.declared.builder.command.Command.{Command}
use Rattle.group_words.proofs.parsed.options_command.Goals as goal

-- a command with one more argument
more : (old new : Command) (a : Arg) (app : App) (rule : Rule) → app_of old ≡ app → AddsArg old a new → a.global ≡ false → rule_of a ≡ rule → app_of new ≡ with_rule app rule
more old new a app rule is added local by = added.shape local ∙ ap₂ with_rule is by

pub returns : goal.returns
returns c =
    let start : app_of c.disable_help_flag.result ≡ on_top (λ s. record s { no_binary_name = true; disable_help_flag = true }) (app_of c.new.result) =
    ap app_of_fields c.disable_help_flag.ensures ∙ ap (λ f. app_of_fields (record f { disable_help_flag = true })) c.no_binary_name.ensures in
    let first = start ∙ ap (on_top (λ s. record s { no_binary_name = true; disable_help_flag = true })) c.new.ensures.app in
    let members = more _ _ _ _ _ first c.in_ok-arg.ensures c.option_named.ensures.local c.option_named.ensures.rule in
    let agents = more _ _ _ _ _ members c.in_ok-arg-2.ensures c.option_named-2.ensures.local c.option_named-2.ensures.rule in
    let locks = more _ _ _ _ _ agents c.in_ok-arg-3.ensures c.option_named-3.ensures.local c.option_named-3.ensures.rule in
    let records = more _ _ _ _ _ locks c.in_ok-arg-4.ensures c.option_named-4.ensures.local c.option_named-4.ensures.rule in
    let cache = more _ _ _ _ _ records c.in_ok-arg-5.ensures c.option_named-5.ensures.local c.option_named-5.ensures.rule in
    let pool = more _ _ _ _ _ cache c.in_ok-arg-6.ensures c.option_named-6.ensures.local c.option_named-6.ensures.rule in
    let pages = more _ _ _ _ _ pool c.in_ok-arg-7.ensures c.option_named-7.ensures.local c.option_named-7.ensures.rule in
    let seed = more _ _ _ _ _ pages c.in_ok-arg-8.ensures c.option_named-8.ensures.local c.option_named-8.ensures.rule in
    IfOk-weaker c.arg-9.result _ _ (λ command added. more _ _ _ _ _ seed added c.flag_named.ensures.local c.flag_named.ensures.rule) c.arg-9.ensures
