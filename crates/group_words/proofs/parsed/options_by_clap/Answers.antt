use Rattle.std.proofs.Common.{◌≡◌, ◌∙◌, sym, subst, true, [], Result, Ok, Err, IfErr, IsErrAnd}
use Rattle.std.proofs.lemmas.Result.{IfErr-weaker, IfOk-weaker}
use Rattle.clap.specs.Words.{App, HasMatchesOf, app_of, kind_of}
use Rattle.clap.specs.Kinds.{HasKind}
use Rattle.clap.specs.Faults.{fault_of, is_simple_and_free}
use Rattle.group_words.specs.Orders.{texts}
use Rattle.group_words.specs.Faults.{fault_by}
use Rattle.group_words.specs.Parsed.{options_command}
use Rattle.group_words.specs.declared.order.WordsFault.{WordsFault}
use Rattle.group_words.specs.declared.order.WordsFault.TheVariants.{Refused}
use Rattle.group_words.proofs.Law.{is_free_command, refuses, takes}
use Rattle.group_words.proofs.parsed.options_by_clap.Goals as goal

fails_as : {T : Type 0} {X : Type 0} (r : Result T WordsFault) (by : WordsFault) → IsErrAnd r (λ fault. fault ≡ by) → (by ≡ Refused → X) → IfErr r (λ fault. fault ≡ Refused → X)
fails_as (Ok value) by is gives = tt
fails_as (Err fault) by is gives = λ refused. gives (sym is ∙ refused)

pub returns : goal.returns
returns c =
    let words = texts c.args.words.now in
    let m = c.in_ok-matches.matches in
    let app : app_of c.in_ok-command.command ≡ options_command = c.in_ok-command.ensures in
    let none : fault_of options_command words ≡ [] = subst (λ (a : App). is_simple_and_free a ≡ true → fault_of a words ≡ []) app c.in_ok-matches.ensures.kinds is_free_command in
    let has : HasMatchesOf options_command words m = subst (λ (a : App). HasMatchesOf a words m) app c.in_ok-matches.ensures.matches in
    let same = takes m words c.requires none has in
    record {
      given = IfOk-weaker c.options_in.result _ _ (λ given is. sym same ∙ is) c.options_in.ensures.given;
      refused = IfErr-weaker c.options_in.result _ _ (λ fault is refused. sym same ∙ is refused) c.options_in.ensures.refused;
    }

pub returns-in_err-matches-clause-refused : goal.returns-in_err-matches-clause-refused
returns-in_err-matches-clause-refused c =
    let words = texts c.args.words.now in
    let app : app_of c.in_ok-command.command ≡ options_command = c.in_ok-command.ensures in
    let kinds : HasKind (fault_of options_command words) c.in_err-matches.field-0.0 = subst (λ (a : App). is_simple_and_free a ≡ true → HasKind (fault_of a words) c.in_err-matches.field-0.0) app c.in_err-matches.ensures.kinds is_free_command in
    fails_as c.from_residual-in_err-matches.result (fault_by (kind_of c.in_err-matches.field-0.0)) c.from_residual-in_err-matches.ensures.1 (refuses (kind_of c.in_err-matches.field-0.0) words c.requires kinds)
