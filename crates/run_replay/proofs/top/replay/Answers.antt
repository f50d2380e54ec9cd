use Rattle.std.proofs.Common.{◌≡◌, List, Some, map, sym, ap, subst, ◌∙◌}
use Rattle.std.proofs.lemmas.Result.{IfOk-weaker}
use Rattle.ds_model.specs.declared.script.Tran.{Tran}
use Rattle.lock_sights.specs.Rosters.{number_named, trans_in}
use Rattle.run_replay.specs.Beginning.{AsksFor, Replays, Tells}
use Rattle.run_replay.proofs.top.replay.Goals as goal

pub returns-in-Some-2-clause-told : goal.returns-in-Some-2-clause-told
returns-in-Some-2-clause-told c =
    let script = c.args.script.now in
    let events = c.args.events.now in
    let quest = c.in-Some-2.quest in
    let all : map (λ t. t.now) c.deref.result.now ≡ trans_in c.args.script.now = ap (λ items. map (λ t. t.now) items) c.deref.ensures.value ∙ c.in_ok-roster.ensures in
    let again : map (λ t. t.now) c.deref-in-Some-2.result.now ≡ trans_in c.args.script.now = ap (λ items. map (λ t. t.now) items) c.deref-in-Some-2.ensures.value ∙ c.in_ok-roster.ensures in
    IfOk-weaker c.tell.result (Tells script events (map (λ t. t.now) c.deref-in-Some-2.result.now) quest) (Replays script events c.args.name.now)
    (λ out tells. record {
      number = c.in-Some.number;
      named = subst (λ (trans : List Tran). number_named trans c.args.name.now ≡ Some c.in-Some.number) all (sym c.number_named.ensures ∙ c.in-Some.is);
      quest = quest;
      asks = subst (AsksFor script events c.in-Some.number) c.in-Some-2.is c.in_ok-quest.ensures.ok;
      tells = subst (λ (trans : List Tran). Tells script events trans quest out) again tells;
    })
    c.tell.ensures.ok
