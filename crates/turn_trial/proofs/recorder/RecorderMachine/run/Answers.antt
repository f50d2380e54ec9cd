use Rattle.std.proofs.Common.{◌≡◌, ◌+◌, ◌%◌, ◌^◌, [], ◌∷◌, ◌++◌, length, length-append, option_to_list, refl, sym, ap, ◌∙◌}
use Rattle.std.proofs.Math.Nat.{mod-add-mod}
use Rattle.std.proofs.lemmas.Result.{IfOk-weaker}
use Rattle.turn_gate.specs.Lists.{events_by}
use Rattle.turn_gate.proofs.Sums.{events_by_one, append_nil}
use Rattle.turn_trial.specs.Recorded.{caller_of}
use Rattle.turn_trial.proofs.recorder.RecorderMachine.run.Goals as goal

pub returns-clause-ok : goal.returns-clause-ok
returns-clause-ok c =
    let e = c.args.event in
    let items = c.args.self.now.events.items in
    let log = items ++ option_to_list c.args.self.now.lost in
    let sound = c.requires.0 in
    let mine = events_by caller_of (caller_of e) log in
    let was : log ≡ items = ap (λ o. items ++ option_to_list o) sound ∙ append_nil items in
    IfOk-weaker c.add.result _ _ (λ _ h.
    let now : c.add.new.self.events.items ++ option_to_list c.add.new.self.lost ≡ log ++ e ∷ [] = (λ i. h.0 i ++ option_to_list ((h.1 ∙ sound) i)) ∙ (append_nil (items ++ e ∷ []) ∙ ap (λ l. l ++ e ∷ []) (sym was)) in (
      h.1 ∙ sound,
      ap (λ x. (x + 1) % 2 ^ 64) c.requires.1
          ∙ (mod-add-mod (length mine) (2 ^ 64) 1 ∙ ap (λ k. k % 2 ^ 64) (sym (ap (λ l. length (events_by caller_of (caller_of e) l)) now ∙ (ap length (events_by_one caller_of (caller_of e) e log refl) ∙ length-append mine (e ∷ []))))),
    )) c.add.ensures.ok
