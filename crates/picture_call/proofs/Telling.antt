-- What each way to tell comes to, by whether memory was wanting.
use Rattle.std.proofs.Common.{◌≡◌, ℕ, ◌<◌, true, false, List, length, Result, Ok, Err, IfOk, sym, subst, arith}
use Rattle.ds_base.specs.declared.fault.NoMemory.{NoMemory}
use Rattle.ds_base.specs.declared.names.Sizes.{Sizes}
use Rattle.ds_model.specs.declared.report.Report.{Report}
use Rattle.ds_model.specs.declared.script.Script.{Script}
use Rattle.ds_model.specs.declared.script.ScriptFault.{ScriptFault}
use Rattle.report_text.specs.Steps.{report_of}
use Rattle.run_picture.specs.declared.cut.Cut.{Cut}
use Rattle.run_story.specs.Names.{has_name}
use Rattle.script_text.specs.Reading.{script_of}
use Rattle.picture_call.specs.Calls.{AnsweredBy, IsDrawn, ToldBy, ToldOf}
use Rattle.picture_call.specs.declared.answer.Telling.{Telling}
use Rattle.picture_call.specs.declared.order.Order.{Order}
use Rattle.picture_call.specs.declared.order.Order.TheVariants as orders
use Rattle.picture_call.specs.declared.status.Status.TheVariants as status

pub beside : (members : ℕ) (script : List ℕ) (report : Report) (name : List ℕ) (r : Result Telling NoMemory) → 0 < length script
    → ((f : ScriptFault) → script_of members script ≡ Err f → IfOk r (λ t. t.status ≡ status.ScriptRefused f.line))
    → ((s : Script) → script_of members script ≡ Ok s → IfOk r (λ t. ToldOf s report name t.status t.text))
    → IfOk r (λ t. ToldBy members script report name t.status t.text)
beside members script report name (Ok t) some refused read = record {
  alone = λ none. absurd (omega arith);
  refused = λ f lt is. refused f is;
  read = λ s lt is. read s is;
}
beside members script report name (Err e) some refused read = tt

pub answered : (order : Order) (name script bytes : List ℕ) (r : Report) (result : Result Telling NoMemory) → report_of bytes ≡ Ok r
    → (length r.trace.events ≡ 0 → IfOk result (λ t. t.status ≡ status.NoTrace))
    → ((s : Sizes) → order ≡ orders.Why s → 0 < length r.trace.events → has_name name r.entries ≡ false → IfOk result (λ t. t.status ≡ status.NoTransaction))
    → ((s : Sizes) → order ≡ orders.Why s → 0 < length r.trace.events → has_name name r.entries ≡ true → IfOk result (λ t. ToldBy s.members script r name t.status t.text))
    → ((cut : Cut) → order ≡ orders.Draw cut → 0 < length r.trace.events → IfOk result (λ t. (t.status ≡ status.Done) × IsDrawn cut r t.text))
    → IfOk result (λ t. AnsweredBy order name script bytes t.status t.text)
answered order name script bytes r (Ok t) is untraced unknown told drawn = record {
  refused = λ at no. absurd cc;
  untraced = λ s so none. let same : r ≡ s = cc in untraced (subst (λ (z : Report). length z.trace.events ≡ 0) (sym same) none);
  unknown = λ s sizes so why some no. let same : r ≡ s = cc in unknown sizes why (subst (λ (z : Report). 0 < length z.trace.events) (sym same) some) (subst (λ (z : Report). has_name name z.entries ≡ false) (sym same) no);
  told = λ s sizes so why some has. let same : r ≡ s = cc in
      subst (λ (z : Report). ToldBy sizes.members script z name t.status t.text) same (told sizes why (subst (λ (z : Report). 0 < length z.trace.events) (sym same) some) (subst (λ (z : Report). has_name name z.entries ≡ true) (sym same) has));
  drawn = λ s cut so draws some. let same : r ≡ s = cc in
      subst (λ (z : Report). (t.status ≡ status.Done) × IsDrawn cut z t.text) same (drawn cut draws (subst (λ (z : Report). 0 < length z.trace.events) (sym same) some));
}
answered order name script bytes r (Err e) is untraced unknown told drawn = tt
