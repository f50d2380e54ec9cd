-- What is left of the facility's conditions for the commands of a rebuild: the bells.
use Rattle.std.proofs.Common.{◌≡◌, ℕ, subst, Bool, true, false, Option, Some, None, Ok, Err}
use Rattle.std.specs.Prelude.{◌==◌, is_none, is_some, length, slice_get}
use Rattle.ds_base.specs.declared.names.PageId.{PageId}
use Rattle.list_structure.specs.Bells.{CanRing}
use Rattle.facility.specs.declared.command.Command.{Command}
use Rattle.facility.specs.Commands.{CanExecute}
use Rattle.facility.specs.States.{Held as Facility}
use Rattle.log_reader.specs.declared.calls.LogCall.{LogCall}
use Rattle.log_reader.specs.declared.calls.LogCall.TheVariants as call
use Rattle.checkpoint_reader.specs.Readers.{next_call}
use Rattle.page_records.specs.declared.places.PageRecords.{PageRecords}
use Rattle.rebuild_resources.specs.declared.intent.RebuildIntent.{RebuildIntent}
use Rattle.rebuild_resources.specs.declared.intent.RebuildIntent.TheVariants as intent
use Rattle.rebuild_resources.specs.declared.intent.RebuildSent.{RebuildSent}
use Rattle.rebuild_resources.specs.declared.intent.RebuildSent.TheVariants as sent
use Rattle.rebuild_resources.specs.declared.intent.RebuildTest.{RebuildTest}
use Rattle.rebuild_resources.specs.Needs.{Need, call_sent, first_sent, hand_sent, need_of, when}
use Rattle.rebuild_resources.specs.State.{RebuildState}

module _ (w : Facility) (m : ℕ) where
  abbrev FitsSent : RebuildSent → Type 0
  FitsSent sent.None = Unit {0}
  FitsSent (sent.Command c) = CanRing w.lists.bells → CanExecute w m c
  FitsSent (sent.LogLength member) = Unit {0}
  FitsSent (sent.ReadLog member at count) = Unit {0}
  FitsSent (sent.ReadPage page) = Unit {0}
  FitsSent (sent.WritePage page) = Unit {0}

  abbrev FitsNeed : Need → Type 0
  FitsNeed (Ok s) = FitsSent s
  FitsNeed (Err test) = Unit {0}

  behind : (b : Bool) (test : RebuildTest) (rest : Need) → FitsNeed rest → FitsNeed (when b test rest)
  behind true test rest h = h
  behind false test rest h = tt

  called : (member : ℕ) (c : LogCall) → FitsSent (call_sent member c)
  called member call.Length = tt
  called member (call.Read at count) = tt

  first : (o : Option PageRecords) → FitsNeed (first_sent o)
  first None = tt
  first (Some p) = tt

  in_hand : (o : Option PageId) → FitsNeed (hand_sent o)
  in_hand None = tt
  in_hand (Some page) = tt

  fits : (h : RebuildState) (i : RebuildIntent) → FitsNeed (need_of h i)
  fits h intent.Step = tt
  fits h intent.Claim = λ ring. tt
  fits h intent.ReadLog = behind h.claimed _ _ (behind (is_none h.merged) _ _ (called h.reader.member (next_call h.reader)))
  fits h intent.ReadPage = behind h.claimed _ _ (behind (is_some h.merged) _ _ (behind (is_none h.hand) _ _ (first (slice_get h.pages 0))))
  fits h intent.WritePage = behind h.claimed _ _ (in_hand h.hand)
  fits h intent.Rebuilt = behind h.claimed _ _ (behind (is_some h.merged) _ _ (behind (length h.pages == 0) _ _ (behind (is_none h.hand) _ _ (λ ring. ring))))
  fits h intent.Unclaim = λ ring. ring

pub rebuilds_execute : (w : Facility) (m : ℕ) (h : RebuildState) (i : RebuildIntent) (c : Command) → need_of h i ≡ Ok (sent.Command c) → CanRing w.lists.bells → CanExecute w m c
rebuilds_execute w m h i c e ring = subst (λ z. FitsNeed w m z) e (fits w m h i) ring
