-- The cuts and the redo of a group restart over a sound disk lead, call by call, to its undo.
use Rattle.std.proofs.Common.{◌≡◌, ℕ, ◌+◌, ◌<◌, ◌^◌, true, false, List, [], ◌∷◌, ◌++◌, length, drop, inl, inr, refl, sym, ap, subst, ◌∙◌}
use Rattle.std.specs.Prelude.{slice_get}
use Rattle.std.specs.List.{AllByRecursion}
use Rattle.std.proofs.lemmas.Bool.{both_ways, cases_Bool}
use Rattle.ds_disk.specs.Contents.{Contents}
use Rattle.ds_disk.specs.Pages.{page_at}
use Rattle.ds_model.specs.declared.log.LogRecord.{LogRecord}
use Rattle.log_record.specs.declared.log.Log.{Log}
use Rattle.log_trans.specs.Numbers.{greatest}
use Rattle.log_merge.specs.Merging.{all_records, in_order}
use Rattle.page_chain.specs.Chains.{images_of}
use Rattle.page_format.specs.Fields.{is_old}
use Rattle.page_redo.specs.Forward.{brought_forward}
use Rattle.restart_plan.specs.declared.greatest.Greatest.{Greatest}
use Rattle.restart_plan.specs.declared.opened.Closing.{Closing}
use Rattle.restart_plan.specs.declared.opened.Undo.{Undo}
use Rattle.restart_plan.specs.declared.plan.Plan.{Plan}
use Rattle.restart_plan.specs.declared.tails.Tail.{Tail}
use Rattle.restart_plan.specs.Renewal.{must_renew}
use Rattle.group_restart.specs.declared.stage.Stage.{Stage}
use Rattle.group_restart.specs.declared.stage.Stage.TheVariants as stage
use Rattle.group_restart.specs.Machine.{Restart}
use Rattle.group_restart.specs.Disk.{with_page as with_hand}
use Rattle.group_restart.specs.Course.{Next, next_redo, tail_or, next_tail, take_done}
use Rattle.sound_disk.specs.Laws.{with_tail}
use Rattle.sound_plans.specs.Ends.{ToEnd, EndAll}
use Rattle.sound_plans.specs.Queues.{has_log, ClosingsFit, QueueFits}
use Rattle.sound_restarts.specs.Cuts.{CutKeepsSound}
use Rattle.sound_restarts.specs.Redo.{IsSoundNow, with_page, IsBrought, PlanSuits, HasRestOf, RedoIn, RedoLeads, HasRedone, RedoBegins, RedoReads, RedoWrites}
use Rattle.sound_courses.specs.Standing.{NoneIsOld}
use Rattle.sound_courses.specs.Undoing.{BeginsUndo}
use Rattle.sound_courses.specs.Bringing.{PlanFits, Cuts, Cut, BringIn, BringLeads, CutsBegin, with_cut, CutGoes, RedoReadsOn, RedoWritesOn}
use Rattle.sound_courses.proofs.Appending.{all_have}
use Rattle.sound_courses.proofs.Cut_logs.{first_tail, none_left, AreAlike, cut_alike, closings_still, queue_still, takes_still}

-- what is proved of cuts and of redo
pub record BringLaws : Type 0 where
  pub cuts : CutKeepsSound
  pub begins : RedoBegins
  pub reads : RedoReads
  pub writes : RedoWrites

-- ---- redo

-- where no log asks for pages of version 1 to be looked for, there are none
none_old : (h : Restart) (c : Contents) (logs : List Log) → IsSoundNow c logs → h.renews ≡ must_renew logs → h.renews ≡ false → NoneIsOld c
none_old h c logs now asks none id = elim (cases_Bool (is_old (page_at c.pages id))) as (λ _. is_old (page_at c.pages id) ≡ false) [
  | inl old ↦ absurd (both_ways h.renews none (asks ∙ (now.sound.versions id).renewing old))
  | inr new ↦ new
]

begins_undo : (ts : ToEnd) (n : Next) (p : Plan) (c : Contents) (logs : List Log) (r : HasRedone n p c logs) → Cut ts p logs → p.greatest.lrsn ≡ greatest (all_records logs) → BeginsUndo ts r.behind c logs
begins_undo ts n p c logs r cut number =
    let rest = r.brought.rest in
    record {
      rests = record {
        stands = record {
          sound = record { now = r.brought.now; tails = cut.tails };
          ends = rest.ends ∙ cut.fits.ends;
          endings = subst (AllByRecursion (λ (m : ℕ). has_log logs m ≡ true)) (sym rest.endings) cut.fits.endings;
          renews = none_old r.behind c logs r.brought.now r.brought.asks;
        };
        last = λ id. r.brought.last id refl;
      };
      closings = subst (ClosingsFit logs) (sym rest.closings) cut.fits.closings;
      queue = subst (QueueFits logs) (sym rest.undo) cut.fits.queue;
      number = ap (λ (g : Greatest). g.lrsn) rest.greatest ∙ number;
      numbers = subst (λ (us : List Undo). greatest (all_records logs) + length us < 2 ^ 80) (sym rest.undo) cut.fits.numbers;
      ends = subst (λ (us : List Undo). EndAll ts r.behind.plan.closings us logs) (sym rest.undo) (subst (λ (cs : List Closing). EndAll ts cs p.undo logs) (sym rest.closings) cut.fits.takes);
    }

stage_in : (ts : ToEnd) (st : Stage) (p : Plan) (h : Restart) (c : Contents) (logs : List Log) → RedoIn st p h c logs → Cut ts p logs → BringIn ts st p h c logs
stage_in ts stage.ReadLog p h c logs i cut = absurd i
stage_in ts (stage.CutTail tail) p h c logs i cut = absurd i
stage_in ts (stage.RedoRead page) p h c logs i cut = (i, cut)
stage_in ts (stage.RedoWrite page) p h c logs i cut = (i, cut)
stage_in ts (stage.CloseAppend member) p h c logs i cut = absurd i
stage_in ts (stage.UndoRead page) p h c logs i cut = absurd i
stage_in ts (stage.UndoAppend member page) p h c logs i cut = absurd i
stage_in ts (stage.UndoWrite page) p h c logs i cut = absurd i
stage_in ts (stage.RenewRead page) p h c logs i cut = absurd i
stage_in ts (stage.RenewWrite page) p h c logs i cut = absurd i
stage_in ts (stage.EndAppend member) p h c logs i cut = absurd i
stage_in ts stage.End p h c logs i cut = absurd i

redo_leads : (ts : ToEnd) (n : Next) (p : Plan) (c : Contents) (logs : List Log) → RedoLeads n p c logs → Cut ts p logs → p.greatest.lrsn ≡ greatest (all_records logs) → BringLeads ts n p c logs
redo_leads ts n p c logs (inl goes) cut number = inl (goes.0, stage_in ts n.0.stage p n.0 c logs goes.1 cut)
redo_leads ts n p c logs (inr r) cut number = inr (record { behind = r.behind; goes = r.goes; begins = begins_undo ts n p c logs r cut number })

pub redo_reads : BringLaws → RedoReadsOn
redo_reads l ts p h page c logs d = redo_leads ts (take_done (with_hand h (page_at c.pages page)) (stage.RedoRead page)) p c logs (l.reads p h page c logs d.0) d.1 d.0.number

pub redo_writes : BringLaws → RedoWritesOn
redo_writes l ts p h page c logs d =
    let w = l.writes p h page c logs d.0 in
    (w.0, redo_leads ts (take_done h (stage.RedoWrite page)) p (with_page c page h.page) logs w.1 d.1 d.0.0.number)

-- ---- tails

abbrev with_tails : Restart → List Tail → Restart
with_tails h tails = record h { plan = record h.plan { tails = tails } }

-- the first of these tails is cut next, and the others are behind it
abbrev next_of : List Tail → Restart → Next
next_of tails h = tail_or (with_tails h (drop 1 tails)) (slice_get tails 0)

next_is : (h : Restart) (tails : List Tail) → h.plan.tails ≡ tails → next_tail h ≡ next_of tails h
unfolding next_tail
next_is h tails e = ap (λ (ts : List Tail). next_of ts h) e

rest_of : (p q : Plan) (tails : List Tail) → HasRestOf p q → HasRestOf p (record q { tails = tails })
rest_of p q tails h = record { ends = h.ends; closings = h.closings; undo = h.undo; endings = h.endings; renews = h.renews; greatest = h.greatest }

leads_of : BringLaws → (ts : ToEnd) (tails : List Tail) (p : Plan) (h : Restart) (c : Contents) (logs : List Log) → Cuts ts tails p h c logs → BringLeads ts (next_of tails h) p c logs
leads_of l ts [] p h c logs d =
    redo_leads ts (next_redo (with_tails h [])) p c logs
    (l.begins p (with_tails h []) c logs (record { now = d.now; suits = d.suits; rest = rest_of p h.plan [] d.rest; merged_is = d.merged_is; pages_are = d.pages_are; asks = d.asks }))
    (record { tails = none_left logs (sym d.tails_are); fits = d.fits }) d.suits.number
leads_of l ts (t ∷ more) p h c logs d = inl (
  refl,
  record {
    now = d.now;
    tails_are = d.tails_are;
    suits = d.suits;
    fits = d.fits;
    rest = rest_of p h.plan more d.rest;
    merged_is = d.merged_is;
    pages_are = d.pages_are;
    asks = d.asks;
  },
)

leads : BringLaws → (ts : ToEnd) (tails : List Tail) (p : Plan) (h : Restart) (c : Contents) (logs : List Log) → h.plan.tails ≡ tails → Cuts ts tails p h c logs → BringLeads ts (next_tail h) p c logs
leads l ts tails p h c logs e d = subst (λ (n : Next). BringLeads ts n p c logs) (sym (next_is h tails e)) (leads_of l ts tails p h c logs d)

pub cuts_begin : BringLaws → CutsBegin
cuts_begin l ts p h c logs d = leads l ts h.plan.tails p h c logs refl d

suits_still : (p : Plan) (c : Contents) (tail : Tail) (logs others : List Log) → AreAlike logs others → PlanSuits p c logs → PlanSuits p (with_cut tail c) others
suits_still p c tail logs others a s = record {
  pages_are = s.pages_are;
  brings = λ id. subst (λ (rs : List LogRecord). IsBrought (page_at c.pages id) (images_of rs id) (brought_forward id (page_at c.pages id) p.merged)) (ap in_order a.records) (s.brings id);
  number = s.number ∙ ap greatest a.records;
}

fits_still : (ts : ToEnd) (p : Plan) (logs others : List Log) → AreAlike logs others → PlanFits ts p logs → PlanFits ts p others
fits_still ts p logs others a f = record {
  closings = closings_still logs others p.closings a f.closings;
  queue = queue_still logs others p.undo a f.queue;
  numbers = subst (λ (rs : List LogRecord). greatest rs + length p.undo < 2 ^ 80) a.records f.numbers;
  ends = f.ends ∙ a.ends;
  endings = all_have logs others p.endings (λ m. sym (a.has m)) f.endings;
  takes = takes_still ts logs others p.closings p.undo a f.takes;
}

pub cut_goes : BringLaws → CutGoes
cut_goes l ts p h tail c logs d =
    let f = first_tail tail h.plan.tails logs d.tails_are in
    let others = f.front ++ with_tail f.log 0 ∷ f.back in
    let a : AreAlike logs others = subst (λ (ls : List Log). AreAlike ls others) (sym f.logs_are) (cut_alike f.front f.log f.back) in
    let now : IsSoundNow (with_cut tail c) others = subst (λ (t : Tail). IsSoundNow (with_cut t c) others) (sym f.tail_is) (l.cuts c f.front f.log f.back (subst (IsSoundNow c) f.logs_are d.now)) in (
      record { logs = others; now = now },
      (
        others,
        cuts_begin l ts p h (with_cut tail c) others (record {
          now = now;
          tails_are = f.rest_is;
          suits = suits_still p c tail logs others a d.suits;
          fits = fits_still ts p logs others a d.fits;
          rest = d.rest;
          merged_is = d.merged_is;
          pages_are = d.pages_are;
          asks = d.asks ∙ a.renewal;
        }),
      ),
    )
