-- An event of the restart in hand that changes locks.
use Rattle.std.proofs.Common.{◌≡◌, ℕ, refl, sym, ◌∙◌, ap, subst, Bool, true, false, inl, inr, Option, Some, None}
use Rattle.std.specs.Prelude.{◌≢◌, ◌==◌, ◌&&◌, if◌then◌else◌}
use Rattle.std.proofs.lemmas.Bool.{cases_Bool, eqb-true, eq-eqb}
use Rattle.ds_base.specs.declared.names.PageId.{PageId}
use Rattle.ds_model.specs.declared.lock.Name.{Name}
use Rattle.ds_model.specs.declared.lock.Name.TheVariants as name
use Rattle.lock_names.specs.declared.mode.Mode.{Mode}
use Rattle.lock_names.specs.declared.mode.Mode.TheVariants.{X}
use Rattle.list_structure.specs.declared.standing.MemberStatus.TheVariants.{Up}
use Rattle.facility.specs.declared.command.Command.TheVariants as command
use Rattle.facility.specs.declared.command.Reply.{Reply}
use Rattle.member_intents.specs.declared.outcome.Answered.{Answered}
use Rattle.restart_records.specs.declared.queue.TurnKey.{TurnKey}
use Rattle.restart_marks.specs.declared.intent.RestartIntent.{RestartIntent}
use Rattle.restart_marks.specs.declared.intent.RestartIntent.TheVariants as intent
use Rattle.restart_marks.specs.declared.intent.RestartSent.{RestartSent}
use Rattle.restart_marks.specs.declared.told.RestartTold.{RestartTold}
use Rattle.restart_marks.specs.Listing.{name_purged_after, page_freed, page_purged_after}
use Rattle.restart_marks.specs.Locks.{claim_after, released_after, up_after}
use Rattle.restart_marks.specs.Moves.{is_claimed_as, is_same}
use Rattle.restart_marks.specs.State.{RestartState}
use Rattle.restart_resources.specs.Events as event
use Rattle.restart_resources.specs.Events.{Ends, Runs}
use Rattle.restart_resources.specs.Held.{Held}
use Rattle.restart_resources.specs.Lending.{is_hand, lent_bytes}
use Rattle.lock_protocol.specs.Machine.{World, no_interest}
use Rattle.lock_world.specs.Numbers.{AreNumbered, name_at, number}
use Rattle.lock_world.specs.Tied.{Claims, Tied, is_own}
use Rattle.lock_restarts.specs.Changes.{AllowsSent, ChangesGo, gone_by}
use Rattle.lock_restarts.specs.Intents.{AskGoes, GrantGoes, ObtainGoes, PurgeGoes, ReleaseGoes, UpGoes}
use Rattle.lock_restarts.specs.Sent.{IsStill, Sends, SendsLawfully}
use Rattle.lock_restarts.specs.Stands.{Goes, IsRestarting, Knows, Leads, LocalsStay, OwnClaims, known_with, none_gone, or_else, page_claim}
use Rattle.lock_restarts.proofs.Spares.{gone_more}
use Rattle.lock_restarts.proofs.Stands.{same_marks}

pub record Facts : Type 0 where
  pub numbers : AreNumbered
  pub lawful : SendsLawfully
  pub local : LocalsStay
  pub obtain : ObtainGoes
  pub grant : GrantGoes
  pub ask : AskGoes
  pub release : ReleaseGoes
  pub purge : PurgeGoes
  pub up : UpGoes

leads_before : LocalsStay → (held left : Claims) (own : OwnClaims) (s t u : RestartState) (m k : Held) → m.marks ≡ t → k.marks ≡ u → Ends m k → Leads held left own s u → Leads held left own s t
leads_before law held left own s t u m k is now ends leads =
    let same = law m.marks k.marks ends.0 in
    let claim : u.claim ≡ t.claim = ap (λ (z : RestartState). z.claim) (sym now) ∙ same.claim ∙ ap (λ (z : RestartState). z.claim) is in
    record { others = leads.others; knows = λ o c. leads.knows o c ∙ ap (λ (z : Option PageId). known_with own z o c) claim }

freed : (s : RestartState) (o : Option TurnKey) → (page_freed s o).claim ≡ s.claim
freed s None = refl
freed s (Some key) = refl

-- ---- names that are no claimed page's
not_claimed : AreNumbered → (claim : Option PageId) (n : Name) → ((q : PageId) → claim ≡ Some q → n ≢ name.Page q) → page_claim claim (number n) ≡ None
not_claimed law None n other = refl
not_claimed law (Some q) n other = elim (cases_Bool (number n == number (name.Page q))) [
  | inl t ↦ absurd (other q refl (sym (law.named n) ∙ ap (λ z. name_at z) (eqb-true (number n) (number (name.Page q)) t) ∙ law.named (name.Page q)))
  | inr f ↦ ap (λ (z : Bool). if z then Some X else None) f
]

neither : (b : Bool) (x : Option Mode) → x ≡ None → (if b then x else None) ≡ None
neither true x e = e
neither false x e = refl

unclaimed : AreNumbered → (held : Claims) (own : OwnClaims) (s : RestartState) (n : Name) → Knows held own s → ((o : ℕ) → own o (number n) ≡ None) → ((q : PageId) → s.claim ≡ Some q → n ≢ name.Page q) → (o : ℕ) → held s.member o (number n) ≡ None
unclaimed law held own s n knows none other o =
    knows o (number n) ∙ ap (λ (z : Option Mode). or_else z (if o == 0 then page_claim s.claim (number n) else None)) (none o) ∙ neither (o == 0) (page_claim s.claim (number n)) (not_claimed law s.claim n other)

no_page : (n : Name) (q : PageId) → is_own n ≡ false → n ≢ name.Page q
no_page n q other e = let never : true ≡ false = sym (ap (λ (z : Name). is_own z) e) ∙ other in cc

is_itself : (p : PageId) → is_same p p ≡ true
is_itself p = ap (λ z. z && (p.number == p.number)) (eq-eqb p.set p.set refl) ∙ eq-eqb p.number p.number refl

page_in : (p q : PageId) → name.Page p ≡ name.Page q → p ≡ q
page_in p q e = cc

not_its : (claim : Option PageId) (p q : PageId) → is_claimed_as claim p ≡ false → claim ≡ Some q → name.Page p ≢ name.Page q
not_its claim p q other e same =
    let is : p ≡ q = page_in p q same in
    let there : is_claimed_as claim p ≡ true = ap (λ (z : Option PageId). is_claimed_as z p) e ∙ subst (λ (z : PageId). is_same z p ≡ true) is (is_itself p) in
    let never : true ≡ false = sym there ∙ other in cc

-- claims on no name go
more : (w : World) (u v : event.World) (left : Claims) (h : Held) (x : RestartSent) → Goes w u.facility v.facility left h.marks.member none_gone → Goes w u.facility v.facility left h.marks.member (gone_by x)
more w u v left h x goes = record { moves = goes.moves; own = goes.own; moved = goes.moved; spares = gone_more w goes.moved.world h.marks.member (gone_by x) goes.spares }

-- ---- whose intent it is
module _ (facts : Facts) (w : World) (u v : event.World) (held left : Claims) (own : OwnClaims) (h m k : Held) (a : Answered) (said : RestartTold) where
  obtained : (id : ℕ) (x : RestartSent) → Tied w u.facility.locks u.facility.lists held → IsRestarting u.facility own h.marks → Knows held own h.marks → Sends h.marks (intent.Obtain id) x → Runs u h (intent.Obtain id) x a said v m → Ends m k → Leads held left own h.marks k.marks → Goes w u.facility v.facility left h.marks.member (gone_by x)
  obtained id x tied r knows sends runs ends leads =
      let page = sends.0 in
      let run = subst (λ (z : RestartSent). Runs u h (intent.Obtain id) z a said v m) sends.1 runs in
      let marks = same_marks h run.0.after (is_hand h (command.Obtain (name.Page page) X)) (lent_bytes run.0.after (is_hand h (command.Obtain (name.Page page) X))) run.0.gives.executed.back in
      let is : m.marks ≡ claim_after h.marks id run.0.answer = ap (λ (z : Held). z.marks) run.0.settles ∙ ap (λ z. claim_after z id run.0.answer) marks in
      more w u v left h x (facts.obtain w u.facility v.facility held left own h.marks m.marks id page run.0.answer tied r knows sends.2 sends.3 run.0.gives.executed.executes.0 is (leads_before facts.local held left own h.marks m.marks k.marks m k refl refl ends leads))

  granted : (id : ℕ) (x : RestartSent) → Tied w u.facility.locks u.facility.lists held → IsRestarting u.facility own h.marks → Knows held own h.marks → Sends h.marks (intent.Grant id) x → Runs u h (intent.Grant id) x a said v m → Ends m k → Leads held left own h.marks k.marks → Goes w u.facility v.facility left h.marks.member (gone_by x)
  granted id x tied r knows sends runs ends leads =
      let page = sends.0 in
      let run = subst (λ (z : RestartSent). Runs u h (intent.Grant id) z a said v m) sends.1 runs in
      let marks = same_marks h run.0.after (is_hand h (command.Grant 0 (name.Page page) X)) (lent_bytes run.0.after (is_hand h (command.Grant 0 (name.Page page) X))) run.0.gives.executed.back in
      let is : m.marks ≡ claim_after h.marks id run.0.answer = ap (λ (z : Held). z.marks) run.0.settles ∙ ap (λ z. claim_after z id run.0.answer) marks in
      more w u v left h x (facts.grant w u.facility v.facility held left own h.marks m.marks id page run.0.answer tied r knows sends.2 sends.3 run.0.gives.executed.executes.0 is (leads_before facts.local held left own h.marks m.marks k.marks m k refl refl ends leads))

  asked : (id to : ℕ) (x : RestartSent) → Tied w u.facility.locks u.facility.lists held → IsRestarting u.facility own h.marks → Knows held own h.marks → AllowsSent own x → Sends h.marks (intent.Ask id to) x → Runs u h (intent.Ask id to) x a said v m → Ends m k → Leads held left own h.marks k.marks → Goes w u.facility v.facility left h.marks.member (gone_by x)
  asked id to x tied r knows allows sends runs ends leads =
      let page = sends.0 in
      let member = subst (λ (z : RestartSent). AllowsSent own z) sends.1 allows in
      let run = subst (λ (z : RestartSent). Runs u h (intent.Ask id to) z a said v m) sends.1 runs in
      let marks = same_marks h run.0.after (is_hand h (command.Ask 0 to (name.Page page) X)) (lent_bytes run.0.after (is_hand h (command.Ask 0 to (name.Page page) X))) run.0.gives.executed.back in
      let is : m.marks.claim ≡ h.marks.claim = ap (λ (z : Held). z.marks.claim) run.0.settles ∙ ap (λ (z : RestartState). z.claim) marks in
      more w u v left h x (facts.ask w u.facility v.facility held left own h.marks m.marks to page run.0.answer tied r knows member run.0.gives.executed.executes.0 is (leads_before facts.local held left own h.marks m.marks k.marks m k refl refl ends leads))

  released : (x : RestartSent) → Tied w u.facility.locks u.facility.lists held → IsRestarting u.facility own h.marks → Knows held own h.marks → Sends h.marks intent.ReleasePage x → Runs u h intent.ReleasePage x a said v m → Ends m k → Leads held left own h.marks k.marks → Goes w u.facility v.facility left h.marks.member (gone_by x)
  released x tied r knows sends runs ends leads =
      let page = sends.0 in
      let run = subst (λ (z : RestartSent). Runs u h intent.ReleasePage z a said v m) sends.1 runs in
      let marks = same_marks h run.0.after (is_hand h (command.Release (name.Page page) no_interest)) (lent_bytes run.0.after (is_hand h (command.Release (name.Page page) no_interest))) run.0.gives.executed.back in
      let is : m.marks ≡ released_after h.marks run.0.answer = ap (λ (z : Held). z.marks) run.0.settles ∙ ap (λ z. released_after z run.0.answer) marks in
      more w u v left h x (facts.release w u.facility v.facility held left own h.marks m.marks page run.0.answer tied r knows sends.2 run.0.gives.executed.executes.0 is (leads_before facts.local held left own h.marks m.marks k.marks m k refl refl ends leads))

  purged_page : (x : RestartSent) → Tied w u.facility.locks u.facility.lists held → IsRestarting u.facility own h.marks → Knows held own h.marks → AllowsSent own x → Sends h.marks intent.PurgePage x → Runs u h intent.PurgePage x a said v m → Ends m k → Leads held left own h.marks k.marks → Goes w u.facility v.facility left h.marks.member (gone_by x)
  purged_page x tied r knows allows sends runs ends leads =
      let page = sends.0 in
      let none = subst (λ (z : RestartSent). AllowsSent own z) sends.1 allows in
      let run = subst (λ (z : RestartSent). Runs u h intent.PurgePage z a said v m) sends.1 runs in
      let marks = same_marks h run.0.after (is_hand h (command.Purge (name.Page page))) (lent_bytes run.0.after (is_hand h (command.Purge (name.Page page)))) run.0.gives.executed.back in
      let is : m.marks.claim ≡ h.marks.claim =
      ap (λ (z : Held). z.marks.claim) run.0.settles ∙ ap (λ (z : Reply). (page_purged_after run.0.after.marks z).claim) run.0.gives.executed.executes.0.0 ∙ freed run.0.after.marks run.0.after.marks.hand.key ∙ ap (λ (z : RestartState). z.claim) marks in
      subst (λ (z : RestartSent). Goes w u.facility v.facility left h.marks.member (gone_by z)) (sym sends.1) (facts.purge w u.facility v.facility held left own h.marks m.marks (name.Page page) run.0.answer tied r knows
      (unclaimed facts.numbers held own h.marks (name.Page page) knows none (λ q e. not_its h.marks.claim page q sends.2 e)) run.0.gives.executed.executes.0 is (leads_before facts.local held left own h.marks m.marks k.marks m k refl refl ends leads))

  purged : (n : Name) (x : RestartSent) → Tied w u.facility.locks u.facility.lists held → IsRestarting u.facility own h.marks → Knows held own h.marks → AllowsSent own x → Sends h.marks (intent.Purge n) x → Runs u h (intent.Purge n) x a said v m → Ends m k → Leads held left own h.marks k.marks → Goes w u.facility v.facility left h.marks.member (gone_by x)
  purged n x tied r knows allows sends runs ends leads =
      let none = subst (λ (z : RestartSent). AllowsSent own z) sends.0 allows in
      let run = subst (λ (z : RestartSent). Runs u h (intent.Purge n) z a said v m) sends.0 runs in
      let marks = same_marks h run.0.after (is_hand h (command.Purge n)) (lent_bytes run.0.after (is_hand h (command.Purge n))) run.0.gives.executed.back in
      let is : m.marks.claim ≡ h.marks.claim =
      ap (λ (z : Held). z.marks.claim) run.0.settles ∙ ap (λ (z : Reply). (name_purged_after run.0.after.marks n z).claim) run.0.gives.executed.executes.0.0 ∙ ap (λ (z : RestartState). z.claim) marks in
      subst (λ (z : RestartSent). Goes w u.facility v.facility left h.marks.member (gone_by z)) (sym sends.0) (facts.purge w u.facility v.facility held left own h.marks m.marks n run.0.answer tied r knows
      (unclaimed facts.numbers held own h.marks n knows none (λ q e. no_page n q sends.1)) run.0.gives.executed.executes.0 is (leads_before facts.local held left own h.marks m.marks k.marks m k refl refl ends leads))

  upped : (x : RestartSent) → Tied w u.facility.locks u.facility.lists held → IsRestarting u.facility own h.marks → Knows held own h.marks → Sends h.marks intent.Up x → Runs u h intent.Up x a said v m → Ends m k → Leads held left own h.marks k.marks → Goes w u.facility v.facility left h.marks.member (gone_by x)
  upped x tied r knows sends runs ends leads =
      let run = subst (λ (z : RestartSent). Runs u h intent.Up z a said v m) sends.0 runs in
      let marks = same_marks h run.0.after (is_hand h (command.SetStatus Up)) (lent_bytes run.0.after (is_hand h (command.SetStatus Up))) run.0.gives.executed.back in
      let is : m.marks.claim ≡ h.marks.claim =
      ap (λ (z : Held). z.marks.claim) run.0.settles ∙ ap (λ (z : Reply). (up_after run.0.after.marks z).claim) run.0.gives.executed.executes.0.0 ∙ ap (λ (z : RestartState). z.claim) marks in
      subst (λ (z : RestartSent). Goes w u.facility v.facility left h.marks.member (gone_by z)) (sym sends.0) (facts.up w u.facility v.facility held left own h.marks m.marks run.0.answer tied r knows run.0.gives.executed.executes.0 is (leads_before facts.local held left own h.marks m.marks k.marks m k refl refl ends leads))

  by_intent : (i : RestartIntent) (x : RestartSent) → Tied w u.facility.locks u.facility.lists held → IsRestarting u.facility own h.marks → Knows held own h.marks → AllowsSent own x → (IsStill x → ⊥) → Sends h.marks i x → Runs u h i x a said v m → Ends m k → Leads held left own h.marks k.marks → Goes w u.facility v.facility left h.marks.member (gone_by x)
  by_intent (intent.Obtain id) x tied r knows allows moves sends runs ends leads = obtained id x tied r knows sends runs ends leads
  by_intent (intent.Grant id) x tied r knows allows moves sends runs ends leads = granted id x tied r knows sends runs ends leads
  by_intent (intent.Ask id to) x tied r knows allows moves sends runs ends leads = asked id to x tied r knows allows sends runs ends leads
  by_intent intent.ReleasePage x tied r knows allows moves sends runs ends leads = released x tied r knows sends runs ends leads
  by_intent intent.PurgePage x tied r knows allows moves sends runs ends leads = purged_page x tied r knows allows sends runs ends leads
  by_intent (intent.Purge n) x tied r knows allows moves sends runs ends leads = purged n x tied r knows allows sends runs ends leads
  by_intent intent.Up x tied r knows allows moves sends runs ends leads = upped x tied r knows sends runs ends leads
  by_intent intent.Step x tied r knows allows moves sends runs ends leads = absurd (moves sends)
  by_intent intent.ReadLog x tied r knows allows moves sends runs ends leads = absurd (moves sends)
  by_intent intent.CutTail x tied r knows allows moves sends runs ends leads = absurd (moves sends)
  by_intent intent.RetainedAt x tied r knows allows moves sends runs ends leads = absurd (moves sends)
  by_intent intent.Read x tied r knows allows moves sends runs ends leads = absurd (moves sends)
  by_intent intent.ReadPage x tied r knows allows moves sends runs ends leads = absurd (moves sends)
  by_intent intent.Test x tied r knows allows moves sends runs ends leads = absurd (moves sends)
  by_intent intent.WritePage x tied r knows allows moves sends runs ends leads = absurd (moves sends)
  by_intent intent.Append x tied r knows allows moves sends runs ends leads = absurd (moves sends)
  by_intent (intent.Answers id to) x tied r knows allows moves sends runs ends leads = absurd (moves sends)
  by_intent (intent.Status who) x tied r knows allows moves sends runs ends leads = absurd (moves sends)
  by_intent (intent.Undo id) x tied r knows allows moves sends runs ends leads = absurd (moves sends)
  by_intent intent.Unregister x tied r knows allows moves sends runs ends leads = absurd (moves sends)

pub changes_go : Facts → ChangesGo
changes_go facts w u v held left own h k x a tied r knows allows moves happens leads =
    by_intent facts w u v held left own h happens.after k a happens.said happens.intent x tied r knows allows moves (facts.lawful h.marks happens.intent x happens.lawful) happens.runs happens.ends leads
