-- The names of rows, and of their table spaces, that an event of a restart doesn't free.
use Rattle.std.proofs.Common.{◌≡◌, ℕ, refl, sym, ◌∙◌, ap, subst, Bool, true, false, List, [], ◌∷◌, length, Result, Ok, Err}
use Rattle.std.specs.Prelude.{◌≢◌, ◌==◌, not}
use Rattle.std.specs.List.{AllByRecursion}
use Rattle.std.proofs.lemmas.Bool.{both_ways, ne_eqb}
use Rattle.ds_base.specs.declared.names.PageId.{PageId}
use Rattle.ds_model.specs.Rows.{Spot}
use Rattle.ds_model.specs.declared.lock.Name.{Name}
use Rattle.ds_model.specs.declared.lock.Name.TheVariants as name
use Rattle.lock_names.specs.declared.mode.Mode.TheVariants.{X}
use Rattle.list_structure.specs.declared.standing.MemberStatus.TheVariants.{Up}
use Rattle.facility.specs.declared.command.Command.{Command}
use Rattle.facility.specs.declared.command.Command.TheVariants as command
use Rattle.log_trans.specs.declared.opened.OpenTran.{OpenTran}
use Rattle.log_rows.specs.Rows.{touches}
use Rattle.lock_protocol.specs.Machine.{no_interest}
use Rattle.lock_world.specs.Numbers.{AreNumbered, name_at, number}
use Rattle.lock_world.specs.Rollbacks.{row_of, space_of}
use Rattle.lock_world.specs.Tied.{is_own}
use Rattle.restart_records.specs.Names.{mark_of}
use Rattle.restart_records.specs.declared.trans.RestartTran.{RestartTran}
use Rattle.restart_marks.specs.declared.intent.RestartIntent.{RestartIntent}
use Rattle.restart_marks.specs.declared.intent.RestartIntent.TheVariants as intent
use Rattle.restart_marks.specs.declared.intent.RestartSent.{RestartSent}
use Rattle.restart_marks.specs.declared.intent.RestartSent.TheVariants as sent
use Rattle.restart_marks.specs.declared.intent.RestartTest.{RestartTest}
use Rattle.restart_marks.specs.declared.intent.RestartTest.TheVariants as test
use Rattle.restart_marks.specs.Needs.{need_of}
use Rattle.restart_marks.specs.OwnNeeds.{over_test, recovered_test, rest_test}
use Rattle.restart_marks.specs.State.{RestartState}
use Rattle.restart_marks.specs.Tested.{Tested, after, passed, when}
use Rattle.restart_law.specs.Opens.{FewNeeds, IsSpared, OpensStand, PurgesSpareLeft, is_over}
use Rattle.lock_restarts.specs.Changes.{gone_by, gone_in}
use Rattle.lock_restarts.specs.Courses.{IsInOrder}
use Rattle.lock_restarts.specs.Sent.{IsStill, Sends, SendsLawfully, is_still}

-- neither the row's name is freed nor that of its table space
abbrev pub KeepsSpot : RestartSent → Spot → Type 0
KeepsSpot x s = (gone_by x (space_of s) ≡ false) × (gone_by x (row_of s) ≡ false)

never : false ≡ true → ⊥
never e = cc

keeps_as : (x y : RestartSent) (spot : Spot) → x ≡ y → KeepsSpot y spot → KeepsSpot x spot
keeps_as x y spot e keeps = subst (λ (z : RestartSent). KeepsSpot z spot) (sym e) keeps

-- ---- what changes no locks frees nothing
still_keeps : (c : Command) (at : ℕ) → is_still c ≡ true → gone_in c at ≡ false
still_keeps (command.Obtain n mode) at still = refl
still_keeps (command.Grant slot n mode) at still = refl
still_keeps (command.Release n keeps) at still = refl
still_keeps (command.Purge n) at still = absurd (never still)
still_keeps (command.RetainedAt n) at still = refl
still_keeps (command.Read id index) at still = refl
still_keeps (command.Write id index) at still = refl
still_keeps (command.Unregister index) at still = refl
still_keeps (command.Test index) at still = refl
still_keeps (command.CastoutRead id) at still = refl
still_keeps (command.CastoutDone id) at still = refl
still_keeps (command.NextChanged past) at still = refl
still_keeps command.Lose at still = refl
still_keeps command.Rebuilt at still = refl
still_keeps (command.Ask slot to n mode) at still = refl
still_keeps (command.Take past) at still = refl
still_keeps (command.Answer asker n mode said event) at still = refl
still_keeps (command.Answers slot) at still = refl
still_keeps (command.Wait tran holder flag) at still = refl
still_keeps (command.Unwait tran) at still = refl
still_keeps command.Waits at still = refl
still_keeps (command.End tran) at still = refl
still_keeps (command.Raise flag) at still = refl
still_keeps (command.Flag flag) at still = refl
still_keeps (command.SetStatus status) at still = absurd (never still)
still_keeps (command.Status member) at still = refl
still_keeps command.Claim at still = refl
still_keeps command.Unclaim at still = refl
still_keeps command.PhaseDone at still = refl
still_keeps (command.Draw indexes) at still = refl
still_keeps (command.DrawUndo indexes) at still = refl

sent_keeps : (x : RestartSent) (at : ℕ) → IsStill x → gone_by x at ≡ false
sent_keeps sent.None at still = refl
sent_keeps (sent.Command c) at still = still_keeps c at still
sent_keeps sent.LogLength at still = refl
sent_keeps (sent.ReadLog from count) at still = refl
sent_keeps (sent.CutLog long) at still = refl
sent_keeps sent.AppendLog at still = refl
sent_keeps (sent.ReadPage page) at still = refl

still_spot : (x : RestartSent) (spot : Spot) → IsStill x → KeepsSpot x spot
still_spot x spot still = (sent_keeps x (space_of spot) still, sent_keeps x (row_of spot) still)

-- ---- names
same_name : AreNumbered → (a b : Name) → number a ≡ number b → a ≡ b
same_name law a b e = sym (law.named a) ∙ (ap (λ (z : ℕ). name_at z) e ∙ law.named b)

apart : AreNumbered → (a b : Name) → a ≢ b → (number a == number b) ≡ false
apart law a b ne = ne_eqb (number a) (number b) (λ e. ne (same_name law a b e))

no_page : (page : PageId) (n : Name) → is_own n ≡ false → n ≢ name.Page page
no_page page n own e = never (sym own ∙ ap (λ (z : Name). is_own z) e)

-- ---- intents that neither free the name of a row nor end the restart
abbrev is_other : RestartIntent → Bool
is_other (intent.Purge n) = false
is_other intent.Up = false
is_other _ = true

others_keep : AreNumbered → (s : RestartState) (i : RestartIntent) (x : RestartSent) → Sends s i x → is_other i ≡ true → (spot : Spot) → KeepsSpot x spot
others_keep law s intent.Step x sends other spot = still_spot x spot sends
others_keep law s intent.ReadLog x sends other spot = still_spot x spot sends
others_keep law s intent.CutTail x sends other spot = still_spot x spot sends
others_keep law s intent.RetainedAt x sends other spot = still_spot x spot sends
others_keep law s intent.Read x sends other spot = still_spot x spot sends
others_keep law s intent.ReadPage x sends other spot = still_spot x spot sends
others_keep law s intent.Test x sends other spot = still_spot x spot sends
others_keep law s intent.WritePage x sends other spot = still_spot x spot sends
others_keep law s intent.PurgePage x sends other spot =
    keeps_as x (sent.Command (command.Purge (name.Page sends.0))) spot sends.1
    (apart law (name.Space spot.0) (name.Page sends.0) (no_page sends.0 (name.Space spot.0) refl), apart law (name.Row spot.0 spot.1) (name.Page sends.0) (no_page sends.0 (name.Row spot.0 spot.1) refl))
others_keep law s (intent.Purge n) x sends other spot = absurd (never other)
others_keep law s intent.Append x sends other spot = still_spot x spot sends
others_keep law s (intent.Obtain id) x sends other spot = keeps_as x (sent.Command (command.Obtain (name.Page sends.0) X)) spot sends.1 (refl, refl)
others_keep law s (intent.Ask id to) x sends other spot = keeps_as x (sent.Command (command.Ask 0 to (name.Page sends.0) X)) spot sends.1 (refl, refl)
others_keep law s (intent.Answers id asked) x sends other spot = still_spot x spot sends
others_keep law s (intent.Grant id) x sends other spot = keeps_as x (sent.Command (command.Grant 0 (name.Page sends.0) X)) spot sends.1 (refl, refl)
others_keep law s (intent.Status who) x sends other spot = still_spot x spot sends
others_keep law s (intent.Undo id) x sends other spot = still_spot x spot sends
others_keep law s intent.ReleasePage x sends other spot = keeps_as x (sent.Command (command.Release (name.Page sends.0) no_interest)) spot sends.1 (refl, refl)
others_keep law s intent.Unregister x sends other spot = still_spot x spot sends
others_keep law s intent.Up x sends other spot = absurd (never other)

-- ---- before the log is read

abbrev holds : Tested → Bool
holds (Ok x) = true
holds (Err t) = false

err_ok : (t : RestartTest) (y : RestartSent) (x : Result RestartSent RestartTest) → x ≡ Err t → x ≡ Ok y → ⊥
err_ok t y x a b = cc

after_first : (t : Tested) (r : Result RestartSent RestartTest) (y : RestartSent) → after t r ≡ Ok y → holds t ≡ true
after_first (Ok x) r y e = refl
after_first (Err t) r y e = absurd (err_ok t y (Err t) refl e)

tests_first : (t rest : Tested) → holds (after t rest) ≡ true → holds t ≡ true
tests_first (Ok x) rest h = refl
tests_first (Err t) rest h = h

tests_rest : (t rest : Tested) → holds (after t rest) ≡ true → holds rest ≡ true
tests_rest (Ok x) rest h = h
tests_rest (Err t) rest h = absurd (never h)

when_first : (b : Bool) (t : RestartTest) (rest : Tested) → holds (when b t rest) ≡ true → b ≡ true
when_first true t rest h = refl
when_first false t rest h = absurd (never h)

recovered : (s : RestartState) → holds (recovered_test s) ≡ true → s.is_listed ≡ true
recovered s h = when_first s.is_listed test.NotListed (when (length s.pages == 0) test.PagesLeft passed) h

purge_listed : (s : RestartState) (n : Name) (x : RestartSent) → need_of s (intent.Purge n) ≡ Ok x → s.is_listed ≡ true
purge_listed s n x e =
    let own : Tested = when (mark_of s.names n).retained test.NotRetained (when ((mark_of s.names n).needed == 0) test.StillNeeded passed) in
    let more : Tested = when (not s.hand.changed) test.StillChanged (when (length s.log.pending == 0) test.StillPending passed) in
    let rest : Tested = after (recovered_test s) more in
    recovered s (tests_first (recovered_test s) more (tests_rest own rest (after_first (after own rest) (Ok (sent.Command (command.Purge n))) x e)))

up_listed : (s : RestartState) (x : RestartSent) → need_of s intent.Up ≡ Ok x → s.is_listed ≡ true
up_listed s x e =
    let rest : Tested = after (over_test s) (rest_test s) in
    recovered s (tests_first (recovered_test s) rest (after_first (after (recovered_test s) rest) (Ok (sent.Command (command.SetStatus Up))) x e))

pub unread_kept : AreNumbered → SendsLawfully → (s : RestartState) (i : RestartIntent) (x : RestartSent) → IsInOrder s → s.own.is_read ≡ false → need_of s i ≡ Ok x → (spot : Spot) → KeepsSpot x spot
unread_kept law lawful s intent.Step x order unread e spot = others_keep law s intent.Step x (lawful s intent.Step x e) refl spot
unread_kept law lawful s intent.ReadLog x order unread e spot = others_keep law s intent.ReadLog x (lawful s intent.ReadLog x e) refl spot
unread_kept law lawful s intent.CutTail x order unread e spot = others_keep law s intent.CutTail x (lawful s intent.CutTail x e) refl spot
unread_kept law lawful s intent.RetainedAt x order unread e spot = others_keep law s intent.RetainedAt x (lawful s intent.RetainedAt x e) refl spot
unread_kept law lawful s intent.Read x order unread e spot = others_keep law s intent.Read x (lawful s intent.Read x e) refl spot
unread_kept law lawful s intent.ReadPage x order unread e spot = others_keep law s intent.ReadPage x (lawful s intent.ReadPage x e) refl spot
unread_kept law lawful s intent.Test x order unread e spot = others_keep law s intent.Test x (lawful s intent.Test x e) refl spot
unread_kept law lawful s intent.WritePage x order unread e spot = others_keep law s intent.WritePage x (lawful s intent.WritePage x e) refl spot
unread_kept law lawful s intent.PurgePage x order unread e spot = others_keep law s intent.PurgePage x (lawful s intent.PurgePage x e) refl spot
unread_kept law lawful s (intent.Purge n) x order unread e spot = absurd (both_ways s.own.is_read unread (order.listed (purge_listed s n x e)))
unread_kept law lawful s intent.Append x order unread e spot = others_keep law s intent.Append x (lawful s intent.Append x e) refl spot
unread_kept law lawful s (intent.Obtain id) x order unread e spot = others_keep law s (intent.Obtain id) x (lawful s (intent.Obtain id) x e) refl spot
unread_kept law lawful s (intent.Ask id to) x order unread e spot = others_keep law s (intent.Ask id to) x (lawful s (intent.Ask id to) x e) refl spot
unread_kept law lawful s (intent.Answers id asked) x order unread e spot = others_keep law s (intent.Answers id asked) x (lawful s (intent.Answers id asked) x e) refl spot
unread_kept law lawful s (intent.Grant id) x order unread e spot = others_keep law s (intent.Grant id) x (lawful s (intent.Grant id) x e) refl spot
unread_kept law lawful s (intent.Status who) x order unread e spot = others_keep law s (intent.Status who) x (lawful s (intent.Status who) x e) refl spot
unread_kept law lawful s (intent.Undo id) x order unread e spot = others_keep law s (intent.Undo id) x (lawful s (intent.Undo id) x e) refl spot
unread_kept law lawful s intent.ReleasePage x order unread e spot = others_keep law s intent.ReleasePage x (lawful s intent.ReleasePage x e) refl spot
unread_kept law lawful s intent.Unregister x order unread e spot = others_keep law s intent.Unregister x (lawful s intent.Unregister x e) refl spot
unread_kept law lawful s intent.Up x order unread e spot = absurd (both_ways s.own.is_read unread (order.listed (up_listed s x e)))

-- ---- then

-- no name is freed that a transaction needs which isn't over
abbrev pub Untouched : RestartSent → RestartTran → Type 0
Untouched x y = is_over y.stage ≡ false → (spot : Spot) → touches y.tran spot ≡ true → KeepsSpot x spot

all_untouched : (x : RestartSent) → ((spot : Spot) → KeepsSpot x spot) → (list : List RestartTran) → AllByRecursion (Untouched x) list
all_untouched x keeps [] = tt
all_untouched x keeps (y ∷ ys) = (λ lives spot touched. keeps spot, all_untouched x keeps ys)

spot_spared : AreNumbered → (n : Name) (t : OpenTran) (x : RestartSent) → x ≡ sent.Command (command.Purge n) → IsSpared n t → (spot : Spot) → touches t spot ≡ true → KeepsSpot x spot
spot_spared law n t x e spared spot touched =
    let is = spared spot touched in
    keeps_as x (sent.Command (command.Purge n)) spot e (apart law (name.Space spot.0) n (λ q. is.0 (sym q)), apart law (name.Row spot.0 spot.1) n (λ q. is.1 (sym q)))

all_spared : AreNumbered → (n : Name) (x : RestartSent) → x ≡ sent.Command (command.Purge n) → (list : List RestartTran)
    → AllByRecursion (λ (y : RestartTran). is_over y.stage ≡ false → IsSpared n y.tran) list → AllByRecursion (Untouched x) list
all_spared law n x e [] a = tt
all_spared law n x e (y ∷ ys) a = (λ lives spot touched. spot_spared law n y.tran x e (a.0 lives) spot touched, all_spared law n x e ys a.1)

abbrev pub ends_it : RestartIntent → Bool
ends_it intent.Up = true
ends_it _ = false

pub names_kept : AreNumbered → PurgesSpareLeft → SendsLawfully → (s : RestartState) (i : RestartIntent) (x : RestartSent)
    → OpensStand s → FewNeeds s.own.records → need_of s i ≡ Ok x → ends_it i ≡ false → AllByRecursion (Untouched x) s.trans.list
names_kept law spares lawful s intent.Step x stands few e other = all_untouched x (others_keep law s intent.Step x (lawful s intent.Step x e) refl) s.trans.list
names_kept law spares lawful s intent.ReadLog x stands few e other = all_untouched x (others_keep law s intent.ReadLog x (lawful s intent.ReadLog x e) refl) s.trans.list
names_kept law spares lawful s intent.CutTail x stands few e other = all_untouched x (others_keep law s intent.CutTail x (lawful s intent.CutTail x e) refl) s.trans.list
names_kept law spares lawful s intent.RetainedAt x stands few e other = all_untouched x (others_keep law s intent.RetainedAt x (lawful s intent.RetainedAt x e) refl) s.trans.list
names_kept law spares lawful s intent.Read x stands few e other = all_untouched x (others_keep law s intent.Read x (lawful s intent.Read x e) refl) s.trans.list
names_kept law spares lawful s intent.ReadPage x stands few e other = all_untouched x (others_keep law s intent.ReadPage x (lawful s intent.ReadPage x e) refl) s.trans.list
names_kept law spares lawful s intent.Test x stands few e other = all_untouched x (others_keep law s intent.Test x (lawful s intent.Test x e) refl) s.trans.list
names_kept law spares lawful s intent.WritePage x stands few e other = all_untouched x (others_keep law s intent.WritePage x (lawful s intent.WritePage x e) refl) s.trans.list
names_kept law spares lawful s intent.PurgePage x stands few e other = all_untouched x (others_keep law s intent.PurgePage x (lawful s intent.PurgePage x e) refl) s.trans.list
names_kept law spares lawful s (intent.Purge n) x stands few e other = all_spared law n x (lawful s (intent.Purge n) x e).0 s.trans.list (spares s n x stands few e)
names_kept law spares lawful s intent.Append x stands few e other = all_untouched x (others_keep law s intent.Append x (lawful s intent.Append x e) refl) s.trans.list
names_kept law spares lawful s (intent.Obtain id) x stands few e other = all_untouched x (others_keep law s (intent.Obtain id) x (lawful s (intent.Obtain id) x e) refl) s.trans.list
names_kept law spares lawful s (intent.Ask id to) x stands few e other = all_untouched x (others_keep law s (intent.Ask id to) x (lawful s (intent.Ask id to) x e) refl) s.trans.list
names_kept law spares lawful s (intent.Answers id asked) x stands few e other = all_untouched x (others_keep law s (intent.Answers id asked) x (lawful s (intent.Answers id asked) x e) refl) s.trans.list
names_kept law spares lawful s (intent.Grant id) x stands few e other = all_untouched x (others_keep law s (intent.Grant id) x (lawful s (intent.Grant id) x e) refl) s.trans.list
names_kept law spares lawful s (intent.Status who) x stands few e other = all_untouched x (others_keep law s (intent.Status who) x (lawful s (intent.Status who) x e) refl) s.trans.list
names_kept law spares lawful s (intent.Undo id) x stands few e other = all_untouched x (others_keep law s (intent.Undo id) x (lawful s (intent.Undo id) x e) refl) s.trans.list
names_kept law spares lawful s intent.ReleasePage x stands few e other = all_untouched x (others_keep law s intent.ReleasePage x (lawful s intent.ReleasePage x e) refl) s.trans.list
names_kept law spares lawful s intent.Unregister x stands few e other = all_untouched x (others_keep law s intent.Unregister x (lawful s intent.Unregister x e) refl) s.trans.list
names_kept law spares lawful s intent.Up x stands few e other = absurd (never (sym other))
