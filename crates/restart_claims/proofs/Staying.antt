-- The claims of what a restart leaves open, behind an event of it.
use Rattle.std.proofs.Common.{◌≡◌, ℕ, ◌+◌, refl, sym, ◌∙◌, ap, subst, arith, Bool, true, false, inl, inr, List, [], ◌∷◌, Option, None, Ok}
use Rattle.std.specs.Prelude.{◌≢◌, ◌⊎◌, ◌-◌, map, slice_set}
use Rattle.std.specs.List.{AllByRecursion}
use Rattle.ds_model.specs.Rows.{Spot}
use Rattle.ds_model.specs.declared.lock.Name.{Name}
use Rattle.ds_model.specs.declared.lock.Name.TheVariants as name
use Rattle.ds_model.specs.declared.log.LogRecord.{LogRecord}
use Rattle.lock_names.specs.declared.mode.Mode.{Mode}
use Rattle.lock_names.specs.declared.mode.Mode.TheVariants.{IX, X}
use Rattle.list_structure.specs.declared.standing.MemberStatus.TheVariants.{Up}
use Rattle.list_structure.specs.States.{ListsState}
use Rattle.facility.specs.declared.command.Command.TheVariants as command
use Rattle.facility.specs.declared.command.Reply.{Reply}
use Rattle.log_trans.specs.declared.opened.OpenTran.{OpenTran}
use Rattle.log_trans.specs.Courses.{open_trans}
use Rattle.log_rows.specs.Rows.{touches}
use Rattle.lock_protocol.specs.Machine.{Covers, World}
use Rattle.lock_world.specs.Numbers.{AreNumbered, name_at, number}
use Rattle.lock_world.specs.Rollbacks.{row_of, space_of}
use Rattle.lock_world.specs.Tied.{is_own}
use Rattle.lock_world.specs.Views.{rollback_owner}
use Rattle.member_intents.specs.declared.outcome.Answered.{Answered}
use Rattle.restart_records.specs.declared.trans.RestartTran.{RestartTran}
use Rattle.restart_marks.specs.declared.intent.RestartIntent.{RestartIntent}
use Rattle.restart_marks.specs.declared.intent.RestartIntent.TheVariants as intent
use Rattle.restart_marks.specs.declared.intent.RestartSent.{RestartSent}
use Rattle.restart_marks.specs.declared.intent.RestartSent.TheVariants as sent
use Rattle.restart_marks.specs.declared.told.RestartTold.{RestartTold}
use Rattle.restart_marks.specs.Locks.{up_after}
use Rattle.restart_marks.specs.Needs.{need_of}
use Rattle.restart_marks.specs.State.{RestartState}
use Rattle.restart_resources.specs.Events as event
use Rattle.restart_resources.specs.Events.{Happens, Runs}
use Rattle.restart_resources.specs.Held.{Held}
use Rattle.restart_law.specs.Opens.{FewNeeds, GoOn, ListGoes, ListsGo, OpensStand, PurgesSpareLeft, is_over}
use Rattle.restart_law.specs.Reads.{ReadsTrue}
use Rattle.lock_restarts.specs.Changes.{gone_by}
use Rattle.lock_restarts.specs.Courses.{IsInOrder, RestartsFollow, Sets, StandingsFollow}
use Rattle.lock_restarts.specs.Sent.{SendsLawfully}
use Rattle.lock_restarts.specs.Stands.{LocalsStay, Spares}
use Rattle.restart_claims.specs.Claims.{ClaimsLeft, ClaimsStay, HasRow, HasRows, LeftHas, OpensClaimed}
use Rattle.restart_claims.proofs.Freeing.{KeepsSpot, Untouched, ends_it, names_kept, unread_kept}

never : true ≡ false → ⊥
never e = cc

-- ---- one row
row_with : (w z : World) (m o : ℕ) (spot : Spot) → z.claims m o (space_of spot) ≡ w.claims m o (space_of spot) → z.claims m o (row_of spot) ≡ w.claims m o (row_of spot) → HasRow w m o spot → HasRow z m o spot
row_with w z m o spot space row has = (subst (λ (q : Option Mode). Covers q IX) (sym space) has.0, subst (λ (q : Option Mode). Covers q X) (sym row) has.1)

no_zero : (id : ℕ) → rollback_owner id ≢ 0
no_zero id e = let is : id + 17 ≡ 0 = e in omega (arith, is)

unowned : AreNumbered → (n : Name) → is_own n ≡ false → is_own (name_at (number n)) ≡ false
unowned law n own = ap (λ (z : Name). is_own z) (law.named n) ∙ own

row_stays : AreNumbered → (w z : World) (m : ℕ) (x : RestartSent) (id : ℕ) (spot : Spot)
    → Spares w z m (gone_by x) → KeepsSpot x spot → HasRow w m (rollback_owner id) spot → HasRow z m (rollback_owner id) spot
row_stays law w z m x id spot spares keeps has =
    row_with w z m (rollback_owner id) spot
    (spares (rollback_owner id) (space_of spot) (no_zero id) (unowned law (name.Space spot.0) refl) keeps.0)
    (spares (rollback_owner id) (row_of spot) (no_zero id) (unowned law (name.Row spot.0 spot.1) refl) keeps.1)
    has

-- ---- all rows of all transactions
all_rows : AreNumbered → (w z : World) (m : ℕ) (x : RestartSent) → Spares w z m (gone_by x) → ((spot : Spot) → KeepsSpot x spot) → (ts : List OpenTran) → AllByRecursion (HasRows w m) ts → AllByRecursion (HasRows z m) ts
all_rows law w z m x spares keeps [] a = tt
all_rows law w z m x spares keeps (t ∷ ts) a = (λ spot touched. row_stays law w z m x t.id spot spares (keeps spot) (a.0 spot touched), all_rows law w z m x spares keeps ts a.1)

was_false : (b c : Bool) → (b ≡ true → c ≡ true) → c ≡ false → b ≡ false
was_false true c goes e = absurd (never (sym (goes refl) ∙ e))
was_false false c goes e = refl

one_stays : AreNumbered → (w z : World) (m : ℕ) (x : RestartSent) → Spares w z m (gone_by x) → (q y : RestartTran)
    → y.tran ≡ q.tran → (is_over q.stage ≡ true → is_over y.stage ≡ true) → Untouched x q → LeftHas w m q → LeftHas z m y
one_stays law w z m x spares q y e over free has lives spot touched =
    let before : is_over q.stage ≡ false = was_false (is_over q.stage) (is_over y.stage) over lives in
    let touches_it : touches q.tran spot ≡ true = ap (λ (t : OpenTran). touches t spot) (sym e) ∙ touched in
    subst (λ (t : OpenTran). HasRow z m (rollback_owner t.id) spot) (sym e) (row_stays law w z m x q.tran.id spot spares (free before spot touches_it) (has before spot touches_it))

all_stay : AreNumbered → (w z : World) (m : ℕ) (x : RestartSent) → Spares w z m (gone_by x) → (xs ys : List RestartTran)
    → GoOn xs ys → AllByRecursion (Untouched x) xs → AllByRecursion (LeftHas w m) xs → AllByRecursion (LeftHas z m) ys
all_stay law w z m x spares [] [] goes free has = tt
all_stay law w z m x spares [] (y ∷ ys) goes free has = absurd goes
all_stay law w z m x spares (q ∷ xs) [] goes free has = absurd goes
all_stay law w z m x spares (q ∷ xs) (y ∷ ys) goes free has = (one_stays law w z m x spares q y goes.0.0 goes.0.1 free.0 has.0, all_stay law w z m x spares xs ys goes.1 free.1 has.1)

-- those that the log leaves open are those of the restart
entered : (w : World) (m : ℕ) (xs : List RestartTran) → AllByRecursion (HasRows w m) (map (λ (y : RestartTran). y.tran) xs) → AllByRecursion (LeftHas w m) xs
entered w m [] a = tt
entered w m (x ∷ xs) a = (λ lives. a.0, entered w m xs a.1)

-- ---- an event behind which the restart isn't over
raised : (u v : event.World) (h k : Held) (a : Answered) (said : RestartTold) → Runs u h intent.Up (sent.Command (command.SetStatus Up)) a said v k → k.marks.is_up ≡ true
raised u v h k a said r =
    let does = r.0.gives.executed.executes.0 in
    ap (λ (z : Held). z.marks.is_up) r.0.settles ∙ ap (λ (z : Reply). (up_after r.0.after.marks z).is_up) does.0

not_ended : SendsLawfully → (u v : event.World) (h k : Held) (i : RestartIntent) (x : RestartSent) (a : Answered) (said : RestartTold) → need_of h.marks i ≡ Ok x → Runs u h i x a said v k → k.marks.is_up ≡ false → ends_it i ≡ false
not_ended lawful u v h k intent.Step x a said e r up = refl
not_ended lawful u v h k intent.ReadLog x a said e r up = refl
not_ended lawful u v h k intent.CutTail x a said e r up = refl
not_ended lawful u v h k intent.RetainedAt x a said e r up = refl
not_ended lawful u v h k intent.Read x a said e r up = refl
not_ended lawful u v h k intent.ReadPage x a said e r up = refl
not_ended lawful u v h k intent.Test x a said e r up = refl
not_ended lawful u v h k intent.WritePage x a said e r up = refl
not_ended lawful u v h k intent.PurgePage x a said e r up = refl
not_ended lawful u v h k (intent.Purge n) x a said e r up = refl
not_ended lawful u v h k intent.Append x a said e r up = refl
not_ended lawful u v h k (intent.Obtain id) x a said e r up = refl
not_ended lawful u v h k (intent.Ask id to) x a said e r up = refl
not_ended lawful u v h k (intent.Answers id asked) x a said e r up = refl
not_ended lawful u v h k (intent.Grant id) x a said e r up = refl
not_ended lawful u v h k (intent.Status who) x a said e r up = refl
not_ended lawful u v h k (intent.Undo id) x a said e r up = refl
not_ended lawful u v h k intent.ReleasePage x a said e r up = refl
not_ended lawful u v h k intent.Unregister x a said e r up = refl
not_ended lawful u v h k intent.Up x a said e r up =
    absurd (never (sym (raised u v h k a said (subst (λ (z : RestartSent). Runs u h intent.Up z a said v k) (lawful h.marks intent.Up x e).0 r)) ∙ up))

was_down : (f g : ListsState) (s t : RestartState) → Sets f g s t → t.is_up ≡ false → s.is_up ≡ false
was_down f g s t sets up = by sets.statuses
  where
    by : ((t.is_up ≡ s.is_up) × (g.statuses ≡ f.statuses)) ⊎ ((t.is_up ≡ true) × (t.claim ≡ None) × (g.statuses ≡ slice_set f.statuses (s.member - 1) Up)) → s.is_up ≡ false
    by (inl x) = sym x.0 ∙ up
    by (inr x) = absurd (never (sym x.0 ∙ up))

-- ---- any event

pub record Facts : Type 0 where
  pub numbered : AreNumbered
  pub lawful : SendsLawfully
  pub local : LocalsStay
  pub follows : RestartsFollow
  pub standings : StandingsFollow
  pub spares : PurgesSpareLeft
  pub lists : ListsGo

still_unread : Facts → (bytes : List ℕ) (w z : World) (u v : event.World) (h k : Held) (x : RestartSent) (a : Answered)
    → Happens u h x a v k → IsInOrder h.marks → Spares w z h.marks.member (gone_by x) → OpensClaimed bytes w h.marks → h.marks.own.is_read ≡ false
    → (ts : List OpenTran) → AllByRecursion (HasRows w h.marks.member) ts → AllByRecursion (HasRows z h.marks.member) ts
still_unread f bytes w z u v h k x a e order spares claimed unread ts has =
    all_rows f.numbered w z h.marks.member x spares (unread_kept f.numbered f.lawful h.marks e.intent x order unread e.lawful) ts has

left_by : Facts → (bytes : List ℕ) (w z : World) (u v : event.World) (h k : Held) (x : RestartSent) (a : Answered)
    → Happens u h x a v k → OpensStand h.marks → (h.marks.own.is_read ≡ true → FewNeeds h.marks.own.records) → IsInOrder h.marks → ReadsTrue bytes k.marks → Spares w z h.marks.member (gone_by x)
    → OpensClaimed bytes w h.marks → ListGoes h.marks k.marks → k.marks.own.is_read ≡ true → k.marks.is_up ≡ false → (b : Bool) → h.marks.own.is_read ≡ b → AllByRecursion (LeftHas z h.marks.member) k.marks.trans.list
left_by f bytes w z u v h k x a e stands few order reads spares claimed lists read up true was =
    let after_up : e.after.marks.is_up ≡ false = sym (f.local e.after.marks k.marks e.ends.0).up ∙ up in
    let other : ends_it e.intent ≡ false = not_ended f.lawful u v h e.after e.intent x a e.said e.lawful e.runs after_up in
    let down : h.marks.is_up ≡ false = was_down u.facility.lists v.facility.lists h.marks k.marks (f.standings u v h k x a e) up in
    all_stay f.numbered w z h.marks.member x spares h.marks.trans.list k.marks.trans.list (lists.read was)
    (names_kept f.numbered f.spares f.lawful h.marks e.intent x stands (few was) e.lawful other) (claimed.left was down)
left_by f bytes w z u v h k x a e stands few order reads spares claimed lists read up false was =
    let lives : map (λ (y : RestartTran). y.tran) k.marks.trans.list ≡ open_trans k.marks.own.records = lists.reads was read in
    entered z h.marks.member k.marks.trans.list
    (subst (λ (ts : List OpenTran). AllByRecursion (HasRows z h.marks.member) ts) (sym lives)
    (still_unread f bytes w z u v h k x a e order spares claimed was (open_trans k.marks.own.records) (claimed.unread was k.marks.own.records (reads.records read))))

pub claims_stay : Facts → ClaimsStay
claims_stay f bytes w z u v h k x a e stands few order reads spares claimed =
    let lists : ListGoes h.marks k.marks = f.lists u v h k x a e stands in
    let member : k.marks.member ≡ h.marks.member = (f.follows u v h k x a e).member in
    record {
      unread = λ unread records last.
          let was : h.marks.own.is_read ≡ false = was_false h.marks.own.is_read k.marks.own.is_read lists.still_read unread in
          subst (λ (n : ℕ). AllByRecursion (HasRows z n) (open_trans records)) (sym member)
          (still_unread f bytes w z u v h k x a e order spares claimed was (open_trans records) (claimed.unread was records last));
      left = λ read up. subst (λ (n : ℕ). AllByRecursion (LeftHas z n) k.marks.trans.list) (sym member)
          (left_by f bytes w z u v h k x a e stands few order reads spares claimed lists read up h.marks.own.is_read refl);
    }

-- ---- what leaves the claims
rows_left : (w z : World) (m : ℕ) → ((o c : ℕ) → z.claims m o c ≡ w.claims m o c) → (t : OpenTran) → HasRows w m t → HasRows z m t
rows_left w z m same t has spot touched = row_with w z m (rollback_owner t.id) spot (same (rollback_owner t.id) (space_of spot)) (same (rollback_owner t.id) (row_of spot)) (has spot touched)

all_left : (w z : World) (m : ℕ) → ((o c : ℕ) → z.claims m o c ≡ w.claims m o c) → (ts : List OpenTran) → AllByRecursion (HasRows w m) ts → AllByRecursion (HasRows z m) ts
all_left w z m same [] a = tt
all_left w z m same (t ∷ ts) a = (rows_left w z m same t a.0, all_left w z m same ts a.1)

list_left : (w z : World) (m : ℕ) → ((o c : ℕ) → z.claims m o c ≡ w.claims m o c) → (xs : List RestartTran) → AllByRecursion (LeftHas w m) xs → AllByRecursion (LeftHas z m) xs
list_left w z m same [] a = tt
list_left w z m same (x ∷ xs) a = (λ lives. rows_left w z m same x.tran (a.0 lives), list_left w z m same xs a.1)

pub claims_left : ClaimsLeft
claims_left bytes w z s same claimed = record {
  unread = λ unread records last. all_left w z s.member same (open_trans records) (claimed.unread unread records last);
  left = λ read up. list_left w z s.member same s.trans.list (claimed.left read up);
}
