-- Logs and log buffers go on telling through runs.
use Rattle.std.proofs.Common.{◌≡◌, ◌≢◌, ℕ, ◌+◌, ◌≤◌, Bool, true, false, cond, List, [], ◌∷◌, ◌++◌, refl, sym, ap, ◌∙◌, subst, arith, inl, inr}
use Rattle.std.specs.Prelude.{filter, ◌==◌, ◌&&◌, nat_lt}
use Rattle.std.proofs.lemmas.Bool.{cases_eq, cond-true, cond-false, eq-eqb, lt-ltb, le-ltb, ne_eqb, and_left}
use Rattle.std.proofs.lemmas.List.{append-nil, map-append}
use Rattle.std.proofs.lemmas.List.Elements.{filter-append}
use Rattle.ds_base.specs.declared.names.PageId.{PageId}
use Rattle.ds_model.specs.declared.log.LogRecord.{LogRecord}
use Rattle.ds_model.specs.declared.log.Body.TheVariants as body
use Rattle.ds_model.specs.declared.log.Version.TheVariants as version
use Rattle.page_chain.specs.Chains.{touches, after_record}
use Rattle.page_protocol.specs.Page.{Group, Page, change, put}
use Rattle.page_protocol.specs.Moves.{World, Draw, Force, Step, forced as group_forced}
use Rattle.page_protocol.specs.Always.{Good, Stands, KeepsGood, AlwaysGood}
use Rattle.log_tells.specs.Told.{Told, LogsTell, drawn_in, part_of, records_of, is_between, is_of}
use Rattle.log_tells.specs.Keeps.{ArePending, DrawsPend, ForcesPend, LogsGoOn, StartsTold, StaysTold, appended, told_at}
use Rattle.told_pages.specs.Runs.{AllTell, StartsAllTold, QuietRuns, IsDrawnBy, DrawRuns, IsAppendedBy, AppendRuns}
use Rattle.told_pages.proofs.Moves.{Leaves, Once, last_of, leaves, never, once}

pub starts : StartsTold → StartsAllTold
starts law name content h = record { disk = law name content h; pending = λ m. refl }

pub put_here : {A : Type 0} (f : ℕ → A) (k : ℕ) (x : A) → put f k x k ≡ x
put_here f k x = cond-true (k == k) x (f k) (eq-eqb k k refl)

pub put_there : {A : Type 0} (f : ℕ → A) (k j : ℕ) (x : A) → j ≢ k → put f k x j ≡ f j
put_there f k j x ne = cond-false (j == k) x (f j) (ne_eqb j k ne)

-- what is stable was written
forced_in : (b : Bool) (g : Group) (p : Page) → Stands b g p → (m : ℕ) → g.stable m ≤ g.written m
forced_in true g p s m = s.forced m
forced_in false g p s m = s.forced m

pub forced_of : (w : World) → Good w → (m : ℕ) → w.group.stable m ≤ w.group.written m
forced_of w good m = forced_in w.down w.group (w.pages 0) (good.stands 0) m

-- ---- where nothing is drawn
module _ (name : ℕ → PageId) (w v : World) (content after : ℕ → ℕ → List ℕ) (told : List Told) (logs buffers : ℕ → List LogRecord) (kept : (n i : ℕ) → i ≤ (w.pages n).last → after n i ≡ content n i) where
  pub along : Leaves false w v → AllTell name w content told logs buffers → AllTell name v after told logs buffers
  along k t = record {
    disk = record {
      drawn = k.tells name content after told kept t.disk.drawn;
      disk = λ m. subst (λ z. drawn_in (logs m) ≡ part_of m 0 z told) (sym (k.stable refl m)) (t.disk.disk m);
    };
    pending = λ m. subst (λ z. drawn_in (buffers m) ≡ part_of m z (v.group.written m) told) (sym (k.stable refl m))
        (subst (λ z. drawn_in (buffers m) ≡ part_of m (w.group.stable m) z told) (sym (k.written m)) (t.pending m));
  }

pub quiet : StaysTold → KeepsGood → QuietRuns
quiet law keeps name w v content after told logs buffers g counter t = along name w v content after told logs buffers g.kept (leaves law keeps false g.set w v g.moves g.good g.running g.plain g.run counter) t

-- ---- where one number is drawn

abbrev in_part : ℕ → ℕ → ℕ → Told → Bool
in_part m from to t = is_of m t && is_between from to t

-- a record of another member stands in no part of this one's
part_other : (m j place a b : ℕ) (r : LogRecord) (told : List Told) → j ≢ m → part_of j a b (told ++ told_at m place r ∷ []) ≡ part_of j a b told
part_other m j place a b r told ne =
    ap records_of (filter-append (in_part j a b) told (told_at m place r ∷ [])) ∙ map-append (λ (t : Told). t.it) (filter (in_part j a b) told) (filter (in_part j a b) (told_at m place r ∷ []))
    ∙ ap (λ us. part_of j a b told ++ records_of us) (cond-false (in_part j a b (told_at m place r)) (told_at m place r ∷ []) [] (and_left (m == j) (is_between a b (told_at m place r)) (ne_eqb m j (λ e. ne (sym e)))))
    ∙ append-nil (part_of j a b told)

-- behind the draw itself
module _ (go : LogsGoOn) (pend : DrawsPend) (name : ℕ → PageId) (set : ℕ → ℕ) (w v : World) (content after : ℕ → ℕ → List ℕ) (told : List Told) (logs buffers : ℕ → List LogRecord) (m : ℕ) (touched : ℕ → Bool) (r : LogRecord)
    (more : List LogRecord) (good : Good w) (st : Step set w (Draw m touched) v) (own : drawn_in more ≡ r ∷ []) where
  abbrev with_record : List Told
  with_record = told ++ told_at m (w.group.written m) r ∷ []

  drawn_pending : AllTell name w content told logs buffers → (j : ℕ) → ArePending v with_record j (appended buffers m more j)
  drawn_pending t j = elim (cases_eq j m) [
    | inl e ↦ subst (λ z. ArePending v with_record z (appended buffers m more z)) (sym e)
        (subst (ArePending v with_record m) (sym (put_here buffers m (buffers m ++ more))) (pend name set w v content told m touched r (buffers m) more good t.disk.drawn st (t.pending m) own))
    | inr ne ↦ subst (ArePending v with_record j) (sym (put_there buffers m j (buffers m ++ more) ne))
        (subst (λ (z : World). ArePending z with_record j (buffers j)) (sym st.2)
        (subst (λ z. drawn_in (buffers j) ≡ part_of j (w.group.stable j) z with_record) (sym (put_there w.group.written m j (w.group.written m + 1) ne))
        (t.pending j ∙ sym (part_other m j (w.group.written m) (w.group.stable j) (w.group.written j) r told ne))))
  ]

-- all behind it, where the member is that whose log buffer grew
module _ (go : LogsGoOn) (pend : DrawsPend) (name : ℕ → PageId) (w v : World) (content after : ℕ → ℕ → List ℕ) (told : List Told) (logs buffers : ℕ → List LogRecord) (m : ℕ) (r : LogRecord) (more : List LogRecord)
    (kept : (n i : ℕ) → i ≤ (w.pages n).last → after n i ≡ content n i) (d : IsDrawnBy name w v content after m r) (own : drawn_in more ≡ r ∷ []) (set : ℕ → ℕ) (o : Once false set w v) where
  abbrev x : World
  x = o.before

  abbrev y : World
  y = o.behind

  longer_in : (k : ℕ) → y.group.written k ≡ put x.group.written o.draws.member (x.group.written o.draws.member + 1) k
  longer_in k = ap (λ (z : World). z.group.written k) o.draws.step.2

  same_member : m ≡ o.draws.member
  same_member = elim (cases_eq m o.draws.member) [
    | inl e ↦ e
    | inr ne ↦ absurd (let one = o.up_to.written m in let two = o.from.written m in let mid = longer_in m ∙ put_there x.group.written o.draws.member m (x.group.written o.draws.member + 1) ne in let up = d.longer in omega (arith, one, two, mid, up))
  ]

  drawn_last : (n : ℕ) → (y.pages n).last ≡ (cond (o.draws.touched n) (change (x.pages n) o.draws.member (x.group.written o.draws.member) (x.group.counter + 1)) (x.pages n)).last
  drawn_last n = ap (λ (z : World). (z.pages n).last) o.draws.step.2

  touched_is : (n : ℕ) (b : Bool) → o.draws.touched n ≡ b → nat_lt (w.pages n).last (v.pages n).last ≡ b
  touched_is n true e =
      let one = last_of false w x o.up_to n in
      let two = last_of false y v o.from n in
      let mid = drawn_last n ∙ ap (λ (p : Page). p.last) (cond-true (o.draws.touched n) (change (x.pages n) o.draws.member (x.group.written o.draws.member) (x.group.counter + 1)) (x.pages n) e) in
      lt-ltb (w.pages n).last (v.pages n).last (omega (arith, one, two, mid))
  touched_is n false e =
      let one = last_of false w x o.up_to n in
      let two = last_of false y v o.from n in
      let mid = drawn_last n ∙ ap (λ (p : Page). p.last) (cond-false (o.draws.touched n) (change (x.pages n) o.draws.member (x.group.written o.draws.member) (x.group.counter + 1)) (x.pages n) e) in
      le-ltb (w.pages n).last (v.pages n).last (omega (arith, one, two, mid))

  changed : (n : ℕ) → touches (name n) r ≡ o.draws.touched n
  changed n = d.changes n ∙ touched_is n (o.draws.touched n) refl

  last_is : (n : ℕ) → (x.pages n).last ≡ (w.pages n).last
  last_is n = last_of false w x o.up_to n

  old : (n i : ℕ) → i ≤ (x.pages n).last → after n i ≡ content n i
  old n i le = kept n i (subst (λ z. i ≤ z) (last_is n) le)

  new : (n : ℕ) → o.draws.touched n ≡ true → after n ((x.pages n).last + 1) ≡ after_record (name n) (content n (x.pages n).last) r
  new n e = subst (λ z. after n (z + 1) ≡ after_record (name n) (content n z) r) (sym (last_is n)) (d.behind n (changed n ∙ e))

  abbrev next : List Told
  next = told ++ told_at m (w.group.written m) r ∷ []

  place_is : told ++ told_at o.draws.member (x.group.written o.draws.member) r ∷ [] ≡ next
  place_is = ap (λ k. told ++ told_at k (x.group.written k) r ∷ []) (sym same_member) ∙ ap (λ p. told ++ told_at m p r ∷ []) (o.up_to.written m)

  by_draw : AllTell name x content told logs buffers → AllTell name y after next logs (appended buffers m more)
  by_draw t =
      let k = o.draws.member in
      let st = o.draws.step in
      subst (λ us. AllTell name y after us logs (appended buffers m more)) place_is
      (record {
        disk = go name set x y (Draw k o.draws.touched) r [] content after told logs o.good t.disk st
            (record { allowed = d.allowed; own = d.own; number = d.number ∙ ap (λ z. z + 1) (sym o.up_to.counter); changes = changed }) (record { kept = old; behind = new }) tt;
        pending = subst (λ j. (i : ℕ) → ArePending y (told ++ told_at k (x.group.written k) r ∷ []) i (appended buffers j more i)) (sym same_member)
            (drawn_pending go pend name set x y content after told logs buffers k o.draws.touched r more o.good st own t);
      })

  pub all_drawn : AllTell name w content told logs buffers → AllTell name v after next logs (appended buffers m more)
  all_drawn t =
      along name y v after after next logs (appended buffers m more) (λ n i le. refl) o.from
      (by_draw (along name w x content content told logs buffers (λ n i le. refl) o.up_to t))

pub draws : StaysTold → KeepsGood → LogsGoOn → DrawsPend → DrawRuns
draws law keeps go pend name w v content after told logs buffers m r more g d own t =
    all_drawn go pend name w v content after told logs buffers m r more g.kept d own g.set (once law keeps false g.set w v g.moves g.good g.running g.plain g.run d.counter) t

-- ---- where a log buffer is appended

-- an append at once, and then nothing
module _ (go : LogsGoOn) (pend : ForcesPend) (name : ℕ → PageId) (w v : World) (content after : ℕ → ℕ → List ℕ) (told : List Told) (logs buffers : ℕ → List LogRecord) (m : ℕ) (front rest : List LogRecord)
    (good : Good w) (running : w.down ≡ false) (kept : (n i : ℕ) → i ≤ (w.pages n).last → after n i ≡ content n i) (a : IsAppendedBy w v told buffers m front rest) (k : Leaves true w v) (last : Good v) where
  abbrev k_stable : ℕ
  k_stable = v.group.stable m

  abbrev forced_world : World
  forced_world = record { down = false; group = group_forced w.group m k_stable; pages = w.pages }

  step : Step (λ n. n) w (Force m k_stable) forced_world
  step = (running, a.rises, subst (λ z. k_stable ≤ z) (k.written m) (forced_of v last m), refl)

  on_disk : AllTell name w content told logs buffers → LogsTell name forced_world content told (appended logs m front)
  on_disk t = go name (λ n. n) w forced_world (Force m k_stable) none front content content told logs good t.disk step tt (record { kept = λ n i le. refl; behind = λ n e. never e }) a.part
    where
      none : LogRecord
      none = record { version = version.Two; lrsn = 0; tran = 0; body = body.Commit }

  waiting : AllTell name w content told logs buffers → (j : ℕ) → ArePending forced_world told j (put buffers m rest j)
  waiting t j = elim (cases_eq j m) [
    | inl e ↦ subst (λ z. ArePending forced_world told z (put buffers m rest z)) (sym e)
        (subst (ArePending forced_world told m) (sym (put_here buffers m rest)) (pend name (λ n. n) w forced_world content told m k_stable front rest good t.disk.drawn step a.part (subst (ArePending w told m) a.split (t.pending m))))
    | inr ne ↦ subst (ArePending forced_world told j) (sym (put_there buffers m j rest ne))
        (subst (λ z. drawn_in (buffers j) ≡ part_of j z (w.group.written j) told) (sym (put_there w.group.stable m j k_stable ne)) (t.pending j))
  ]

  stable_is : (j : ℕ) → v.group.stable j ≡ forced_world.group.stable j
  stable_is j = elim (cases_eq j m) [
    | inl is ↦ ap v.group.stable is ∙ sym (put_here w.group.stable m k_stable) ∙ sym (ap (put w.group.stable m k_stable) is)
    | inr ne ↦ a.others j ne ∙ sym (put_there w.group.stable m j k_stable ne)
  ]

  pub all_appended : AllTell name w content told logs buffers → AllTell name v after told (appended logs m front) (put buffers m rest)
  all_appended t = record {
    disk = record {
      drawn = k.tells name content after told kept t.disk.drawn;
      disk = λ j. subst (λ z. drawn_in (appended logs m front j) ≡ part_of j 0 z told) (sym (stable_is j)) ((on_disk t).disk j);
    };
    pending = λ j. subst (λ z. drawn_in (put buffers m rest j) ≡ part_of j z (v.group.written j) told) (sym (stable_is j))
        (subst (λ z. drawn_in (put buffers m rest j) ≡ part_of j (forced_world.group.stable j) z told) (sym (k.written j)) (waiting t j));
  }

pub appends : StaysTold → KeepsGood → AlwaysGood → LogsGoOn → ForcesPend → AppendRuns
appends law keeps always go pend name w v content after told logs buffers m front rest g a t =
    all_appended go pend name w v content after told logs buffers m front rest g.good g.running g.kept a (leaves law keeps true g.set w v g.moves g.good g.running g.plain g.run a.counter) (always g.set g.moves w v g.good g.run) t
