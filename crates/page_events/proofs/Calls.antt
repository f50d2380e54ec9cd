-- Disk calls that were done: a page is read into its frame, and the log buffer is appended; and what the disk then shows.
use Rattle.std.proofs.Common.{◌≡◌, ◌≢◌, ℕ, ◌<◌, refl, sym, ◌∙◌, ap, subst, Bool, true, false, inl, inr, List, ◌++◌, length, Option, Some, None, Result, Ok, Err, arith, cond}
use Rattle.std.specs.Prelude.{◌==◌, ◌&&◌, if◌then◌else◌, nat_lt, unwrap_or, replicate, slice_get}
use Rattle.std.specs.Ordering.{nat_cmp, eq_by_cmp, is_eq, ordering_then}
use Rattle.std.specs.declared.cmp.Ordering.{Ordering}
use Rattle.std.specs.declared.cmp.Ordering.TheVariants.{Less, Equal, Greater}
use Rattle.std.specs.FinMap.{get, insert, get-insert}
use Rattle.std.proofs.lemmas.Bool.{and_parts, cases_eq, cond-true, eq-eqb, eqb-true, false_from_ne_true, lt-ltb}
use Rattle.std.proofs.lemmas.Bool.Decides.{nat_tests}
use Rattle.std.proofs.lemmas.Option.{none-some, slice_get_within}
use Rattle.ds_base.specs.declared.names.PageId.{PageId}
use Rattle.cache_structure.specs.Sound.{IsSound}
use Rattle.ds_disk.specs.Contents.{Contents, Becomes, log_of, with_log}
use Rattle.ds_disk.specs.Pages.{Pages, page_cmp, page_cmp_total, page_at as page_on}
use Rattle.ds_disk.specs.declared.disk.DiskError.{DiskError}
use Rattle.ds_disk.specs.declared.disk.DiskError.TheVariants.{Failed, NoMemory}
use Rattle.facility.specs.States.{Held as Facility}
use Rattle.member_intents.specs.declared.intent.Intent.{Intent}
use Rattle.member_intents.specs.declared.intent.Intent.TheVariants as intent
use Rattle.member_intents.specs.declared.outcome.Answered.{Answered}
use Rattle.member_intents.specs.declared.outcome.Answered.TheVariants as answered
use Rattle.member_intents.specs.declared.outcome.Sent.{Sent}
use Rattle.member_intents.specs.declared.outcome.Sent.TheVariants as sent
use Rattle.member_pool.specs.declared.frame.Frame.{Frame}
use Rattle.member_pool.specs.Frames.{free_frame}
use Rattle.member_marks.specs.Frames.{frame_in, after_filled}
use Rattle.member_marks.specs.Records.{after_append}
use Rattle.member_effects.specs.declared.told.Told.{Told}
use Rattle.needs_law.specs.Lawful.{FillsFrame, Appends as AppendsLog}
use Rattle.member_resources.specs.Held.{Held, with_marks}
use Rattle.member_resources.specs.Settled.{kept_of, stored}
use Rattle.member_resources.specs.Lending.{page_at as bytes_in, with_page}
use Rattle.member_resources.specs.Events as event
use Rattle.member_resources.specs.Events.{Appends, Drive, ReadsFrame, ReadsInto, RunsCall, Stores}
use Rattle.page_protocol.specs.Page.{put}
use Rattle.page_protocol.specs.Moves.{World}
use Rattle.page_world.specs.Numbers.{page_number, page_at, AreNumbered}
use Rattle.page_world.specs.Holdings.{Holdings}
use Rattle.page_intents.specs.Stands.{behind, Goes}
use Rattle.page_intents.specs.Logs.{all_forced}
use Rattle.page_events.specs.Beside.{Shows, SameOthers, Leads}
use Rattle.page_events.proofs.Facts.{Facts}
use Rattle.page_events.proofs.Made.{KeepsStandings, Now, made, behind_leads, put_other, standings_same}

-- ---- frames that have a page
pub is_within : (h : Held) (at : ℕ) (id : PageId) → length h.pages ≡ length h.marks.heads.frames → (frame_in h.marks.heads at).page ≡ Some id → at < length h.pages
is_within h at id each e = subst (λ z. at < z) (sym each) (by (slice_get h.marks.heads.frames at) refl)
  where
    by : (o : Option Frame) → slice_get h.marks.heads.frames at ≡ o → at < length h.marks.heads.frames
    by None is = absurd (none-some id (sym (ap (λ (z : Option Frame). (unwrap_or z free_frame).page) is) ∙ e))
    by (Some x) is = slice_get_within h.marks.heads.frames at x is

-- ---- what the disk tells goes on
pub went_on : (d e : Drive) (pages : ℕ → List ℕ) (s : Shows d pages) (P : Contents → Contents → Type 0) → Becomes d.contents e.contents P → (x : Contents) × (e.contents ≡ Some x) × P s.contents x
went_on d e pages s P b = by e.contents refl (subst (λ z. Becomes z e.contents P) s.told b)
  where
    by : (o : Option Contents) → e.contents ≡ o → Becomes (Some s.contents) e.contents P → (x : Contents) × (e.contents ≡ Some x) × P s.contents x
    by None is b = absurd (subst (λ z. Becomes (Some s.contents) z P) is b)
    by (Some x) is b = (x, is, subst (λ z. Becomes (Some s.contents) z P) is b)

-- the same pages
pub shows_same : (d e : Drive) (pages : ℕ → List ℕ) (s : Shows d pages) (x : Contents) → e.contents ≡ Some x → x.pages ≡ s.contents.pages → Shows e pages
shows_same d e pages s x told same = record { contents = x; told = told; each = λ n. ap (λ (z : Pages). page_on z (page_at n)) same ∙ s.each n }

-- ---- a page that is written
both_equal : (o p : Ordering) → is_eq (ordering_then o p) ≡ (is_eq o && is_eq p)
both_equal Less p = refl
both_equal Equal p = refl
both_equal Greater p = refl

same_number : (q k : ℕ) → eq_by_cmp nat_cmp q k ≡ (k == q)
same_number q k = grind (arith, nat_tests)

same_key : (q p : PageId) → eq_by_cmp page_cmp q p ≡ ((p.set == q.set) && (p.number == q.number))
same_key q p =
    both_equal (nat_cmp q.set p.set) (nat_cmp q.number p.number)
    ∙ ap (λ (b : Bool). b && is_eq (nat_cmp q.number p.number)) (same_number q.set p.set)
    ∙ ap (λ (b : Bool). (p.set == q.set) && b) (same_number q.number p.number)

key_itself : (p : PageId) → eq_by_cmp page_cmp p p ≡ true
key_itself p = same_key p p ∙ ap (λ b. b && (p.number == p.number)) (eq-eqb p.set p.set refl) ∙ eq-eqb p.number p.number refl

key_other : (q p : PageId) → q ≢ p → eq_by_cmp page_cmp q p ≡ false
key_other q p ne = same_key q p ∙ false_from_ne_true ((p.set == q.set) && (p.number == q.number)) (λ e. ne (same e))
  where
    same : ((p.set == q.set) && (p.number == q.number)) ≡ true → q ≡ p
    same e =
        let parts = and_parts (p.set == q.set) (p.number == q.number) e in
        let set = sym (eqb-true p.set q.set parts.0) in
        let number = sym (eqb-true p.number q.number parts.1) in
        λ i. record { set = set i; number = number i }

on_page : (pages : Pages) (p q : PageId) (bytes : List ℕ) (b : Bool) → eq_by_cmp page_cmp q p ≡ b → page_on (insert pages p bytes) q ≡ (if b then bytes else page_on pages q)
on_page pages p q bytes true e = ap (λ o. unwrap_or o (replicate 4096 0)) (get-insert page_cmp_total pages p bytes q ∙ ap (λ b. cond b (Some bytes) (get pages q)) e)
on_page pages p q bytes false e = ap (λ o. unwrap_or o (replicate 4096 0)) (get-insert page_cmp_total pages p bytes q ∙ ap (λ b. cond b (Some bytes) (get pages q)) e)

pub shows_put : AreNumbered → (d e : Drive) (pages : ℕ → List ℕ) (s : Shows d pages) (x : Contents) (p : PageId) (bytes : List ℕ) → e.contents ≡ Some x → x.pages ≡ insert s.contents.pages p bytes → Shows e (put pages (page_number p) bytes)
shows_put numbers d e pages s x p bytes told is = record { contents = x; told = told; each = λ n. ap (λ (z : Pages). page_on z (page_at n)) is ∙ at n }
  where
    at : (n : ℕ) → page_on (insert s.contents.pages p bytes) (page_at n) ≡ put pages (page_number p) bytes n
    at n = elim (cases_eq n (page_number p)) [
      | inl e ↦ on_page s.contents.pages p (page_at n) bytes true (ap (λ z. eq_by_cmp page_cmp z p) (ap page_at e ∙ numbers.named p) ∙ key_itself p) ∙ sym (cond-true (n == page_number p) bytes (pages n) (eq-eqb n (page_number p) e))
      | inr ne ↦ on_page s.contents.pages p (page_at n) bytes false (key_other (page_at n) p (λ z. ne (sym (numbers.numbered n) ∙ ap page_number z))) ∙ s.each n ∙ sym (put_other pages (page_number p) n bytes ne)
    ]

-- ---- a call that was done
pub was_done : (after k : Held) (i : Intent) (x : Result (Unit {0}) DiskError) (a : Answered) (told : Told) → a ≢ answered.Failed → Stores after i x a told k → (x ≡ Ok tt) × (k ≡ stored after i)
was_done after k i (Ok y) a told works e = (refl, e.2)
was_done after k i (Err Failed) a told works e = absurd (works e.0)
was_done after k i (Err NoMemory) a told works e = absurd e

pub same_standings : (f v : Facility) → v ≡ f → KeepsStandings f v
same_standings f v e = subst (λ z. KeepsStandings f z) (sym e) (standings_same f)

-- ---- a frame is filled
pub fill_leads : Facts → (w : World) (g : Holdings) (content : ℕ → ℕ → List ℕ) (forced : ℕ → ℕ) (h k : Held) (d : Drive) (v : event.World) (at : ℕ) (out : Sent) (a : Answered) (told : Told)
    → Now w g content forced h d → (lawful : FillsFrame h.marks at out) → a ≢ answered.Failed → v.facility ≡ g.facility → RunsCall d h (intent.ReadPage at) (sent.ReadPage lawful.page) a told v.drive k → Leads w v g content forced h k
fill_leads facts w g content forced h k d v at out a told b lawful works same r =
    let p = lawful.page in
    let n = page_number p in
    let m = h.marks.member in
    let l = is_within h at p b.begins.up.each lawful.placed in
    let done = was_done r.after k (intent.ReadPage at) r.done a told works r.stores in
    let frame : ReadsFrame true d h at p (Ok tt) v.drive r.after =
    subst (λ z. ReadsFrame z d h at p (Ok tt) v.drive r.after) (lt-ltb at (length h.pages) l)
    (subst (λ z. ReadsFrame (nat_lt at (length h.pages)) d h at p z v.drive r.after) done.0 r.calls) in
    let into : ReadsInto d h at p (Ok tt) v.drive r.after = frame in
    let next = went_on d v.drive g.disk b.drive (λ x y. (y ≡ x) × (bytes_in r.after at ≡ page_on x.pages p)) into.0.ok.2 in
    let bytes : bytes_in r.after at ≡ g.disk n = next.2.1 ∙ ap (page_on b.drive.contents.pages) (sym (facts.numbers.named p)) ∙ b.drive.each n in
    let end = with_marks (with_page h at (g.disk n)) (after_filled h.marks at true) in
    let is : k ≡ end = done.1 ∙ ap (λ (z : Held). with_marks z (after_filled z.marks at true)) (into.1 ∙ ap (with_page h at) bytes) in
    subst (λ z. Leads w v g content forced h z) (sym is)
    (behind_leads facts w g content forced h end d v b
    (subst (λ f. Goes w content forced (behind g f m (kept_of end)) h.marks (kept_of end)) (sym same) (facts.fill w g content forced (kept_of h) at out b.begins lawful))
    (same_standings g.facility v.facility same) (subst (λ (f : Facility). IsSound f.directory) (sym same) b.begins.sound)
    (shows_same d v.drive g.disk b.drive next.0 next.1 (ap (λ (z : Contents). z.pages) next.2.0)) refl refl)

-- ---- the log is appended
others_forced : (g : Holdings) (forced : ℕ → ℕ) (m last : ℕ) → SameOthers g (all_forced g m) forced (put forced m last) m
others_forced g forced m last = record {
  members = refl;
  statuses = λ k l ne. refl;
  counter = omega arith;
  log = λ k ne. put_other forced m k last ne;
  stable = λ k ne. put_other g.stable m k (g.written m) ne;
  written = λ k ne. refl;
  copies = λ k n ne. refl;
  casts = λ k n ne. refl;
  keeps = λ k n ne e. e;
  takes = λ k n ne e. e;
}

pub append_leads : Facts → (w : World) (g : Holdings) (content : ℕ → ℕ → List ℕ) (forced : ℕ → ℕ) (h k : Held) (d : Drive) (v : event.World) (out : Sent) (a : Answered) (told : Told)
    → Now w g content forced h d → AppendsLog h.marks out → a ≢ answered.Failed → v.facility ≡ g.facility → RunsCall d h intent.Append sent.AppendLog a told v.drive k → Leads w v g content forced h k
append_leads facts w g content forced h k d v out a told b lawful works same r =
    let m = h.marks.member in
    let done = was_done r.after k intent.Append r.done a told works r.stores in
    let calls = subst (λ z. Appends d h z v.drive r.after) done.0 r.calls in
    let next = went_on d v.drive g.disk b.drive (λ x y. y ≡ with_log x m (log_of x.logs m ++ h.marks.log.pending)) calls.0.ok.2 in
    let end = with_marks h (after_append h.marks) in
    let is : k ≡ end = done.1 ∙ ap (λ (z : Held). with_marks z (after_append z.marks)) calls.1 in
    subst (λ z. Leads w v g content forced h z) (sym is)
    (made facts.good w v g (all_forced g m) content content forced (put forced m h.marks.log.last) h end b.begins (facts.append w g content forced (kept_of h) out b.begins lawful)
    (sym same) (shows_same d v.drive g.disk b.drive next.0 next.1 (ap (λ (z : Contents). z.pages) next.2)) b.cast b.begins.sound
    (others_forced g forced m h.marks.log.last) (λ n i l. refl))
