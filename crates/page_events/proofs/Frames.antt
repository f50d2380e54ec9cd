-- Commands about frames: a page is read, tested and written, and a frame is made free.
use Rattle.std.proofs.Common.{◌≡◌, ℕ, zero, suc, ◌<◌, refl, sym, ◌∙◌, ap, subst, Bool, true, false, List, [], ◌∷◌, length, slice_set, Option, arith}
use Rattle.std.specs.Prelude.{nat_lt, slice_index_or}
use Rattle.std.proofs.lemmas.Bool.{both_ways, cond-true, cond-false, lt-ltb}
use Rattle.cache_structure.specs.Directory.{Directory, after_read, after_unregister, after_write}
use Rattle.cache_structure.specs.Sound.{IsSound}
use Rattle.facility.specs.declared.command.Command.TheVariants as command
use Rattle.facility.specs.States.{Held as Facility}
use Rattle.member_intents.specs.declared.intent.Intent.TheVariants as intent
use Rattle.member_intents.specs.declared.outcome.Answered.{Answered}
use Rattle.member_intents.specs.declared.outcome.Sent.{Sent}
use Rattle.member_marks.specs.Frames.{frame_in}
use Rattle.member_needs.specs.declared.plans.Plan.{Plan}
use Rattle.member_effects.specs.declared.told.Told.{Told}
use Rattle.member_effects.specs.Frames.{read_after, tested_after, unregistered_after, written_after}
use Rattle.needs_law.specs.Lawful.{FreesFrame, ReadsFrame, TestsFrame, WritesFrame}
use Rattle.member_resources.specs.declared.lending.Lent.{Lent}
use Rattle.member_resources.specs.declared.lending.Lent.TheVariants as lent
use Rattle.member_resources.specs.Held.{Held, with_marks}
use Rattle.member_resources.specs.Settled.{kept_of}
use Rattle.member_resources.specs.Lending.{Executed, framed, lent_of, page_at as bytes_in, with_page}
use Rattle.member_resources.specs.Events as event
use Rattle.member_resources.specs.Events.{Drive, RunsCommand}
use Rattle.page_protocol.specs.Moves.{World}
use Rattle.page_world.specs.Holdings.{Holdings}
use Rattle.page_intents.specs.Stands.{behind, Goes}
use Rattle.page_intents.specs.Frames.{read_pages}
use Rattle.page_events.specs.Beside.{Shows, Leads}
use Rattle.page_events.proofs.Facts.{Facts}
use Rattle.page_events.proofs.Made.{KeepsStandings, Now, behind_leads}
use Rattle.page_events.proofs.Calls.{is_within, same_standings}

-- ---- the directory alone changes
pub directory_standings : (f v : Facility) (x : Directory) → v ≡ record f { directory = x } → KeepsStandings f v
directory_standings f v x e = subst (λ z. KeepsStandings f z) (sym e) (record { members = refl; statuses = refl; counter = omega arith })

pub directory_sound : (f v : Facility) (x : Directory) → v ≡ record f { directory = x } → IsSound x → IsSound v.directory
directory_sound f v x e s = subst (λ (z : Facility). IsSound z.directory) (sym e) s

pub drive_on : (d e : Drive) (pages : ℕ → List ℕ) → e ≡ d → Shows d pages → Shows e pages
drive_on d e pages same s = subst (λ z. Shows z pages) (sym same) s

-- ---- the frame is lent
framed_is : (h : Held) (at : ℕ) → at < length h.pages → framed h at ≡ lent.Frame at
framed_is h at l = cond-true (nat_lt at (length h.pages)) (lent.Frame at) lent.Spare (lt-ltb at (length h.pages) l)

set_itself : (xs : List (List ℕ)) (at : ℕ) → slice_set xs at (slice_index_or xs at []) ≡ xs
set_itself [] at = refl
set_itself (x ∷ xs) zero = refl
set_itself (x ∷ xs) (suc at) = ap (λ ys. x ∷ ys) (set_itself xs at)

-- ---- a page is read
pub read_leads : Facts → (w : World) (g : Holdings) (content : ℕ → ℕ → List ℕ) (forced : ℕ → ℕ) (h k : Held) (d : Drive) (v : event.World) (at : ℕ) (out : Sent) (p : Plan) (place : ℕ) (a : Answered) (told : Told)
    → Now w g content forced h d → (lawful : ReadsFrame h.marks at out) → v.drive ≡ d → RunsCommand g.facility h (intent.Read at) (command.Read lawful.page at) p place a told v.facility k → Leads w v g content forced h k
read_leads facts w g content forced h k d v at out p place a told b lawful drive r = by (frame_in h.marks.heads at).changed refl
  where
    ran : (x : Lent) → lent_of h (command.Read lawful.page at) ≡ x → Executed h g.facility (command.Read lawful.page at) x r.answer r.after v.facility
    ran x e = subst (λ l. Executed h g.facility (command.Read lawful.page at) l r.answer r.after v.facility) e r.gives.executed

    by : (x : Bool) → (frame_in h.marks.heads at).changed ≡ x → Leads w v g content forced h k
    by true e =
        let it = ran lent.Spare (cond-true (frame_in h.marks.heads at).changed lent.Spare (framed h at) e) in
        let end = with_marks (record h { spare = r.after.spare }) (read_after h.marks at r.answer) in
        let is : k ≡ end = r.settles.1 ∙ ap (λ (z : Held). with_marks z (read_after z.marks at r.answer)) it.back in
        let pages : read_pages (kept_of h) at r.after.spare ≡ h.pages = cond-true (frame_in h.marks.heads at).changed h.pages (slice_set h.pages at r.after.spare) e in
        let goes = facts.read w g content forced (kept_of h) at out h.spare r.after.spare r.answer v.facility b.begins lawful (λ z. absurd (both_ways (frame_in h.marks.heads at).changed z e)) it.executes in
        subst (λ z. Leads w v g content forced h z) (sym is)
        (behind_leads facts w g content forced h end d v b
        (subst (λ ps. Goes w content forced (behind g v.facility h.marks.member (record { marks = read_after h.marks at r.answer; pages = ps })) h.marks (record { marks = read_after h.marks at r.answer; pages = ps })) pages goes)
        (directory_standings g.facility v.facility (after_read g.facility.directory h.marks.member lawful.page at) it.executes.1)
        (directory_sound g.facility v.facility (after_read g.facility.directory h.marks.member lawful.page at) it.executes.1 (facts.sound.read g.facility.directory h.marks.member lawful.page at b.begins.sound))
        (drive_on d v.drive g.disk drive b.drive) refl refl)
    by false e =
        let l = is_within h at lawful.page b.begins.up.each lawful.placed in
        let it = ran (lent.Frame at) (cond-false (frame_in h.marks.heads at).changed lent.Spare (framed h at) e ∙ framed_is h at l) in
        let bytes = bytes_in r.after at in
        let end = with_marks (with_page h at bytes) (read_after h.marks at r.answer) in
        let is : k ≡ end = r.settles.1 ∙ ap (λ (z : Held). with_marks z (read_after z.marks at r.answer)) it.back in
        let pages : read_pages (kept_of h) at bytes ≡ slice_set h.pages at bytes = cond-false (frame_in h.marks.heads at).changed h.pages (slice_set h.pages at bytes) e in
        let goes = facts.read w g content forced (kept_of h) at out (bytes_in h at) bytes r.answer v.facility b.begins lawful (λ z. refl) it.executes in
        subst (λ z. Leads w v g content forced h z) (sym is)
        (behind_leads facts w g content forced h end d v b
        (subst (λ ps. Goes w content forced (behind g v.facility h.marks.member (record { marks = read_after h.marks at r.answer; pages = ps })) h.marks (record { marks = read_after h.marks at r.answer; pages = ps })) pages goes)
        (directory_standings g.facility v.facility (after_read g.facility.directory h.marks.member lawful.page at) it.executes.1)
        (directory_sound g.facility v.facility (after_read g.facility.directory h.marks.member lawful.page at) it.executes.1 (facts.sound.read g.facility.directory h.marks.member lawful.page at b.begins.sound))
        (drive_on d v.drive g.disk drive b.drive) refl refl)

-- ---- it is tested
pub test_leads : Facts → (w : World) (g : Holdings) (content : ℕ → ℕ → List ℕ) (forced : ℕ → ℕ) (h k : Held) (d : Drive) (v : event.World) (at slot : ℕ) (gives : Option ℕ) (out : Sent) (p : Plan) (place : ℕ) (a : Answered) (told : Told)
    → Now w g content forced h d → TestsFrame h.marks at slot gives out → v.drive ≡ d → RunsCommand g.facility h (intent.Test at slot gives) (command.Test at) p place a told v.facility k → Leads w v g content forced h k
test_leads facts w g content forced h k d v at slot gives out p place a told b lawful drive r =
    let it = r.gives.executed in
    let same = it.executes.0.1 in
    let end = with_marks (record h { spare = r.after.spare }) (tested_after h.marks h.pages at slot gives h.limit r.answer place) in
    let is : k ≡ end = r.settles.1 ∙ ap (λ (z : Held). with_marks z (tested_after z.marks z.pages at slot gives z.limit r.answer place)) it.back in
    subst (λ z. Leads w v g content forced h z) (sym is)
    (behind_leads facts w g content forced h end d v b (facts.test w g content forced (kept_of h) at slot gives h.limit place out r.answer v.facility b.begins lawful it.executes.0)
    (same_standings g.facility v.facility same) (subst (λ (f : Facility). IsSound f.directory) (sym same) b.begins.sound) (drive_on d v.drive g.disk drive b.drive) refl refl)

-- ---- it is written
pub write_leads : Facts → (w : World) (g : Holdings) (content : ℕ → ℕ → List ℕ) (forced : ℕ → ℕ) (h k : Held) (d : Drive) (v : event.World) (at : ℕ) (out : Sent) (p : Plan) (place : ℕ) (a : Answered) (told : Told)
    → Now w g content forced h d → (lawful : WritesFrame h.marks h.pages at out) → v.drive ≡ d → RunsCommand g.facility h (intent.WritePage at) (command.Write lawful.page at) p place a told v.facility k → Leads w v g content forced h k
write_leads facts w g content forced h k d v at out p place a told b lawful drive r =
    let m = h.marks.member in
    let l = is_within h at lawful.page b.begins.up.each lawful.placed in
    let it : Executed h g.facility (command.Write lawful.page at) (lent.Frame at) r.answer r.after v.facility =
    subst (λ x. Executed h g.facility (command.Write lawful.page at) x r.answer r.after v.facility) (framed_is h at l) r.gives.executed in
    let back : r.after ≡ h = it.back ∙ ap (with_page h at) it.executes.1 ∙ ap (λ ps. record h { pages = ps }) (set_itself h.pages at) in
    let end = with_marks h (written_after h.marks at r.answer) in
    let is : k ≡ end = r.settles.1 ∙ ap (λ (z : Held). with_marks z (written_after z.marks at r.answer)) back in
    subst (λ z. Leads w v g content forced h z) (sym is)
    (behind_leads facts w g content forced h end d v b (facts.write w g content forced (kept_of h) at out r.answer v.facility b.begins lawful it.executes.0)
    (directory_standings g.facility v.facility (after_write g.facility.directory m lawful.page at (bytes_in h at)) it.executes.0.1)
    (directory_sound g.facility v.facility (after_write g.facility.directory m lawful.page at (bytes_in h at)) it.executes.0.1 (facts.sound.write g.facility.directory m lawful.page at (bytes_in h at) b.begins.sound))
    (drive_on d v.drive g.disk drive b.drive) refl refl)

-- ---- its frame is made free
pub free_leads : Facts → (w : World) (g : Holdings) (content : ℕ → ℕ → List ℕ) (forced : ℕ → ℕ) (h k : Held) (d : Drive) (v : event.World) (at : ℕ) (out : Sent) (p : Plan) (place : ℕ) (a : Answered) (told : Told)
    → Now w g content forced h d → FreesFrame h.marks at out → v.drive ≡ d → RunsCommand g.facility h (intent.Unregister at) (command.Unregister at) p place a told v.facility k → Leads w v g content forced h k
free_leads facts w g content forced h k d v at out p place a told b lawful drive r =
    let m = h.marks.member in
    let it = r.gives.executed in
    let end = with_marks (record h { spare = r.after.spare }) (unregistered_after h.marks at r.answer) in
    let is : k ≡ end = r.settles.1 ∙ ap (λ (z : Held). with_marks z (unregistered_after z.marks at r.answer)) it.back in
    subst (λ z. Leads w v g content forced h z) (sym is)
    (behind_leads facts w g content forced h end d v b (facts.free w g content forced (kept_of h) at out r.answer v.facility b.begins lawful it.executes.0)
    (directory_standings g.facility v.facility (after_unregister g.facility.directory m at) it.executes.0.1)
    (directory_sound g.facility v.facility (after_unregister g.facility.directory m at) it.executes.0.1 (facts.sound.unregister g.facility.directory m at b.begins.sound))
    (drive_on d v.drive g.disk drive b.drive) refl refl)
