-- What the frames of a group's members are worth.
use Rattle.std.proofs.Common.{◌≡◌, ℕ, ◌+◌, refl, sym, ◌∙◌, ap, subst, Bool, true, false, Option, Some}
use Rattle.std.specs.Prelude.{◌&&◌, ◌||◌, IfSome, unwrap_or}
use Rattle.std.proofs.lemmas.Bool.{both_ways}
use Rattle.std.proofs.lemmas.Option.{same_Some}
use Rattle.ds_base.specs.declared.names.PageId.{PageId}
use Rattle.ds_disk.specs.Contents.{Contents}
use Rattle.ds_disk.specs.Pages as disk
use Rattle.cache_structure.specs.Directory.{bit, bytes_of, is_changed, is_registered}
use Rattle.list_structure.specs.Standings.{status_of}
use Rattle.member_pool.specs.Frames.{find_page}
use Rattle.member_marks.specs.Claims.{has_page}
use Rattle.member_marks.specs.Frames.{frame_in}
use Rattle.page_owners.specs.Given.{Drive, Held, IsUp, Member, copy_in, kept_of}
use Rattle.group_locks.specs.Given.{CrewState}
use Rattle.page_protocol.specs.Moves.{World}
use Rattle.page_world.specs.Holdings.{Copy, Holdings}
use Rattle.page_world.specs.Newest.{CleanIsOnDisk, ValidIsNewest, group_bytes}
use Rattle.page_world.specs.Numbers.{AreNumbered, page_at, page_number}
use Rattle.page_world.proofs.Reading.{coherent}
use Rattle.group_pages.specs.Newest.{ChangesOwn, CleanIsWritten, IsUpAt, LostUsesNone, OwnAlone, ReadsNewest, TiedIsSound, copy_of}
use Rattle.group_pages.specs.Stands.{CrewPages, MemberPages, PagesTied, UpPages}

pub record Facts : Type 0 where
  pub valid : ValidIsNewest
  pub clean : CleanIsOnDisk
  pub numbers : AreNumbered

or_second : (x y : Bool) → y ≡ true → (x || y) ≡ true
or_second true y h = refl
or_second false y h = h

all_set : (x y z : Bool) → x ≡ true → y ≡ true → z ≡ true → (x && (y && z)) ≡ true
all_set true true z a b c = c
all_set true false z a b c = b
all_set false y z a b c = a

-- ---- a member that is up

is_up : (d : Drive) (s : CrewState) (w : World) (t : PagesTied d s w) (at : ℕ) (m : Member) → IsUpAt s at m → UpPages t.holdings t.forced m.holds
is_up d s w t at m u =
    let held : MemberPages t.holdings t.forced (at + 1) m = subst (λ (o : Option Member). IfSome o (MemberPages t.holdings t.forced (at + 1))) u.there (t.pages.members at) in
    held.up (ap (λ f. status_of f.lists.statuses (at + 1)) t.pages.facility ∙ u.up)

-- its copy of a page is what is in the frame that has it
copy_is : (f : Facts) (g : Holdings) (forced : ℕ → ℕ) (h : Held) (index : ℕ) (id : PageId) → IsUp g forced (kept_of h) → find_page h.marks.heads.frames id ≡ Some index
    → g.copies h.marks.member (page_number id) ≡ copy_in h.marks.heads h.pages (Some index)
copy_is f g forced h index id up e =
    up.copies (page_number id) ∙ ap (λ (p : PageId). copy_in h.marks.heads h.pages (find_page h.marks.heads.frames p)) (f.numbers.named id) ∙ ap (copy_in h.marks.heads h.pages) e

-- ---- the group's copy

disk_is : (f : Facts) (d : Drive) (s : CrewState) (w : World) (c : Contents) (id : PageId) → d.contents ≡ Some c → (t : PagesTied d s w) → t.holdings.disk (page_number id) ≡ disk.page_at c.pages id
disk_is f d s w c id e t =
    let shown = t.pages.drive in
    sym (shown.each (page_number id)) ∙ ap (disk.page_at shown.contents.pages) (f.numbers.named id) ∙ ap (λ (x : Contents). disk.page_at x.pages id) (same_Some _ _ (sym shown.told ∙ e))

group_is : (f : Facts) (d : Drive) (s : CrewState) (w : World) (c : Contents) (id : PageId) → d.contents ≡ Some c → (t : PagesTied d s w) → group_bytes t.holdings (page_number id) ≡ copy_of c s.facility id
group_is f d s w c id e t =
    let g = t.holdings in
    ap (λ (p : PageId). unwrap_or (bytes_of g.facility.directory p) (g.disk (page_number id))) (f.numbers.named id)
    ∙ ap (λ x. unwrap_or (bytes_of x.directory id) (g.disk (page_number id))) t.pages.facility
    ∙ ap (unwrap_or (bytes_of s.facility.directory id)) (disk_is f d s w c id e t)

-- ---- what holds

newest : (f : Facts) (d : Drive) (s : CrewState) (w : World) (c : Contents) → d.contents ≡ Some c → PagesTied d s w → ReadsNewest c s
newest f d s w c e t at index m id u may clean =
    let g = t.holdings in
    let n = page_number id in
    let k = m.holds.marks.member in
    let it = copy_is f g t.forced m.holds index id (is_up d s w t at m u).up may.has.page in
    sym (ap (λ (x : Copy). x.bytes) it)
    ∙ f.valid w g t.versions k n index t.pages.group.good t.pages.group.tied
    (record { placed = ap (λ (x : Copy). x.placed) it; at = ap (λ (x : Copy). x.index) it })
    (ap (λ (x : Copy). x.noted) it ∙ or_second (frame_in m.holds.marks.heads index).registered (frame_in m.holds.marks.heads index).filled may.has.filled)
    (ap (λ (x : Copy). x.filled) it ∙ may.has.filled)
    (ap (λ (x : Copy). x.marked) it ∙ clean)
    (ap (λ x. bit x.directory k index) t.pages.facility ∙ may.valid)
    ∙ group_is f d s w c id e t

own : (f : Facts) (d : Drive) (s : CrewState) (w : World) → PagesTied d s w → ChangesOwn s
own f d s w t at index m id u e changed = by (has_page m.holds.marks id) refl
  where
    g : Holdings
    g = t.holdings

    up : IsUp g t.forced (kept_of m.holds)
    up = (is_up d s w t at m u).up

    it : g.copies m.holds.marks.member (page_number id) ≡ copy_in m.holds.marks.heads m.holds.pages (Some index)
    it = copy_is f g t.forced m.holds index id up e

    owned : g.owner (page_number id) ≡ Some m.holds.marks.member
    owned =
        let tp = t.pages.group.tied.pages (page_number id) in
        sym tp.owner ∙ (coherent w g t.versions t.pages.group.good t.pages.group.tied (page_number id)).marked_own m.holds.marks.member (sym (tp.marked m.holds.marks.member) ∙ ap (λ (x : Copy). x.marked) it ∙ changed)

    by : (b : Bool) → has_page m.holds.marks id ≡ b → has_page m.holds.marks id ≡ true
    by true h = h
    by false h = absurd (up.no_more (page_number id) (ap (has_page m.holds.marks) (f.numbers.named id) ∙ h) owned)

alone : (f : Facts) (d : Drive) (s : CrewState) (w : World) → PagesTied d s w → OwnAlone s
alone f d s w t a b m n id ua ub ha hb =
    let left = (is_up d s w t a m ua).up.owns (page_number id) (ap (has_page m.holds.marks) (f.numbers.named id) ∙ ha) in
    let right = (is_up d s w t b n ub).up.owns (page_number id) (ap (has_page n.holds.marks) (f.numbers.named id) ∙ hb) in
    same_Some _ _ (sym left ∙ right)

written : (f : Facts) (d : Drive) (s : CrewState) (w : World) (c : Contents) → d.contents ≡ Some c → PagesTied d s w → CleanIsWritten c s
written f d s w c e t id clean =
    let g = t.holdings in
    sym (group_is f d s w c id e t)
    ∙ f.clean w g t.versions (page_number id) t.pages.group.good t.pages.group.tied
    (ap (λ x. is_changed x.directory (page_at (page_number id))) t.pages.facility ∙ ap (is_changed s.facility.directory) (f.numbers.named id) ∙ clean)
    ∙ disk_is f d s w c id e t

none : (f : Facts) (d : Drive) (s : CrewState) (w : World) → PagesTied d s w → LostUsesNone s
none f d s w t at index m id lost u may =
    let g = t.holdings in
    let n = page_number id in
    let k = m.holds.marks.member in
    let it = copy_is f g t.forced m.holds index id (is_up d s w t at m u).up may.has.page in
    let tp = t.pages.group.tied.pages n in
    let co = coherent w g t.versions t.pages.group.good t.pages.group.tied n in
    let copy = g.copies k n in
    let placed : copy.placed ≡ true = ap (λ (x : Copy). x.placed) it in
    let noted : copy.noted ≡ true = ap (λ (x : Copy). x.noted) it ∙ or_second (frame_in m.holds.marks.heads index).registered (frame_in m.holds.marks.heads index).filled may.has.filled in
    let set : bit g.facility.directory k copy.index ≡ true = ap (bit g.facility.directory k) (ap (λ (x : Copy). x.index) it) ∙ ap (λ x. bit x.directory k index) t.pages.facility ∙ may.valid in
    let bound = is_registered g.facility.directory (page_at n) k copy.index in
    let held : (w.pages n).bit k ≡ true = sym (tp.bit k) ∙ all_set copy.placed copy.noted bound placed noted (tp.own k placed noted set) in
    absurd (both_ways ((w.pages n).bit k) (co.lost_bits k (t.pages.group.tied.lost ∙ ap (λ x. x.directory.lost) t.pages.facility ∙ lost)) held)

pub sound : Facts → TiedIsSound
sound f d s w c e t = record {
  newest = newest f d s w c e t;
  own = own f d s w t;
  alone = alone f d s w t;
  clean = written f d s w c e t;
  lost = none f d s w t;
}
