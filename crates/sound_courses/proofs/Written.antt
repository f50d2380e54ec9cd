-- A sound disk behind a page that is written as all records leave it.
use Rattle.std.proofs.Common.{◌≡◌, ℕ, ◌≤◌, true, false, List, [], ◌∷◌, length, inl, inr, sym, ap, ◌∙◌, arith}
use Rattle.std.proofs.lemmas.Bool.{both_ways, cases_Bool}
use Rattle.ds_base.specs.Pages.{same_page}
use Rattle.ds_base.specs.declared.names.PageId.{PageId}
use Rattle.ds_disk.specs.Contents.{Contents}
use Rattle.log_record.specs.declared.log.Log.{Log}
use Rattle.page_format.specs.Fields.{lrsn_of, is_old, renewed}
use Rattle.group_restart.specs.Machine.{Restart}
use Rattle.sound_disk.specs.Versions.{current, last_images}
use Rattle.sound_restarts.specs.Redo.{IsSoundNow, with_page, IsLast, LastKeeps}
use Rattle.sound_restarts.specs.Undo.{AreLast}
use Rattle.sound_restarts.proofs.Brought.{current_old}
use Rattle.sound_restarts.proofs.Page_writes.{put_here, put_has}
use Rattle.sound_restarts.proofs.Versions.{stamp_new}
use Rattle.sound_courses.specs.Standing.{NoneIsOld, Stands, Rests}

-- ---- the page as all records leave it is of the version that is written

old_length : (page : List ℕ) → is_old page ≡ true → 6 ≤ length page
old_length [] e = absurd cc
old_length (a ∷ []) e = absurd cc
old_length (a ∷ b ∷ []) e = absurd cc
old_length (a ∷ b ∷ c ∷ []) e = absurd cc
old_length (a ∷ b ∷ c ∷ d ∷ []) e = absurd cc
old_length (a ∷ b ∷ c ∷ d ∷ e' ∷ []) e = absurd cc
old_length (a ∷ b ∷ c ∷ d ∷ e' ∷ f ∷ page) e = omega arith

pub renewed_new : (page : List ℕ) → is_old page ≡ true → is_old (renewed page) ≡ false
unfolding renewed
renewed_new page e = stamp_new page (lrsn_of page) (old_length page e)

last_current : LastKeeps → (c : Contents) (logs : List Log) (id : PageId) → IsSoundNow c logs → current (last_images logs id) ≡ last_images logs id
last_current law c logs id now = ap current (sym (put_here c id (last_images logs id))) ∙ (law c logs id now).1

new_if : (page : List ℕ) → current page ≡ page → is_old page ≡ false
new_if page same = elim (cases_Bool (is_old page)) as (λ _. is_old page ≡ false) [
  | inl old ↦ absurd (both_ways (is_old page) (ap is_old (sym same ∙ current_old page old) ∙ renewed_new page old) old)
  | inr new ↦ new
]

pub last_is_new : LastKeeps → (c : Contents) (logs : List Log) (id : PageId) → IsSoundNow c logs → is_old (last_images logs id) ≡ false
last_is_new law c logs id now = new_if (last_images logs id) (last_current law c logs id now)

-- ---- the disk

none_old_with : LastKeeps → (c : Contents) (logs : List Log) (page : PageId) → IsSoundNow c logs → NoneIsOld c → NoneIsOld (with_page c page (last_images logs page))
none_old_with law c logs page now new id = put_has (λ (n : PageId) (p : List ℕ). is_old p ≡ false) c page id (last_images logs page) (last_is_new law c logs page now) (λ _. new id)

last_with : LastKeeps → (c : Contents) (logs : List Log) (page : PageId) → IsSoundNow c logs → ((id : PageId) → same_page page id ≡ false → IsLast c logs id) → AreLast (with_page c page (last_images logs page)) logs
last_with law c logs page now others id = put_has (λ (n : PageId) (p : List ℕ). current p ≡ last_images logs n) c page id (last_images logs page) (last_current law c logs page now) (others id)

-- where all other pages are as all records leave them, all are
pub written_rests : LastKeeps → (h : Restart) (c : Contents) (logs : List Log) (page : PageId) → Stands h c logs → ((id : PageId) → same_page page id ≡ false → IsLast c logs id) → Rests h (with_page c page (last_images logs page)) logs
written_rests law h c logs page s others = record {
  stands = record {
    sound = record { now = (law c logs page s.sound.now).0; tails = s.sound.tails };
    ends = s.ends;
    endings = s.endings;
    renews = λ none. none_old_with law c logs page s.sound.now (s.renews none);
  };
  last = last_with law c logs page s.sound.now others;
}
