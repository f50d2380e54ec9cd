-- Disks whose pages of version 1 have numbers of the format.
use Rattle.std.proofs.Common.{◌≡◌, ◌+◌, ◌<◌, ◌≤◌, ℕ, ◌^◌, true, List, drop, sym, ap, subst, arith, lit≤}
use Rattle.std.specs.Prelude.{◌==◌, if◌then◌else◌, slice_index}
use Rattle.std.proofs.lemmas.Bool.{eqb-true, both_ways}
use Rattle.std.proofs.lemmas.List.{get_or-drop}
use Rattle.byteorder.specs.Endian.{big_number}
use Rattle.byteorder.specs.Numbers.{big_from-lt}
use Rattle.ds_base.specs.Ids.{IsLrsn}
use Rattle.ds_base.specs.declared.names.PageId.{PageId}
use Rattle.ds_disk.specs.Pages.{AreBytes, page_at}
use Rattle.page_format.specs.Fields.{version_at, width_in, lrsn_of, is_old}
use Rattle.restart_plan.specs.Renewal.{must_renew}
use Rattle.sound_restarts.proofs.Page_writes.{put_has}
use Rattle.restart_soundness.specs.Runs.{BytesAreNumbered, RenewedAreNumbered, SoundDisksBegin, UnaskedDisksBegin, NewDisksBegin, WritesStayNumbered, LeftDisksAreSound}

-- ---- six bytes

behind : (k : ℕ) (bytes : List ℕ) → AreBytes bytes → AreBytes (drop k bytes)
behind k bytes are i = subst (λ (b : ℕ). b < 256) (sym (get_or-drop k bytes i 0)) (are (k + i))

old_width : (page : List ℕ) → is_old page ≡ true → width_in page ≡ 6
old_width page old = ap (λ (v : ℕ). if v == 2 then 10 else 6) (eqb-true (slice_index page version_at) 1 old)

-- so many bytes are less than so many more
below : (n m k : ℕ) → n < m → m ≤ k → n < k
below n m k lt le = omega arith

in_width : (w : ℕ) (page : List ℕ) → AreBytes page → w ≡ 6 → big_number w (drop 16 page) < 256 ^ 6
in_width w page are six = subst (λ (k : ℕ). big_number w (drop 16 page) < 256 ^ k) six (big_from-lt 0 w (drop 16 page) (behind 16 page are))

old_number : (page : List ℕ) → AreBytes page → is_old page ≡ true → IsLrsn (lrsn_of page)
old_number page are old = below (lrsn_of page) (256 ^ 6) (2 ^ 80) (in_width (width_in page) page are (old_width page old)) (lit≤ tt)

pub bytes_are_numbered : BytesAreNumbered
bytes_are_numbered c are = λ id old. old_number (page_at c.pages id) (are id) old

-- ---- none of version 1

pub renewed_are_numbered : RenewedAreNumbered
renewed_are_numbered c logs sound none = λ id old. absurd (both_ways (must_renew logs) none ((sound.versions id).renewing old))

-- ---- sound disks

pub sound_disks_begin : SoundDisksBegin
sound_disks_begin c are is = record { logs = is.logs; now = record { sound = is.sound; numbered = bytes_are_numbered c are } }

pub unasked_disks_begin : UnaskedDisksBegin
unasked_disks_begin c logs sound none = record { logs = logs; now = record { sound = sound; numbered = renewed_are_numbered c logs sound none } }

pub new_disks_begin : NewDisksBegin
new_disks_begin c none is = record { logs = is.logs; now = record { sound = is.sound; numbered = λ id old. absurd (both_ways (is_old (page_at c.pages id)) (none id) old) } }

pub left_disks_are_sound : LeftDisksAreSound
left_disks_are_sound c is = record { logs = is.logs; sound = is.now.sound }

-- ---- writes

abbrev IsNumbered : PageId → List ℕ → Type 0
IsNumbered id page = is_old page ≡ true → IsLrsn (lrsn_of page)

pub writes_stay_numbered : WritesStayNumbered
writes_stay_numbered c id page are numbered = λ q. put_has IsNumbered c id q page (old_number page are) (λ other. numbered q)
