-- Names of pages, and records that a log may hold.
use Rattle.std.proofs.Common.{◌≡◌, ℕ, zero, suc, ◌<◌, Bool, true, false, List, [], ◌∷◌, length, get_or, refl, arith}
use Rattle.std.specs.List.{AllByRecursion}
use Rattle.ds_base.specs.Pages.{same_page}
use Rattle.ds_base.specs.declared.names.PageId.{PageId}
use Rattle.ds_model.specs.declared.log.LogRecord.{LogRecord}
use Rattle.ds_model.specs.RecordBytes.{IsAllowed}

pub decide : (b : Bool) (P : Type 0) → (b ≡ true → P) → (b ≡ false → P) → P
decide true P f g = f refl
decide false P f g = g refl

pub same_name : (a b : PageId) → same_page a b ≡ true → a ≡ b
same_name a b h =
    let p : a.set ≡ b.set = grind arith in
    let q : a.number ≡ b.number = grind arith in
    λ i. record { set = p i; number = q i }

pub allowed_at : (rs : List LogRecord) (k : ℕ) (r : LogRecord) → AllByRecursion IsAllowed rs → k < length rs → IsAllowed (get_or rs k r)
allowed_at [] k r h lt = absurd (omega arith)
allowed_at (x ∷ rs) zero r h lt = h.0
allowed_at (x ∷ rs) (suc k) r h lt = allowed_at rs k r h.1 (omega arith)
