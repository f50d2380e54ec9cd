-- What a copy comes to, behind the group restart and the reading of the logs.
use Rattle.std.proofs.Common.{◌≡◌, ℕ, ◌≤◌, List, Option, Some, None, Result, Ok, Err, refl, sym, ap, subst, arith}
use Rattle.std.specs.Io.KnownBytes.{Appends}
use Rattle.ds_base.specs.Causes.{Rose}
use Rattle.ds_base.specs.declared.names.Volume.{Volume}
use Rattle.ds_disk.specs.Contents.{Contents, WhenTold, Becomes, Same}
use Rattle.ds_disk.specs.Pages.{page_at}
use Rattle.disk_restart.specs.Keeping.{KeepsRecords}
use Rattle.table_image_text.specs.Image.{image_of}
use Rattle.table_copy.specs.Looking.{TakesFront}
use Rattle.table_copy.specs.Copying.{IsWrong, CopiesTable}
use Rattle.table_copy.specs.Copying.{IsCopied as AreCopiedPages}
use Rattle.table_copy.specs.declared.fault.CopyFault.{CopyFault}
use Rattle.table_copy.specs.declared.fault.CopyFault.TheVariants as fault
use Rattle.disk_orders.specs.Numbers.{IsGreatest}
use Rattle.disk_orders.specs.Restarting.{Opens}
use Rattle.disk_orders.specs.Copying.{SinkAround, TakesOf, HasCause, IsMet, IsCopied}
use Rattle.disk_orders.specs.declared.copies.Copied.{Copied}
use Rattle.disk_orders.specs.declared.copies.Copied.TheVariants as copied
use Rattle.disk_orders.proofs.Told.{err, stays_on, rose_on}

abbrev pub around : Option Contents → ℕ → Option (List ℕ) → ℕ → SinkAround
around contents disk_faults taken sink_faults = record { contents = contents; disk_faults = disk_faults; taken = taken; sink_faults = sink_faults }

-- the cause of each fault that a copy may meet
cause : (before after : SinkAround) (why : CopyFault) → (why ≡ fault.Disk → Rose before.disk_faults after.disk_faults) → (why ≡ fault.Sink → Rose before.sink_faults after.sink_faults)
    → (why ≡ fault.Source → ⊥) → ((at : ℕ) → why ≡ fault.Image at → ⊥) → HasCause before after why
cause before after fault.Source disk sink source image = source refl
cause before after fault.Sink disk sink source image = sink refl
cause before after fault.Disk disk sink source image = disk refl
cause before after (fault.Damaged volume at) disk sink source image = tt
cause before after (fault.Image at) disk sink source image = image at refl
cause before after fault.NoMemory disk sink source image = tt

-- nothing of the image was written
pub not_begun : (table : ℕ) (a b : Option Contents) (f g : ℕ) (t : Option (List ℕ)) (s : ℕ) (why : CopyFault) → Opens a b f g (Err why) → IsCopied table (around a f t s) (around b g t s) (copied.Unopened why)
not_begun table a b f g t s why h = record {
  comes = (
    cause (around a f t s) (around b g t s) why (λ e. h.disk_failed (err why fault.Disk e)) (λ e. absurd (h.no_sink (err why fault.Sink e))) (λ e. h.no_source (err why fault.Source e)) (λ at e. h.no_image at (err why (fault.Image at) e)),
    ((λ e. h.no_sink (err why fault.Sink e)), (refl, refl)),
  );
  keeps = h.keeps;
  disk_later = h.later;
  sink_later = omega arith;
}

-- the image that was written is that of the disk behind the restart
abbrev pub TakesAll : ℕ → ℕ → Option (List ℕ) → Option (List ℕ) → Contents → Type 0
TakesAll table pages t u c = AreCopiedPages (page_at c.pages) table pages × TakesOf (Appends t u) c table

-- a fact of the disk behind the copy by two of it before
behind : (a b c : Option Contents) (P Q R : Contents → Type 0) → ((x : Contents) → P x → Q x → R x) → Becomes a b (λ was x. P x) → WhenTold b Q → Becomes b c Same → Becomes a c (λ was x. R x)
behind None b c P Q R f p q same = tt
behind (Some x) None c P Q R f p q same = absurd p
behind (Some x) (Some y) None P Q R f p q same = absurd same
behind (Some x) (Some y) (Some z) P Q R f p q same = subst R (sym same) (f y p q)

pub whole : (table lrsn pages : ℕ) (a b c : Option Contents) (f g k : ℕ) (t u : Option (List ℕ)) (s v : ℕ) → Opens a b f g (Ok lrsn) → CopiesTable table lrsn (around b g t s) (around c k u v) (Ok pages)
    → IsCopied table (around a f t s) (around c k u v) (copied.Whole pages)
whole table lrsn pages a b c f g k t u s v h made = record {
  comes = behind a b c (λ x. IsGreatest x lrsn) (λ x. AreCopiedPages (page_at x.pages) table pages × Appends t u (image_of (page_at x.pages) table lrsn)) (TakesAll table pages t u)
      (λ x is has. (has.0, record { lrsn = lrsn; greatest = is; takes = has.1 })) h.greatest made.ok made.same;
  keeps = stays_on a b c KeepsRecords h.keeps made.same;
  disk_later = omega (arith, h.later, made.disk_later);
  sink_later = made.sink_later;
}

-- ---- a front of it

-- a fault of the copy, and a front of the image
abbrev pub TakesSome : ℕ → CopyFault → Option (List ℕ) → Option (List ℕ) → Contents → Type 0
TakesSome table why t u c = IsMet table why c × TakesOf (TakesFront t u) c table

-- damage that is met in the writing is that of a page
met : (table : ℕ) (b : Option Contents) (why : CopyFault) → ((v : Volume) (at : ℕ) → why ≡ fault.Damaged v at → WhenTold b (λ x. IsWrong (page_at x.pages) table v at)) → WhenTold b (IsMet table why)
met table None why h = tt
met table (Some x) fault.Source h = tt
met table (Some x) fault.Sink h = tt
met table (Some x) fault.Disk h = tt
met table (Some x) (fault.Damaged v at) h = h v at refl
met table (Some x) (fault.Image at) h = tt
met table (Some x) fault.NoMemory h = tt

both : (b : Option Contents) (P Q : Contents → Type 0) → WhenTold b P → WhenTold b Q → WhenTold b (λ x. P x × Q x)
both None P Q p q = tt
both (Some x) P Q p q = (p, q)

pub broken : (table lrsn : ℕ) (why : CopyFault) (a b c : Option Contents) (f g k : ℕ) (t u : Option (List ℕ)) (s v : ℕ) → Opens a b f g (Ok lrsn) → CopiesTable table lrsn (around b g t s) (around c k u v) (Err why)
    → IsCopied table (around a f t s) (around c k u v) (copied.Broken why)
broken table lrsn why a b c f g k t u s v h made = record {
  comes = (
    cause (around a f t s) (around c k u v) why (λ e. rose_on f g k h.later (made.disk_failed (err why fault.Disk e))) (λ e. made.sink_failed (err why fault.Sink e)) (λ e. made.no_source (err why fault.Source e)) (λ at e. made.no_image at (err why (fault.Image at) e)),
    behind a b c (λ x. IsGreatest x lrsn) (λ x. IsMet table why x × TakesFront t u (image_of (page_at x.pages) table lrsn)) (TakesSome table why t u)
        (λ x is has. (has.0, record { lrsn = lrsn; greatest = is; takes = has.1 })) h.greatest
        (both b (IsMet table why) (λ x. TakesFront t u (image_of (page_at x.pages) table lrsn)) (met table b why (λ w at e. made.damaged w at (err why (fault.Damaged w at) e))) made.front) made.same,
  );
  keeps = stays_on a b c KeepsRecords h.keeps made.same;
  disk_later = omega (arith, h.later, made.disk_later);
  sink_later = made.sink_later;
}
