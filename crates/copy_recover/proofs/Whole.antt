-- A recovery from its parts.
use Rattle.std.proofs.Common.{◌≡◌, ℕ, ◌≤◌, List, [], Option, Some, None, Result, Ok, Err, refl, sym, ap, subst, ◌∙◌, inl, inr, arith}
use Rattle.std.specs.Prelude.{◌⊎◌}
use Rattle.ds_base.specs.Causes.{Rose}
use Rattle.ds_base.specs.declared.names.Volume.TheVariants as volume
use Rattle.ds_disk.specs.Contents.{Contents, WhenTold, Becomes, Same}
use Rattle.log_record.specs.declared.log.Log.{Log}
use Rattle.log_trans.specs.Damage.{log_damage}
use Rattle.restart_plan.specs.Plans.{plan_of}
use Rattle.restart_plan.specs.declared.plan.Plan.{Plan}
use Rattle.sound_disk.specs.Versions.{merged}
use Rattle.table_image_text.specs.Faults.{name_fault, image_fault}
use Rattle.table_copy.specs.Looking.{Looks}
use Rattle.table_copy.specs.declared.fault.CopyFault.{CopyFault}
use Rattle.table_copy.specs.declared.fault.CopyFault.TheVariants as fault
use Rattle.table_copy.proofs.Told.{same_self, as_err}
use Rattle.copy_recover.specs.Recovered.{written_names}
use Rattle.copy_recover.specs.Recovering.{AreLogsOf, greatest_of, IsRefusedAt, IsTakenWith, IsRecovered, IsDamage, IsBegun, Around, WhenBothTold, BecomesBy, Recovers}
use Rattle.copy_recover.specs.Reading.{WereLeft, ReadsImage, IsUnread, PlansBy}
use Rattle.copy_recover.specs.Writing.{AreWritten, AreBegun, Writes}
use Rattle.copy_recover.proofs.Told.{rose_from, goes_on}

abbrev pub around : Option Contents → ℕ → Option (List ℕ) → ℕ → Around
around contents disk_faults left source_faults = record { contents = contents; disk_faults = disk_faults; left = left; source_faults = source_faults }

-- ---- what the logs ask for

pub merged_in : (logs : List Log) (plan : Plan) → plan ≡ plan_of logs → plan.merged ≡ merged logs
unfolding plan_of
merged_in logs plan h = ap (λ (p : Plan). p.merged) h

pub greatest_in : (logs : List Log) (plan : Plan) → plan ≡ plan_of logs → plan.greatest.lrsn ≡ greatest_of logs
unfolding plan_of
greatest_in logs plan h = ap (λ (p : Plan). p.greatest.lrsn) h

-- ---- the disk and the source, where both tell

both_told : (d : Option Contents) (left : Option (List ℕ)) (image : List ℕ) (A : Contents → Type 0) (P : Contents → List ℕ → Type 0) → WereLeft left image
    → ((c : Contents) → A c → P c image) → WhenTold d A → WhenBothTold d left P
both_told None left image A P were f h = tt
both_told (Some c) None image A P were f h = (image, f c h)
both_told (Some c) (Some b) image A P were f h = subst (λ (x : List ℕ). P c x) (sym were) (f c h)

goes_by_both : (d e : Option Contents) (left : Option (List ℕ)) (image : List ℕ) (R : Contents → Contents → Type 0) (Q : Contents → Contents → List ℕ → Type 0) → WereLeft left image
    → ((x y : Contents) → R x y → Q x y image) → Becomes d e R → BecomesBy d e left Q
goes_by_both None e left image R Q were f h = tt
goes_by_both (Some x) None left image R Q were f h = absurd h
goes_by_both (Some x) (Some y) None image R Q were f h = (image, f x y h)
goes_by_both (Some x) (Some y) (Some b) image R Q were f h = subst (λ (i : List ℕ). Q x y i) (sym were) (f x y h)

goes_with : (d e : Option Contents) (A : Contents → Type 0) (R : Contents → Contents → Type 0) → WhenTold d A → Becomes d e R → Becomes d e (λ x y. A x × R x y)
goes_with None e A R a h = tt
goes_with (Some x) None A R a h = absurd h
goes_with (Some x) (Some y) A R a h = (a, h)

same_begun : (c : Contents) (image : List ℕ) (table : ℕ) → IsBegun c c image table
same_begun c image table = record { logs_stay = refl; each = λ q. inl refl }

-- the disk stays as it was, whatever the source had
untouched : (d e : Option Contents) (left : Option (List ℕ)) (table : ℕ) → Becomes d e Same → BecomesBy d e left (λ x y image. IsBegun x y image table)
untouched None e left table h = tt
untouched (Some x) None left table h = absurd h
untouched (Some x) (Some y) None table h = ([], subst (λ (c : Contents). IsBegun x c [] table) (sym h) (same_begun x [] table))
untouched (Some x) (Some y) (Some b) table h = subst (λ (c : Contents). IsBegun x c b table) (sym h) (same_begun x b table)

-- ---- recoveries that end before a page is written

pub wanting_all : (table : ℕ) (d e : Option Contents) (f0 f1 : ℕ) (l0 l1 : Option (List ℕ)) (s0 s1 : ℕ) → Becomes d e Same → f0 ≤ f1 → s0 ≤ s1 → Recovers table (around d f0 l0 s0) (around e f1 l1 s1) (Err fault.NoMemory)
wanting_all table d e f0 f1 l0 l1 s0 s1 same disk_le source_le = record {
  ok = tt;
  image = λ at is. absurd cc;
  damaged = λ v at is. absurd cc;
  log_damaged = λ member at is. absurd cc;
  source_failed = λ is. absurd cc;
  disk_failed = λ is. absurd cc;
  no_sink = λ is. cc;
  begun = untouched d e l0 table same;
  disk_later = disk_le;
  source_later = source_le;
}

by_source : (f : CopyFault) (s0 s1 : ℕ) → ((f ≡ fault.Source) × Rose s0 s1) ⊎ (f ≡ fault.NoMemory) → f ≡ fault.Source → Rose s0 s1
by_source f s0 s1 (inl h) is = h.1
by_source f s0 s1 (inr h) is = absurd cc

pub image_unread : (table : ℕ) (d : Option Contents) (f : ℕ) (l0 l1 : Option (List ℕ)) (s0 s1 : ℕ) (e : CopyFault) → ReadsImage l0 s0 s1 (Err e) → Recovers table (around d f l0 s0) (around d f l1 s1) (Err e)
image_unread table d f l0 l1 s0 s1 e h = record {
  ok = tt;
  image = λ at is. absurd (elim (h.only (fault.Image at) (as_err e (fault.Image at) is)) [ inl x ↦ (let c = x.0 in cc) | inr y ↦ cc ]);
  damaged = λ v at is. absurd (elim (h.only (fault.Damaged v at) (as_err e (fault.Damaged v at) is)) [ inl x ↦ (let c = x.0 in cc) | inr y ↦ cc ]);
  log_damaged = λ member at is. same_self d;
  source_failed = λ is. (by_source fault.Source s0 s1 (h.only fault.Source (as_err e fault.Source is)) refl, same_self d);
  disk_failed = λ is. absurd (elim (h.only fault.Disk (as_err e fault.Disk is)) [ inl x ↦ (let c = x.0 in cc) | inr y ↦ cc ]);
  no_sink = λ is. elim (h.only fault.Sink (as_err e fault.Sink is)) [ inl x ↦ (let c = x.0 in cc) | inr y ↦ cc ];
  begun = untouched d d l0 table (same_self d);
  disk_later = omega arith;
  source_later = h.later;
}

told_unit : (d : Option Contents) → WhenTold d (λ (c : Contents). Unit {0})
told_unit None = tt
told_unit (Some c) = tt

-- the image isn't one of the table
pub misnamed : (table : ℕ) (d : Option Contents) (f : ℕ) (l0 l1 : Option (List ℕ)) (s0 s1 at : ℕ) (image : List ℕ) → WereLeft l0 image → s0 ≤ s1 → name_fault image table ≡ Some at
    → Recovers table (around d f l0 s0) (around d f l1 s1) (Err (fault.Image at))
misnamed table d f l0 l1 s0 s1 at image were le h = record {
  ok = tt;
  image = λ place is.
      let same : at ≡ place = cc in
      (both_told d l0 image (λ (c : Contents). Unit {0}) (λ c b. IsRefusedAt c b table place) were (λ c u. inl (subst (λ (p : ℕ). name_fault image table ≡ Some p) same h)) (told_unit d), same_self d);
  damaged = λ v p is. absurd cc;
  log_damaged = λ member p is. absurd cc;
  source_failed = λ is. absurd cc;
  disk_failed = λ is. absurd cc;
  no_sink = λ is. cc;
  begun = untouched d d l0 table (same_self d);
  disk_later = omega arith;
  source_later = le;
}

-- a log wasn't read
pub logs_unread : (table : ℕ) (d e : Option Contents) (f0 f1 : ℕ) (l0 l1 : Option (List ℕ)) (s0 s1 : ℕ) (image : List ℕ) (x : CopyFault) → WereLeft l0 image → s0 ≤ s1 → name_fault image table ≡ None
    → Looks {T = List Log} d e f0 f1 (λ logs c. AreLogsOf 1 c.logs logs) (λ v at c. (member : ℕ) × IsUnread c member v at) (Err x)
    → Recovers table (around d f0 l0 s0) (around e f1 l1 s1) (Err x)
logs_unread table d e f0 f1 l0 l1 s0 s1 image x were le named h = record {
  ok = tt;
  image = λ at is. absurd (h.no_image at (as_err x (fault.Image at) is));
  damaged = λ v at is.
      both_told d l0 image (λ (c : Contents). (member : ℕ) × IsUnread c member v at) (λ c b. IsDamage c b table v at) were
      (λ c u. inl (u.0, u.1.0, named, inl u.1.1)) (h.damaged v at (as_err x (fault.Damaged v at) is));
  log_damaged = λ member at is. h.same;
  source_failed = λ is. absurd (h.no_source (as_err x fault.Source is));
  disk_failed = λ is. h.failed (as_err x fault.Disk is);
  no_sink = λ is. h.no_sink (as_err x fault.Sink is);
  begun = untouched d e l0 table h.same;
  disk_later = h.later;
  source_later = le;
}

-- a number of the logs can't stand there
pub unplanned : (table : ℕ) (d e : Option Contents) (f0 f1 : ℕ) (l0 l1 : Option (List ℕ)) (s0 s1 : ℕ) (image : List ℕ) (logs : List Log) (x : CopyFault) → WereLeft l0 image → s0 ≤ s1 → name_fault image table ≡ None
    → Becomes d e Same → f0 ≤ f1 → WhenTold d (λ c. AreLogsOf 1 c.logs logs) → PlansBy logs (Err x)
    → Recovers table (around d f0 l0 s0) (around e f1 l1 s1) (Err x)
unplanned table d e f0 f1 l0 l1 s0 s1 image logs x were le named same disk_le are h = record {
  ok = tt;
  image = λ at is. absurd (h.no_image at (as_err x (fault.Image at) is));
  damaged = λ v at is.
      let found = h.damaged v at (as_err x (fault.Damaged v at) is) in
      both_told d l0 image (λ (c : Contents). AreLogsOf 1 c.logs logs) (λ c b. IsDamage c b table v at) were
      (λ c a. inl (found.member, found.names_it, named, inr (logs, a, found.damage))) are;
  log_damaged = λ member at is. same;
  source_failed = λ is. absurd (h.no_source (as_err x fault.Source is));
  disk_failed = λ is. absurd (h.no_disk (as_err x fault.Disk is));
  no_sink = λ is. h.no_sink (as_err x fault.Sink is);
  begun = untouched d e l0 table same;
  disk_later = disk_le;
  source_later = le;
}

-- the image can't be taken
pub refused : (table : ℕ) (d e : Option Contents) (f0 f1 : ℕ) (l0 l1 : Option (List ℕ)) (s0 s1 at : ℕ) (image : List ℕ) (logs : List Log) (plan : Plan) → WereLeft l0 image → s0 ≤ s1
    → Becomes d e Same → f0 ≤ f1 → WhenTold d (λ c. AreLogsOf 1 c.logs logs) → plan ≡ plan_of logs → log_damage logs ≡ None → image_fault image table plan.greatest.lrsn ≡ Some at
    → Recovers table (around d f0 l0 s0) (around e f1 l1 s1) (Err (fault.Image at))
refused table d e f0 f1 l0 l1 s0 s1 at image logs plan were le same disk_le are planned sound h = record {
  ok = tt;
  image = λ place is.
      let is_place : at ≡ place = cc in (
        both_told d l0 image (λ (c : Contents). AreLogsOf 1 c.logs logs) (λ c b. IsRefusedAt c b table place) were
            (λ c a. inr (
              logs,
              record { are = a; undamaged = sound },
              subst (λ (p : ℕ). image_fault image table (greatest_of logs) ≡ Some p) is_place (sym (ap (λ (g : ℕ). image_fault image table g) (greatest_in logs plan planned)) ∙ h),
            ))
            are,
        same,
      );
  damaged = λ v p is. absurd cc;
  log_damaged = λ member p is. absurd cc;
  source_failed = λ is. absurd cc;
  disk_failed = λ is. absurd cc;
  no_sink = λ is. cc;
  begun = untouched d e l0 table same;
  disk_later = disk_le;
  source_later = le;
}

-- ---- recoveries that write

is_taken : (c : Contents) (image : List ℕ) (table : ℕ) (logs : List Log) (plan : Plan) → plan ≡ plan_of logs → log_damage logs ≡ None → image_fault image table plan.greatest.lrsn ≡ None
    → AreLogsOf 1 c.logs logs → IsTakenWith c image table logs
is_taken c image table logs plan planned sound allowed are = record {
  logs_are = record { are = are; undamaged = sound };
  allowed = sym (ap (λ (g : ℕ). image_fault image table g) (greatest_in logs plan planned)) ∙ allowed;
}

from_start : (d e end : Option Contents) (R : Contents → Contents → Type 0) → Becomes d e Same → Becomes e end R → Becomes d end R
from_start d e end R same h = goes_on d e end Same R R (λ x y z p r. subst (λ (w : Contents). R w z) p r) same h

pub all_recovered : (table : ℕ) (d e end : Option Contents) (f0 f1 f2 : ℕ) (l0 l1 : Option (List ℕ)) (s0 s1 : ℕ) (image : List ℕ) (logs : List Log) (plan : Plan) (r : Result ℕ CopyFault) → WereLeft l0 image → s0 ≤ s1
    → Becomes d e Same → f0 ≤ f1 → WhenTold d (λ c. AreLogsOf 1 c.logs logs) → plan ≡ plan_of logs → log_damage logs ≡ None → image_fault image table plan.greatest.lrsn ≡ None
    → Writes e end f1 f2 image table (merged logs) (written_names image table (merged logs)) r
    → Recovers table (around d f0 l0 s0) (around end f2 l1 s1) r
all_recovered table d e end f0 f1 f2 l0 l1 s0 s1 image logs plan (Ok count) were le same disk_le are planned sound allowed h = record {
  ok = goes_by_both d end l0 image (λ x y. AreLogsOf 1 x.logs logs × AreWritten image table (merged logs) (written_names image table (merged logs)) x y) (λ x y b. IsRecovered x y b table count) were
      (λ x y p. record {
        logs = logs;
        taken = is_taken x image table logs plan planned sound allowed p.0;
        in_order = h.ok.1;
        pages_are = p.1.pages_are;
        logs_stay = p.1.logs_stay;
        count = h.ok.2;
      })
      (goes_with d end (λ (x : Contents). AreLogsOf 1 x.logs logs) (AreWritten image table (merged logs) (written_names image table (merged logs))) are
      (from_start d e end (AreWritten image table (merged logs) (written_names image table (merged logs))) same h.ok.0));
  image = λ at is. absurd cc;
  damaged = λ v at is. absurd cc;
  log_damaged = λ member at is. absurd cc;
  source_failed = λ is. absurd cc;
  disk_failed = λ is. absurd cc;
  no_sink = λ is. cc;
  begun = tt;
  disk_later = omega (arith, disk_le, h.later);
  source_later = le;
}
all_recovered table d e end f0 f1 f2 l0 l1 s0 s1 image logs plan (Err x) were le same disk_le are planned sound allowed h = record {
  ok = tt;
  image = λ at is. absurd (h.no_image at is);
  damaged = λ v at is.
      let met = h.damaged v at is in
      both_told d l0 image (λ (c : Contents). AreLogsOf 1 c.logs logs) (λ c b. IsDamage c b table v at) were
      (λ c a. inr (record { logs = logs; taken = is_taken c image table logs plan planned sound allowed a; page = met.page; names_it = met.names_it; written = met.written; meets = met.meets })) are;
  log_damaged = λ member at is. (let met = h.damaged (volume.Log member) at is in let other : volume.Log member ≡ volume.Page met.page = met.names_it in absurd cc);
  source_failed = λ is. absurd (h.no_source is);
  disk_failed = λ is. rose_from f0 f1 f2 disk_le (h.failed is);
  no_sink = h.no_sink;
  begun = goes_by_both d end l0 image (λ x y. AreLogsOf 1 x.logs logs × AreBegun image table (merged logs) (written_names image table (merged logs)) x y) (λ x y b. IsBegun x y b table) were
      (λ x y p. record {
        logs_stay = p.1.logs_stay;
        each = λ q.
            elim (p.1.each q) [
              | inl was ↦ inl was
              | inr new ↦ inr (logs, is_taken x image table logs plan planned sound allowed p.0, new.0, new.1)
            ];
      })
      (goes_with d end (λ (x : Contents). AreLogsOf 1 x.logs logs) (AreBegun image table (merged logs) (written_names image table (merged logs))) are
      (from_start d e end (AreBegun image table (merged logs) (written_names image table (merged logs))) same h.begun));
  disk_later = omega (arith, disk_le, h.later);
  source_later = le;
}

-- ---- from the source

become_by : (d e : Option Contents) (left : Option (List ℕ)) (image : List ℕ) (Q : Contents → Contents → List ℕ → Type 0) → WereLeft left image
    → BecomesBy d e (Some image) Q → BecomesBy d e left Q
become_by None e left image Q were h = tt
become_by (Some x) None left image Q were h = absurd h
become_by (Some x) (Some y) None image Q were h = (image, h)
become_by (Some x) (Some y) (Some b) image Q were h = subst (λ (i : List ℕ). Q x y i) (sym were) h

both_by : (d : Option Contents) (left : Option (List ℕ)) (image : List ℕ) (P : Contents → List ℕ → Type 0) → WereLeft left image → WhenBothTold d (Some image) P → WhenBothTold d left P
both_by None left image P were h = tt
both_by (Some c) None image P were h = (image, h)
both_by (Some c) (Some b) image P were h = subst (λ (i : List ℕ). P c i) (sym were) h

-- the image was read, and the table was recovered from it, or not
pub read_and_recovered : (table : ℕ) (d e : Option Contents) (f0 f1 : ℕ) (l0 l1 : Option (List ℕ)) (s0 s1 : ℕ) (image : List ℕ) (r : Result ℕ CopyFault) → WereLeft l0 image → s0 ≤ s1
    → Recovers table (around d f0 (Some image) 0) (around e f1 (Some image) 0) r → Recovers table (around d f0 l0 s0) (around e f1 l1 s1) r
read_and_recovered table d e f0 f1 l0 l1 s0 s1 image (Ok count) were le h = record {
  ok = become_by d e l0 image (λ x y i. IsRecovered x y i table count) were h.ok;
  image = λ at is. absurd cc;
  damaged = λ v at is. absurd cc;
  log_damaged = λ member at is. absurd cc;
  source_failed = λ is. absurd cc;
  disk_failed = λ is. absurd cc;
  no_sink = λ is. cc;
  begun = tt;
  disk_later = h.disk_later;
  source_later = le;
}
read_and_recovered table d e f0 f1 l0 l1 s0 s1 image (Err x) were le h = record {
  ok = tt;
  image = λ at is. (let found = h.image at is in (both_by d l0 image (λ c i. IsRefusedAt c i table at) were found.0, found.1));
  damaged = λ v at is. both_by d l0 image (λ c i. IsDamage c i table v at) were (h.damaged v at is);
  log_damaged = h.log_damaged;
  source_failed = λ is. (let found = h.source_failed is in let none : ⊥ = omega (arith, found.0) in absurd none);
  disk_failed = h.disk_failed;
  no_sink = h.no_sink;
  begun = become_by d e l0 image (λ x y i. IsBegun x y i table) were h.begun;
  disk_later = h.disk_later;
  source_later = le;
}
