-- What calls of the disk do to the logs.
use Rattle.std.proofs.Common.{◌≡◌, ℕ, ◌+◌, ◌≤◌, ◌<◌, refl, sym, ◌∙◌, ap, subst, arith, Bool, true, false, inl, inr, List, [], ◌∷◌, ◌++◌, length, take, Option, Some, None, Result, Ok, Err}
use Rattle.std.specs.Prelude.{◌≢◌, ◌⊎◌, ◌-◌, nat_lt, slice_index_or, slice_set}
use Rattle.std.proofs.lemmas.Bool.{ltb-true}
use Rattle.std.proofs.lemmas.List.{append-nil, get_or-set_other, get_or-set_same, length-set}
use Rattle.ds_disk.specs.Answers.{Answers, Appended}
use Rattle.ds_disk.specs.Contents.{Becomes, Contents, Same, log_of, with_log}
use Rattle.ds_disk.specs.Pages.{Pages}
use Rattle.ds_disk.specs.declared.disk.DiskError.{DiskError}
use Rattle.ds_disk.specs.declared.disk.DiskError.TheVariants.{Failed, NoMemory}
use Rattle.group_logs.specs.Logs.{Appends, IsCut, OneGoes}

-- ---- one log
apart_less : (k n : ℕ) → 1 ≤ k → 1 ≤ n → k ≢ n → k - 1 ≢ n - 1
apart_less k n first one apart e = let same : k ≡ n = omega (arith, first, one, e) in apart same

pub set_goes : (number : ℕ) (Goes : List ℕ → List ℕ → Type 0) (c d : Contents) (bytes : List ℕ) → 1 ≤ number → d ≡ with_log c number bytes → Goes (log_of c.logs number) bytes → OneGoes number Goes c d
set_goes number Goes c d bytes one e goes = record {
  count = ap (λ (z : Contents). length z.logs) e ∙ length-set c.logs (number - 1) bytes;
  others = λ k first apart. ap (λ (z : Contents). log_of z.logs k) e ∙ get_or-set_other c.logs (number - 1) (k - 1) bytes [] (apart_less k number first one apart);
  own = λ there. subst (λ (z : List ℕ). Goes (log_of c.logs number) z)
      (sym (ap (λ (z : Contents). log_of z.logs number) e ∙ get_or-set_same c.logs (number - 1) bytes [] (ltb-true (number - 1) (length c.logs) there))) goes;
}

pub same_goes : (number : ℕ) (Goes : List ℕ → List ℕ → Type 0) (c d : Contents) → d.logs ≡ c.logs → ((log : List ℕ) → Goes log log) → OneGoes number Goes c d
same_goes number Goes c d e goes = record {
  count = ap (λ (z : List (List ℕ)). length z) e;
  others = λ k first apart. ap (λ (z : List (List ℕ)). log_of z k) e;
  own = λ there. subst (λ (z : List ℕ). Goes (log_of c.logs number) z) (sym (ap (λ (z : List (List ℕ)). log_of z number) e)) (goes (log_of c.logs number));
}

-- ---- what the disk tells
pub becomes : (before after : Option Contents) (P Q : Contents → Contents → Type 0) → ((c d : Contents) → P c d → Q c d) → Becomes before after P → Becomes before after Q
becomes None after P Q f h = tt
becomes (Some c) None P Q f h = h
becomes (Some c) (Some d) P Q f h = f c d h

pub still : (now : Option Contents) (P : Contents → Contents → Type 0) → ((c : Contents) → P c c) → Becomes now now P
still None P f = tt
still (Some c) P f = f c

pub unmoved : (before after : Option Contents) (P : Contents → Contents → Type 0) → after ≡ before → ((c : Contents) → P c c) → Becomes before after P
unmoved before after P e f = subst (λ (z : Option Contents). Becomes before z P) (sym e) (still before P f)

-- the same in other words
pub goes_as : (before after : Option Contents) (number : ℕ) (G H : List ℕ → List ℕ → Type 0) → ((old new : List ℕ) → G old new → H old new) → Becomes before after (OneGoes number G) → Becomes before after (OneGoes number H)
goes_as before after number G H f h = becomes before after (OneGoes number G) (OneGoes number H)
    (λ c d g. record { count = g.count; others = g.others; own = λ there. f (log_of c.logs number) (log_of d.logs number) (g.own there) }) h

-- no call changes a log
pub no_call : (number : ℕ) (Goes : List ℕ → List ℕ → Type 0) (before after : Option Contents) → after ≡ before → ((log : List ℕ) → Goes log log) → Becomes before after (OneGoes number Goes)
no_call number Goes before after e goes = unmoved before after (OneGoes number Goes) e (λ c. same_goes number Goes c c refl goes)

-- ---- a call, and whether it has failed
abbrev pub Ended : {T : Type 0} → Result T DiskError → Bool → Type 0
Ended {T} (Ok x) failed = failed ≡ false
Ended {T} (Err Failed) failed = failed ≡ true
Ended {T} (Err NoMemory) failed = ⊥

pub answered : {T : Type 0} → (P : Bool → Contents → Contents → Type 0) (was now : Bool) (before after : Option Contents) (result : Result T DiskError) (Done : T → Contents → Contents → Type 0) (Torn : Contents → Contents → Type 0)
    → Answers was now before after result Done Torn → ((x : T) (c d : Contents) → Done x c d → P false c d) → ((c d : Contents) → Torn c d → P true c d) → ((c : Contents) → P true c c)
    → (failed : Bool) → Ended result failed → Becomes before after (P failed)
answered {T} P was now before after (Ok x) Done Torn a done torn same failed e =
    subst (λ (b : Bool). Becomes before after (P b)) (sym e) (becomes before after (Done x) (P false) (done x) a.ok.2)
answered {T} P was now before after (Err Failed) Done Torn a done torn same failed e = subst (λ (b : Bool). Becomes before after (P b)) (sym e) (by (a.failed refl))
  where
    by : ((now ≡ was) × Becomes before after Same) ⊎ ((now ≡ false) × Becomes before after Torn) → Becomes before after (P true)
    by (inl h) = becomes before after Same (P true) (λ c d q. subst (λ (z : Contents). P true c z) (sym q) (same c)) h.1
    by (inr h) = becomes before after Torn (P true) torn h.1
answered {T} P was now before after (Err NoMemory) Done Torn a done torn same failed e = absurd e

-- one that leaves the logs
pub quiet : {T : Type 0} → (number : ℕ) (Goes : Bool → List ℕ → List ℕ → Type 0) (was now : Bool) (before after : Option Contents) (result : Result T DiskError) (Done : T → Contents → Contents → Type 0) (Torn : Contents → Contents → Type 0)
    → Answers was now before after result Done Torn → ((x : T) (c d : Contents) → Done x c d → d.logs ≡ c.logs) → ((c d : Contents) → Torn c d → d.logs ≡ c.logs) → ((b : Bool) (log : List ℕ) → Goes b log log)
    → (failed : Bool) → Ended result failed → Becomes before after (OneGoes number (Goes failed))
quiet {T} number Goes was now before after result Done Torn a done torn goes failed e = answered (λ (b : Bool). OneGoes number (Goes b)) was now before after result Done Torn a
    (λ x c d h. same_goes number (Goes false) c d (done x c d h) (goes false)) (λ c d h. same_goes number (Goes true) c d (torn c d h) (goes true)) (λ c. same_goes number (Goes true) c c refl (goes true)) failed e

-- a page that is written, or isn't
pub written : (c d : Contents) (pages : Pages) → (d ≡ c) ⊎ (d ≡ record c { pages = pages }) → d.logs ≡ c.logs
written c d pages (inl e) = ap (λ (z : Contents). z.logs) e
written c d pages (inr e) = ap (λ (z : Contents). z.logs) e

-- an append
pub appended : {T : Type 0} → (number : ℕ) (more : List ℕ) (was now : Bool) (before after : Option Contents) (result : Result T DiskError) (Done : T → Contents → Contents → Type 0)
    → Answers was now before after result Done (Appended number more) → ((x : T) (c d : Contents) → Done x c d → d ≡ with_log c number (log_of c.logs number ++ more)) → 1 ≤ number
    → (failed : Bool) → Ended result failed → Becomes before after (OneGoes number (Appends more failed))
appended {T} number more was now before after result Done a done one failed e = answered (λ (b : Bool). OneGoes number (Appends more b)) was now before after result Done (Appended number more) a
    (λ x c d h. set_goes number (Appends more false) c d (log_of c.logs number ++ more) one (done x c d h) refl)
    (λ c d h. set_goes number (Appends more true) c d (log_of c.logs number ++ take h.0 more) one h.2 (h.0, h.1, refl))
    (λ c. same_goes number (Appends more true) c c refl none) failed e
  where
    none : (log : List ℕ) → (n : ℕ) × (n ≤ length more) × (log ≡ log ++ take n more)
    none log = (0, omega arith, sym (append-nil log))

-- a cut
pub cut : {T : Type 0} → (number long : ℕ) (was now : Bool) (before after : Option Contents) (result : Result T DiskError) (Done : T → Contents → Contents → Type 0)
    → Answers was now before after result Done (λ c d. (d ≡ c) ⊎ (d ≡ with_log c number (take long (log_of c.logs number)))) → ((x : T) (c d : Contents) → Done x c d → d ≡ with_log c number (take long (log_of c.logs number))) → 1 ≤ number
    → (failed : Bool) → Ended result failed → Becomes before after (OneGoes number (IsCut long failed))
cut {T} number long was now before after result Done a done one failed e = answered (λ (b : Bool). OneGoes number (IsCut long b)) was now before after result Done (λ c d. (d ≡ c) ⊎ (d ≡ with_log c number (take long (log_of c.logs number)))) a
    (λ x c d h. set_goes number (IsCut long false) c d (take long (log_of c.logs number)) one (done x c d h) refl) torn (λ c. same_goes number (IsCut long true) c c refl (λ log. inl refl)) failed e
  where
    torn : (c d : Contents) → (d ≡ c) ⊎ (d ≡ with_log c number (take long (log_of c.logs number))) → OneGoes number (IsCut long true) c d
    torn c d (inl h) = same_goes number (IsCut long true) c d (ap (λ (z : Contents). z.logs) h) (λ log. inl refl)
    torn c d (inr h) = set_goes number (IsCut long true) c d (take long (log_of c.logs number)) one h (inr refl)
