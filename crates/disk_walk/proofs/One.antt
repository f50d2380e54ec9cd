-- The records of one log, one after the other, and what is made of them.
use Rattle.std.proofs.Common.{◌≡◌, ℕ, ◌+◌, ◌-◌, ◌<◌, ◌≤◌, List, [], ◌∷◌, ◌++◌, length, map, take, drop, get_or, Option, Some, None, Result, Ok, Err, IfOk, refl, sym, ap, subst, ◌∙◌, arith}
use Rattle.std.specs.Prelude.{IsErrOf, IfSome, slice_index}
use Rattle.ds_disk.specs.Contents.{Contents, log_of, WhenTold, Becomes, Same}
use Rattle.ds_disk.specs.declared.disk.DiskError.{DiskError}
use Rattle.ds_disk.specs.declared.disk.DiskError.TheVariants.{Failed}
use Rattle.ds_model.specs.declared.log.LogRecord.{LogRecord}
use Rattle.ds_model.specs.RecordBytes.{record_bytes}
use Rattle.log_record.specs.Reading.{record_in}
use Rattle.log_record.specs.declared.fault.RecordFault.{RecordFault}
use Rattle.log_record.specs.declared.fault.RecordFault.TheVariants.{Bad}
use Rattle.log_volume.specs.declared.fault.LogFault.{LogFault}
use Rattle.log_volume.specs.declared.fault.LogFault.TheVariants as fault
use Rattle.log_head.specs.Heads.{HeadState, IsShort, IsOf, left_bytes, left_of}
use Rattle.log_head.specs.Whole.{whole_records}
use Rattle.log_head.specs.Laws.{FirstIsWhole, NoneIsWhole}
use Rattle.disk_heads.specs.Reading as heads
use Rattle.disk_heads.specs.Records.{IsSound, IsPast, IsNext, IsBadAt}
use Rattle.disk_walk.specs.Reading.{Reads}
use Rattle.disk_walk.specs.One.{records_to, left_by, IsFollowed, IsNextOf, OfRecords}
use Rattle.disk_walk.proofs.Reading.{same_self, same_on, told_before, told_all, told_by, told_by_both}

-- ---- what is told, step by step

-- a call that went well, and then another
pub reads_on : {X Y Z : Type 0} (a b e : Option Contents) (n k j : ℕ) (P : X → Contents → Type 0) (x : X) (Q : Y → Contents → Type 0) (y : Y) (R : Z → Contents → Type 0) (z : Z)
    → Reads a b n k P (Ok x) → Reads b e k j Q (Ok y) → ((c : Contents) → P x c → Q y c → R z c) → Reads a e n j R (Ok z)
reads_on a b e n k j P x Q y R z p q h = record {
  ok = told_by_both a (P x) (Q y) (R z) h p.ok (told_before a b (Q y) p.same q.ok);
  failed = λ w. absurd (no_error z w);
  same = same_on a b e p.same q.same;
  later = omega (arith, p.later, q.later);
}
  where
    no_error : {Z : Type 0} (z : Z) → IsErrOf {T = Z} {E = DiskError} (Ok z) Failed → ⊥
    no_error z w = cc

-- a call that went well says less
pub reads_to : {X Z : Type 0} (a b : Option Contents) (n k : ℕ) (P : X → Contents → Type 0) (x : X) (R : Z → Contents → Type 0) (z : Z) → Reads a b n k P (Ok x) → ((c : Contents) → P x c → R z c) → Reads a b n k R (Ok z)
reads_to a b n k P x R z p h = record { ok = told_by a (P x) (R z) h p.ok; failed = λ w. absurd (no_error z w); same = p.same; later = p.later }
  where
    no_error : {Z : Type 0} (z : Z) → IsErrOf {T = Z} {E = DiskError} (Ok z) Failed → ⊥
    no_error z w = cc

pub reads_none : {Z : Type 0} (a : Option Contents) (n : ℕ) (R : Z → Contents → Type 0) (z : Z) → ((c : Contents) → R z c) → Reads a a n n R (Ok z)
reads_none a n R z h = record { ok = told_all a (R z) h; failed = λ w. absurd (no_error z w); same = same_self a; later = omega arith }
  where
    no_error : {Z : Type 0} (z : Z) → IsErrOf {T = Z} {E = DiskError} (Ok z) Failed → ⊥
    no_error z w = cc

-- ---- the next record

drop_front : (xs ys : List ℕ) → drop (length xs) (xs ++ ys) ≡ ys
drop_front [] ys = refl
drop_front (x ∷ xs) ys = drop_front xs ys

none_of : NoneIsWhole → (log : List ℕ) (old : HeadState) → IsShort (record_in (left_bytes log old)) → left_of log old ≡ []
none_of none log old h = short none (left_bytes log old) (record_in (left_bytes log old)) refl h
  where
    short : NoneIsWhole → (bytes : List ℕ) (read : Result (LogRecord × ℕ) RecordFault) → record_in bytes ≡ read → IsShort read → whole_records bytes ≡ []
    short none bytes (Ok found) e h = absurd h
    short none bytes (Err f) e h = none bytes f e

comes_next : FirstIsWhole → NoneIsWhole → (log : List ℕ) (old new : HeadState) (next : Option LogRecord) → IsNext log old new next → IsNextOf log old new next
comes_next first none log old new None h = none_of none log old h.next_of.0
comes_next first none log old new (Some r) h = record {
  of = h.of;
  left_is =
      first (left_bytes log old) r (length (record_bytes r)) h.next_of.is_read
      ∙ ap (λ (bytes : List ℕ). r ∷ whole_records (drop (length (record_bytes r)) bytes)) h.next_of.spelled
      ∙ ap (λ (bytes : List ℕ). r ∷ whole_records bytes) (drop_front (record_bytes r) (left_bytes log new));
  at_is = h.next_of.at_is;
}

abbrev NextIs : ℕ → HeadState → HeadState → Option LogRecord → Contents → Type 0
NextIs member old new next c = IsOf (log_of c.logs member) old → IsNext (log_of c.logs member) old new next

abbrev BadIs : ℕ → HeadState → ℕ → Contents → Type 0
BadIs member old at c = IsOf (log_of c.logs member) old → IsBadAt (log_of c.logs member) old at

abbrev pub ComesIs : ℕ → HeadState → HeadState → Option LogRecord → Contents → Type 0
ComesIs member old new next c = IsOf (log_of c.logs member) old → IsNextOf (log_of c.logs member) old new next

no_failure : (next : Option LogRecord) → IsErrOf {T = Option LogRecord} {E = DiskError} (Ok next) Failed → ⊥
no_failure next w = cc

damage_is : (at : ℕ) → IsErrOf {T = Option LogRecord} (Err (fault.Damaged at)) (fault.Damaged at)
damage_is at = refl

next_read : FirstIsWhole → NoneIsWhole → (a b : Option Contents) (n k member : ℕ) (old new : HeadState) (r : Result (Option LogRecord) LogFault)
    → heads.Reads a b n k (NextIs member old new) (BadIs member old) r → Reads a b n k (ComesIs member old new) (left_by r)
next_read first none a b n k member old new (Ok next) h = record {
  ok = told_by a (NextIs member old new next) (ComesIs member old new next) (λ c p of. comes_next first none (log_of c.logs member) old new next (p of)) h.ok;
  failed = λ w. absurd (no_failure next w);
  same = h.same;
  later = h.later;
}
next_read first none a b n k member old new (Err fault.Failed) h = record { ok = tt; failed = λ w. h.failed refl; same = h.same; later = h.later }
next_read first none a b n k member old new (Err (fault.Damaged at)) h = record {
  ok = told_by a (BadIs member old at) (ComesIs member old new None) (λ c p of. none (left_bytes (log_of c.logs member) old) (Bad (p of).field) (p of).bad) (h.damaged at (damage_is at));
  failed = λ w. absurd (no_failure None w);
  same = h.same;
  later = h.later;
}
next_read first none a b n k member old new (Err fault.NoMemory) h = record { ok = tt; failed = λ w. absurd cc; same = h.same; later = h.later }

pub next_told : FirstIsWhole → NoneIsWhole → (a b : Option Contents) (n k member : ℕ) (old new : HeadState) (r : Result (Option LogRecord) LogFault) (s : Result (Option LogRecord) DiskError) → s ≡ left_by r
    → heads.Reads a b n k (NextIs member old new) (BadIs member old) r → Reads a b n k (ComesIs member old new) s
next_told first none a b n k member old new r s is h = subst (λ (x : Result (Option LogRecord) DiskError). Reads a b n k (ComesIs member old new) x) (sym is) (next_read first none a b n k member old new r h)

sound_read : (old new : HeadState) (r : Result (Option LogRecord) LogFault) → IfOk r (λ next. IsPast old new next) → IfOk (left_by r) (λ next. IfSome next (λ (it : LogRecord). IsSound new))
sound_read old new (Ok None) h = tt
sound_read old new (Ok (Some r)) h = h.sound
sound_read old new (Err fault.Failed) h = tt
sound_read old new (Err (fault.Damaged at)) h = tt
sound_read old new (Err fault.NoMemory) h = tt

pub sound_told : (old new : HeadState) (r : Result (Option LogRecord) LogFault) (s : Result (Option LogRecord) DiskError) → s ≡ left_by r → IfOk r (λ next. IsPast old new next) → IfOk s (λ next. IfSome next (λ (it : LogRecord). IsSound new))
sound_told old new r s is h = subst (λ (x : Result (Option LogRecord) DiskError). IfOk x (λ next. IfSome next (λ (it : LogRecord). IsSound new))) (sym is) (sound_read old new r h)

pub sound_some : (new : HeadState) (next : Option LogRecord) (r : LogRecord) → next ≡ Some r → IfSome next (λ (it : LogRecord). IsSound new) → IsSound new
sound_some new None r is h = absurd cc
sound_some new (Some it) r is h = h

-- ---- all of them

abbrev pub head_from : ℕ → HeadState
head_from end = record { at = 0; hand = []; end = end }

start_left : (log : List ℕ) (end : ℕ) → left_of log (head_from end) ≡ records_to end log
start_left log end = let same : end - 0 ≡ end = omega arith in ap (λ (n : ℕ). whole_records (take n log)) same

of_start : (log : List ℕ) (end : ℕ) → end ≤ length log → IsOf log (head_from end)
of_start log end le = record { within = le; fits = omega arith; told = refl }

pub sound_start : (end : ℕ) (head : HeadState) → head ≡ head_from end → IsSound head
sound_start end head e = subst IsSound (sym e) (record { within = omega arith; bytes = λ i. nothing i })
  where
    nothing : (i : ℕ) → slice_index [] i < 256
    nothing i = omega arith

-- what the records that are left of the log, which begin at this byte, make of a state is what all make of the first one
abbrev pub WalksOn : {S X : Type 0} → (S → ℕ → List LogRecord → X) → ℕ → ℕ → S → HeadState → S → ℕ → Contents → Type 0
WalksOn f member end start head s n c = end ≤ length (log_of c.logs member) → IsOf (log_of c.logs member) head × (f s head.at (left_of (log_of c.logs member) head) ≡ f start 0 (records_to end (log_of c.logs member)))

walks_first : {S X : Type 0} (f : S → ℕ → List LogRecord → X) (member end : ℕ) (head : HeadState) (start : S) (c : Contents) → head ≡ head_from end → WalksOn f member end start head start 0 c
walks_first f member end head start c e le =
    subst (λ (h : HeadState). IsOf (log_of c.logs member) h × (f start h.at (left_of (log_of c.logs member) h) ≡ f start 0 (records_to end (log_of c.logs member)))) (sym e)
    (of_start (log_of c.logs member) end le, ap (f start 0) (start_left (log_of c.logs member) end))

pub walk_starts : {S X : Type 0} (f : S → ℕ → List LogRecord → X) (a : Option Contents) (k member end : ℕ) (head : HeadState) (start : S) → head ≡ head_from end → Reads a a k k (WalksOn f member end start head start) (Ok 0)
walk_starts f a k member end head start e = reads_none a k (WalksOn f member end start head start) 0 (λ c. walks_first f member end head start c e)

walks_next : {S X : Type 0} (f : S → ℕ → List LogRecord → X) (member end : ℕ) (start : S) (old new : HeadState) (s t : S) (r : LogRecord) (c : Contents)
    → ((rest : List LogRecord) → f s old.at (r ∷ rest) ≡ f t (old.at + length (record_bytes r)) rest) → WalksOn f member end start old s 0 c → ComesIs member old new (Some r) c → WalksOn f member end start new t 0 c
walks_next f member end start old new s t r c step on comes le =
    let held = on le in
    let next = comes held.0 in (
      next.of,
      ap (λ (m : ℕ). f t m (left_of (log_of c.logs member) new)) next.at_is
          ∙ sym (step (left_of (log_of c.logs member) new))
          ∙ sym (ap (f s old.at) next.left_is)
          ∙ held.1,
    )

-- a record more, which makes of one state the next
pub walk_more : {S X : Type 0} (f : S → ℕ → List LogRecord → X) (a b e : Option Contents) (n k j member end : ℕ) (start : S) (old new : HeadState) (s t : S) (next : Option LogRecord) (r : LogRecord) → next ≡ Some r
    → ((rest : List LogRecord) → f s old.at (r ∷ rest) ≡ f t (old.at + length (record_bytes r)) rest)
    → Reads a b n k (WalksOn f member end start old s) (Ok 0) → Reads b e k j (ComesIs member old new) (Ok next) → Reads a e n j (WalksOn f member end start new t) (Ok 0)
walk_more f a b e n k j member end start old new s t next r some step p q =
    reads_on a b e n k j (WalksOn f member end start old s) 0 (ComesIs member old new) next (WalksOn f member end start new t) 0 p q
    (λ c on comes. walks_next f member end start old new s t r c step on (λ of. subst (λ (o : Option LogRecord). IsNextOf (log_of c.logs member) old new o) some (comes of)))

-- what they come to
abbrev pub ComeTo : {S X : Type 0} → (S → ℕ → List LogRecord → X) → ℕ → ℕ → S → X → Contents → Type 0
ComeTo f member end start x c = OfRecords member end (λ rs. x ≡ f start 0 rs) c

walks_stop : {S X : Type 0} (f : S → ℕ → List LogRecord → X) (member end : ℕ) (start : S) (old new : HeadState) (s : S) (r : LogRecord) (x : X) (c : Contents)
    → ((rest : List LogRecord) → f s old.at (r ∷ rest) ≡ x) → WalksOn f member end start old s 0 c → ComesIs member old new (Some r) c → ComeTo f member end start x c
walks_stop f member end start old new s r x c step on comes le =
    let held = on le in
    let next = comes held.0 in
    sym (step (left_of (log_of c.logs member) new)) ∙ sym (ap (f s old.at) next.left_is) ∙ held.1

-- at a record that decides
pub walk_stops : {S X : Type 0} (f : S → ℕ → List LogRecord → X) (a b e : Option Contents) (n k j member end : ℕ) (start : S) (old new : HeadState) (s : S) (next : Option LogRecord) (r : LogRecord) (x : X) → next ≡ Some r
    → ((rest : List LogRecord) → f s old.at (r ∷ rest) ≡ x)
    → Reads a b n k (WalksOn f member end start old s) (Ok 0) → Reads b e k j (ComesIs member old new) (Ok next) → Reads a e n j (ComeTo f member end start) (Ok x)
walk_stops f a b e n k j member end start old new s next r x some step p q =
    reads_on a b e n k j (WalksOn f member end start old s) 0 (ComesIs member old new) next (ComeTo f member end start) x p q
    (λ c on comes. walks_stop f member end start old new s r x c step on (λ of. subst (λ (o : Option LogRecord). IsNextOf (log_of c.logs member) old new o) some (comes of)))

walks_last : {S X : Type 0} (f : S → ℕ → List LogRecord → X) (member end : ℕ) (start : S) (old new : HeadState) (s : S) (x : X) (c : Contents) → f s old.at [] ≡ x → WalksOn f member end start old s 0 c → ComesIs member old new None c → ComeTo f member end start x c
walks_last f member end start old new s x c last on comes le =
    let held = on le in
    sym last ∙ sym (ap (f s old.at) (comes held.0)) ∙ held.1

-- behind the last one
pub walk_ends : {S X : Type 0} (f : S → ℕ → List LogRecord → X) (a b e : Option Contents) (n k j member end : ℕ) (start : S) (old new : HeadState) (s : S) (next : Option LogRecord) (x : X) → next ≡ None → f s old.at [] ≡ x
    → Reads a b n k (WalksOn f member end start old s) (Ok 0) → Reads b e k j (ComesIs member old new) (Ok next) → Reads a e n j (ComeTo f member end start) (Ok x)
walk_ends f a b e n k j member end start old new s next x none last p q =
    reads_on a b e n k j (WalksOn f member end start old s) 0 (ComesIs member old new) next (ComeTo f member end start) x p q
    (λ c on comes. walks_last f member end start old new s x c last on (λ of. subst (λ (o : Option LogRecord). IsNextOf (log_of c.logs member) old new o) none (comes of)))
