-- The next record of a log that was read on.
use Rattle.std.proofs.Common.{◌≡◌, ℕ, ◌+◌, ◌-◌, ◌<◌, List, length, take, drop, Option, Some, None, Result, Ok, Err, sym, ap, subst, ◌∙◌}
use Rattle.std.specs.Prelude.{IfOk, IsErrOf}
use Rattle.ds_disk.specs.Contents.{Contents, log_of}
use Rattle.ds_model.specs.declared.log.LogRecord.{LogRecord}
use Rattle.ds_model.specs.RecordBytes.{record_bytes}
use Rattle.log_record.specs.declared.fault.RecordFault.TheVariants.{Bad}
use Rattle.log_record.specs.Reading.{record_in}
use Rattle.log_volume.specs.declared.fault.LogFault.{LogFault}
use Rattle.log_volume.specs.declared.fault.LogFault.TheVariants.{Failed, Damaged}
use Rattle.log_head.specs.Heads.{HeadState, IsShort, IsOf, left_bytes}
use Rattle.disk_heads.specs.Reading.{Reads}
use Rattle.disk_heads.specs.Records.{IsSound, HasMoved, KeepsOf, StandsBehind, IsPast, IsNextOf, IsNext, IsBadAt}
use Rattle.disk_heads.proofs.Told.{told_one}

-- what is left of a log doesn't change where it is read on
same_left : (log : List ℕ) (h m : HeadState) → HasMoved h m → left_bytes log m ≡ left_bytes log h
same_left log h m moved = ap (λ (e : ℕ). take (e - m.at) (drop m.at log)) moved.end_is ∙ ap (λ (a : ℕ). take (h.end - a) (drop a log)) moved.at_is

next_of_moved : (next : Option LogRecord) (log : List ℕ) (h m g : HeadState) → HasMoved h m → IsNextOf log m g next → IsNextOf log h g next
next_of_moved None log h m g moved n =
    let same = same_left log h m moved in
    (subst (λ (t : List ℕ). IsShort (record_in t)) same n.0, n.1 ∙ same)
next_of_moved (Some r) log h m g moved n =
    let same = same_left log h m moved in
    record {
      is_read = subst (λ (t : List ℕ). record_in t ≡ Ok (r, length (record_bytes r))) same n.is_read;
      spelled = sym same ∙ n.spelled;
      allowed = n.allowed;
      at_is = n.at_is ∙ ap (λ (k : ℕ). k + length (record_bytes r)) moved.at_is;
    }

next_moved : (next : Option LogRecord) (log : List ℕ) (h m g : HeadState) → HasMoved h m → IsNext log m g next → IsNext log h g next
next_moved next log h m g moved n = record { of = n.of; next_of = next_of_moved next log h m g moved n.next_of }

bad_moved : (log : List ℕ) (h m : HeadState) (at : ℕ) → HasMoved h m → IsBadAt log m at → IsBadAt log h at
bad_moved log h m at moved b = record {
  field = b.field;
  at_is = b.at_is ∙ ap (λ (k : ℕ). k + b.field) moved.at_is;
  bad = subst (λ (t : List ℕ). record_in t ≡ Err (Bad b.field)) (same_left log h m moved) b.bad;
}

behind_moved : (next : Option LogRecord) (h m g : HeadState) → HasMoved h m → StandsBehind m g next → StandsBehind h g next
behind_moved None h m g moved b = b ∙ moved.at_is
behind_moved (Some r) h m g moved b = subst (λ (k : ℕ). k < g.at) moved.at_is b

past_moved : (next : Option LogRecord) (h m g : HeadState) → HasMoved h m → IsPast m g next → IsPast h g next
past_moved next h m g moved p = record { behind = behind_moved next h m g moved p.behind; within = p.within; end_is = p.end_is ∙ moved.end_is; sound = p.sound }

abbrev Next : Type 0
Next = Result (Option LogRecord) LogFault

pub past_told : (h m g : HeadState) (r : Next) → HasMoved h m → IsSound h → IfOk r (λ next. IsSound m → IsPast m g next) → IfOk r (λ next. IsPast h g next)
past_told h m g (Ok next) moved sound p = past_moved next h m g moved (p (moved.sound sound))
past_told h m g (Err f) moved sound p = tt

abbrev ok_next : Option LogRecord → Next
ok_next next = Ok next

no_fault : (next : Option LogRecord) (f : LogFault) → IsErrOf (ok_next next) f → ⊥
no_fault next f e = cc

-- what was taken is the next record of the log as it stood before
pub next_told : {X : Type 0} (a b : Option Contents) (n k member : ℕ) (h m g : HeadState) (IsBad : ℕ → Contents → Type 0) (x : X) (r : Next)
    → Reads a b n k (λ (y : X) (c : Contents). KeepsOf (log_of c.logs member) h m) IsBad (Ok x) → HasMoved h m → IsSound h
    → ((log : List ℕ) → IsOf log m → IsSound m → IfOk r (λ next. IsNext log m g next)) → ((log : List ℕ) (at : ℕ) → IsOf log m → IsErrOf r (Damaged at) → IsBadAt log m at) → (IsErrOf r Failed → ⊥)
    → Reads a b n k (λ (next : Option LogRecord) (c : Contents). IsOf (log_of c.logs member) h → IsNext (log_of c.logs member) h g next) (λ at c. IsOf (log_of c.logs member) h → IsBadAt (log_of c.logs member) h at) r
next_told a b n k member h m g IsBad x (Ok next) p moved sound told bad never = record {
  ok = told_one a (λ c. KeepsOf (log_of c.logs member) h m) (λ c. IsOf (log_of c.logs member) h → IsNext (log_of c.logs member) h g next)
      (λ c kept of. next_moved next (log_of c.logs member) h m g moved (told (log_of c.logs member) (kept of) (moved.sound sound))) p.ok;
  damaged = λ at e. absurd (no_fault next (Damaged at) e);
  failed = λ e. absurd (no_fault next Failed e);
  same = p.same;
  later = p.later;
}
next_told a b n k member h m g IsBad x (Err f) p moved sound told bad never = record {
  ok = tt;
  damaged = λ at e. told_one a (λ c. KeepsOf (log_of c.logs member) h m) (λ c. IsOf (log_of c.logs member) h → IsBadAt (log_of c.logs member) h at)
      (λ c kept of. bad_moved (log_of c.logs member) h m at moved (bad (log_of c.logs member) at (kept of) e)) p.ok;
  failed = λ e. absurd (never e);
  same = p.same;
  later = p.later;
}
