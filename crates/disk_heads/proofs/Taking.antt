-- A record that is taken, and bytes that are read on.
use Rattle.std.proofs.Common.{◌≡◌, ℕ, ◌+◌, ◌-◌, ◌<◌, ◌≤◌, Bool, true, false, cond, List, ◌++◌, length, take, drop, Option, Some, Result, Ok, Err, refl, sym, ap, subst, ◌∙◌, arith}
use Rattle.std.specs.Prelude.{nat_lt, min, slice_index}
use Rattle.std.proofs.lemmas.List.{length-drop, length-take-le, take-take, take-append-drop, get_or-drop}
use Rattle.ds_model.specs.declared.log.LogRecord.{LogRecord}
use Rattle.ds_model.specs.RecordBytes.{record_bytes}
use Rattle.log_record.specs.declared.fault.RecordFault.{RecordFault}
use Rattle.log_record.specs.declared.fault.RecordFault.TheVariants.{NotWhole, Bad, NoMemory}
use Rattle.log_record.specs.Reading.{record_in, Found}
use Rattle.log_head.specs.declared.standing.Standing.TheVariants as standing
use Rattle.log_head.specs.Heads.{HeadState, hand_end, standing_by, standing_of, first_by, first_of, behind, after_by, after_take, IsOf, left_bytes}
use Rattle.log_head.specs.Laws.{RecordHasSize, TakenIsFirst, RecordIsLeft}
use Rattle.disk_heads.specs.Records.{IsSound, HasMoved, IsPast, IsNext}

abbrev Read : Type 0
Read = Result (LogRecord × ℕ) RecordFault

-- ---- bytes that are read on

pub not_moved : (h : HeadState) → HasMoved h h
not_moved h = record { at_is = refl; end_is = refl; sound = λ s. s }

pub moved_on : (a b c : HeadState) → HasMoved a b → HasMoved b c → HasMoved a c
moved_on a b c p q = record { at_is = q.at_is ∙ p.at_is; end_is = q.end_is ∙ p.end_is; sound = λ s. q.sound (p.sound s) }

-- ---- a record that is taken

past_behind : RecordHasSize → (h : HeadState) (r : LogRecord) (n : ℕ) → record_in h.hand ≡ Ok (r, n) → IsSound h → IsPast h (behind h n) (Some r)
past_behind size h r n e s =
    let z = size h.hand r n e in
    let left : length (drop n h.hand) ≡ length h.hand - n = length-drop n h.hand in
    record {
      behind = omega (arith, z.0);
      within = omega (arith, z.1, s.within);
      end_is = refl;
      sound = record {
        within = omega (arith, z.1, s.within, left);
        bytes = λ i. subst (λ (b : ℕ). b < 256) (sym (get_or-drop n h.hand i 0)) (s.bytes (n + i));
      };
    }

past_by : RecordHasSize → (f : Read) (h : HeadState) → record_in h.hand ≡ f → IsSound h → IsPast h (after_by h f) (first_by f)
past_by size (Ok (r, n)) h e s = past_behind size h r n e s
past_by size (Err fault) h e s = record { behind = refl; within = omega (arith, s.within); end_is = refl; sound = s }

pub take_past : RecordHasSize → (h g : HeadState) (o : Option LogRecord) → o ≡ first_of h → g ≡ after_take h → IsSound h → IsPast h g o
take_past size h g o is new s =
    subst (λ (p : Option LogRecord). IsPast h g p) (sym is) (subst (λ (k : HeadState). IsPast h k (first_of h)) (sym new) (past_by size (record_in h.hand) h refl s))

-- ---- and is the log's first

abbrev FoundInBytes : Type 0
FoundInBytes = (bytes : List ℕ) (r : LogRecord) (n : ℕ) → ((i : ℕ) → slice_index bytes i < 256) → record_in bytes ≡ Ok (r, n) → Found bytes r n

-- the bytes in hand are the front of what is left
in_front : (log : List ℕ) (h : HeadState) (n : ℕ) → IsOf log h → n ≤ length h.hand → take n (left_bytes log h) ≡ take n h.hand
in_front log h n is le =
    take-take n (h.end - h.at) (drop h.at log) (omega (arith, le, is.fits))
    ∙ sym (take-take n (length h.hand) (drop h.at log) le)
    ∙ ap (take n) (sym is.told)

first_behind : TakenIsFirst → RecordIsLeft → FoundInBytes → (log : List ℕ) (h : HeadState) (r : LogRecord) (n : ℕ) → IsOf log h → IsSound h → record_in h.hand ≡ Ok (r, n) → IsNext log h (behind h n) (Some r)
first_behind taken left found log h r n is s e =
    let f = found h.hand r n s.bytes e in
    let l = left log h r n is e in
    let long : n ≡ length (record_bytes r) = sym (length-take-le n h.hand f.within) ∙ ap length f.spelled in
    let front : take n (left_bytes log h) ≡ record_bytes r = in_front log h n is f.within ∙ f.spelled in
    record {
      of = (taken log h r n is e).0;
      next_of = record {
        is_read = subst (λ (k : ℕ). record_in (left_bytes log h) ≡ Ok (r, k)) long l.0;
        spelled = sym (take-append-drop n (left_bytes log h)) ∙ ap (λ (t : List ℕ). t ++ drop n (left_bytes log h)) front ∙ ap (λ (t : List ℕ). record_bytes r ++ t) (sym l.1);
        allowed = f.allowed;
        at_is = ap (λ (k : ℕ). h.at + k) long;
      };
    }

not_ready_when : (b : Bool) (h : HeadState) (block : ℕ) → cond b (standing.Wants (hand_end h) (min (h.end - hand_end h) block)) (standing.Ends h.at) ≡ standing.Ready → ⊥
not_ready_when true h block e = cc
not_ready_when false h block e = cc

not_ready : (fault : RecordFault) (h : HeadState) (block : ℕ) → standing_by block h (Err fault) ≡ standing.Ready → ⊥
not_ready NotWhole h block e = not_ready_when (nat_lt (hand_end h) h.end) h block e
not_ready (Bad field) h block e = cc
not_ready NoMemory h block e = not_ready_when (nat_lt (hand_end h) h.end) h block e

first_by_read : TakenIsFirst → RecordIsLeft → FoundInBytes → (f : Read) (block : ℕ) (log : List ℕ) (h : HeadState) → record_in h.hand ≡ f → standing_by block h f ≡ standing.Ready → IsOf log h → IsSound h → IsNext log h (after_by h f) (first_by f)
first_by_read taken left found (Ok (r, n)) block log h e ready is s = first_behind taken left found log h r n is s e
first_by_read taken left found (Err fault) block log h e ready is s = absurd (not_ready fault h block ready)

pub take_first : TakenIsFirst → RecordIsLeft → FoundInBytes → (block : ℕ) (log : List ℕ) (h g : HeadState) (o : Option LogRecord) → standing_of block h ≡ standing.Ready → o ≡ first_of h → g ≡ after_take h → IsOf log h → IsSound h → IsNext log h g o
take_first taken left found block log h g o ready is new of s =
    subst (λ (p : Option LogRecord). IsNext log h g p) (sym is)
    (subst (λ (k : HeadState). IsNext log h k (first_of h)) (sym new) (first_by_read taken left found (record_in h.hand) block log h refl ready of s))
