-- Where the records begin that a reader has kept which looks for the last Checkpoint first.
use Rattle.std.proofs.Common.{◌≡◌, ℕ, zero, suc, ◌+◌, ◌-◌, ◌≤◌, Bool, true, false, cond, List, [], length, take, drop, Option, Some, None, Result, Ok, Err, refl, sym, ap, subst, ◌∙◌, arith, inr, true≢false}
use Rattle.std.specs.Prelude.{◌==◌, ◌&&◌, nat_le, nat_lt, min, IfSome, is_none}
use Rattle.std.proofs.lemmas.Bool.{cond_both, eqb-true}
use Rattle.std.proofs.lemmas.List.{length-drop, length-take-le, take-take}
use Rattle.ds_model.specs.declared.log.LogRecord.{LogRecord}
use Rattle.ds_model.specs.declared.log.Body.{Body}
use Rattle.ds_model.specs.declared.log.Body.TheVariants as body
use Rattle.log_record.specs.declared.fault.RecordFault.{RecordFault}
use Rattle.log_record.specs.declared.fault.RecordFault.TheVariants.{NotWhole, Bad, NoMemory}
use Rattle.log_record.specs.Logs.{Parts, behind, parts_in}
use Rattle.log_record.specs.Reading.{record_in}
use Rattle.log_head.specs.Heads.{IsShort}
use Rattle.log_head.specs.Laws.{FrontDecides, NothingIsShort, PartsAreBad, PartsEnd, PartsGoOn}
use Rattle.log_checkpoint.specs.declared.found.Found.{Found}
use Rattle.log_checkpoint.specs.declared.found.Found.TheVariants as found
use Rattle.log_checkpoint.specs.Backwards.{AreWanted, SearchState, after_step, filled, passed_on, searched, told_of}
use Rattle.log_checkpoint.specs.Laws.{FillIsOf, StepIsOf, TellsSo, WantedIsBefore}
use Rattle.log_checkpoint.specs.Passed as search
use Rattle.log_reader.specs.Held.{HeldState, grown, held_from, names}
use Rattle.log_reader.specs.Keeping.{AreBytes, IsOf}
use Rattle.log_reader.specs.Readers.{block_size}
use Rattle.log_reader.specs.Readers as reader
use Rattle.log_reader.specs.declared.calls.LogCall.{LogCall}
use Rattle.log_reader.specs.declared.calls.LogCall.TheVariants as call
use Rattle.log_reader.specs.declared.calls.LogReply.{LogReply}
use Rattle.log_reader.specs.declared.calls.LogReply.TheVariants as reply
use Rattle.checkpoint_reader.specs.declared.reader.Looking.{Looking}
use Rattle.checkpoint_reader.specs.Keeping.{HasRead, IsReply, LooksIn, Stands}
use Rattle.checkpoint_reader.specs.Readers as it
use Rattle.checkpoint_reader.specs.Readers.{ReaderState, after_by, after_forward, after_length, after_looking, after_reply, after_wanted, are_wanted, led, led_by, looks_back, next_call, told_long}
use Rattle.log_starts.specs.Starts.{AsksWithin, BeginsIn, GrownBeginsIn, NamesOwn}
use Rattle.log_starts.proofs.Starts.{read_front}

-- ---- a search

searched_is : (s : SearchState) → searched s ≡ passed_on (length s.hand) s
unfolding searched
searched_is s = refl

passed_is : StepIsOf → (n : ℕ) (log : List ℕ) (end : ℕ) (s : SearchState) → search.IsOf log end s → search.IsOf log end (passed_on n s)
passed_is step zero log end s is = is
passed_is step (suc n) log end s is = cond_both (is_none (told_of s)) (passed_on n (after_step s)) s (search.IsOf log end) (λ _. passed_is step n log end (after_step s) (step log end s is)) (λ _. is)

searched_of : StepIsOf → (log : List ℕ) (end : ℕ) (s : SearchState) → search.IsOf log end s → search.IsOf log end (searched s)
searched_of step log end s is = subst (search.IsOf log end) (sym (searched_is s)) (passed_is step (length s.hand) log end s is)

stays_on : (n : ℕ) (s : SearchState) (f : Found) → told_of s ≡ Some f → passed_on n s ≡ s
stays_on zero s f e = refl
stays_on (suc n) s f e = ap (λ (o : Option Found). cond (is_none o) (passed_on n (after_step s)) s) e

stays : (s : SearchState) (f : Found) → told_of s ≡ Some f → searched s ≡ s
stays s f e = searched_is s ∙ stays_on (length s.hand) s f e

-- ---- the Checkpoint that it finds

names_it : (place : ℕ) (b : Body) (offset : ℕ) → (place == offset) ≡ true → b ≡ body.Checkpoint offset → names place b ≡ true
names_it place b offset same e = ap (names place) e ∙ ap (λ (k : ℕ). offset == k) (eqb-true place offset same) ∙ same_itself offset
  where
    same_itself : (n : ℕ) → (n == n) ≡ true
    same_itself n = grind arith

first_is : (offset : ℕ) (r : LogRecord) (n : ℕ) (q : Result Parts ℕ) → search.IsLast offset (behind r n q) → r.body ≡ body.Checkpoint offset
first_is offset r n (Ok p) last = last.1.0
first_is offset r n (Err at) last = absurd last

none_first : (offset : ℕ) (bytes : List ℕ) → search.IsLast offset (Ok (record { records = []; size = 0; tail = length bytes })) → ⊥
none_first offset bytes last = last.1

module _ (front : FrontDecides) (goes : PartsGoOn) (ends : PartsEnd) (bad : PartsAreBad) where
  found_by : (log : List ℕ) (at k offset : ℕ) (f : Result (LogRecord × ℕ) RecordFault) → (at == offset) ≡ true → record_in (take k (drop at log)) ≡ f → search.IsLast offset (parts_in (take k (drop at log))) → NamesOwn at (drop at log)
  found_by log at k offset (Ok (r, n)) same e last =
      let bytes : List ℕ = take k (drop at log) in
      let is : r.body ≡ body.Checkpoint offset = first_is offset r n (parts_in (drop n bytes)) (subst (search.IsLast offset) (goes bytes r n e) last) in
      record { made = r; size = n; read = read_front front (drop at log) k r n e; own = names_it at r.body offset same is }
  found_by log at k offset (Err NotWhole) same e last = absurd (none_first offset (take k (drop at log)) (subst (search.IsLast offset) (ends (take k (drop at log)) (subst IsShort (sym e) tt)) last))
  found_by log at k offset (Err NoMemory) same e last = absurd (none_first offset (take k (drop at log)) (subst (search.IsLast offset) (ends (take k (drop at log)) (subst IsShort (sym e) tt)) last))
  found_by log at k offset (Err (Bad field)) same e last = absurd (subst (search.IsLast offset) (bad (take k (drop at log)) field e) last)

-- no bytes are no records
none_passed : PartsEnd → NothingIsShort → search.ArePassed (parts_in [])
none_passed ends none = subst search.ArePassed (sym (ends [] (subst IsShort (sym none) tt))) (refl, tt)

first_of_two : (a b : Bool) → (a && b) ≡ true → a ≡ true
first_of_two true b e = refl
first_of_two false b e = absurd (true≢false (sym e))

last_of_three : (a b c : Bool) → (a && (b && c)) ≡ true → c ≡ true
last_of_three true true c e = e
last_of_three true false c e = absurd (true≢false (sym e))
last_of_three false b c e = absurd (true≢false (sym e))

within_of : (m n : ℕ) → nat_le m n ≡ true → m ≤ n
within_of m n e = grind arith

-- what the log replies to what reads it forward
abbrev IsForward : List ℕ → ReaderState → LogReply → Type 0
IsForward log r (reply.Length long) = long ≡ length log
IsForward log r (reply.Count n) = HasRead log (reader.call_by r.held.end r.length_told) n r.block

-- and to a search
abbrev HasLooked : List ℕ → ReaderState → Looking → LogReply → Type 0
HasLooked log r l (reply.Length long) = long ≡ length log
HasLooked log r l (reply.Count n) = (l.at + n ≤ length log) × (take n r.block ≡ take n (drop l.at log)) × AreBytes r.block

abbrev Begins : List ℕ → ReaderState → Type 0
Begins log r = BeginsIn log r.held

module _ (front : FrontDecides) (goes : PartsGoOn) (ends : PartsEnd) (bad : PartsAreBad) (none : NothingIsShort) (step : StepIsOf) (tells : TellsSo) (fills : FillIsOf) (before : WantedIsBefore) (growing : GrownBeginsIn)
    (log : List ℕ) where
  -- ---- where it leads

  led_begins_by : (r : ReaderState) (s : SearchState) (o : Option Found) → told_of s ≡ o → search.IsOf log r.known s → Begins log r → Begins log (led_by r s o)
  led_begins_by r s None e of begins = begins
  led_begins_by r s (Some (found.Wants at count)) e of begins = begins
  led_begins_by r s (Some (found.At at offset)) e of begins =
      let told = tells log r.known s (found.At at offset) of e in
      cond_both (at == offset) (record r { held = held_from at }) r (Begins log) (λ same. inr (found_by front goes ends bad log at (r.known - at) offset (record_in (take (r.known - at) (drop at log))) same refl told.1)) (λ _. begins)
  led_begins_by r s (Some found.Missing) e of begins = begins
  led_begins_by r s (Some found.Broken) e of begins = begins

  led_begins : (r : ReaderState) (s : SearchState) → search.IsOf log r.known s → Begins log r → Begins log (led r s)
  led_begins r s of begins = led_begins_by r (searched s) (told_of (searched s)) refl (searched_of step log r.known s of) begins

  -- ---- the length

  search_starts : (known : ℕ) → known ≤ length log → search.IsOf log known (record { block = block_size; low = known; hand = [] })
  search_starts known within =
      let here : known + 0 ≡ known = omega arith in
      let zero_left : known - (known + 0) ≡ 0 = omega arith in
      let nothing : search.between (known + 0) known log ≡ [] = ap (λ (n : ℕ). take n (drop (known + 0) log)) zero_left in
      record {
        within = within;
        fits = omega arith;
        told = refl;
        passed = subst (λ (t : List ℕ). search.ArePassed (parts_in t)) (sym nothing) (none_passed ends none);
        whole = subst (λ (k : ℕ). search.AreWhole (parts_in (take known log)) → search.AreWhole (parts_in (take k log))) (sym here) (λ w. w);
      }

  length_begins : (r : ReaderState) (long : ℕ) → long ≡ length log → Begins log r → Begins log (after_length r long)
  length_begins r long is_long begins =
      cond_both (looks_back r long) (led (told_long r long) (record { block = block_size; low = r.known; hand = [] })) (told_long r long) (Begins log)
      (λ e. let in_log : r.known ≤ length log = subst (λ (n : ℕ). r.known ≤ n) is_long (within_of r.known long (last_of_three (nat_lt block_size long) (nat_lt 0 r.known) (nat_le r.known long) e)) in
      led_begins (told_long r long) (record { block = block_size; low = r.known; hand = [] }) (search_starts r.known in_log) begins)
      (λ _. begins)

  -- ---- bytes that are read forward

  fewer : (m n : ℕ) (xs ys : List ℕ) → m ≤ n → take n xs ≡ take n ys → take m xs ≡ take m ys
  fewer m n xs ys le e = sym (take-take m n xs le) ∙ ap (take m) e ∙ take-take m n ys le

  grows : (h : HeldState) (block : List ℕ) (n : ℕ) → IsOf log h → h.end + n ≤ length log → take n block ≡ take n (drop h.end log) → AreBytes block → BeginsIn log h → BeginsIn log (grown h (take (min n block_size) block))
  grows h block n is within same are begins =
      let le : min n block_size ≤ n = omega arith in
      growing log h block (min n block_size) is are (omega (arith, le, within)) (fewer (min n block_size) n block (drop h.end log) le same) begins

  count_begins : (r : ReaderState) (n : ℕ) → IsOf log r.held → r.held.end + n ≤ length log → take n r.block ≡ take n (drop r.held.end log) → AreBytes r.block → Begins log r → Begins log (after_forward r (reply.Count n))
  count_begins r n is within same are begins =
      cond_both (n == 0) (record { member = r.member; length_told = Some r.held.end; held = r.held; block = r.block }) (record { member = r.member; length_told = r.length_told; held = grown r.held (take (min n block_size) r.block); block = r.block })
      (λ (f : reader.ReaderState). Begins log (it.with_forward r f)) (λ _. begins) (λ _. grows r.held r.block n is within same are begins)

  asked : (r : ReaderState) (n : ℕ) (told : Option ℕ) → HasRead log (reader.call_by r.held.end told) n r.block → (r.held.end + n ≤ length log) × (take n r.block ≡ take n (drop r.held.end log)) × AreBytes r.block
  asked r n None h = absurd h
  asked r n (Some long) h = h

  forward_begins : (r : ReaderState) (x : LogReply) → IsOf log r.held → IsForward log r x → Begins log r → Begins log (after_forward r x)
  forward_begins r (reply.Length long) is told begins = length_begins r long told begins
  forward_begins r (reply.Count n) is told begins = let h = asked r n r.length_told told in count_begins r n is h.0 h.1 h.2 begins

  -- ---- bytes that are looked at

  wanted_begins : (r : ReaderState) (s : SearchState) (at count n : ℕ) → told_of s ≡ Some (found.Wants at count) → search.IsOf log r.known s → (at + n ≤ length log) × (take n r.block ≡ take n (drop at log)) × AreBytes r.block → Begins log r
      → Begins log (after_wanted r s n)
  wanted_begins r s at count n told of h begins =
      cond_both (are_wanted (told_of s) n) (led r (filled s (take n r.block))) r (Begins log)
      (λ e.
      let both : ((n == count) && nat_le n block_size) ≡ true = subst (λ (o : Option Found). are_wanted o n ≡ true) told e in
      let all : n ≡ count = eqb-true n count (first_of_two (n == count) (nat_le n block_size) both) in
      let bytes : List ℕ = take n r.block in
      let left = length-drop at log in
      let long : length bytes ≡ n = ap (λ (t : List ℕ). length t) h.1 ∙ length-take-le n (drop at log) (omega (arith, left, h.0)) in
      let place = before s at count told in
      let here : s.low - length bytes ≡ at = omega (arith, place.0, all, long) in
      let wants : AreWanted (told_of s) (length bytes) = subst (λ (o : Option Found). AreWanted o (length bytes)) (sym told) (sym all ∙ sym long) in
      let next : bytes ≡ take (length bytes) (drop (s.low - length bytes) log) = h.1 ∙ ap (λ (k : ℕ). take k (drop at log)) (sym long) ∙ ap (λ (k : ℕ). take (length bytes) (drop k log)) (sym here) in
      led_begins r (filled s bytes) (fills log r.known s bytes of wants next) begins)
      (λ _. begins)

  looking_begins : (r : ReaderState) (l : Looking) (x : LogReply) → LooksIn log r.known l → HasLooked log r l x → Begins log r → Begins log (after_looking (record r { looking = None }) l.search x)
  looking_begins r l (reply.Length long) looks told begins = begins
  looking_begins r l (reply.Count n) looks told begins =
      subst (λ (s : SearchState). Begins log (after_wanted (record r { looking = None }) s n)) (sym (stays l.search (found.Wants l.at l.count) looks.wants))
      (wanted_begins (record r { looking = None }) l.search l.at l.count n looks.wants looks.of told begins)

  -- ---- a reply

  forward_of : (r : ReaderState) (x : LogReply) → r.looking ≡ None → IsReply log r x → IsForward log r x
  forward_of r (reply.Length long) e told = told
  forward_of r (reply.Count n) e told = subst (λ (o : Option Looking). HasRead log (it.call_by o (reader.next_call (it.forward r))) n r.block) e told

  looked_of : (r : ReaderState) (l : Looking) (x : LogReply) → r.looking ≡ Some l → IsReply log r x → HasLooked log r l x
  looked_of r l (reply.Length long) e told = told
  looked_of r l (reply.Count n) e told = subst (λ (o : Option Looking). HasRead log (it.call_by o (reader.next_call (it.forward r))) n r.block) e told

  replies_by : (r : ReaderState) (x : LogReply) (o : Option Looking) → r.looking ≡ o → IsReply log r x → Stands log r → Begins log r → Begins log (after_by r o x)
  replies_by r x None e told s begins = forward_begins r x s.kept (forward_of r x e told) begins
  replies_by r x (Some l) e told s begins = looking_begins r l x (subst (λ (o : Option Looking). IfSome o (LooksIn log r.known)) e s.looks) (looked_of r l x e told) begins

  pub replies_begin : (r : ReaderState) (x : LogReply) → IsReply log r x → Stands log r → BeginsIn log r.held → BeginsIn log (after_reply r x).held
  replies_begin r x told s begins = replies_by r x r.looking refl told s begins

-- ---- what is asked for

abbrev place_in : LogCall → ℕ
place_in call.Length = 0
place_in (call.Read at count) = at

forward_within : (log : List ℕ) (h : HeldState) (o : Option ℕ) → IsOf log h → place_in (reader.call_by h.end o) ≤ length log
forward_within log h None is = omega arith
forward_within log h (Some long) is = is.within

search_within : WantedIsBefore → (log : List ℕ) (known : ℕ) (l : Looking) → LooksIn log known l → l.at ≤ length log
search_within before log known l looks =
    let place = before l.search l.at l.count looks.wants in
    omega (arith, place.0, looks.of.fits, looks.of.within)

within_by : WantedIsBefore → (log : List ℕ) (r : ReaderState) (o : Option Looking) → IsOf log r.held → IfSome o (LooksIn log r.known) → place_in (it.call_by o (reader.next_call (it.forward r))) ≤ length log
within_by before log r None is looks = forward_within log r.held r.length_told is
within_by before log r (Some l) is looks = search_within before log r.known l looks

pub asks_within : WantedIsBefore → AsksWithin
asks_within before log r at count s e = subst (λ (c : LogCall). place_in c ≤ length log) e (within_by before log r r.looking s.kept s.looks)
