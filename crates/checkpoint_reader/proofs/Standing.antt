-- What is kept of a log while the replies are the log's.
use Rattle.std.proofs.Common.{◌≡◌, ℕ, zero, suc, ◌+◌, ◌-◌, ◌≤◌, Bool, true, false, cond, List, [], length, take, drop, Option, Some, None, refl, sym, ap, subst, ◌∙◌, arith, true≢false}
use Rattle.std.specs.Prelude.{◌==◌, ◌&&◌, nat_le, nat_lt, min, IfSome, is_none}
use Rattle.std.proofs.lemmas.Bool.{cond_both, eqb-true}
use Rattle.std.proofs.lemmas.List.{length-drop, length-take-le, take-take}
use Rattle.log_checkpoint.specs.declared.found.Found.{Found}
use Rattle.log_checkpoint.specs.declared.found.Found.TheVariants as found
use Rattle.log_checkpoint.specs.Backwards.{SearchState, told_of, after_step, passed_on, searched, AreWanted, filled}
use Rattle.log_checkpoint.specs.Laws.{StepIsOf, TellsSo, FillIsOf, WantedIsBefore}
use Rattle.log_checkpoint.specs.Passed as search
use Rattle.log_head.specs.Laws.{RecordHasSize, FrontDecides, NothingIsShort, PartsGoOn, PartsEnd, PartsAreBad}
use Rattle.log_reader.specs.Held.{HeldState, held_from, grown}
use Rattle.log_reader.specs.Keeping.{AreBytes, AreWhole, IsOf, HasLastOf, NothingIsOf, BeginningIsOf, KeepingIsOf, GrownIsOf}
use Rattle.log_reader.specs.Keeping as kept
use Rattle.log_reader.specs.Readers.{block_size, read_of, call_by}
use Rattle.log_reader.specs.Readers as reader
use Rattle.log_reader.specs.declared.calls.LogReply.{LogReply}
use Rattle.log_reader.specs.declared.calls.LogReply.TheVariants as reply
use Rattle.log_reader.specs.declared.calls.LogRead.TheVariants as read
use Rattle.log_record.specs.declared.log.Log.{Log}
use Rattle.log_record.specs.Logs.{parts_in}
use Rattle.checkpoint_reader.specs.declared.reader.Looking.{Looking}
use Rattle.checkpoint_reader.specs.Keeping.{LooksIn, Stands, HasRead, IsReply}
use Rattle.checkpoint_reader.specs.Readers as it
use Rattle.checkpoint_reader.specs.Readers.{ReaderState, IsNew, led_by, led, looks_back, told_long, after_length, are_wanted, after_wanted, after_looking, after_forward, after_by, after_reply, IsRead}
use Rattle.checkpoint_reader.proofs.Wholes.{ReadAgain, front_of, known_whole, none_passed}

-- nothing is looked for
plain : (log : List ℕ) (r : ReaderState) → r.looking ≡ None → IsOf log r.held → Stands log r
plain log r none is = record { kept = is; looks = subst (λ (o : Option Looking). IfSome o (LooksIn log r.known)) (sym none) tt }

pub nothing_stands : NothingIsOf → (log : List ℕ) (member : ℕ) (r : ReaderState) → IsNew member r → Stands log r
nothing_stands law log member r is = plain log r is.not_looking (subst (IsOf log) (sym is.nothing) (law log false))

-- ---- the search

searched_is : (s : SearchState) → searched s ≡ passed_on (length s.hand) s
unfolding searched
searched_is s = refl

passed_is : StepIsOf → (n : ℕ) (log : List ℕ) (end : ℕ) (s : SearchState) → search.IsOf log end s → search.IsOf log end (passed_on n s)
passed_is step zero log end s is = is
passed_is step (suc n) log end s is = cond_both (is_none (told_of s)) (passed_on n (after_step s)) s (search.IsOf log end) (λ _. passed_is step n log end (after_step s) (step log end s is)) (λ _. is)

searched_of : StepIsOf → (log : List ℕ) (end : ℕ) (s : SearchState) → search.IsOf log end s → search.IsOf log end (searched s)
searched_of step log end s is = subst (search.IsOf log end) (sym (searched_is s)) (passed_is step (length s.hand) log end s is)

stays_on : (n : ℕ) (s : SearchState) (f : Found) → told_of s ≡ Some f → passed_on n s ≡ s
stays_on zero s f e = refl
stays_on (suc n) s f e = ap (λ (o : Option Found). cond (is_none o) (passed_on n (after_step s)) s) e

stays : (s : SearchState) (f : Found) → told_of s ≡ Some f → searched s ≡ s
stays s f e = searched_is s ∙ stays_on (length s.hand) s f e

-- what the log replies to what reads it forward
abbrev IsForward : List ℕ → ReaderState → LogReply → Type 0
IsForward log r (reply.Length long) = long ≡ length log
IsForward log r (reply.Count n) = HasRead log (call_by r.held.end r.length_told) n r.block

-- and to a search
abbrev HasLooked : List ℕ → ReaderState → Looking → LogReply → Type 0
HasLooked log r l (reply.Length long) = long ≡ length log
HasLooked log r l (reply.Count n) = (l.at + n ≤ length log) × (take n r.block ≡ take n (drop l.at log)) × AreBytes r.block

first_of_two : (a b : Bool) → (a && b) ≡ true → a ≡ true
first_of_two true b e = refl
first_of_two false b e = absurd (true≢false (sym e))

-- ---- where it leads

module _ (size : RecordHasSize) (again : ReadAgain) (front : FrontDecides) (goes : PartsGoOn) (ends : PartsEnd) (bad : PartsAreBad) (none : NothingIsShort) (beginning : BeginningIsOf) (step : StepIsOf) (tells : TellsSo) (fills : FillIsOf)
    (before : WantedIsBefore) (keeping : KeepingIsOf) (growing : GrownIsOf) (log : List ℕ) where
  begins_at : (known at offset : ℕ) → known ≤ length log → AreWhole (take known log) → search.IsTold log known (found.At at offset) → IsOf log (held_from at)
  begins_at known at offset within whole told =
      beginning log at (omega (arith, told.0, within)) (front_of size again front goes ends bad log known at within told.0 whole (told.2 (known_whole again goes ends none (take known log) whole)))

  led_stands_by : (r : ReaderState) (s : SearchState) (o : Option Found) → told_of s ≡ o → r.known ≤ length log → AreWhole (take r.known log) → r.looking ≡ None → IsOf log r.held → search.IsOf log r.known s → Stands log (led_by r s o)
  led_stands_by r s None e within whole not is of = plain log r not is
  led_stands_by r s (Some (found.Wants at count)) e within whole not is of = record { kept = is; looks = record { of = of; wants = e } }
  led_stands_by r s (Some (found.At at offset)) e within whole not is of =
      cond_both (at == offset) (record r { held = held_from at }) r (Stands log) (λ _. plain log (record r { held = held_from at }) not (begins_at r.known at offset within whole (tells log r.known s (found.At at offset) of e))) (λ _. plain log r not is)
  led_stands_by r s (Some found.Missing) e within whole not is of = plain log r not is
  led_stands_by r s (Some found.Broken) e within whole not is of = plain log r not is

  led_stands : (r : ReaderState) (s : SearchState) → r.known ≤ length log → AreWhole (take r.known log) → r.looking ≡ None → IsOf log r.held → search.IsOf log r.known s → Stands log (led r s)
  led_stands r s within whole not is of = led_stands_by r (searched s) (told_of (searched s)) refl within whole not is (searched_of step log r.known s of)

  -- ---- the length

  search_starts : (known : ℕ) → known ≤ length log → search.IsOf log known (record { block = block_size; low = known; hand = [] })
  search_starts known within =
      let here : known + 0 ≡ known = omega arith in
      let zero_left : known - (known + 0) ≡ 0 = omega arith in
      let nothing : search.between (known + 0) known log ≡ [] = ap (λ (n : ℕ). take n (drop (known + 0) log)) zero_left in
      record {
        within = within;
        fits = omega arith;
        told = refl;
        passed = subst (λ (t : List ℕ). search.ArePassed (parts_in t)) (sym nothing) (none_passed ends none);
        whole = subst (λ (k : ℕ). search.AreWhole (parts_in (take known log)) → search.AreWhole (parts_in (take k log))) (sym here) (λ w. w);
      }

  last_of_three : (a b c : Bool) → (a && (b && c)) ≡ true → c ≡ true
  last_of_three true true c e = e
  last_of_three true false c e = absurd (true≢false (sym e))
  last_of_three false b c e = absurd (true≢false (sym e))

  within_of : (m n : ℕ) → nat_le m n ≡ true → m ≤ n
  within_of m n e = grind arith

  length_stands : (r : ReaderState) (long : ℕ) → long ≡ length log → AreWhole (take r.known log) → r.looking ≡ None → IsOf log r.held → Stands log (after_length r long)
  length_stands r long is_long whole not is =
      let its : IsOf log (told_long r long).held = keeping log r.held (nat_le long block_size) is in
      cond_both (looks_back r long) (led (told_long r long) (record { block = block_size; low = r.known; hand = [] })) (told_long r long) (Stands log)
      (λ e. let in_log : r.known ≤ length log = subst (λ (n : ℕ). r.known ≤ n) is_long (within_of r.known long (last_of_three (nat_lt block_size long) (nat_lt 0 r.known) (nat_le r.known long) e)) in
      led_stands (told_long r long) (record { block = block_size; low = r.known; hand = [] }) in_log whole not its (search_starts r.known in_log))
      (λ _. plain log (told_long r long) not its)

  -- ---- bytes that are read forward

  fewer : (m n : ℕ) (xs ys : List ℕ) → m ≤ n → take n xs ≡ take n ys → take m xs ≡ take m ys
  fewer m n xs ys le e = sym (take-take m n xs le) ∙ ap (take m) e ∙ take-take m n ys le

  grows : (h : HeldState) (block : List ℕ) (n : ℕ) → IsOf log h → h.end + n ≤ length log → take n block ≡ take n (drop h.end log) → AreBytes block → IsOf log (grown h (take (min n block_size) block))
  grows h block n is within same are =
      let le : min n block_size ≤ n = omega arith in
      growing log h block (min n block_size) is are (omega (arith, le, within)) (fewer (min n block_size) n block (drop h.end log) le same)

  count_stands : (r : ReaderState) (n : ℕ) → r.looking ≡ None → IsOf log r.held → r.held.end + n ≤ length log → take n r.block ≡ take n (drop r.held.end log) → AreBytes r.block → Stands log (after_forward r (reply.Count n))
  count_stands r n not is within same are =
      cond_both (n == 0) (record { member = r.member; length_told = Some r.held.end; held = r.held; block = r.block }) (record { member = r.member; length_told = r.length_told; held = grown r.held (take (min n block_size) r.block); block = r.block })
      (λ (f : reader.ReaderState). Stands log (it.with_forward r f)) (λ _. plain log (it.with_forward r (record { member = r.member; length_told = Some r.held.end; held = r.held; block = r.block })) not is)
      (λ _. plain log (it.with_forward r (record { member = r.member; length_told = r.length_told; held = grown r.held (take (min n block_size) r.block); block = r.block })) not (grows r.held r.block n is within same are))

  asked : (r : ReaderState) (n : ℕ) (told : Option ℕ) → HasRead log (call_by r.held.end told) n r.block → (r.held.end + n ≤ length log) × (take n r.block ≡ take n (drop r.held.end log)) × AreBytes r.block
  asked r n None h = absurd h
  asked r n (Some long) h = h

  forward_stands : (r : ReaderState) (x : LogReply) → AreWhole (take r.known log) → r.looking ≡ None → IsOf log r.held → IsForward log r x → Stands log (after_forward r x)
  forward_stands r (reply.Length long) whole not is told = length_stands r long told whole not is
  forward_stands r (reply.Count n) whole not is told = let h = asked r n r.length_told told in count_stands r n not is h.0 h.1 h.2

  -- ---- bytes that are looked at

  wanted_stands : (r : ReaderState) (s : SearchState) (at count n : ℕ) → told_of s ≡ Some (found.Wants at count) → AreWhole (take r.known log) → r.looking ≡ None → IsOf log r.held → search.IsOf log r.known s
      → (at + n ≤ length log) × (take n r.block ≡ take n (drop at log)) × AreBytes r.block → Stands log (after_wanted r s n)
  wanted_stands r s at count n told whole not is of h =
      cond_both (are_wanted (told_of s) n) (led r (filled s (take n r.block))) r (Stands log)
      (λ e.
      let both : ((n == count) && nat_le n block_size) ≡ true = subst (λ (o : Option Found). are_wanted o n ≡ true) told e in
      let all : n ≡ count = eqb-true n count (first_of_two (n == count) (nat_le n block_size) both) in
      let bytes : List ℕ = take n r.block in
      let left = length-drop at log in
      let long : length bytes ≡ n = ap (λ (t : List ℕ). length t) h.1 ∙ length-take-le n (drop at log) (omega (arith, left, h.0)) in
      let place = before s at count told in
      let here : s.low - length bytes ≡ at = omega (arith, place.0, all, long) in
      let wants : AreWanted (told_of s) (length bytes) = subst (λ (o : Option Found). AreWanted o (length bytes)) (sym told) (sym all ∙ sym long) in
      let next : bytes ≡ take (length bytes) (drop (s.low - length bytes) log) = h.1 ∙ ap (λ (k : ℕ). take k (drop at log)) (sym long) ∙ ap (λ (k : ℕ). take (length bytes) (drop k log)) (sym here) in
      led_stands r (filled s bytes) of.within whole not is (fills log r.known s bytes of wants next))
      (λ _. plain log r not is)

  looking_stands : (r : ReaderState) (l : Looking) (x : LogReply) → AreWhole (take r.known log) → IsOf log r.held → LooksIn log r.known l → HasLooked log r l x → Stands log (after_looking (record r { looking = None }) l.search x)
  looking_stands r l (reply.Length long) whole is looks told = plain log (record r { looking = None }) refl is
  looking_stands r l (reply.Count n) whole is looks told =
      subst (λ (s : SearchState). Stands log (after_wanted (record r { looking = None }) s n)) (sym (stays l.search (found.Wants l.at l.count) looks.wants))
      (wanted_stands (record r { looking = None }) l.search l.at l.count n looks.wants whole refl is looks.of told)

  -- ---- a reply

  forward_of : (r : ReaderState) (x : LogReply) → r.looking ≡ None → IsReply log r x → IsForward log r x
  forward_of r (reply.Length long) e told = told
  forward_of r (reply.Count n) e told = subst (λ (o : Option Looking). HasRead log (it.call_by o (reader.next_call (it.forward r))) n r.block) e told

  looked_of : (r : ReaderState) (l : Looking) (x : LogReply) → r.looking ≡ Some l → IsReply log r x → HasLooked log r l x
  looked_of r l (reply.Length long) e told = told
  looked_of r l (reply.Count n) e told = subst (λ (o : Option Looking). HasRead log (it.call_by o (reader.next_call (it.forward r))) n r.block) e told

  replies_by : (r : ReaderState) (x : LogReply) (o : Option Looking) → r.looking ≡ o → AreWhole (take r.known log) → IsReply log r x → Stands log r → Stands log (after_by r o x)
  replies_by r x None e whole told s = forward_stands r x whole e s.kept (forward_of r x e told)
  replies_by r x (Some l) e whole told s = looking_stands r l x whole s.kept (subst (λ (o : Option Looking). IfSome o (LooksIn log r.known)) e s.looks) (looked_of r l x e told)

  pub replies_stand : (r : ReaderState) (x : LogReply) → AreWhole (take r.known log) → IsReply log r x → Stands log r → Stands log (after_reply r x)
  replies_stand r x whole told s = replies_by r x r.looking refl whole told s

pub read_last : kept.ReadIsLast → (bytes : List ℕ) (r : ReaderState) (log : Log) → Stands bytes r → length bytes ≤ r.held.end → IsRead r (read.Whole log) → HasLastOf bytes log
read_last law bytes r log s all is = law bytes (it.forward r) log s.kept all is.2
