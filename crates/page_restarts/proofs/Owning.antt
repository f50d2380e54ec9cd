-- Page locks, the log buffer, and events that leave the page in hand.
use Rattle.std.proofs.Common.{◌≡◌, ◌≢◌, ℕ, ◌<◌, ◌≤◌, refl, sym, ap, subst, ◌∙◌, arith, false, inl, inr, List, [], ◌∷◌, Option, Some, None}
use Rattle.std.specs.Prelude.{◌==◌}
use Rattle.std.proofs.lemmas.Bool.{cases_eq, cond-false, cond-true, eq-eqb, ne_eqb}
use Rattle.ds_base.specs.declared.names.PageId.{PageId}
use Rattle.page_format.specs.Fields.{lrsn_of}
use Rattle.list_structure.specs.Standings.{status_of}
use Rattle.facility.specs.States.{Held as Facility}
use Rattle.member_log.specs.Buffers.{LogBuffer}
use Rattle.restart_resources.specs.Held.{Held}
use Rattle.page_protocol.specs.Page.{put}
use Rattle.page_protocol.specs.Moves.{World, At, Force, Lock, Move, Purge, forced as group_forced}
use Rattle.page_world.specs.Holdings.{Copy, Holdings, KeepsPages}
use Rattle.page_world.specs.Losses.{StaysTied}
use Rattle.page_world.specs.Numbers.{page_at, page_number, AreNumbered as AreNumberedPages}
use Rattle.page_world.specs.Owners.{ForcesMoves, LocksMoves, PurgesMoves}
use Rattle.page_world.specs.Tied.{Moved}
use Rattle.page_intents.specs.Numbers.{AreNumbered}
use Rattle.page_intents.specs.Stands.{AreBehind}
use Rattle.page_restarts.specs.Locks.{AppendGoes, GiveUpGoes, LockGoes, StayGoes}
use Rattle.page_restarts.specs.Stands.{Begins, Goes, IsRestarting, SameHand, copy_for, copy_of, hand_copy}
use Rattle.page_restarts.proofs.Chains.{AtPages, at_none, at_one, numbered_on, pages_stay}
use Rattle.page_restarts.proofs.Hands.{coherent}
use Rattle.page_restarts.proofs.Standing.{copy_there, has_copy, is_live_restarting}

-- ---- the same page in hand
pub same_of : (h t : Held) (n : ℕ) → SameHand h t → copy_of t n ≡ copy_of h n
same_of h t n s =
    let copy = s.copy in
    let page = s.page in
    λ i. copy_for (copy i) (page i) n

pub still : (g : Holdings) (forced : ℕ → ℕ) (h t : Held) (v : Facility) (owner : ℕ → Option ℕ) → IsRestarting g forced h → KeepsPages g.facility v → SameHand h t → IsRestarting (record g { facility = v; owner = owner }) forced t
still g forced h t v owner r keeps s = record {
  least = subst (λ m. 1 ≤ m) (sym s.member) r.least;
  among = subst (λ m. m ≤ v.lists.members) (sym s.member) (subst (λ z. h.marks.member ≤ z) (sym keeps.members) r.among);
  restarts = ap (λ z. status_of z t.marks.member) keeps.statuses ∙ ap (status_of g.facility.lists.statuses) s.member ∙ r.restarts;
  log = ap forced s.member ∙ r.log ∙ sym (ap (λ (z : LogBuffer). z.stable) s.log);
  last = subst (λ z. t.marks.log.last ≤ z) (sym keeps.counter) (subst (λ (z : LogBuffer). z.last ≤ g.facility.counter) (sym s.log) r.last);
  pending = subst (λ m. AreBehind (g.stable m) (g.written m) t.marks.log.pending) (sym s.member) (subst (λ (z : LogBuffer). AreBehind (g.stable h.marks.member) (g.written h.marks.member) z.pending) (sym s.log) r.pending);
  full = λ e. ap (λ (c : Copy). c.filled) s.copy ∙ r.full (sym (ap (λ (c : Copy). c.marked) s.copy) ∙ e);
  shows = λ e. ap lrsn_of (ap (λ (c : Copy). c.bytes) s.copy) ∙ r.shows (sym (ap (λ (c : Copy). c.marked) s.copy) ∙ e) ∙ sym s.last;
  copies = λ n. ap (λ z. g.copies z n) s.member ∙ r.copies n ∙ sym (same_of h t n s);
}

goes_as : (w : World) (g : Holdings) (content : ℕ → ℕ → List ℕ) (forced : ℕ → ℕ) (h t : Held) (v : Facility) (owner : ℕ → Option ℕ) (moves : List Move) → Begins w g content forced h → KeepsPages g.facility v → SameHand h t → AtPages moves
    → Moved w moves (record g { facility = v; owner = owner }) content → Goes w content forced (record g { facility = v; owner = owner }) h t
goes_as w g content forced h t v owner moves b keeps s pages moved =
    record { moves = moves; moved = moved; numbered = numbered_on w moved.world moves content forced pages moved.run b.numbered; casts = λ k. (pages_stay w moved.world moves pages moved.run k).castout; same = s.member; stands = still g forced h t v owner b.restarts keeps s }

pub stay_goes : StaysTied → StayGoes
stay_goes law w g content forced h t v b keeps s = goes_as w g content forced h t v g.owner [] b keeps s at_none (law w g content v b.tied keeps)

pub lock_goes : LocksMoves → LockGoes
lock_goes law w g content forced h t p v b free keeps s =
    let m = h.marks.member in
    let n = page_number p in
    goes_as w g content forced h t v (put g.owner n (Some m)) (At n (Lock m) ∷ []) b keeps s (at_one n (Lock m) refl) (law w g content m n v b.tied (is_live_restarting g forced h b.restarts) free keeps)

-- ---- a page that isn't in hand has no copy
unmarked : (g : Holdings) (forced : ℕ → ℕ) (h : Held) (p : PageId) → IsRestarting g forced h → (h.marks.hand.page ≡ Some p → h.marks.hand.changed ≡ false) → ((q : PageId) → page_number q ≡ page_number p → q ≡ p) → (g.copies h.marks.member (page_number p)).marked ≡ false
unmarked g forced h p r clean one = by h.marks.hand.page refl
  where
    by : (o : Option PageId) → h.marks.hand.page ≡ o → (g.copies h.marks.member (page_number p)).marked ≡ false
    by None e = ap (λ (c : Copy). c.marked) (r.copies (page_number p) ∙ ap (λ o. copy_for (hand_copy h.marks.hand h.page) o (page_number p)) e)
    by (Some q) e = elim (cases_eq (page_number p) (page_number q)) [
      | inl same ↦ (let is : q ≡ p = one q (sym same) in ap (λ (c : Copy). c.marked) (ap (g.copies h.marks.member) same ∙ has_copy g forced h q r e) ∙ clean (e ∙ ap Some is))
      | inr ne ↦ ap (λ (c : Copy). c.marked) (r.copies (page_number p) ∙ copy_there h q (page_number p) e ne)
    ]

pub one_page : AreNumberedPages → (p q : PageId) → page_number q ≡ page_number p → q ≡ p
one_page numbers p q e = sym (numbers.named q) ∙ ap page_at e ∙ numbers.named p

pub give_up_goes : ((p q : PageId) → page_number q ≡ page_number p → q ≡ p) → PurgesMoves → GiveUpGoes
give_up_goes one law w g content forced h t p v b own clean written keeps s =
    let m = h.marks.member in
    let n = page_number p in
    goes_as w g content forced h t v (put g.owner n None) (At n (Purge m) ∷ []) b keeps s (at_one n (Purge m) refl)
    (law w g content m n v b.tied b.restarts.least b.restarts.among b.restarts.restarts own (unmarked g forced h p b.restarts clean (one p)) written keeps)

-- ---- the append
put_here : {A : Type 0} → (f : ℕ → A) (m j : ℕ) (x : A) → j ≡ m → put f m x j ≡ x
put_here f m j x e = cond-true (j == m) x (f j) (eq-eqb j m e)

put_there : {A : Type 0} → (f : ℕ → A) (m j : ℕ) (x : A) → j ≢ m → put f m x j ≡ f j
put_there f m j x ne = cond-false (j == m) x (f j) (ne_eqb j m ne)

numbered_forced : (w : World) (content : ℕ → ℕ → List ℕ) (forced : ℕ → ℕ) (m k last : ℕ) → AreNumbered w content forced → w.group.written m ≡ k → last ≤ w.group.counter
    → ((n i : ℕ) → i < (w.pages n).last → (w.pages n).place i < w.group.written ((w.pages n).author i)) → AreNumbered (record { down = false; group = group_forced w.group m k; pages = w.pages }) content (put forced m last)
numbered_forced w content forced m k last t all drawn written = record {
  shown = t.shown;
  stable = λ n i l. by n i l;
  drawn = λ j. elim (cases_eq j m) [
    | inl e ↦ subst (λ z. z ≤ w.group.counter) (sym (put_here forced m j last e)) drawn
    | inr ne ↦ subst (λ z. z ≤ w.group.counter) (sym (put_there forced m j last ne)) (t.drawn j)
  ];
}
  where
    by : (n i : ℕ) → i < (w.pages n).last → (w.pages n).lrsn i ≤ put forced m last ((w.pages n).author i) → (w.pages n).place i < put w.group.stable m k ((w.pages n).author i)
    by n i l le = elim (cases_eq ((w.pages n).author i) m) [
      | inl e ↦ subst (λ z. (w.pages n).place i < z) (sym (put_here w.group.stable m ((w.pages n).author i) k e)) (subst (λ z. (w.pages n).place i < z) (ap w.group.written e ∙ all) (written n i l))
      | inr ne ↦ subst (λ z. (w.pages n).place i < z) (sym (put_there w.group.stable m ((w.pages n).author i) k ne)) (t.stable n i l (subst (λ z. (w.pages n).lrsn i ≤ z) (put_there forced m ((w.pages n).author i) last ne) le))
    ]

pub append_goes : ForcesMoves → AppendGoes
append_goes law w g content forced h b =
    let m = h.marks.member in
    let r = b.restarts in
    let least : g.stable m ≤ g.written m = (let e = r.pending.counted in omega (arith, e)) in
    let moved = law w g content m (g.written m) b.tied least (omega arith) in
    let numbered = numbered_forced w content forced m (g.written m) h.marks.log.last b.numbered (b.tied.written m) (subst (λ z. h.marks.log.last ≤ z) (sym b.tied.counter) r.last)
    (λ n. (coherent w.group (w.pages n) w.down b.tied.running (b.good.stands n)).written) in
    record {
      moves = Force m (g.written m) ∷ [];
      moved = moved;
      numbered = subst (λ z. AreNumbered z content (put forced m h.marks.log.last)) (sym (moved.run.2 ∙ moved.run.1.3)) numbered;
      casts = λ k. ap (λ (z : World). (z.pages k).castout) (moved.run.2 ∙ moved.run.1.3);
      same = refl;
      stands = record {
        least = r.least;
        among = r.among;
        restarts = r.restarts;
        log = put_here forced m m h.marks.log.last refl;
        last = r.last;
        pending = record { records = []; spelled = refl; counted = (let e = put_here g.stable m m (g.written m) refl in omega (arith, e)) };
        full = r.full;
        shows = r.shows;
        copies = r.copies;
      };
    }
