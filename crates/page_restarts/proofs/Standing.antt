-- A restart that is still in hand behind an event, with the page in its hand.
use Rattle.std.proofs.Common.{◌≡◌, ◌≢◌, ℕ, ◌≤◌, refl, sym, ap, subst, ◌∙◌, true, false, inl, inr, List, [], ◌∷◌, ◌++◌, Some, None}
use Rattle.std.specs.Prelude.{◌==◌, ◌&&◌, if◌then◌else◌}
use Rattle.std.proofs.lemmas.Bool.{and_from, and_parts, cases_eq, cond-false, cond-true, eq-eqb, eqb-true, false_from_ne_true, ne_eqb}
use Rattle.ds_base.specs.declared.names.PageId.{PageId}
use Rattle.page_format.specs.Fields.{lrsn_of}
use Rattle.list_structure.specs.Standings.{is_live, status_of}
use Rattle.facility.specs.States.{Held as Facility}
use Rattle.member_log.specs.Buffers.{LogBuffer}
use Rattle.restart_resources.specs.Held.{Held}
use Rattle.page_protocol.specs.Moves.{World, Move, Run}
use Rattle.page_world.specs.Cache.{HasFrame, IsLive}
use Rattle.page_world.specs.Holdings.{Copy, no_copy, Holdings, with_copy, with_facility}
use Rattle.page_world.specs.Numbers.{page_number, set_of}
use Rattle.page_world.specs.Tied.{Moved, Tied}
use Rattle.page_intents.specs.Numbers.{AreNumbered}
use Rattle.page_intents.specs.Stands.{AreBehind}
use Rattle.page_restarts.specs.Stands.{Goes, GoesAlong, IsRestarting, behind, copy_for, copy_of, hand_copy}
use Rattle.page_restarts.proofs.Chains.{AtPages, Chain, at_none, numbered_on, pages_stay}

-- ---- the copies
pub copy_here : (h : Held) (p : PageId) → h.marks.hand.page ≡ Some p → copy_of h (page_number p) ≡ hand_copy h.marks.hand h.page
copy_here h p e =
    ap (λ o. copy_for (hand_copy h.marks.hand h.page) o (page_number p)) e
    ∙ cond-true (page_number p == page_number p) (hand_copy h.marks.hand h.page) no_copy (eq-eqb (page_number p) (page_number p) refl)

pub copy_there : (h : Held) (p : PageId) (j : ℕ) → h.marks.hand.page ≡ Some p → j ≢ page_number p → copy_of h j ≡ no_copy
copy_there h p j e ne = ap (λ o. copy_for (hand_copy h.marks.hand h.page) o j) e ∙ cond-false (j == page_number p) (hand_copy h.marks.hand h.page) no_copy (ne_eqb j (page_number p) ne)

pub copy_none : (h : Held) (j : ℕ) → h.marks.hand.page ≡ None → copy_of h j ≡ no_copy
copy_none h j e = ap (λ o. copy_for (hand_copy h.marks.hand h.page) o j) e

pub has_copy : (g : Holdings) (forced : ℕ → ℕ) (h : Held) (p : PageId) → IsRestarting g forced h → h.marks.hand.page ≡ Some p → g.copies h.marks.member (page_number p) ≡ hand_copy h.marks.hand h.page
has_copy g forced h p r e = r.copies (page_number p) ∙ copy_here h p e

pub has_frame : (g : Holdings) (forced : ℕ → ℕ) (h : Held) (p : PageId) → IsRestarting g forced h → h.marks.hand.page ≡ Some p → HasFrame g h.marks.member (page_number p) 0
has_frame g forced h p r e =
    let c = has_copy g forced h p r e in
    record { placed = ap (λ (x : Copy). x.placed) c; at = ap (λ (x : Copy). x.index) c }

pub is_live_restarting : (g : Holdings) (forced : ℕ → ℕ) (h : Held) → IsRestarting g forced h → IsLive g h.marks.member
is_live_restarting g forced h r = record { least = r.least; among = r.among; live = ap is_live r.restarts }

-- ---- what an event makes of the page in hand: the copy of this page is that one
pub record Leaves (h t : Held) (n : ℕ) (c : Copy) : Type 0 where
  pub member : t.marks.member ≡ h.marks.member
  pub log : t.marks.log ≡ h.marks.log
  pub own : t.marks.own ≡ h.marks.own
  pub full : t.marks.hand.changed ≡ true → t.marks.hand.filled ≡ true
  pub shows : t.marks.hand.changed ≡ true → lrsn_of t.page ≡ t.marks.hand.last
  pub here : copy_of t n ≡ c
  pub there : (j : ℕ) → j ≢ n → copy_of t j ≡ copy_of h j

-- it keeps its page
pub leaves_hand : (h t : Held) (p : PageId) (c : Copy) → h.marks.hand.page ≡ Some p → t.marks.hand.page ≡ Some p → t.marks.member ≡ h.marks.member → t.marks.log ≡ h.marks.log → t.marks.own ≡ h.marks.own
    → (t.marks.hand.changed ≡ true → t.marks.hand.filled ≡ true) → (t.marks.hand.changed ≡ true → lrsn_of t.page ≡ t.marks.hand.last) → hand_copy t.marks.hand t.page ≡ c → Leaves h t (page_number p) c
leaves_hand h t p c was is member log own full shows copy = record {
  member = member;
  log = log;
  own = own;
  full = full;
  shows = shows;
  here = copy_here t p is ∙ copy;
  there = λ j ne. copy_there t p j is ne ∙ sym (copy_there h p j was ne);
}

pub record SameMembers (f v : Facility) : Type 0 where
  pub members : v.lists.members ≡ f.lists.members
  pub statuses : v.lists.statuses ≡ f.lists.statuses
  pub counter : v.counter ≡ f.counter

pub same_members : (f v z : Facility) → v ≡ z → SameMembers f z → SameMembers f v
same_members f v z e s = subst (λ x. SameMembers f x) (sym e) s

still : (g : Holdings) (forced : ℕ → ℕ) (v : Facility) (h t : Held) (n : ℕ) (c : Copy) → IsRestarting g forced h → Leaves h t n c → SameMembers g.facility v → IsRestarting (behind g v h.marks.member t) forced t
still g forced v h t n c r left same = record {
  least = subst (λ m. 1 ≤ m) (sym left.member) r.least;
  among = subst (λ m. m ≤ v.lists.members) (sym left.member) (subst (λ z. h.marks.member ≤ z) (sym same.members) r.among);
  restarts = ap (λ z. status_of z t.marks.member) same.statuses ∙ ap (status_of g.facility.lists.statuses) left.member ∙ r.restarts;
  log = ap forced left.member ∙ r.log ∙ sym (ap (λ (z : LogBuffer). z.stable) left.log);
  last = subst (λ z. t.marks.log.last ≤ z) (sym same.counter) (subst (λ (z : LogBuffer). z.last ≤ g.facility.counter) (sym left.log) r.last);
  pending = subst (λ m. AreBehind (g.stable m) (g.written m) t.marks.log.pending) (sym left.member) (subst (λ (z : LogBuffer). AreBehind (g.stable h.marks.member) (g.written h.marks.member) z.pending) (sym left.log) r.pending);
  full = left.full;
  shows = left.shows;
  copies = λ j. cond-true (t.marks.member == h.marks.member) (copy_of t j) (g.copies t.marks.member j) (eq-eqb t.marks.member h.marks.member left.member);
}

-- ---- the group with that copy
copies_same : (g : Holdings) (forced : ℕ → ℕ) (v : Facility) (h t : Held) (n : ℕ) (c : Copy) → IsRestarting g forced h → Leaves h t n c → (p j : ℕ) → (with_copy g h.marks.member n c).copies p j ≡ (behind g v h.marks.member t).copies p j
copies_same g forced v h t n c r left p j = elim (cases_eq p h.marks.member) [
  | inl e ↦ elim (cases_eq j n) [
    | inl f ↦ cond-true ((p == h.marks.member) && (j == n)) c (g.copies p j) (and_from (p == h.marks.member) (j == n) (eq-eqb p h.marks.member e) (eq-eqb j n f))
        ∙ sym left.here ∙ sym (ap (copy_of t) f) ∙ sym (cond-true (p == h.marks.member) (copy_of t j) (g.copies p j) (eq-eqb p h.marks.member e))
    | inr ne ↦ cond-false ((p == h.marks.member) && (j == n)) c (g.copies p j) (false_from_ne_true ((p == h.marks.member) && (j == n)) (λ b. ne (eqb-true j n (and_parts (p == h.marks.member) (j == n) b).1)))
        ∙ ap (λ z. g.copies z j) e ∙ r.copies j ∙ sym (left.there j ne) ∙ sym (cond-true (p == h.marks.member) (copy_of t j) (g.copies p j) (eq-eqb p h.marks.member e))
  ]
  | inr ne ↦ cond-false ((p == h.marks.member) && (j == n)) c (g.copies p j) (false_from_ne_true ((p == h.marks.member) && (j == n)) (λ b. ne (eqb-true p h.marks.member (and_parts (p == h.marks.member) (j == n) b).0)))
      ∙ sym (cond-false (p == h.marks.member) (copy_of t j) (g.copies p j) (ne_eqb p h.marks.member ne))
]

pub same_holdings : (g : Holdings) (forced : ℕ → ℕ) (v : Facility) (h t : Held) (n : ℕ) (c : Copy) → IsRestarting g forced h → Leaves h t n c → with_facility (with_copy g h.marks.member n c) v ≡ behind g v h.marks.member t
same_holdings g forced v h t n c r left = λ i. record g { facility = v; copies = λ p j. copies_same g forced v h t n c r left p j i }

pub goes_by : (w : World) (g : Holdings) (content : ℕ → ℕ → List ℕ) (forced : ℕ → ℕ) (v : Facility) (h t : Held) (n : ℕ) (c : Copy) (moves : List Move)
    → AreNumbered w content forced → IsRestarting g forced h → Leaves h t n c → SameMembers g.facility v → AtPages moves → Moved w moves (with_facility (with_copy g h.marks.member n c) v) content → GoesAlong w content forced (behind g v h.marks.member t) h t
goes_by w g content forced v h t n c moves numbered r left same pages moved =
    let m = subst (λ z. Moved w moves z content) (same_holdings g forced v h t n c r left) moved in
    record {
      goes = record {
        moves = moves;
        moved = m;
        numbered = numbered_on w m.world moves content forced pages m.run numbered;
        casts = λ k. (pages_stay w m.world moves pages m.run k).castout;
        same = left.member;
        stands = still g forced v h t n c r left same;
      };
      last = λ k. ap (λ (x : Chain). x.last) (pages_stay w m.world moves pages m.run k).chain;
      own = left.own;
    }

-- ---- an event that is no move
same_copy : (g : Holdings) (m n : ℕ) → with_copy g m n (g.copies m n) ≡ g
same_copy g m n = λ i. record g { copies = λ p j. each p j i }
  where
    each : (p j : ℕ) → (if (p == m) && (j == n) then g.copies m n else g.copies p j) ≡ g.copies p j
    each p j = elim (cases_eq p m) [
      | inl e ↦ elim (cases_eq j n) [
        | inl f ↦ cond-true ((p == m) && (j == n)) (g.copies m n) (g.copies p j) (and_from (p == m) (j == n) (eq-eqb p m e) (eq-eqb j n f)) ∙ sym (ap (λ z. g.copies z n) e) ∙ sym (ap (g.copies p) f)
        | inr ne ↦ cond-false ((p == m) && (j == n)) (g.copies m n) (g.copies p j) (false_from_ne_true ((p == m) && (j == n)) (λ b. ne (eqb-true j n (and_parts (p == m) (j == n) b).1)))
      ]
      | inr ne ↦ cond-false ((p == m) && (j == n)) (g.copies m n) (g.copies p j) (false_from_ne_true ((p == m) && (j == n)) (λ b. ne (eqb-true p m (and_parts (p == m) (j == n) b).0)))
    ]

pub quiet_by : (w : World) (g : Holdings) (content : ℕ → ℕ → List ℕ) (forced : ℕ → ℕ) (v : Facility) (h t : Held) (n : ℕ)
    → Tied w g content → AreNumbered w content forced → IsRestarting g forced h → Leaves h t n (g.copies h.marks.member n) → v ≡ g.facility → GoesAlong w content forced (behind g v h.marks.member t) h t
quiet_by w g content forced v h t n tied numbered r left e =
    let same : with_facility (with_copy g h.marks.member n (g.copies h.marks.member n)) v ≡ g = ap (λ (f : Facility). with_facility (with_copy g h.marks.member n (g.copies h.marks.member n)) f) e ∙ same_copy g h.marks.member n in
    goes_by w g content forced v h t n (g.copies h.marks.member n) [] numbered r left (same_members g.facility v g.facility e (record { members = refl; statuses = refl; counter = refl })) at_none
    (record { world = w; run = refl; tied = subst (λ z. Tied w z content) (sym same) tied })

-- ---- two events, one behind the other
run_on : (w mid v : World) (xs ys : List Move) → Run set_of w xs mid → Run set_of mid ys v → Run set_of w (xs ++ ys) v
run_on w mid v [] ys r q = subst (λ x. Run set_of x ys v) r q
run_on w mid v (e ∷ es) ys r q = (r.0, r.1, run_on r.0 mid v es ys r.2 q)

behind_twice : (g : Holdings) (v : Facility) (m j : ℕ) (t k : Held) → j ≡ m → behind (behind g v m t) v j k ≡ behind g v m k
behind_twice g v m j t k e = subst (λ z. behind (behind g v m t) v z k ≡ behind g v m k) (sym e) (λ i. record g { facility = v; copies = λ p n. each p n i })
  where
    each : (p n : ℕ) → (if p == m then copy_of k n else if p == m then copy_of t n else g.copies p n) ≡ (if p == m then copy_of k n else g.copies p n)
    each p n = elim (p == m) as (λ z. (if z then copy_of k n else if z then copy_of t n else g.copies p n) ≡ (if z then copy_of k n else g.copies p n)) [ true ↦ refl | false ↦ refl ]

pub goes_on : (w : World) (g : Holdings) (content : ℕ → ℕ → List ℕ) (forced : ℕ → ℕ) (v : Facility) (h t k : Held) → (a : Goes w content forced (behind g v h.marks.member t) h t)
    → Goes a.moved.world content forced (behind (behind g v h.marks.member t) v t.marks.member k) t k → Goes w content forced (behind g v h.marks.member k) h k
goes_on w g content forced v h t k a c =
    let same = behind_twice g v h.marks.member t.marks.member t k a.same in
    record {
      moves = a.moves ++ c.moves;
      moved = record { world = c.moved.world; run = run_on w a.moved.world c.moved.world a.moves c.moves a.moved.run c.moved.run; tied = subst (λ z. Tied c.moved.world z content) same c.moved.tied };
      numbered = c.numbered;
      casts = λ n. c.casts n ∙ a.casts n;
      same = c.same ∙ a.same;
      stands = subst (λ z. IsRestarting z forced k) same c.stands;
    }

pub along_on : (w : World) (g : Holdings) (content : ℕ → ℕ → List ℕ) (forced : ℕ → ℕ) (v : Facility) (h t k : Held) → (a : GoesAlong w content forced (behind g v h.marks.member t) h t)
    → GoesAlong a.goes.moved.world content forced (behind (behind g v h.marks.member t) v t.marks.member k) t k → GoesAlong w content forced (behind g v h.marks.member k) h k
unfolding goes_on
along_on w g content forced v h t k a c = record { goes = goes_on w g content forced v h t k a.goes c.goes; last = λ n. c.last n ∙ a.last n; own = c.own ∙ a.own }
