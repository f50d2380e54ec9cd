-- A member that is still up behind an event, with what is in its frames.
use Rattle.std.proofs.Common.{◌≡◌, ℕ, ◌≤◌, refl, sym, ap, subst, ◌∙◌, inl, inr, List, [], length, Some}
use Rattle.std.specs.Prelude.{◌≢◌, ◌==◌, ◌&&◌, if◌then◌else◌, is_some}
use Rattle.std.proofs.lemmas.Bool.{cond-true, cond-false, cases_eq, eq-eqb, ne_eqb, and_from, false_from_ne_true, and_parts, eqb-true}
use Rattle.ds_base.specs.declared.names.PageId.{PageId}
use Rattle.list_structure.specs.Standings.{status_of, is_live}
use Rattle.facility.specs.States.{Held}
use Rattle.page_index.specs.Places.{AreApart}
use Rattle.member_pool.specs.declared.frame.Frame.{Frame}
use Rattle.member_pool.specs.Frames.{page_of}
use Rattle.member_effects.specs.Changes.{bytes_at}
use Rattle.member_effects.specs.Kept.{Kept}
use Rattle.page_protocol.specs.Moves.{World, Move}
use Rattle.page_world.specs.Holdings.{Copy, Holdings, with_copy, with_facility}
use Rattle.page_world.specs.Tied.{Tied, Moved}
use Rattle.page_world.specs.Cache.{IsLive, HasFrame}
use Rattle.page_world.specs.Numbers.{page_number, page_at, AreNumbered as Numbers}
use Rattle.page_intents.specs.Numbers.{AreNumbered}
use Rattle.page_intents.specs.Plain.{none_waits}
use Rattle.page_intents.specs.Stands.{AreBehind, copy_at, copy_of, IsUp, behind, Goes}
use Rattle.ds_model.specs.declared.lock.Name.TheVariants as name
use Rattle.lock_manager.specs.Managers.{Book, held_by}
use Rattle.member_log.specs.Buffers.{LogBuffer}
use Rattle.member_marks.specs.Claims.{has_page}
use Rattle.member_marks.specs.Frames.{frame_in}
use Rattle.page_intents.proofs.Heads.{Sets, SameRest, kept_apart, kept_there, copy_here, copy_with}
use Rattle.page_intents.proofs.Chains.{AtPages, at_none, numbered_on, plain_pages}

pub is_live_up : (g : Holdings) (forced : ℕ → ℕ) (k : Kept) → IsUp g forced k → IsLive g k.marks.member
is_live_up g forced k up = record { least = up.least; among = up.among; live = ap is_live up.up }

-- the copy of the page in this frame
pub has_copy : Numbers → (g : Holdings) (forced : ℕ → ℕ) (k : Kept) (at : ℕ) (id : PageId) → IsUp g forced k → (frame_in k.marks.heads at).page ≡ Some id → g.copies k.marks.member (page_number id) ≡ copy_at k.marks.heads k.pages at
has_copy numbers g forced k at id up e = up.copies (page_number id) ∙ copy_here numbers k.marks.heads k.pages at id up.apart e

pub has_frame : Numbers → (g : Holdings) (forced : ℕ → ℕ) (k : Kept) (at : ℕ) (id : PageId) → IsUp g forced k → (frame_in k.marks.heads at).page ≡ Some id → HasFrame g k.marks.member (page_number id) at
has_frame numbers g forced k at id up e =
    let c = has_copy numbers g forced k at id up e in
    record { placed = ap (λ (x : Copy). x.placed) c; at = ap (λ (x : Copy). x.index) c }

-- what an event makes of the frames: the copy of this page is that one
pub record Leaves (k t : Kept) (n : ℕ) (c : Copy) : Type 0 where
  pub rest : SameRest k.marks t.marks
  pub apart : AreApart page_of t.marks.heads.frames
  pub each : length t.pages ≡ length t.marks.heads.frames
  pub here : copy_of t.marks.heads t.pages n ≡ c
  pub there : (j : ℕ) → j ≢ n → copy_of t.marks.heads t.pages j ≡ copy_of k.marks.heads k.pages j

-- one frame has changed, and keeps its page
pub leaves_set : Numbers → (g : Holdings) (forced : ℕ → ℕ) (k t : Kept) (at : ℕ) (f : Frame) (id : PageId) (c : Copy) → IsUp g forced k → (frame_in k.marks.heads at).page ≡ Some id → SameRest k.marks t.marks
    → Sets k.marks.heads t.marks.heads at f → f.page ≡ (frame_in k.marks.heads at).page → length t.pages ≡ length k.pages → ((q : ℕ) → q ≢ at → bytes_at t.pages q ≡ bytes_at k.pages q) → copy_with at f (bytes_at t.pages at) ≡ c
    → Leaves k t (page_number id) c
leaves_set numbers g forced k t at f id c up placed rest s page size bytes copy =
    let apart = kept_apart k.marks.heads t.marks.heads at f s page up.apart in
    record {
      rest = rest;
      apart = apart;
      each = size ∙ up.each ∙ sym s.size;
      here = copy_here numbers t.marks.heads t.pages at id apart (ap (λ (z : Frame). z.page) s.is ∙ page ∙ placed) ∙ (λ i. copy_with at (s.is i) (bytes_at t.pages at)) ∙ copy;
      there = kept_there numbers k.marks.heads t.marks.heads k.pages t.pages at f id s page up.apart placed bytes;
    }

-- it leaves these members and standings, and what was drawn
pub record SameMembers (f v : Held) : Type 0 where
  pub members : v.lists.members ≡ f.lists.members
  pub statuses : v.lists.statuses ≡ f.lists.statuses
  pub counter : v.counter ≡ f.counter

pub same_members : (f v z : Held) → v ≡ z → SameMembers f z → SameMembers f v
same_members f v z e s = subst (λ x. SameMembers f x) (sym e) s

still_up : (g : Holdings) (forced : ℕ → ℕ) (v : Held) (k t : Kept) (n : ℕ) (c : Copy) → IsUp g forced k → Leaves k t n c → SameMembers g.facility v → IsUp (behind g v k.marks.member t) forced t
still_up g forced v k t n c up left same =
    let member = left.rest.member in
    let claims : (j : ℕ) → has_page t.marks (page_at j) ≡ has_page k.marks (page_at j) = (λ j. ap (λ (z : Book). is_some (held_by z 0 (name.Page (page_at j)))) left.rest.locks) in
    record {
      least = subst (λ m. 1 ≤ m) (sym member) up.least;
      among = subst (λ m. m ≤ v.lists.members) (sym member) (subst (λ z. k.marks.member ≤ z) (sym same.members) up.among);
      up = ap (λ z. status_of z t.marks.member) same.statuses ∙ ap (status_of g.facility.lists.statuses) member ∙ up.up;
      log = ap forced member ∙ up.log ∙ sym (ap (λ (z : LogBuffer). z.stable) left.rest.log);
      last = subst (λ z. t.marks.log.last ≤ z) (sym same.counter) (subst (λ (z : LogBuffer). z.last ≤ g.facility.counter) (sym left.rest.log) up.last);
      pending = subst (λ m. AreBehind (g.stable m) (g.written m) t.marks.log.pending) (sym member) (subst (λ (z : LogBuffer). AreBehind (g.stable k.marks.member) (g.written k.marks.member) z.pending) (sym left.rest.log) up.pending);
      apart = left.apart;
      each = left.each;
      copies = λ j. cond-true (t.marks.member == k.marks.member) (copy_of t.marks.heads t.pages j) (g.copies t.marks.member j) (eq-eqb t.marks.member k.marks.member member);
      owns = λ j e. up.owns j (sym (claims j) ∙ e) ∙ ap Some (sym member);
      no_more = λ j e x. up.no_more j (sym (claims j) ∙ e) (x ∙ ap Some member);
    }

-- ---- the group with that copy
copies_same : (g : Holdings) (forced : ℕ → ℕ) (v : Held) (k t : Kept) (n : ℕ) (c : Copy) → IsUp g forced k → Leaves k t n c → (p j : ℕ) → (with_copy g k.marks.member n c).copies p j ≡ (behind g v k.marks.member t).copies p j
copies_same g forced v k t n c up left p j = elim (cases_eq p k.marks.member) [
  | inl e ↦ elim (cases_eq j n) [
    | inl f ↦ cond-true ((p == k.marks.member) && (j == n)) c (g.copies p j) (and_from (p == k.marks.member) (j == n) (eq-eqb p k.marks.member e) (eq-eqb j n f))
        ∙ sym left.here ∙ sym (ap (copy_of t.marks.heads t.pages) f) ∙ sym (cond-true (p == k.marks.member) (copy_of t.marks.heads t.pages j) (g.copies p j) (eq-eqb p k.marks.member e))
    | inr ne ↦ cond-false ((p == k.marks.member) && (j == n)) c (g.copies p j) (false_from_ne_true ((p == k.marks.member) && (j == n)) (λ b. ne (eqb-true j n (and_parts (p == k.marks.member) (j == n) b).1)))
        ∙ ap (λ z. g.copies z j) e ∙ up.copies j ∙ sym (left.there j ne) ∙ sym (cond-true (p == k.marks.member) (copy_of t.marks.heads t.pages j) (g.copies p j) (eq-eqb p k.marks.member e))
  ]
  | inr ne ↦ cond-false ((p == k.marks.member) && (j == n)) c (g.copies p j) (false_from_ne_true ((p == k.marks.member) && (j == n)) (λ b. ne (eqb-true p k.marks.member (and_parts (p == k.marks.member) (j == n) b).0)))
      ∙ sym (cond-false (p == k.marks.member) (copy_of t.marks.heads t.pages j) (g.copies p j) (ne_eqb p k.marks.member ne))
]

same_holdings : (g : Holdings) (forced : ℕ → ℕ) (v : Held) (k t : Kept) (n : ℕ) (c : Copy) → IsUp g forced k → Leaves k t n c → with_facility (with_copy g k.marks.member n c) v ≡ behind g v k.marks.member t
same_holdings g forced v k t n c up left = λ i. record g { facility = v; copies = λ p j. copies_same g forced v k t n c up left p j i }

pub goes_by : (w : World) (g : Holdings) (content : ℕ → ℕ → List ℕ) (forced : ℕ → ℕ) (v : Held) (k t : Kept) (n : ℕ) (c : Copy) (moves : List Move)
    → AreNumbered w content forced → IsUp g forced k → Leaves k t n c → SameMembers g.facility v → AtPages moves → Moved w moves (with_facility (with_copy g k.marks.member n c) v) content → Goes w content forced (behind g v k.marks.member t) k.marks t
goes_by w g content forced v k t n c moves numbered up left same pages moved =
    let m = subst (λ z. Moved w moves z content) (same_holdings g forced v k t n c up left) moved in
    record { moves = moves; moved = m; plain = plain_pages (none_waits t.marks.log.pending) moves pages; numbered = numbered_on w m.world moves content forced pages m.run numbered; same = left.rest.member; stands = still_up g forced v k t n c up left same }

-- ---- an event that is no move
same_copy : (g : Holdings) (m n : ℕ) → with_copy g m n (g.copies m n) ≡ g
same_copy g m n = λ i. record g { copies = λ p j. each p j i }
  where
    each : (p j : ℕ) → (if (p == m) && (j == n) then g.copies m n else g.copies p j) ≡ g.copies p j
    each p j = elim (cases_eq p m) [
      | inl e ↦ elim (cases_eq j n) [
        | inl f ↦ cond-true ((p == m) && (j == n)) (g.copies m n) (g.copies p j) (and_from (p == m) (j == n) (eq-eqb p m e) (eq-eqb j n f)) ∙ sym (ap (λ z. g.copies z n) e) ∙ sym (ap (g.copies p) f)
        | inr ne ↦ cond-false ((p == m) && (j == n)) (g.copies m n) (g.copies p j) (false_from_ne_true ((p == m) && (j == n)) (λ b. ne (eqb-true j n (and_parts (p == m) (j == n) b).1)))
      ]
      | inr ne ↦ cond-false ((p == m) && (j == n)) (g.copies m n) (g.copies p j) (false_from_ne_true ((p == m) && (j == n)) (λ b. ne (eqb-true p m (and_parts (p == m) (j == n) b).0)))
    ]

pub quiet_by : (w : World) (g : Holdings) (content : ℕ → ℕ → List ℕ) (forced : ℕ → ℕ) (v : Held) (k t : Kept) (n : ℕ)
    → Tied w g content → AreNumbered w content forced → IsUp g forced k → Leaves k t n (g.copies k.marks.member n) → v ≡ g.facility → Goes w content forced (behind g v k.marks.member t) k.marks t
quiet_by w g content forced v k t n tied numbered up left e =
    let same : with_facility (with_copy g k.marks.member n (g.copies k.marks.member n)) v ≡ g = ap (λ (f : Held). with_facility (with_copy g k.marks.member n (g.copies k.marks.member n)) f) e ∙ same_copy g k.marks.member n in
    goes_by w g content forced v k t n (g.copies k.marks.member n) [] numbered up left (same_members g.facility v g.facility e (record { members = refl; statuses = refl; counter = refl })) at_none
    (record { world = w; run = refl; tied = subst (λ z. Tied w z content) (sym same) tied })
