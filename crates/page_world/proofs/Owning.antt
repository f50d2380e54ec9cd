-- Page locks that are given and given up, and logs that are forced.
use Rattle.std.proofs.Common.{◌≡◌, ℕ, ◌≤◌, refl, sym, ◌∙◌, ap, subst, true, false, List, [], ◌∷◌, Option, Some, None}
use Rattle.std.specs.Prelude.{◌≢◌, ◌==◌, if◌then◌else◌}
use Rattle.cache_structure.specs.Directory.{Directory}
use Rattle.facility.specs.States.{Held}
use Rattle.page_protocol.specs.Page.{Page, put, owned}
use Rattle.page_protocol.specs.Moves.{World, PageMove, At, Lock, Unlock, Purge, PageStep, forced}
use Rattle.page_world.specs.Holdings.{Holdings, PageHeld, held_of, KeepsPages, with_facility, as_status}
use Rattle.page_world.specs.Tied.{PageTied, Tied, Moved}
use Rattle.page_world.specs.Owners.{LocksMoves, UnlocksMoves, PurgesMoves, ForcesMoves}
use Rattle.page_world.proofs.Slices.{Alike, alike_tied, one_moved}
use Rattle.page_world.proofs.Copies.{put_here, put_there}
use Rattle.page_world.proofs.Reading.{not_failed}

-- the page with another owner
owner_tied : (h : PageHeld) (p : Page) (content : ℕ → List ℕ) (o : Option ℕ) → PageTied h p content → PageTied (record h { owner = o }) (record p { owner = o; sole = false }) content
owner_tied h p content o t = record {
  bytes = t.bytes;
  changed = t.changed;
  there = t.there;
  castout = t.castout;
  written = t.written;
  disk = t.disk;
  bit = t.bit;
  own = t.own;
  filled = t.filled;
  marked = t.marked;
  same = t.same;
  indirect = t.indirect;
  buffer = t.buffer;
  sent = t.sent;
  owner = refl;
  part = refl;
}

owner_here : (g : Holdings) (n : ℕ) (o : Option ℕ) (v : Held) → v.directory ≡ g.facility.directory → Alike (let h = held_of g n in record h { owner = o }) (held_of (with_facility (record g { owner = put g.owner n o }) v) n)
owner_here g n o v e = subst (λ (d : Directory). Alike (let h = held_of g n in record h { owner = o }) (held_of (with_facility (record g { owner = put g.owner n o }) (record v { directory = d })) n)) (sym e)
    (record { bytes = refl; changed = refl; castout = refl; written = refl; disk = refl; bound = λ k x y. refl; set = λ k x y z. z; copies = λ k. refl; casts = λ k. refl; owner = put_here g.owner n o })

owner_beside : (g : Holdings) (n j : ℕ) (o : Option ℕ) (v : Held) → v.directory ≡ g.facility.directory → j ≢ n → Alike (held_of g j) (held_of (with_facility (record g { owner = put g.owner n o }) v) j)
owner_beside g n j o v e ne = subst (λ (d : Directory). Alike (held_of g j) (held_of (with_facility (record g { owner = put g.owner n o }) (record v { directory = d })) j)) (sym e)
    (record { bytes = refl; changed = refl; castout = refl; written = refl; disk = refl; bound = λ k x y. refl; set = λ k x y z. z; copies = λ k. refl; casts = λ k. refl; owner = put_there g.owner n j o ne })

owner_moved : (w : World) (g : Holdings) (content : ℕ → ℕ → List ℕ) (n : ℕ) (o : Option ℕ) (v : Held) (e : PageMove) → Tied w g content → KeepsPages g.facility v → PageStep w.group (w.pages n) e (record (w.pages n) { owner = o; sole = false })
    → Moved w (At n e ∷ []) (with_facility (record g { owner = put g.owner n o }) v) content
owner_moved w g content n o v e t s step =
    let after = with_facility (record g { owner = put g.owner n o }) v in
    one_moved w g after content n e (record (w.pages n) { owner = o; sole = false }) t
    (record { lost = ap (λ (d : Directory). d.lost) s.directory; counter = s.counter; members = s.members; statuses = s.statuses; stable = λ m. refl; written = λ m. refl; apart = t.apart })
    step
    (alike_tied (let h = held_of g n in record h { owner = o }) (held_of after n) (record (w.pages n) { owner = o; sole = false }) (content n) (owner_here g n o v s.directory) (owner_tied (held_of g n) (w.pages n) (content n) o (t.pages n)))
    (λ j ne. owner_beside g n j o v s.directory ne)

-- a page that was no sole user's still isn't
not_sole : (p : Page) (m : ℕ) → p.sole ≡ false → record p { owner = Some m; sole = false } ≡ owned p m
not_sole p m e = λ i. record p { owner = Some m; sole = sym e i }

pub locks : LocksMoves
locks w g content m n v t live free s =
    owner_moved w g content n (Some m) v (Lock m) t s ((t.pages n).owner ∙ free, not_failed w g content m t live, not_sole (w.pages n) m (t.pages n).part)

pub unlocks : UnlocksMoves
unlocks w g content m n v t least among up own clean s =
    owner_moved w g content n None v (Unlock m) t s ((t.pages n).owner ∙ own, (t.pages n).part, t.status m least among ∙ ap as_status up, sym ((t.pages n).marked m) ∙ clean, refl)

pub purges : PurgesMoves
purges w g content m n v t least among up own clean written s =
    owner_moved w g content n None v (Purge m) t s ((t.pages n).owner ∙ own, (t.pages n).part, t.status m least among ∙ ap as_status up, sym ((t.pages n).marked m) ∙ clean, written, refl)

pub forces : ForcesMoves
forces w g content m k t low high = record {
  world = record { down = false; group = forced w.group m k; pages = w.pages };
  run = (record { down = false; group = forced w.group m k; pages = w.pages }, (t.running, subst (λ x. x ≤ k) (sym (t.stable m)) low, subst (λ x. k ≤ x) (sym (t.written m)) high, refl), refl);
  tied = record {
    running = refl;
    lost = t.lost;
    counter = t.counter;
    status = t.status;
    stable = λ j. elim (j == m) as (λ b. (if b then k else w.group.stable j) ≡ (if b then k else g.stable j)) [ true ↦ refl | false ↦ t.stable j ];
    written = t.written;
    apart = t.apart;
    pages = t.pages;
  };
}
