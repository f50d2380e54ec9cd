-- A sound disk opens well.
use Rattle.std.proofs.Common.{◌≡◌, ℕ, refl, arith, Bool, false, List, [], ◌∷◌, Option}
use Rattle.row_protocol.specs.Rows.{replay}
use Rattle.row_protocol.specs.Log.{Change, logged}
use Rattle.row_protocol.specs.Machine.{on_disk}
use Rattle.row_protocol.specs.Legal.{Legal}
use Rattle.row_protocol.specs.Ordered.{Ordered}
use Rattle.row_protocol.specs.Opening.{Found, opened, IsSound, OpensLegal, AlwaysFromOpening}
use Rattle.row_protocol.proofs.Order.{after_none, ordered_more}
use Rattle.row_protocol.proofs.Ordered.{keeps_run}
use Rattle.row_protocol.proofs.Runs.{kept_run}

none_logged : (cs : List Change) (on : ℕ → ℕ → Bool) (v : Option ℕ) → logged cs on (λ t. false) v ≡ v
none_logged [] on v = refl
none_logged (c ∷ cs) on v = let ih = none_logged cs on v in grind (arith, ih)

opens_legal : (home : ℕ → ℕ) (opening : ℕ → Option ℕ) (f : Found) → IsSound opening f → Legal home opening (opened f)
unfolding replay
opens_legal home opening f s = record {
  flushed = s.greatest;
  drawn = s.drawn;
  decided = λ t l e. cc;
  covered = λ t r l e. cc;
  deciding = λ t l e. cc;
  fresh = grind (arith, s.owners);
  running = λ t r h. cc;
  unanswered = λ t r h. refl;
  touched = λ t r h. cc;
  written = λ t r h. cc;
  held = λ t r up h d. cc;
  standing = grind arith;
  only = grind arith;
  last = λ t r h. cc;
  own = λ t r h. cc;
  ended = grind arith;
  listed = λ t. refl;
  once = refl;
  legal = λ t. tt;
  history = tt;
  stands = λ r. none_logged (f.changes r) (λ t l. on_disk home (opened f) t l) (opening r);
}

opens_ordered : (home : ℕ → ℕ) (opening : ℕ → Option ℕ) (f : Found) → IsSound opening f → Ordered home opening (opened f)
opens_ordered home opening f s = record { ordered = λ r. ordered_more (f.changes r) _ _ (λ u h. cc) (s.ordered r); after_commits = λ r. after_none (f.changes r); marked = s.marked; chained = s.chained }

pub opens : OpensLegal
opens home opening f s = record { legal = opens_legal home opening f s; in_order = opens_ordered home opening f s; alone = λ t u r ne h. refl }

pub always_from_opening : AlwaysFromOpening
always_from_opening home opening f moves w s run = record {
  legal = kept_run home opening moves (opened f) w (opens_legal home opening f s) (λ t u r ne h. refl) run;
  in_order = keeps_run home opening moves (opened f) w (opens_legal home opening f s) (opens_ordered home opening f s) (λ t u r ne h. refl) run;
}
