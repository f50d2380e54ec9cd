-- The whole group fails.
use Rattle.std.proofs.Common.{◌≡◌, ℕ, ◌≤◌, refl, sym, ◌∙◌, subst, List, [], Option, Some, None}
use Rattle.std.specs.Prelude.{IsSomeAnd}
use Rattle.std.proofs.lemmas.Option.{same_Some}
use Rattle.group_pages.specs.Given.{AreDrawnTo, Drive, FallsTo, Group, GroupsFall, remains}
use Rattle.group_restart.specs.Course.{IsBegun}
use Rattle.group_restart.specs.Machine.{Restart}
use Rattle.group_core.specs.Given.{CrewState}
use Rattle.page_protocol.specs.Moves.{World}
use Rattle.page_world.specs.Holdings.{Holdings}
use Rattle.page_recoveries.specs.Groups.{GroupFailsGo, GroupMoves, PagesBy}

-- the counter of the facility is no less than any number that was drawn
drawn_to : (w : World) (g : Holdings) (content : ℕ → ℕ → List ℕ) (forced : ℕ → ℕ) → Group w g content forced → AreDrawnTo w g.facility.counter
drawn_to w g content forced b n i last place = subst (λ z. (w.pages n).lrsn i ≤ z) b.tied.counter ((b.good.numbered n).drawn i last)

falls : GroupsFall → (d : Drive) (old : CrewState) (o : Option Restart) (w : World) → PagesBy o d old w → (new : CrewState) → IsSomeAnd new.restart IsBegun → GroupMoves d new w
falls law d old o w t new begun = by new.restart refl begun
  where
    begins : (r : Restart) → new.restart ≡ Some r → IsBegun r → (q : Restart) → new.restart ≡ Some q → IsBegun q
    begins r is h q e = subst (λ (z : Restart). IsBegun z) (same_Some r q (sym is ∙ e)) h

    fallen : (o : Option Restart) → PagesBy o d old w → (r : Restart) → new.restart ≡ Some r → IsBegun r → GroupMoves d new w
    fallen None t r is h =
        let fell : FallsTo w (remains t.holdings t.holdings.facility.counter) t.versions = law w t.holdings t.versions t.forced t.holdings.facility.counter t.pages.group (drawn_to w t.holdings t.versions t.forced t.pages.group) in
        record {
          moves = fell.moves;
          world = fell.world;
          run = fell.run;
          stands = subst (λ (z : Option Restart). PagesBy z d new fell.world) (sym is) (record { remains = remains t.holdings t.holdings.facility.counter; versions = t.versions; fallen = fell.fallen; drive = t.pages.drive });
          begun = begins r is h;
        }
    fallen (Some q) t r is h = record { moves = []; world = w; run = refl; stands = subst (λ (z : Option Restart). PagesBy z d new w) (sym is) t; begun = begins r is h }

    by : (x : Option Restart) → new.restart ≡ x → IsSomeAnd x IsBegun → GroupMoves d new w
    by None is h = absurd h
    by (Some r) is h = fallen o t r is h

pub group_fails : GroupsFall → GroupFailsGo
group_fails law d old new w fails t = falls law d old old.restart w t new fails.restart
