-- The intents that change the log of a member that is up.
use Rattle.std.specs.Prelude.{ℕ, List}
use Rattle.member_intents.specs.declared.outcome.Sent.{Sent}
use Rattle.member_marks.specs.Records.{after_append}
use Rattle.member_effects.specs.Kept.{Kept}
use Rattle.member_effects.specs.Changes.{with_marks}
use Rattle.needs_law.specs.Lawful.{Appends}
use Rattle.page_protocol.specs.Page.{put}
use Rattle.page_protocol.specs.Moves.{World}
use Rattle.page_world.specs.Holdings.{Holdings}
use Rattle.page_intents.specs.Stands.{Goes}
use Rattle.page_intents.specs.Frames.{Begins}

-- all of its records are on disk
abbrev pub all_forced : Holdings → ℕ → Holdings
all_forced g m = record g { stable = put g.stable m (g.written m) }

-- the append of the log buffer was done
abbrev pub AppendGoes : Type 0
AppendGoes = (w : World) (g : Holdings) (content : ℕ → ℕ → List ℕ) (forced : ℕ → ℕ) (k : Kept) (out : Sent)
    → Begins w g content forced k → Appends k.marks out
    → Goes w content (put forced k.marks.member k.marks.log.last) (all_forced g k.marks.member) k.marks (with_marks k (after_append k.marks))
