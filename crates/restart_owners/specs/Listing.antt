-- The retained pages that a restart knows: once it has listed all, each page whose lock the facility has retained for its member.
use Rattle.std.specs.Prelude.{◌≡◌, ◌≢◌, ℕ, ◌<◌, ◌||◌, Bool, true, false, List, [], ◌∷◌, slice_get, Some}
use Rattle.ds_base.specs.declared.names.PageId.{PageId}
use Rattle.lock_names.specs.Given.name_variants as name
use Rattle.lock_structure.specs.Locks.{record_of, retained_in}
use Rattle.lock_structure.specs.Records.{is_retained, names_of}
use Rattle.facility.specs.States.{Held as Facility}
use Rattle.member_intents.specs.declared.outcome.Answered.{Answered}
use Rattle.restart_records.specs.declared.queue.TurnKey.{TurnKey}
use Rattle.restart_marks.specs.declared.intent.RestartSent.{RestartSent}
use Rattle.restart_marks.specs.declared.intent.RestartSent.TheVariants as sent
use Rattle.restart_marks.specs.Moves.{is_same}
use Rattle.restart_marks.specs.State.{IsFresh, RestartState}
use Rattle.restart_resources.specs.Events as event
use Rattle.restart_resources.specs.Events.{Happens}
use Rattle.restart_resources.specs.Held.{Held}
use Rattle.retained_pages.specs.Retained.{Retains, SparesOthers, purges}

-- the page is one of these
abbrev pub is_among : List TurnKey → PageId → Bool
is_among [] p = false
is_among (key ∷ keys) p = is_same key.page p || is_among keys p

-- ---- the restart

-- it knows the page of each record that it has looked at, and once all are known, each page whose lock is retained; and what it knows of the
-- page in hand is of that page
pub record IsListing (f : Facility) (s : RestartState) : Type 0 where
  pub known : (i : ℕ) (p : PageId) → s.is_listed ≡ false → i < s.listed → slice_get (names_of (retained_in f.locks s.member)) i ≡ Some (name.Page p) → is_among s.pages p ≡ true
  pub all : (p : PageId) → s.is_listed ≡ true → is_retained (record_of f.locks s.member (name.Page p)) ≡ true → is_among s.pages p ≡ true
  pub hand : (key : TurnKey) → s.hand.key ≡ Some key → s.hand.page ≡ Some key.page

abbrev pub ListingBegins : Type 0
ListingBegins = (f : Facility) (m : ℕ) (s : RestartState) → IsFresh m s → IsListing f s

-- behind each event of it, and of any other member
abbrev pub ListingGoes : Type 0
ListingGoes = (u v : event.World) (h k : Held) (x : RestartSent) (a : Answered) → Happens u h x a v k → IsListing u.facility h.marks → IsListing v.facility k.marks

abbrev pub ListingStays : Type 0
ListingStays = (f g : Facility) (m : ℕ) (s : RestartState) → SparesOthers f g m → s.member ≢ m → IsListing f s → IsListing g s

-- ---- its events and the retained page locks

-- the event frees the record of the page
abbrev pub purges_by : RestartSent → PageId → Bool
purges_by (sent.Command c) p = purges c p
purges_by _ p = false

abbrev pub RestartsRetain : Type 0
RestartsRetain = (u v : event.World) (h k : Held) (x : RestartSent) (a : Answered) (m : ℕ) (p : PageId) → Happens u h x a v k → (m ≡ h.marks.member → purges_by x p ≡ false) → Retains u.facility m p → Retains v.facility m p
