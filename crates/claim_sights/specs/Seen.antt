-- What is seen of transactions in what the members hold, before and behind an event.
use Rattle.std.specs.Prelude.{ℕ, ◌==◌, ◌&&◌, ◌||◌, Bool, true, false, not, nat_lt, if◌then◌else◌, List, [], ◌∷◌, map, codes, Option, Some, None}
use Rattle.std.specs.List.{flat_map}
use Rattle.std.specs.Str.{bytes_eq}
use Rattle.ds_base.specs.declared.names.TranId.{TranId}
use Rattle.ds_model.specs.declared.lock.Name.{Name}
use Rattle.ds_model.specs.declared.report.EventLine.{EventLine}
use Rattle.ds_model.specs.declared.script.Tran.{Tran}
use Rattle.lock_names.specs.Names.{same_name}
use Rattle.lock_names.specs.declared.mode.Mode.TheVariants as mode
use Rattle.lock_sights.specs.declared.sight.Grip.{Grip}
use Rattle.lock_sights.specs.declared.sight.Matter.{Matter}
use Rattle.lock_sights.specs.declared.sight.Matter.TheVariants as matter
use Rattle.lock_sights.specs.declared.sight.Sight.{Sight}
use Rattle.lock_sights.specs.declared.locks.Lock.{Lock}
use Rattle.member_marks.specs.State.{MarksState}
use Rattle.claim_sights.specs.declared.quest.Quest.{Quest}
use Rattle.claim_sights.specs.declared.flag.Flag.{Flag}
use Rattle.claim_sights.specs.Grips.{all_grips, grips_of}
use Rattle.claim_sights.specs.Seats.{is_awaited, marks_at, seat_in, wanted_by}

abbrev pub sight_with : ℕ → TranId → Matter → Option Grip → Sight
sight_with place tran m grip = record { place = place; tran = tran; matter = m; grip = grip }

abbrev pub with_grip : ℕ → TranId → Matter → Grip → Sight
with_grip place tran m grip = sight_with place tran m (Some grip)

-- a sight for each claim, or one without any
abbrev pub shown : ℕ → TranId → Matter → List Grip → List Sight
shown place tran m [] = sight_with place tran m None ∷ []
shown place tran m (grip ∷ grips) = map (with_grip place tran m) (grip ∷ grips)

-- ---- a lock that a transaction wants

abbrev pub is_about : Option Name → Name → Bool
is_about None name = true
is_about (Some asked) name = same_name asked name

abbrev pub lock_matter : Lock → Matter
lock_matter lock = matter.Lock lock.name lock.mode

abbrev pub wanted_sights : List MarksState → ℕ → TranId → Option Name → Option Lock → List Sight
wanted_sights all place tran name None = []
wanted_sights all place tran name (Some lock) = if is_about name lock.name then shown place tran (lock_matter lock) (all_grips all lock tran) else []

-- who is in its way; of this lock alone, where it is named
abbrev pub sights_for : List MarksState → List Tran → ℕ → Option Name → TranId → List Sight
sights_for all roster place name tran = wanted_sights all place tran name (wanted_by all roster tran)

-- ---- what a transaction asks for in an event

-- it asks for a lock that isn't granted at once, or begins to wait
abbrev pub is_asking : EventLine → Bool
is_asking event = bytes_eq event.command (codes "wait") || bytes_eq event.command (codes "obtain") && not (bytes_eq event.reply (codes "granted"))

abbrev pub is_slot : ℕ → Option ℕ → Bool
is_slot choice None = false
is_slot choice (Some slot) = slot == choice

abbrev pub sits_at : TranId → ℕ → Option MarksState → Bool
sits_at tran choice None = false
sits_at tran choice (Some marks) = is_slot choice (seat_in marks tran)

-- the event, which is to come, is of the transaction's seat
abbrev pub asks : List MarksState → TranId → EventLine → Bool
asks all tran event = is_asking event && (event.member == tran.member && sits_at tran event.choice (marks_at all tran.member))

abbrev pub flag_sight : ℕ → TranId → Flag → Sight
flag_sight place tran flag = sight_with place tran (matter.Flag flag.number flag.raiser) None

abbrev pub asked_sights : List MarksState → List Tran → ℕ → TranId → Option Flag → List Sight
asked_sights all roster place tran None = sights_for all roster place None tran
asked_sights all roster place tran (Some flag) =
    if is_awaited roster tran flag.number flag.raiser then flag_sight place tran flag ∷ []
    else sights_for all roster place None tran

-- ---- the cause of a refusal

-- what each of the transactions in question wants
abbrev pub cause_sights : List MarksState → List Tran → ℕ → Quest → List Sight
cause_sights all roster place quest = flat_map (sights_for all roster place quest.name) (quest.tran ∷ quest.others)

-- behind an event, in which the transaction has asked or not
abbrev pub seen_behind : List MarksState → List Tran → ℕ → Quest → Bool → Option Flag → List Sight
seen_behind all roster place quest has_asked flag =
    if place == quest.cause then cause_sights all roster place quest
    else (if has_asked then asked_sights all roster place quest.tran flag else [])

-- ---- the failure of the member that retains the lock in question

abbrev pub fails : ℕ → ℕ → EventLine → Bool
fails member cause event = event.member == member && (bytes_eq event.command (codes "fail") && nat_lt event.place cause)

-- a claim that is recorded is in the way of S
abbrev pub recorded : Name → Lock
recorded name = record { name = name; mode = mode.S }

abbrev pub failure_sights : ℕ → TranId → ℕ → Name → Option MarksState → List Sight
failure_sights place tran member name None = []
failure_sights place tran member name (Some marks) = map (with_grip place tran (matter.Failure member name)) (grips_of marks (recorded name) tran)

abbrev pub failed_with : List MarksState → TranId → ℕ → EventLine → Option ℕ → Option Name → List Sight
failed_with all tran cause event (Some member) (Some name) = if fails member cause event then failure_sights event.place tran member name (marks_at all member) else []
failed_with all tran cause event (Some member) None = []
failed_with all tran cause event None name = []

-- before an event: what a member that is about to fail has of the lock in question
abbrev pub seen_before : List MarksState → Quest → EventLine → List Sight
seen_before all quest event = failed_with all quest.tran quest.cause event quest.retainer quest.name
