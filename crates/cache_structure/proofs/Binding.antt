-- What a change of one place of the table of registrations makes of it.
use Rattle.std.proofs.Common.{◌≡◌, ◌≢◌, ℕ, zero, suc, ◌*◌, ◌<◌, Bool, true, false, cond, ◌&&◌, nat_le, nat_eq, List, length, get_or, replicate, Option, Some, None, refl, sym, ap, ◌∙◌, arith, slice_set}
use Rattle.std.proofs.lemmas.List.{get_or-set_same, get_or-set_other}
use Rattle.std.proofs.lemmas.Bool.{eqb-true}
use Rattle.std.specs.Option.{option_map_or}
use Rattle.ds_base.specs.Ids.{IsMember}
use Rattle.ds_base.specs.declared.names.PageId.{PageId}
use Rattle.cache_structure.specs.Frames.{is_page, unless, page_dropped, others_dropped}
use Rattle.cache_structure.specs.declared.validity.Registration.{Registration}
use Rattle.cache_structure.specs.declared.validity.Validity.{Validity}
use Rattle.cache_structure.specs.Bound.{Bound, always, place_in, registered_by, slot_of, spot, is_frame, time_of, unless_at, valid_from, valid_since, valid_slot, with_place}

spots_apart : (n m i j frames : ℕ) → IsMember n → is_frame frames m i ≡ true → (nat_eq m n && nat_eq i j) ≡ false → spot m i ≢ spot n j
spots_apart n m i j frames member frame apart = grind arith

same_frame : (n m i j : ℕ) → (nat_eq m n && nat_eq i j) ≡ true → spot m i ≡ spot n j
same_frame n m i j same = grind arith

is_one : (n m i j frames : ℕ) → IsMember n → j < frames → (nat_eq m n && nat_eq i j) ≡ true → is_frame frames m i ≡ true
is_one n m i j frames member lt same = grind arith

within : (frames n j : ℕ) (places : List (Option Registration)) → IsMember n → j < frames → length places ≡ 32 * frames → spot n j < length places
within frames n j places member lt long = omega (arith, member.0, member.1, lt, long)

pub place_set : (frames : ℕ) (places : List (Option Registration)) (n j : ℕ) (place : Option Registration) (m i : ℕ) → IsMember n → j < frames → length places ≡ 32 * frames
    → place_in frames (slice_set places (spot n j) place) m i ≡ with_place (place_in frames places) n j place m i
place_set frames places n j place m i member lt long = by (nat_eq m n && nat_eq i j) (is_frame frames m i) refl refl
  where
    by : (same frame : Bool) → (nat_eq m n && nat_eq i j) ≡ same → is_frame frames m i ≡ frame
        → cond (is_frame frames m i) (get_or (slice_set places (spot n j) place) (spot m i) None) None ≡ cond (nat_eq m n && nat_eq i j) place (cond (is_frame frames m i) (get_or places (spot m i) None) None)
    by true frame same is =
        let there = is_one n m i j frames member lt same in
        ap (λ b. cond b (get_or (slice_set places (spot n j) place) (spot m i) None) None) there
        ∙ ap (λ k. get_or (slice_set places (spot n j) place) k None) (same_frame n m i j same)
        ∙ get_or-set_same places (spot n j) place None (within frames n j places member lt long)
        ∙ sym (ap (λ b. cond b place (cond (is_frame frames m i) (get_or places (spot m i) None) None)) same)
    by false true same is =
        ap (λ b. cond b (get_or (slice_set places (spot n j) place) (spot m i) None) None) is
        ∙ get_or-set_other places (spot n j) (spot m i) place None (spots_apart n m i j frames member is same)
        ∙ sym (ap (λ b. cond b (get_or places (spot m i) None) None) is)
        ∙ sym (ap (λ b. cond b place (cond (is_frame frames m i) (get_or places (spot m i) None) None)) same)
    by false false same is =
        ap (λ b. cond b (get_or (slice_set places (spot n j) place) (spot m i) None) None) is
        ∙ sym (ap (λ b. cond b (get_or places (spot m i) None) None) is)
        ∙ sym (ap (λ b. cond b place (cond (is_frame frames m i) (get_or places (spot m i) None) None)) same)

-- ---- everything is the same everywhere

all_alike : {A : Type 0} (n k : ℕ) (x : A) → get_or (replicate n x) k x ≡ x
all_alike zero k x = refl
all_alike (suc n) zero x = refl
all_alike (suc n) (suc k) x = all_alike n k x

abbrev none : Option Registration
none = None

-- a table of empty places has no registration
pub none_placed : (frames n m i : ℕ) → place_in frames (replicate n None) m i ≡ None
none_placed frames n m i = by (is_frame frames m i) (all_alike n (spot m i) none)
  where
    by : (b : Bool) → get_or (replicate n none) (spot m i) none ≡ none → cond b (get_or (replicate n none) (spot m i) none) none ≡ none
    by true e = e
    by false e = refl

pub from_start : (n s m : ℕ) → valid_since (replicate n always) s m ≡ 0
from_start n s m = ap (λ v. valid_from v m) (all_alike n s always) ∙ (grind arith)

-- ---- from when on registrations are valid

module _ (vs : List Validity) (slot : ℕ) (v : Validity) (there : slot < length vs) where
  pub since_set : (s m : ℕ) → valid_since (slice_set vs slot v) s m ≡ cond (nat_eq s slot) (valid_from v m) (valid_since vs s m)
  since_set s m = by (nat_eq s slot) refl
    where
      by : (b : Bool) → nat_eq s slot ≡ b → valid_since (slice_set vs slot v) s m ≡ cond (nat_eq s slot) (valid_from v m) (valid_since vs s m)
      by true e =
          ap (λ k. valid_since (slice_set vs slot v) k m) (eqb-true s slot e)
          ∙ ap (λ w. valid_from w m) (get_or-set_same vs slot v always there)
          ∙ sym (ap (λ b. cond b (valid_from v m) (valid_since vs s m)) e)
      by false e =
          ap (λ w. valid_from w m) (get_or-set_other vs slot s v always (grind arith))
          ∙ sym (ap (λ b. cond b (valid_from v m) (valid_since vs s m)) e)

  -- a registration that was made before stays where it is the writer's, or one with another slot
  pub others_left : (n own clock m : ℕ) (p : Option Registration) → v ≡ record { writer = n; own = own; others = clock } → own ≡ valid_since vs slot n → time_of p < clock
      → valid_slot (slice_set vs slot v) m p ≡ cond (nat_eq m n) (valid_slot vs m p) (unless_at slot (valid_slot vs m p))
  others_left n own clock m None is since before = grind arith
  others_left n own clock m (Some r) is since before = by (nat_eq r.slot slot) (nat_eq m n) refl refl
    where
      at : valid_since (slice_set vs slot v) r.slot m ≡ cond (nat_eq r.slot slot) (valid_from v m) (valid_since vs r.slot m)
      at = since_set r.slot m

      by : (a b : Bool) → nat_eq r.slot slot ≡ a → nat_eq m n ≡ b
          → cond (nat_le (valid_since (slice_set vs slot v) r.slot m) r.time) (Some r.slot) None ≡ cond (nat_eq m n) (valid_slot vs m (Some r)) (unless_at slot (valid_slot vs m (Some r)))
      by true true a b =
          let e : valid_from v m ≡ valid_since vs r.slot m = ap (λ w. valid_from w m) is ∙ ap (λ c. cond c own clock) b ∙ since ∙ ap (λ k. valid_since vs k n) (sym (eqb-true r.slot slot a)) ∙ ap (valid_since vs r.slot) (sym (eqb-true m n b)) in
          ap (λ t. cond (nat_le t r.time) (Some r.slot) None) (at ∙ ap (λ c. cond c (valid_from v m) (valid_since vs r.slot m)) a ∙ e)
          ∙ sym (ap (λ c. cond c (valid_slot vs m (Some r)) (unless_at slot (valid_slot vs m (Some r)))) b)
      by true false a b =
          let e : valid_from v m ≡ clock = ap (λ w. valid_from w m) is ∙ ap (λ c. cond c own clock) b in
          let late : nat_le clock r.time ≡ false = grind arith in
          ap (λ t. cond (nat_le t r.time) (Some r.slot) None) (at ∙ ap (λ c. cond c (valid_from v m) (valid_since vs r.slot m)) a ∙ e)
          ∙ ap (λ c. cond c (Some r.slot) None) late
          ∙ sym (ap (λ c. cond c (valid_slot vs m (Some r)) (unless_at slot (valid_slot vs m (Some r)))) b ∙ gone (nat_le (valid_since vs r.slot m) r.time) a)
        where
          gone : (c : Bool) → nat_eq r.slot slot ≡ true → unless_at slot (cond c (Some r.slot) None) ≡ None
          gone true a = ap (λ c. cond c None (Some r.slot)) a
          gone false a = refl
      by false b a e =
          ap (λ t. cond (nat_le t r.time) (Some r.slot) None) (at ∙ ap (λ c. cond c (valid_from v m) (valid_since vs r.slot m)) a)
          ∙ sym (stays b e (nat_le (valid_since vs r.slot m) r.time) a)
        where
          stays : (b : Bool) → nat_eq m n ≡ b → (c : Bool) → nat_eq r.slot slot ≡ false
              → cond (nat_eq m n) (cond c (Some r.slot) None) (unless_at slot (cond c (Some r.slot) None)) ≡ cond c (Some r.slot) None
          stays true e c a = ap (λ b. cond b (cond c (Some r.slot) None) (unless_at slot (cond c (Some r.slot) None))) e
          stays false e true a = ap (λ b. cond b (Some r.slot) (unless_at slot (Some r.slot))) e ∙ ap (λ c. cond c None (Some r.slot)) a
          stays false e false a = ap (λ b. cond b None None) e

-- ---- the pages with which frames are registered

module _ (P : ℕ → Option PageId) (apart : (f s : ℕ) (id : PageId) → P f ≡ Some id → is_page id (P s) ≡ nat_eq s f) where
  -- the page of a slot is dropped where the slot is
  dropped : (at : ℕ) (page : PageId) → P at ≡ Some page → (x : Option ℕ) → option_map_or P (unless_at at x) None ≡ unless page (option_map_or P x None)
  dropped at page is None = refl
  dropped at page is (Some s) = by (nat_eq s at) ∙ sym (ap (λ c. cond c None (P s)) (apart at s page is))
    where
      by : (c : Bool) → option_map_or P (cond c None (Some s)) None ≡ cond c None (P s)
      by true = refl
      by false = refl

  pub invalidated : (b after : Bound) (n at : ℕ) (page : PageId) → P at ≡ Some page
      → ((m i : ℕ) → slot_of after m i ≡ cond (nat_eq m n) (slot_of b m i) (unless_at at (slot_of b m i)))
      → registered_by P after ≡ others_dropped (registered_by P b) n page
  invalidated b after n at page is slots = λ k m i. (ap (λ x. option_map_or P x None) (slots m i) ∙ by (nat_eq m n) (slot_of b m i)) k
    where
      by : (c : Bool) (x : Option ℕ) → option_map_or P (cond c x (unless_at at x)) None ≡ cond c (option_map_or P x None) (unless page (option_map_or P x None))
      by true x = refl
      by false x = dropped at page is x

  pub placed : (Q : ℕ → Option PageId) (b after : Bound) (at : ℕ) (id : PageId)
      → ((m i : ℕ) → slot_of after m i ≡ unless_at at (slot_of b m i)) → ((s : ℕ) → Q s ≡ cond (nat_eq s at) (Some id) (P s))
      → registered_by Q after ≡ option_map_or (page_dropped (registered_by P b)) (P at) (registered_by P b)
  placed Q b after at id slots pages = by (P at) refl
    where
      -- the slot's own page is gone, and the others are as before
      kept : (x : Option ℕ) → option_map_or Q (unless_at at x) None ≡ option_map_or P (unless_at at x) None
      kept None = refl
      kept (Some s) = by (nat_eq s at) refl
        where
          by : (c : Bool) → nat_eq s at ≡ c → option_map_or Q (cond c None (Some s)) None ≡ option_map_or P (cond c None (Some s)) None
          by true e = refl
          by false e = pages s ∙ ap (λ c. cond c (Some id) (P s)) e

      free : P at ≡ None → (x : Option ℕ) → option_map_or P (unless_at at x) None ≡ option_map_or P x None
      free is None = refl
      free is (Some s) = by (nat_eq s at) refl
        where
          by : (c : Bool) → nat_eq s at ≡ c → option_map_or P (cond c None (Some s)) None ≡ P s
          by true e = sym (ap P (eqb-true s at e) ∙ is)
          by false e = refl

      by : (o : Option PageId) → P at ≡ o → registered_by Q after ≡ option_map_or (page_dropped (registered_by P b)) o (registered_by P b)
      by None e = λ k m i. (ap (λ x. option_map_or Q x None) (slots m i) ∙ kept (slot_of b m i) ∙ free e (slot_of b m i)) k
      by (Some page) e = λ k m i. (ap (λ x. option_map_or Q x None) (slots m i) ∙ kept (slot_of b m i) ∙ dropped at page e (slot_of b m i)) k
