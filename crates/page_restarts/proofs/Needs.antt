-- What a lawful intent of a restart sends, and what its tests show.
use Rattle.std.proofs.Common.{◌≡◌, ◌≤◌, refl, sym, ◌∙◌, ap, subst, Bool, true, false, Option, Some, None, Result, Ok, Err}
use Rattle.std.specs.Prelude.{◌&&◌, ◌==◌, not, is_none, is_some, length, nat_le}
use Rattle.std.proofs.lemmas.Bool.{and_from, and_parts, eq-eqb, eqb-true, leb-true}
use Rattle.ds_base.specs.declared.names.PageId.{PageId}
use Rattle.ds_model.specs.declared.lock.Name.TheVariants as name
use Rattle.facility.specs.declared.command.Command.{Command}
use Rattle.facility.specs.declared.command.Command.TheVariants as command
use Rattle.restart_records.specs.declared.trans.Newest.{Newest}
use Rattle.restart_records.specs.Trans.{page_of}
use Rattle.restart_marks.specs.declared.intent.RestartSent.{RestartSent}
use Rattle.restart_marks.specs.declared.intent.RestartSent.TheVariants as sent
use Rattle.restart_marks.specs.declared.intent.RestartTest.{RestartTest}
use Rattle.restart_marks.specs.declared.intent.RestartTest.TheVariants as test
use Rattle.restart_marks.specs.HandNeeds.{owner_test, purges_page, reads, reads_page, writes}
use Rattle.restart_marks.specs.LockNeeds.{asked_in, commands, free_test, is_row_retained, locks_in, log_test, releases, undo_command, undo_with, unchanged_test, undone_hand_test}
use Rattle.restart_marks.specs.Moves.{is_claimed, is_claimed_as, is_recovered, is_same}
use Rattle.restart_marks.specs.OwnNeeds.{listed_test, recovered_test}
use Rattle.restart_marks.specs.State.{RestartState}
use Rattle.restart_marks.specs.Tested.{Tested, after, passed, sends, when}

abbrev pub holds : Tested → Bool
holds (Ok x) = true
holds (Err t) = false

pub err_ok : {T : Type 0} → (t : RestartTest) (y : T) (x : Result T RestartTest) → x ≡ Err t → x ≡ Ok y → ⊥
err_ok t y x a b = cc

pub same_ok : {T : Type 0} → (x y : T) (a b : Result T RestartTest) → a ≡ Ok x → b ≡ Ok y → a ≡ b → x ≡ y
same_ok x y a b p q e = cc

pub after_rest : {T : Type 0} → (t : Tested) (r : Result T RestartTest) (y : T) → after t r ≡ Ok y → r ≡ Ok y
after_rest (Ok x) r y e = e
after_rest {T} (Err t) r y e = absurd (err_ok t y (Err t) refl e)

pub after_first : {T : Type 0} → (t : Tested) (r : Result T RestartTest) (y : T) → after t r ≡ Ok y → holds t ≡ true
after_first (Ok x) r y e = refl
after_first {T} (Err t) r y e = absurd (err_ok t y (Err t) refl e)

never : false ≡ true → ⊥
never e = cc

pub when_first : (b : Bool) (t : RestartTest) (rest : Tested) → holds (when b t rest) ≡ true → b ≡ true
when_first true t rest h = refl
when_first false t rest h = absurd (never h)

pub when_rest : (b : Bool) (t : RestartTest) (rest : Tested) → holds (when b t rest) ≡ true → holds rest ≡ true
when_rest true t rest h = h
when_rest false t rest h = absurd (never h)

pub after_tests : (t rest : Tested) → holds (after t rest) ≡ true → holds rest ≡ true
after_tests (Ok x) rest h = h
after_tests (Err t) rest h = absurd (never h)

pub passes : (t rest : Tested) → holds (after t rest) ≡ true → holds t ≡ true
passes (Ok y) rest h = refl
passes (Err t) rest h = absurd (never h)

pub not_false : (b : Bool) → not b ≡ true → b ≡ false
not_false true e = absurd (never e)
not_false false e = refl

pub is_nothing : {T : Type 0} → (x : Option T) → is_none x ≡ true → x ≡ None
is_nothing None e = refl
is_nothing (Some x) e = absurd (never e)

pub sent_as : (t : Tested) (x y : RestartSent) → sends t x ≡ Ok y → y ≡ x
sent_as t x y e = let r : Ok x ≡ Ok y = after_rest t (Ok x) y e in sym (same_ok x y (Ok x) (Ok y) refl refl r)

abbrev just : RestartSent → Result RestartSent RestartTest
just x = Ok x

pub just_as : (x y : RestartSent) → just x ≡ just y → y ≡ x
just_as x y e = sym (same_ok x y (just x) (just y) refl refl e)

-- ---- the page in hand
pub record ReadsHand (s : RestartState) (x : RestartSent) : Type 0 where
  pub page : PageId
  pub placed : s.hand.page ≡ Some page
  pub is : x ≡ sent.Command (command.Read page 0)

pub reads_hand : (s : RestartState) (x : RestartSent) (p : Option PageId) → s.hand.page ≡ p → reads p ≡ Ok x → ReadsHand s x
reads_hand s x None placed e = absurd (err_ok test.NotPlaced x (Err test.NotPlaced) refl e)
reads_hand s x (Some page) placed e = record { page = page; placed = placed; is = just_as (sent.Command (command.Read page 0)) x e }

pub record FillsHand (s : RestartState) (x : RestartSent) : Type 0 where
  pub page : PageId
  pub placed : s.hand.page ≡ Some page
  pub registered : s.hand.registered ≡ true
  pub unfilled : s.hand.filled ≡ false
  pub is : x ≡ sent.ReadPage page

pub fills_hand : (s : RestartState) (x : RestartSent) (p : Option PageId) → s.hand.page ≡ p → reads_page s p ≡ Ok x → FillsHand s x
fills_hand s x None placed e = absurd (err_ok test.NotPlaced x (Err test.NotPlaced) refl e)
fills_hand s x (Some page) placed e =
    let empty : Tested = when (not s.hand.filled) test.StillFilled passed in
    let tests : Tested = when s.hand.registered test.NotRegistered empty in
    let first : holds tests ≡ true = after_first tests (Ok (sent.ReadPage page)) x e in
    record {
      page = page;
      placed = placed;
      registered = when_first s.hand.registered test.NotRegistered empty first;
      unfilled = not_false s.hand.filled (when_first (not s.hand.filled) test.StillFilled passed (when_rest s.hand.registered test.NotRegistered empty first));
      is = sent_as tests (sent.ReadPage page) x e;
    }

pub record TestsHand (s : RestartState) (x : RestartSent) : Type 0 where
  pub page : PageId
  pub placed : s.hand.page ≡ Some page
  pub filled : s.hand.filled ≡ true
  pub is : x ≡ sent.Command (command.Test 0)

pub tests_hand : (s : RestartState) (x : RestartSent) (p : Option PageId) → s.hand.page ≡ p → sends (when (is_some p) test.NotPlaced (when s.hand.filled test.NotFilled passed)) (sent.Command (command.Test 0)) ≡ Ok x → TestsHand s x
tests_hand s x None placed e = absurd (err_ok test.NotPlaced x (Err test.NotPlaced) refl e)
tests_hand s x (Some page) placed e =
    let tests : Tested = when s.hand.filled test.NotFilled passed in
    record { page = page; placed = placed; filled = when_first s.hand.filled test.NotFilled passed (after_first tests (Ok (sent.Command (command.Test 0))) x e); is = sent_as tests (sent.Command (command.Test 0)) x e }

pub record WritesHand (s : RestartState) (x : RestartSent) : Type 0 where
  pub page : PageId
  pub placed : s.hand.page ≡ Some page
  pub changed : s.hand.changed ≡ true
  pub stable : s.hand.last ≤ s.log.stable
  pub is : x ≡ sent.Command (command.Write page 0)

pub writes_hand : (s : RestartState) (x : RestartSent) (p : Option PageId) → s.hand.page ≡ p → writes s p ≡ Ok x → WritesHand s x
writes_hand s x None placed e = absurd (err_ok test.NotPlaced x (Err test.NotPlaced) refl e)
writes_hand s x (Some page) placed e =
    let stable : Tested = when (nat_le s.hand.last s.log.stable) test.NotStable (owner_test s page) in
    let filled : Tested = when s.hand.filled test.NotFilled stable in
    let tests : Tested = when s.hand.changed test.NotChanged filled in
    let first : holds tests ≡ true = after_first tests (Ok (sent.Command (command.Write page 0))) x e in
    record {
      page = page;
      placed = placed;
      changed = when_first s.hand.changed test.NotChanged filled first;
      stable = leb-true s.hand.last s.log.stable (when_first (nat_le s.hand.last s.log.stable) test.NotStable (owner_test s page) (when_rest s.hand.filled test.NotFilled stable (when_rest s.hand.changed test.NotChanged filled first)));
      is = sent_as tests (sent.Command (command.Write page 0)) x e;
    }

pub record PurgesHand (s : RestartState) (x : RestartSent) : Type 0 where
  pub page : PageId
  pub placed : s.hand.page ≡ Some page
  pub listed : s.is_listed ≡ true
  pub retained : is_some s.hand.key ≡ true
  pub unclaimed : is_claimed s page ≡ false
  pub clean : s.hand.changed ≡ false
  pub is : x ≡ sent.Command (command.Purge (name.Page page))

pub purges_hand : (s : RestartState) (x : RestartSent) (p : Option PageId) → s.hand.page ≡ p → purges_page s p ≡ Ok x → PurgesHand s x
purges_hand s x None placed e = absurd (err_ok test.NotPlaced x (Err test.NotPlaced) refl e)
purges_hand s x (Some page) placed e =
    let unclaimed : Tested = when (not (is_claimed s page)) test.StillClaimed passed in
    let unchanged : Tested = when (not s.hand.changed) test.StillChanged unclaimed in
    let brought : Tested = when s.hand.brought test.NotBrought unchanged in
    let retained : Tested = when (is_some s.hand.key) test.NotRetained brought in
    let tests : Tested = after (listed_test s) retained in
    let first : holds tests ≡ true = after_first tests (Ok (sent.Command (command.Purge (name.Page page)))) x e in
    let last : holds retained ≡ true = after_tests (listed_test s) retained first in
    let still : holds unchanged ≡ true = when_rest s.hand.brought test.NotBrought unchanged (when_rest (is_some s.hand.key) test.NotRetained brought last) in
    record {
      page = page;
      placed = placed;
      listed = when_first s.is_listed test.NotListed passed (passes (listed_test s) retained first);
      retained = when_first (is_some s.hand.key) test.NotRetained brought last;
      unclaimed = not_false (is_claimed s page) (when_first (not (is_claimed s page)) test.StillClaimed passed (when_rest (not s.hand.changed) test.StillChanged unclaimed still));
      clean = not_false s.hand.changed (when_first (not s.hand.changed) test.StillChanged unclaimed still);
      is = sent_as tests (sent.Command (command.Purge (name.Page page))) x e;
    }

-- ---- the page's lock
commanded : (f : PageId → Command) (r : Result PageId RestartTest) (x : RestartSent) → commands f r ≡ Ok x → (page : PageId) × (r ≡ Ok page) × (x ≡ sent.Command (f page))
commanded f (Ok page) x e = (page, refl, sym (same_ok (sent.Command (f page)) x (Ok (sent.Command (f page))) (Ok x) refl refl e))
commanded f (Err t) x e = absurd (err_ok t x (Err t) refl e)

pub locks_page : (s : RestartState) (f : PageId → Command) (x : RestartSent) (p : Option PageId) → commands f (locks_in s p) ≡ Ok x → (page : PageId) × (p ≡ Some page) × (x ≡ sent.Command (f page))
locks_page s f x None e = absurd (err_ok test.NoneStands x (Err test.NoneStands) refl e)
locks_page s f x (Some page) e =
    let c = commanded f (locks_in s (Some page)) x e in
    let free : after (free_test s page) (Ok page) ≡ Ok c.0 = after_rest (recovered_test s) (after (free_test s page) (Ok page)) c.0 c.1 in
    let same : page ≡ c.0 = same_ok page c.0 (Ok page) (Ok c.0) refl refl (after_rest (free_test s page) (Ok page) c.0 free) in
    (page, refl, c.2 ∙ ap (λ z. sent.Command (f z)) (sym same))

pub asks_page : (f : PageId → Command) (x : RestartSent) (p : Option PageId) → commands f (asked_in p) ≡ Ok x → (page : PageId) × (x ≡ sent.Command (f page))
asks_page f x p e = let c = commanded f (asked_in p) x e in (c.0, c.2)

-- ---- what is given up
pub record ReleasesPage (s : RestartState) (x : RestartSent) : Type 0 where
  pub page : PageId
  pub claimed : s.claim ≡ Some page
  pub clean : s.hand.page ≡ Some page → s.hand.changed ≡ false
  pub is : x ≡ sent.Command (command.Release (name.Page page) (record { share = false; exclusive = false }))

unchanged : (q p : PageId) (x : Bool) → not (is_same q p && x) ≡ true → q ≡ p → x ≡ false
unchanged q p x e same = by x (and_from (q.set == p.set) (q.number == p.number) (eq-eqb q.set p.set (ap (λ (z : PageId). z.set) same)) (eq-eqb q.number p.number (ap (λ (z : PageId). z.number) same))) e
  where
    by : (x : Bool) → is_same q p ≡ true → not (is_same q p && x) ≡ true → x ≡ false
    by false a f = refl
    by true a f = absurd (never (sym (ap (λ z. not (z && true)) a) ∙ f))

pub releases_page : (s : RestartState) (x : RestartSent) (p : Option PageId) → s.claim ≡ p → releases s p ≡ Ok x → ReleasesPage s x
releases_page s x None claim e = absurd (err_ok test.NotClaimed x (Err test.NotClaimed) refl e)
releases_page s x (Some page) claim e = record {
  page = page;
  claimed = claim;
  clean = λ placed. clean placed (when_first (not (is_claimed_as s.hand.page page && s.hand.changed)) test.StillChanged passed (after_first (unchanged_test s page) (Ok (sent.Command _)) x e));
  is = sent_as (unchanged_test s page) _ x e;
}
  where
    clean : s.hand.page ≡ Some page → not (is_claimed_as s.hand.page page && s.hand.changed) ≡ true → s.hand.changed ≡ false
    clean placed f = unchanged page page s.hand.changed (subst (λ o. not (is_claimed_as o page && s.hand.changed) ≡ true) placed f) refl

-- ---- a change is taken back
pub record UndoesHand (s : RestartState) (x : RestartSent) : Type 0 where
  pub page : PageId
  pub placed : s.hand.page ≡ Some page
  pub filled : s.hand.filled ≡ true
  pub claimed : s.claim ≡ Some page
  pub recovered : is_recovered s ≡ true
  pub is : x ≡ sent.Command undo_command

same_page : (p q : PageId) → is_same p q ≡ true → p ≡ q
same_page p q e =
    let both = and_parts (p.set == q.set) (p.number == q.number) e in
    let sets : p.set ≡ q.set = eqb-true p.set q.set both.0 in
    let numbers : p.number ≡ q.number = eqb-true p.number q.number both.1 in
    λ i. record { set = sets i; number = numbers i }

claimed_as : (o : Option PageId) (page : PageId) → is_claimed_as o page ≡ true → o ≡ Some page
claimed_as None page e = absurd (never e)
claimed_as (Some q) page e = ap Some (same_page q page e)

record HasHand (s : RestartState) (p : Option PageId) : Type 0 where
  pub own : PageId
  pub is : p ≡ Some own
  pub filled : s.hand.filled ≡ true
  pub claimed : s.claim ≡ Some own

hand_tested : (s : RestartState) (page : PageId) (p : Option PageId) → holds (undone_hand_test s page p) ≡ true → HasHand s p
hand_tested s page None h = absurd (never h)
hand_tested s page (Some own) h =
    let claimed : Tested = when (is_claimed s page) test.NotClaimed passed in
    let filled : Tested = when s.hand.filled test.NotFilled claimed in
    let rest : holds filled ≡ true = when_rest (is_same own page) test.OtherPage filled h in
    record {
      own = own;
      is = refl;
      filled = when_first s.hand.filled test.NotFilled claimed rest;
      claimed = claimed_as s.claim page (when_first (is_claimed s page) test.NotClaimed passed (when_rest s.hand.filled test.NotFilled claimed rest)) ∙ ap Some (sym (same_page own page (when_first (is_same own page) test.OtherPage filled h)));
    }

pub undoes_hand : (s : RestartState) (x : RestartSent) (p : Option Newest) → undo_with s p ≡ Ok x → UndoesHand s x
undoes_hand s x None e = absurd (err_ok test.NoneStands x (Err test.NoneStands) refl e)
undoes_hand s x (Some it) e =
    let c = it.change in
    let rest : Tested = after (when (is_row_retained s c) test.NotRetained passed) (log_test s) in
    let hand : Tested = undone_hand_test s (page_of c) s.hand.page in
    let tests : Tested = after (recovered_test s) (after hand rest) in
    let first : holds tests ≡ true = after_first tests (Ok (sent.Command undo_command)) x e in
    let it = hand_tested s (page_of c) s.hand.page (passes hand rest (after_tests (recovered_test s) (after hand rest) first)) in
    let pages : Tested = when (length s.pages == 0) test.PagesLeft passed in
    let known : holds (recovered_test s) ≡ true = passes (recovered_test s) (after hand rest) first in
    record {
      page = it.own;
      placed = it.is;
      filled = it.filled;
      claimed = it.claimed;
      recovered = and_from s.is_listed (length s.pages == 0) (when_first s.is_listed test.NotListed pages known) (when_first (length s.pages == 0) test.PagesLeft passed (when_rest s.is_listed test.NotListed pages known));
      is = sent_as tests (sent.Command undo_command) x e;
    }
