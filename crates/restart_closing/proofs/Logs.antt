-- What a log leaves open, and closes, where the records that a restart has put go behind it.
use Rattle.std.proofs.Common.{◌≡◌, ℕ, ◌≤◌, refl, sym, ◌∙◌, ap, subst, arith, Bool, true, false, inl, inr, List, [], ◌∷◌, ◌++◌, length, take}
use Rattle.std.specs.Prelude.{◌≢◌, ◌⊎◌, ◌==◌, ◌&&◌, ◌||◌}
use Rattle.std.specs.List.{AllByRecursion}
use Rattle.std.proofs.lemmas.Bool.{or_left, or_right}
use Rattle.std.proofs.lemmas.List.{take_all}
use Rattle.ds_model.specs.RecordBytes.{IsAllowed, log_bytes}
use Rattle.ds_model.specs.Rows.{Spot}
use Rattle.ds_model.specs.declared.log.Body.{Body}
use Rattle.ds_model.specs.declared.log.Body.TheVariants as body
use Rattle.ds_model.specs.declared.log.LogRecord.{LogRecord}
use Rattle.log_appends.specs.Appends.{AppendsAreWhole, AreBehind, AreLastFrom, LastAreBehind, NoneNames}
use Rattle.log_appends.specs.Rests.{LastAreAllowed, LastWithRest, LastWithoutRest}
use Rattle.log_opens.specs.Opens.{has_opened}
use Rattle.log_opens.specs.Puts.{OpensAreAllowed}
use Rattle.log_reader.specs.Held.{names}
use Rattle.log_reader.specs.Keeping.{AreWhole}
use Rattle.log_rows.specs.Rows.{BothTell, OpenTell, has_changed, is_change_of, is_closed}
use Rattle.log_trans.specs.declared.opened.OpenTran.{OpenTran}
use Rattle.restart_closing.specs.Closing.{HasEnd, IsClosedIn, LeavesOpen, is_back}

pub record Facts : Type 0 where
  pub whole : AppendsAreWhole
  pub last : LastAreBehind
  pub without : LastWithoutRest
  pub with_rest : LastWithRest
  pub allowed : LastAreAllowed
  pub both : BothTell
  pub opens : OpenTell
  pub opened : OpensAreAllowed

-- ---- the records of a restart

abbrev pub IsBack : LogRecord → Type 0
IsBack r = is_back r.body ≡ true

abbrev pub AreBack : List LogRecord → Type 0
AreBack records = AllByRecursion IsBack records

back_names : (place : ℕ) (b : Body) → is_back b ≡ true → names place b ≡ false
back_names place (body.RowChange c) e = refl
back_names place (body.Compensation c undone) e = refl
back_names place (body.System patches) e = refl
back_names place body.Commit e = refl
back_names place body.Ended e = refl
back_names place (body.Checkpoint offset) e = absurd cc
back_names place body.RestartEnd e = refl

pub none_names : (records : List LogRecord) → AreBack records → NoneNames records
none_names [] back place = tt
none_names (r ∷ rs) back place = (back_names place r.body back.0, none_names rs back.1 place)

back_changes : (s : Spot) (b : Body) → is_back b ≡ true → is_change_of s b ≡ false
back_changes s (body.RowChange c) e = absurd cc
back_changes s (body.Compensation c undone) e = refl
back_changes s (body.System patches) e = refl
back_changes s body.Commit e = refl
back_changes s body.Ended e = refl
back_changes s (body.Checkpoint offset) e = refl
back_changes s body.RestartEnd e = refl

none_here : (a b c : Bool) → b ≡ false → c ≡ false → ((a && b) || c) ≡ false
none_here true b c e f = ap (λ (z : Bool). z || c) e ∙ f
none_here false b c e f = f

pub no_changes : (records : List LogRecord) → AreBack records → (id : ℕ) (s : Spot) → has_changed records id s ≡ false
no_changes [] back id s = refl
no_changes (r ∷ rs) back id s = none_here (r.tran == id) (is_change_of s r.body) (has_changed rs id s) (back_changes s r.body back.0) (no_changes rs back.1 id s)

-- ---- last records behind which they stand

-- those of the log from the same byte on, and then they
pub record Follows (log : List ℕ) (pend : List LogRecord) (start : ℕ) (records : List LogRecord) : Type 0 where
  pub back : List LogRecord
  pub last : AreLastFrom log start back
  pub are : records ≡ back ++ pend

pub follows : LastAreBehind → (log : List ℕ) (pend : List LogRecord) (start : ℕ) (records : List LogRecord)
    → AreWhole log → AllByRecursion IsAllowed pend → AreBack pend → AreLastFrom (log ++ log_bytes pend) start records → Follows log pend start records
follows behind log pend start records whole allowed back last = record {
  back = are.back;
  last = are.last;
  are = are.are ∙ ap (λ (z : List LogRecord). are.back ++ z) (are.all (omega arith));
}
  where
    all : take (length (log_bytes pend)) (log_bytes pend) ≡ log_bytes pend
    all = take_all (length (log_bytes pend)) (log_bytes pend) (omega arith)

    are : AreBehind log pend (length (log_bytes pend)) start records
    are = behind log pend (length (log_bytes pend)) start records whole allowed (none_names pend back) (subst (λ (z : List ℕ). AreLastFrom (log ++ z) start records) (sym all) last)

-- what they close is closed then
closed_by : BothTell → (back pend : List LogRecord) (id : ℕ) → (is_closed back id ≡ true) ⊎ (is_closed pend id ≡ true) → is_closed (back ++ pend) id ≡ true
closed_by law back pend id (inl e) = law.closed back pend id ∙ or_left (is_closed back id) (is_closed pend id) e
closed_by law back pend id (inr e) = law.closed back pend id ∙ or_right (is_closed back id) (is_closed pend id) e

pub closed_on : Facts → (log : List ℕ) (pend : List LogRecord) (id : ℕ) → AreWhole log → AllByRecursion IsAllowed pend → AreBack pend → HasEnd log pend id → IsClosedIn (log ++ log_bytes pend) id
closed_on facts log pend id whole allowed back ended start records last =
    let f : Follows log pend start records = follows facts.last log pend start records whole allowed back last in
    ap (λ (z : List LogRecord). is_closed z id) f.are ∙ closed_by facts.both f.back pend id (by f ended)
  where
    by : (f : Follows log pend start records) → HasEnd log pend id → (is_closed f.back id ≡ true) ⊎ (is_closed pend id ≡ true)
    by f (inl closed) = inl (closed start f.back f.last)
    by f (inr waits) = inr waits

-- and nothing more is left open
or_none : (a b : Bool) → b ≡ false → (a || b) ≡ true → a ≡ true
or_none true b none h = refl
or_none false b none h = sym none ∙ h

pub changed_before : BothTell → (back pend : List LogRecord) (id : ℕ) (s : Spot) → AreBack pend → has_changed (back ++ pend) id s ≡ true → has_changed back id s ≡ true
changed_before law back pend id s are h = or_none (has_changed back id s) (has_changed pend id s) (no_changes pend are id s) (sym (law.changed back pend id s) ∙ h)

pub opens_on : Facts → (log : List ℕ) (pend : List LogRecord) (ts : List OpenTran) → AreWhole log → AllByRecursion IsAllowed pend → AreBack pend → LeavesOpen log ts → LeavesOpen (log ++ log_bytes pend) ts
opens_on facts log pend ts whole allowed back leaves start records last id spot some changed =
    let f : Follows log pend start records = follows facts.last log pend start records whole allowed back last in
    by f (leaves start f.back f.last id spot some (changed_before facts.both f.back pend id spot back (ap (λ (z : List LogRecord). has_changed z id spot) (sym f.are) ∙ changed)))
  where
    by : (f : Follows log pend start records) → (is_closed f.back id ≡ true) ⊎ (has_opened ts id spot ≡ true) → (is_closed records id ≡ true) ⊎ (has_opened ts id spot ≡ true)
    by f (inl closed) = inl (ap (λ (z : List LogRecord). is_closed z id) f.are ∙ closed_by facts.both f.back pend id (inl closed))
    by f (inr opened) = inr opened

-- ---- records that wait
pub closed_more : BothTell → (pend new : List LogRecord) (id : ℕ) → is_closed pend id ≡ true → is_closed (pend ++ new) id ≡ true
closed_more law pend new id e = closed_by law pend new id (inl e)

pub closed_last : BothTell → (pend new : List LogRecord) (id : ℕ) → is_closed new id ≡ true → is_closed (pend ++ new) id ≡ true
closed_last law pend new id e = closed_by law pend new id (inr e)

pub end_more : BothTell → (log : List ℕ) (pend new : List LogRecord) (id : ℕ) → HasEnd log pend id → HasEnd log (pend ++ new) id
end_more law log pend new id (inl closed) = inl closed
end_more law log pend new id (inr waits) = inr (closed_more law pend new id waits)

pub both_all : {A : Type 0} → (P : A → Type 0) (xs ys : List A) → AllByRecursion P xs → AllByRecursion P ys → AllByRecursion P (xs ++ ys)
both_all P [] ys h k = k
both_all P (x ∷ xs) ys h k = (h.0, both_all P xs ys h.1 k)

pub each : {A : Type 0} → (P Q : A → Type 0) → ((x : A) → P x → Q x) → (xs : List A) → AllByRecursion P xs → AllByRecursion Q xs
each P Q go [] h = tt
each P Q go (x ∷ xs) h = (go x h.0, each P Q go xs h.1)

pub front_all : {A : Type 0} → (P : A → Type 0) (xs ys : List A) → AllByRecursion P (xs ++ ys) → AllByRecursion P xs
front_all P [] ys h = tt
front_all P (x ∷ xs) ys h = (h.0, front_all P xs ys h.1)
