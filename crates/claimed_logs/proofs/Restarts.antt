-- The log of a member that restarts, behind an event of its restart, and behind what this hands over.
use Rattle.std.proofs.Common.{◌≡◌, ℕ, suc, ◌<◌, ◌≤◌, refl, sym, ◌∙◌, ap, subst, arith, Bool, true, false, inl, inr, List, [], ◌∷◌, length, Option, Some, None}
use Rattle.std.specs.Prelude.{◌^◌, if◌then◌else◌, is_some, map}
use Rattle.ds_disk.specs.Contents.{Contents, log_of}
use Rattle.ds_model.specs.declared.log.LogRecord.{LogRecord}
use Rattle.member_intents.specs.declared.outcome.Answered.{Answered}
use Rattle.restart_marks.specs.declared.adopt.Adopted.{Adopted}
use Rattle.restart_marks.specs.Adopt.{adopted_after, adopted_as, adopted_by, adopted_told, may_adopt}
use Rattle.restart_marks.specs.declared.intent.RestartSent.{RestartSent}
use Rattle.restart_marks.specs.declared.marks.KeptBy.{KeptBy}
use Rattle.restart_marks.specs.State.{RestartState, with_trans}
use Rattle.restart_records.specs.Own.{OwnState}
use Rattle.log_trans.specs.Courses.{open_trans}
use Rattle.restart_records.specs.declared.trans.RestartTran.{RestartTran}
use Rattle.restart_records.specs.Trans.{TransState, no_trans, opened_among}
use Rattle.restart_law.specs.Opens.{FewNeeds, GoOn, ListGoes, ListsGo, OpensHand, OpensStand, OpensStay}
use Rattle.restart_law.specs.Reads.{AreLast, ReadsStay, ReadsTrue, StillReads, TellsLog}
use Rattle.restart_claims.specs.Claims.{ClaimsHand, ClaimsStay, OpensClaimed}
use Rattle.restart_resources.specs.Calls.{Drive}
use Rattle.restart_resources.specs.Events as event
use Rattle.restart_resources.specs.Held.{Held}
use Rattle.lock_protocol.specs.Machine.{World}
use Rattle.lock_restarts.specs.Courses.{IsInOrder}
use Rattle.claimed_logs.specs.Logs.{RestartLogged}
use Rattle.claimed_logs.specs.Steps.{HandedLogged, RestartStepsLogged}

pub record Facts : Type 0 where
  pub opens : OpensStay
  pub reads : ReadsStay
  pub lists : ListsGo
  pub stay : ClaimsStay

never : true ≡ false → ⊥
never e = cc

was_unread : (b c : Bool) → (b ≡ true → c ≡ true) → c ≡ false → b ≡ false
was_unread true c goes e = absurd (never (sym (goes refl) ∙ e))
was_unread false c goes e = refl

-- what a disk tells of a log is one thing
one_log : (drive : Drive) (member : ℕ) (a b : List ℕ) → TellsLog drive member a → TellsLog drive member b → a ≡ b
one_log drive member a b x y =
    let same : x.contents ≡ y.contents = let both : Some x.contents ≡ Some y.contents = sym x.told ∙ y.told in cc in
    sym x.log ∙ ap (λ (z : Contents). log_of z.logs member) same ∙ y.log

-- how many they are
same_count : (xs ys : List RestartTran) → GoOn xs ys → length ys ≡ length xs
same_count [] [] go = refl
same_count [] (y ∷ ys) go = absurd go
same_count (x ∷ xs) [] go = absurd go
same_count (x ∷ xs) (y ∷ ys) go = ap suc (same_count xs ys go.1)

mapped : (xs : List RestartTran) → length (map (λ (y : RestartTran). y.tran) xs) ≡ length xs
mapped [] = refl
mapped (x ∷ xs) = ap suc (mapped xs)

pub restart_steps : Facts → RestartStepsLogged
restart_steps facts log left w z u v h k x a e ok order spares tells told l = by h.marks.own.is_read refl
  where
    goes : ListGoes h.marks k.marks
    goes = facts.lists u v h k x a e l.stands

    few_read : h.marks.own.is_read ≡ true → FewNeeds h.marks.own.records
    few_read read = l.few h.marks.own.records (l.reads.records read)

    counts : ReadsTrue l.bytes k.marks → (b : Bool) → h.marks.own.is_read ≡ b → (d : Bool) → k.marks.own.is_read ≡ d → length k.marks.trans.list < 2 ^ 64
    counts reads true was d now = (let same = same_count h.marks.trans.list k.marks.trans.list (goes.read was) in let few = l.counts in omega (arith, same, few))
    counts reads false was true now =
        let opened : length (map (λ (y : RestartTran). y.tran) k.marks.trans.list) ≡ length (open_trans k.marks.own.records) = ap length (goes.reads was now) in
        let long = mapped k.marks.trans.list in
        let few = l.brief k.marks.own.records (reads.records now) in
        omega (arith, opened, long, few)
    counts reads false was false now =
        let none : length k.marks.trans.list ≡ 0 = ap (λ (t : TransState). length t.list) ((facts.opens u v h k x a e l.stands).none_open now) in
        omega (arith, none)

    logged : (reads : ReadsTrue l.bytes k.marks) → (k.marks.own.is_read ≡ false → l.bytes ≡ left) → RestartLogged left z k.marks
    logged reads unread = record {
      bytes = l.bytes;
      are = l.are;
      few = l.few;
      brief = l.brief;
      counts = counts reads h.marks.own.is_read refl k.marks.own.is_read refl;
      stands = facts.opens u v h k x a e l.stands;
      reads = reads;
      claimed = facts.stay l.bytes w z u v h k x a e l.stands few_read order reads spares l.claimed;
      unread = unread;
    }

    -- once it has read its log
    read_on : h.marks.own.is_read ≡ true → RestartLogged left z k.marks
    read_on was = logged (record {
      reading = λ unread. absurd (never (sym (goes.still_read was) ∙ unread));
      idle = λ unread. absurd (never (sym (goes.still_read was) ∙ unread));
      records = λ _. subst (λ (q : List LogRecord). AreLast l.bytes q) (sym (goes.records was)) (l.reads.records was);
    }) (λ unread. absurd (never (sym (goes.still_read was) ∙ unread)))

    -- and before
    still : h.marks.own.is_read ≡ false → StillReads l.bytes v.drive k.marks
    still was = facts.reads l.bytes u v h k x a e ok l.stands
        (record { are = l.are; reads = l.reads; tells = λ _. subst (λ (q : List ℕ). TellsLog u.drive h.marks.member q) (sym (l.unread was)) tells })

    by : (b : Bool) → h.marks.own.is_read ≡ b → RestartLogged left z k.marks
    by true was = read_on was
    by false was = logged (still was).reads (λ unread. one_log v.drive k.marks.member l.bytes left ((still was).tells unread) told)

-- ---- it hands over
pub record HandFacts : Type 0 where
  pub opens : OpensHand
  pub claims : ClaimsHand

pub kept_some : (s : RestartState) (o : Option KeptBy) → is_some (adopted_by s o) ≡ true → is_some o ≡ true
kept_some s None e = e
kept_some s (Some kept) e = refl

abbrev adopted_for : RestartState → KeptBy → Adopted
adopted_for s kept = record { by = kept.by; trans = opened_among s.trans.list }

-- it may not, and stays as it is
pub not_handed : (s : RestartState) (o : Option KeptBy) → is_some (adopted_by s o) ≡ false → adopted_as s o ≡ s
not_handed s None e = refl
not_handed s (Some kept) e = by (may_adopt s) e
  where
    by : (b : Bool) → is_some (if b then Some (adopted_for s kept) else None) ≡ false → (if b then with_trans s no_trans else s) ≡ s
    by true e = absurd (never e)
    by false e = refl

-- the log that it reads, and what it has read of it
record SameLog (s t : RestartState) : Type 0 where
  own : t.own ≡ s.own

handed_log : (s : RestartState) (o : Option KeptBy) → SameLog s (adopted_as s o)
handed_log s None = record { own = refl }
handed_log s (Some kept) = by (may_adopt s)
  where
    by : (b : Bool) → SameLog s (if b then with_trans s no_trans else s)
    by true = record { own = refl }
    by false = record { own = refl }

-- no more than it had
handed_few : (s : RestartState) (o : Option KeptBy) → length (adopted_as s o).trans.list ≤ length s.trans.list
handed_few s None = omega arith
handed_few s (Some kept) = by (may_adopt s)
  where
    by : (b : Bool) → length (if b then with_trans s no_trans else s).trans.list ≤ length s.trans.list
    by true = omega arith
    by false = omega arith

hands : HandFacts → (log : List ℕ) (w : World) (s : RestartState) → IsInOrder s → is_some (adopted_told s) ≡ true → RestartLogged log w s → RestartLogged log w (adopted_after s)
hands facts log w s order told l = record {
  bytes = l.bytes;
  are = l.are;
  few = l.few;
  brief = l.brief;
  counts = (let few = handed_few s s.kept in let had = l.counts in omega (arith, few, had));
  stands = facts.opens s l.stands;
  reads = record {
    reading = λ unread. absurd (never (sym now_read ∙ unread));
    idle = λ unread. absurd (never (sym now_read ∙ unread));
    records = λ _. subst (λ (q : OwnState). AreLast l.bytes q.records) (sym same) (l.reads.records read);
  };
  claimed = facts.claims l.bytes w s read told;
  unread = λ unread. absurd (never (sym now_read ∙ unread));
}
  where
    read : s.own.is_read ≡ true
    read = order.kept (kept_some s s.kept told)

    same : (adopted_after s).own ≡ s.own
    same = (handed_log s s.kept).own

    now_read : (adopted_after s).own.is_read ≡ true
    now_read = ap (λ (z : OwnState). z.is_read) same ∙ read

pub handed : HandFacts → HandedLogged
handed facts log w s order l = by (is_some (adopted_told s)) refl
  where
    by : (b : Bool) → is_some (adopted_told s) ≡ b → RestartLogged log w (adopted_after s)
    by true told = hands facts log w s order told l
    by false none = subst (λ (z : RestartState). RestartLogged log w z) (sym (not_handed s s.kept none)) l
