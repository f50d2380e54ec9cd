-- What is known of the fates of transactions stays known as more have one.
use Rattle.std.proofs.Common.{◌≡◌, ◌≢◌, ◌⊎◌, inl, inr, ℕ, Bool, true, false, eqb, List, [], ◌∷◌, ◌++◌, map, Option, Some, None, refl, sym, ap, subst}
use Rattle.std.specs.Prelude.{if◌then◌else◌, ◌==◌}
use Rattle.std.specs.List.{AllByRecursion, Contains}
use Rattle.std.proofs.lemmas.List.Elements.{Contains-append_left, Contains-push}
use Rattle.ds_model.specs.declared.fate.Answer.{Answer}
use Rattle.ds_model.specs.declared.fate.Fate.{Fate}
use Rattle.ds_model.specs.declared.fate.Fate.TheVariants as fate
use Rattle.ds_model.specs.declared.fate.Refusal.{Refusal}
use Rattle.ds_model.specs.declared.history.Entry.{Entry}
use Rattle.ds_model.specs.declared.script.Tran.{Tran}
use Rattle.member_trans.specs.declared.fate.Owner.TheVariants as owner
use Rattle.member_trans.specs.declared.fate.Refused.{Refused}
use Rattle.member_marks.specs.State.{MarksState, id_of}
use Rattle.tran_history.specs.Histories.{has_number, answered_fate, answered_entry, after_answer}
use Rattle.script_fates.specs.declared.fates.Cause.{Cause}
use Rattle.script_fates.specs.Fated.{FatesState, Adds, Fixes, Refuses, Stops, StopsOnly, may_be_refused}
use Rattle.group_member.specs.Entering.{Commits, CommitsOne, RefusesOne, AnswersOne}
use Rattle.refusal_causes.specs.Moments.{IsCaused, IsCausedAt, HasCause, WasRefused, IsNamed, AllCaused}
use Rattle.refusal_causes.proofs.Known.{Claim, IsMade}

-- ---- lists

all_append : {X : Type 0} (P : X → Type 0) (xs ys : List X) → AllByRecursion P xs → AllByRecursion P ys → AllByRecursion P (xs ++ ys)
all_append P [] ys a b = b
all_append P (x ∷ xs) ys a b = (a.0, all_append P xs ys a.1 b)

all_then : {X : Type 0} (P Q : X → Type 0) (xs : List X) → ((x : X) → P x → Q x) → AllByRecursion P xs → AllByRecursion Q xs
all_then P Q [] f a = tt
all_then P Q (x ∷ xs) f a = (f x a.0, all_then P Q xs f a.1)

-- ---- who was refused

refused_more : (es fs : List Entry) (n : ℕ) (why : Refusal) → WasRefused es n why → WasRefused (es ++ fs) n why
refused_more [] fs n why h = absurd h
refused_more (e ∷ es) fs n why (inl here) = inl here
refused_more (e ∷ es) fs n why (inr there) = inr (refused_more es fs n why there)

refused_last : (es : List Entry) (e : Entry) (n : ℕ) (why : Refusal) → e.tran.number ≡ n → e.fate ≡ fate.Refused why → WasRefused (es ++ e ∷ []) n why
refused_last [] e n why number its = inl (number, its)
refused_last (x ∷ es) e n why number its = inr (refused_last es e n why number its)

named_more : (K : Claim) (es fs : List Entry) (c : Cause) → IsNamed K es c → IsNamed K (es ++ fs) c
named_more K es fs c h = record { why = h.why; refused = refused_more es fs c.number h.why h.refused; cause = h.cause }

-- ---- more causes

caused_more : (K : Claim) (causes more : List Cause) (tran : Tran) (its : Fate) → IsCaused K causes tran its → IsCaused K (causes ++ more) tran its
caused_more K causes more tran (fate.Committed answered reads) h = tt
caused_more K causes more tran (fate.Refused why) h = record { place = h.place; told = Contains-append_left causes more (record { number = tran.number; place = h.place }) h.told; cause = h.cause; may = h.may }
caused_more K causes more tran fate.Stopped h = tt

all_more : (K : Claim) (causes more : List Cause) (es : List Entry) → AllByRecursion (HasCause K causes) es → AllByRecursion (HasCause K (causes ++ more)) es
all_more K causes more es h = all_then (HasCause K causes) (HasCause K (causes ++ more)) es (λ e c. caused_more K causes more e.tran e.fate c) h

-- ---- more entries

-- more entries that have a cause where they are refused, and no more causes
grows : (K : Claim) (f g : FatesState) (more : List Entry) → AllByRecursion (HasCause K f.causes) more → g.entries ≡ f.entries ++ more → g.causes ≡ f.causes → AllCaused K f → AllCaused K g
grows K f g more each entries causes known =
    let named : AllByRecursion (IsNamed K (f.entries ++ more)) f.causes = all_then (IsNamed K f.entries) (IsNamed K (f.entries ++ more)) f.causes (λ c h. named_more K f.entries more c h) known.causes in
    let both : AllByRecursion (IsNamed K g.entries) f.causes = subst (λ (es : List Entry). AllByRecursion (IsNamed K es) f.causes) (sym entries) named in
    let caused : AllByRecursion (HasCause K f.causes) g.entries = subst (AllByRecursion (HasCause K f.causes)) (sym entries) (all_append (HasCause K f.causes) f.entries more known.entries each) in
    record {
      entries = subst (λ (cs : List Cause). AllByRecursion (HasCause K cs) g.entries) (sym causes) caused;
      causes = subst (AllByRecursion (IsNamed K g.entries)) (sym causes) both;
    }

-- the last entry has this fate
its_cause : (K : Claim) (causes : List Cause) (e : Entry) (its : Fate) → e.fate ≡ its → IsCaused K causes e.tran its → HasCause K causes e
its_cause K causes e its is cause = subst (IsCaused K causes e.tran) (sym is) cause

same : (K : Claim) (f g : FatesState) → g ≡ f → AllCaused K f → AllCaused K g
same K f g e known = subst (AllCaused K) (sym e) known

pub fixes_known : (K : Claim) (f g : FatesState) (n : ℕ) (reads : List Answer) → Fixes f n (fate.Committed false reads) g → AllCaused K f → AllCaused K g
fixes_known K f g n reads (inl e) known = same K f g e known
fixes_known K f g n reads (inr added) known =
    let last = added.0.2 in
    grows K f g (last.0 ∷ []) (its_cause K f.causes last.0 (fate.Committed false reads) last.2 tt, tt) last.4 added.1 known

-- the one that is refused last, by the cause that is told last
last_cause : (K : Claim) (causes : List Cause) (e : Entry) (n : ℕ) (why : Refusal) (place : ℕ) → e.tran.number ≡ n → e.fate ≡ fate.Refused why → may_be_refused e.tran why ≡ true → K n why place → HasCause K (causes ++ record { number = n; place = place } ∷ []) e
last_cause K causes e n why place number is may cause =
    let all : List Cause = causes ++ record { number = n; place = place } ∷ [] in
    its_cause K all e (fate.Refused why) is (record {
      place = place;
      told = subst (λ (k : ℕ). Contains all (record { number = k; place = place })) (sym number) (Contains-push causes (record { number = n; place = place }));
      cause = subst (λ (k : ℕ). K k why place) (sym number) cause;
      may = may;
    })

refuses_with : (K : Claim) (f g : FatesState) (n : ℕ) (why : Refusal) (place : ℕ) → K n why place → Adds f.entries n (fate.Refused why) g.entries → g.causes ≡ f.causes ++ record { number = n; place = place } ∷ [] → AllCaused K f → AllCaused K g
refuses_with K f g n why place cause added causes known =
    let last = added.2 in
    let its : Cause = record { number = n; place = place } in
    let all : List Cause = f.causes ++ its ∷ [] in
    let refused : WasRefused g.entries n why = subst (λ (es : List Entry). WasRefused es n why) (sym last.4) (refused_last f.entries last.0 n why last.1 last.2) in
    let named : IsNamed K g.entries its = record { why = why; refused = refused; cause = cause } in
    let before : AllByRecursion (IsNamed K (f.entries ++ last.0 ∷ [])) f.causes = all_then (IsNamed K f.entries) (IsNamed K (f.entries ++ last.0 ∷ [])) f.causes (λ c h. named_more K f.entries (last.0 ∷ []) c h) known.causes in
    let so_far : AllByRecursion (IsNamed K g.entries) f.causes = subst (λ (es : List Entry). AllByRecursion (IsNamed K es) f.causes) (sym last.4) before in
    let entries : AllByRecursion (HasCause K all) (f.entries ++ last.0 ∷ []) =
    all_append (HasCause K all) f.entries (last.0 ∷ []) (all_more K f.causes (its ∷ []) f.entries known.entries) (last_cause K f.causes last.0 n why place last.1 last.2 last.3 cause, tt) in
    let caused : AllByRecursion (HasCause K all) g.entries = subst (AllByRecursion (HasCause K all)) (sym last.4) entries in
    record {
      entries = subst (λ (cs : List Cause). AllByRecursion (HasCause K cs) g.entries) (sym causes) caused;
      causes = subst (AllByRecursion (IsNamed K g.entries)) (sym causes) (all_append (IsNamed K g.entries) f.causes (its ∷ []) so_far (named, tt));
    }

pub refuses_known : (K : Claim) (f g : FatesState) (n : ℕ) (why : Refusal) (place : ℕ) → K n why place → Refuses f n why place g → AllCaused K f → AllCaused K g
refuses_known K f g n why place cause (inl e) known = same K f g e known
refuses_known K f g n why place cause (inr added) known = refuses_with K f g n why place cause added.0 added.1 known

-- ---- stopped transactions

stopped_only : (K : Claim) (causes : List Cause) (may : ℕ → Bool) (es : List Entry) → AllByRecursion (λ (e : Entry). (e.fate ≡ fate.Stopped) × (may e.tran.number ≡ true)) es → AllByRecursion (HasCause K causes) es
stopped_only K causes may es all = all_then (λ (e : Entry). (e.fate ≡ fate.Stopped) × (may e.tran.number ≡ true)) (HasCause K causes) es (λ e h. its_cause K causes e fate.Stopped h.0 tt) all

stopped : (K : Claim) (causes : List Cause) (es : List Entry) → AllByRecursion (λ (e : Entry). e.fate ≡ fate.Stopped) es → AllByRecursion (HasCause K causes) es
stopped K causes es all = all_then (λ (e : Entry). e.fate ≡ fate.Stopped) (HasCause K causes) es (λ e h. its_cause K causes e fate.Stopped h tt) all

pub stops_only_known : (K : Claim) (may : ℕ → Bool) (f g : FatesState) → StopsOnly may f g → AllCaused K f → AllCaused K g
stops_only_known K may f g s known = grows K f g s.0.0 (stopped_only K f.causes may s.0.0 s.0.1) s.0.2 s.1 known

pub stops_known : (K : Claim) (f g : FatesState) → Stops f g → AllCaused K f → AllCaused K g
stops_known K f g s known = grows K f g s.0.0 (stopped K f.causes s.0.0 s.0.1) s.0.2 s.1 known

-- ---- answered transactions

answered_cause : (K : Claim) (causes : List Cause) (tran : Tran) (it : Fate) → IsCaused K causes tran it → IsCaused K causes tran (answered_fate it)
answered_cause K causes tran (fate.Committed answered reads) h = tt
answered_cause K causes tran (fate.Refused why) h = h
answered_cause K causes tran fate.Stopped h = tt

answered_by : (K : Claim) (causes : List Cause) (b : Bool) (e : Entry) → HasCause K causes e → HasCause K causes (if b then answered_entry e else e)
answered_by K causes true e h = answered_cause K causes e.tran e.fate h
answered_by K causes false e h = h

answered_all : (K : Claim) (causes : List Cause) (es : List Entry) (n : ℕ) → AllByRecursion (HasCause K causes) es → AllByRecursion (HasCause K causes) (after_answer es n)
answered_all K causes [] n h = tt
answered_all K causes (e ∷ es) n h = (answered_by K causes (eqb e.tran.number n) e h.0, answered_all K causes es n h.1)

answered_refusal : (b : Bool) (e : Entry) (n : ℕ) (why : Refusal) → (e.tran.number ≡ n) × (e.fate ≡ fate.Refused why) → ((if b then answered_entry e else e).tran.number ≡ n) × ((if b then answered_entry e else e).fate ≡ fate.Refused why)
answered_refusal true e n why h = (h.0, ap answered_fate h.1)
answered_refusal false e n why h = h

answered_refused : (es : List Entry) (m n : ℕ) (why : Refusal) → WasRefused es n why → WasRefused (after_answer es m) n why
answered_refused [] m n why h = absurd h
answered_refused (e ∷ es) m n why (inl here) = inl (answered_refusal (eqb e.tran.number m) e n why here)
answered_refused (e ∷ es) m n why (inr there) = inr (answered_refused es m n why there)

answered_named : (K : Claim) (es : List Entry) (m : ℕ) (c : Cause) → IsNamed K es c → IsNamed K (after_answer es m) c
answered_named K es m c h = record { why = h.why; refused = answered_refused es m c.number h.why h.refused; cause = h.cause }

answered_known : (K : Claim) (f : FatesState) (n : ℕ) → AllCaused K f → AllCaused K (record f { entries = after_answer f.entries n })
answered_known K f n known = record {
  entries = answered_all K f.causes f.entries n known.entries;
  causes = all_then (IsNamed K f.entries) (IsNamed K (after_answer f.entries n)) f.causes (λ c h. answered_named K f.entries n c h) known.causes;
}

-- ---- what an event enters

pub commits_known : (K : Claim) (s : MarksState) (slots : List ℕ) (f g : FatesState) → Commits s slots f g → AllCaused K f → AllCaused K g
commits_known K s [] f g e known = same K f g e known
commits_known K s (slot ∷ slots) f g e known =
    commits_known K s slots e.0 g e.2 (fixes_known K f e.0 (id_of s (owner.Slot slot)).number e.1.reads e.1.fixes known)

pub refuses_one_known : (K : Claim) (r : Option Refused) (f g : FatesState) → IsMade K r → RefusesOne r f g → AllCaused K f → AllCaused K g
refuses_one_known K None f g made e known = same K f g e known
refuses_one_known K (Some r) f g made e known = refuses_known K f g r.number r.refusal r.place made e known

pub answers_one_known : (K : Claim) (n : Option ℕ) (f g : FatesState) → AnswersOne n f g → AllCaused K f → AllCaused K g
answers_one_known K None f g e known = same K f g e known
answers_one_known K (Some n) f g (inl e) known = same K f g e known
answers_one_known K (Some n) f g (inr e) known = same K (record f { entries = after_answer f.entries n }) g e (answered_known K f n known)
