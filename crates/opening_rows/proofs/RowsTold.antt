-- The rows of the logs of a disk.
use Rattle.std.proofs.Common.{◌≡◌, ℕ, ◌-◌, Bool, List, [], ◌∷◌, length, take, drop, Option, Result, Ok, Err, refl, sym, ap, subst, ◌∙◌, arith}
use Rattle.std.specs.Prelude.{◌&&◌, IsErrOf, IsErrAnd}
use Rattle.std.specs.List.{AllByRecursion, list_any}
use Rattle.std.specs.BTreeMap.{is_at}
use Rattle.std.specs.BTreeSet.{BTreeSet}
use Rattle.std.specs.BTreeSet as set
use Rattle.std.specs.Ordering.{nat_cmp}
use Rattle.ds_base.specs.declared.row.Row.{Row}
use Rattle.ds_disk.specs.Contents.{Contents, log_of}
use Rattle.ds_model.specs.declared.log.LogRecord.{LogRecord}
use Rattle.ds_model.specs.Rows.{listed}
use Rattle.ds_model.specs.Logs.{has_commit}
use Rattle.log_record.specs.declared.log.Log.{Log}
use Rattle.log_head.specs.Heads.{HeadState}
use Rattle.log_head.specs.Laws.{PartsAreWhole}
use Rattle.log_heads.specs.declared.taken.Taken.TheVariants as taken
use Rattle.log_heads.specs.Heads.{HeadsState, heads_of, AreStarts, taken_of, after_fill}
use Rattle.log_heads.specs.Laws.{WantsNext}
use Rattle.log_heads.specs.Logs.{AreOf, left, together, AreNextOf, IsFilled, NoneFalls}
use Rattle.disk_heads.specs.Reading.{AreAt}
use Rattle.opening_rows.specs.declared.fault.LogsFault.{LogsFault}
use Rattle.opening_rows.specs.declared.fault.LogsFault.TheVariants.{Failed, Damaged}
use Rattle.opening_rows.specs.Reading.{ReadsBy}
use Rattle.opening_rows.specs.Opening.{stood_for}
use Rattle.opening_rows.specs.declared.made.Made.{Made}
use Rattle.opening_rows.specs.Rows.{Stand, AreKept, IsMade, AreSurveyedAs}
use Rattle.report_check.specs.Records.{records_of}
use Rattle.opening_rows.proofs.Told.{reads_on, reads_to, reads_err}
use Rattle.opening_rows.proofs.Order.{rows_are}
use Rattle.opening_rows.proofs.Heads.{stands_filled, is_of_at, starts_within, start}
use Rattle.opening_rows.proofs.Taking.{MadeOf}

no_error : {U : Type 0} (u : U) (m at : ℕ) → IsErrOf {T = U} {E = LogsFault} (Ok u) (Damaged m at) → ⊥
no_error u m at e = cc

no_failure : {U : Type 0} (u : U) → IsErrOf {T = U} {E = LogsFault} (Ok u) Failed → ⊥
no_failure u e = cc

-- ---- bytes that are wanted

next_of : WantsNext → (logs : List (List ℕ)) (s : HeadsState) (member at : ℕ) (bytes : List ℕ) → taken_of s ≡ taken.Wants member at (length bytes) → AreOf logs s.heads → AreAt (log_of logs member) at bytes → AreNextOf logs s.heads member bytes
next_of law logs s member at bytes e of are =
    let w = law s member at (length bytes) e in
    let is = is_of_at logs s.heads (member - 1) of in
    let there : bytes ≡ take (length bytes) (drop at (log_of logs member)) = are (omega (arith, w.1, is.within)) in
    subst (λ (k : ℕ). bytes ≡ take (length bytes) (drop k (log_of logs member))) w.0 there

pub kept_on : {X U : Type 0} → WantsNext → (a b : Option Contents) (n k member at count : ℕ) (s g : HeadsState) (bytes : List ℕ) (IsBad BadR : ℕ → ℕ → Contents → Type 0) (x : X) (u : U) → length bytes ≡ count → taken_of s ≡ taken.Wants member at count
    → ReadsBy a b n k (λ (y : X) (c : Contents). AreAt (log_of c.logs member) at bytes) IsBad (Ok x) → g ≡ after_fill s member bytes
    → ((logs : List (List ℕ)) → AreOf logs s.heads → AreNextOf logs s.heads member bytes → IsFilled logs s.heads g.heads) → ReadsBy a b n k (λ (y : U) c. AreKept c.logs s.heads g.heads) BadR (Ok u)
kept_on {X = X} {U = U} law a b n k member at count s g bytes IsBad BadR x u long e p new goes =
    let wants : taken_of s ≡ taken.Wants member at (length bytes) = e ∙ ap (λ (j : ℕ). taken.Wants member at j) (sym long) in
    reads_to a b n k (λ (y : X) c. AreAt (log_of c.logs member) at bytes) IsBad x (λ (y : U) c. AreKept c.logs s.heads g.heads) BadR (Ok u) p
    (λ c are stand. stands_filled c.logs s g member bytes new (goes c.logs stand.of (next_of law c.logs s member at bytes wants stand.of are)) stand)
    (λ m j h. absurd (no_error u m j h)) (λ h. no_failure u h)

-- ---- what the rows are

-- where reading begins
abbrev pub starts_32 : List ℕ
starts_32 = 0 ∷ 0 ∷ 0 ∷ 0 ∷ 0 ∷ 0 ∷ 0 ∷ 0 ∷ 0 ∷ 0 ∷ 0 ∷ 0 ∷ 0 ∷ 0 ∷ 0 ∷ 0 ∷ 0 ∷ 0 ∷ 0 ∷ 0 ∷ 0 ∷ 0 ∷ 0 ∷ 0 ∷ 0 ∷ 0 ∷ 0 ∷ 0 ∷ 0 ∷ 0 ∷ 0 ∷ 0 ∷ []

zeros_32 : AllByRecursion (λ (s : ℕ). s ≡ 0) starts_32
zeros_32 = (refl, (refl, (refl, (refl, (refl, (refl, (refl, (refl, (refl, (refl, (refl, (refl, (refl, (refl, (refl, (refl, (refl, (refl, (refl, (refl, (refl, (refl, (refl, (refl, (refl, (refl, (refl, (refl, (refl, (refl, (refl, (refl, tt))))))))))))))))))))))))))))))))

count_32 : length starts_32 ≡ 32
count_32 = refl

pub within_32 : (ends : List ℕ) → AreStarts starts_32 ends
within_32 ends = starts_within starts_32 ends zeros_32

begins : PartsAreWhole → (bytes : List (List ℕ)) (ends : List ℕ) (now : ℕ → Bool) (logs : List Log) → length ends ≡ 32 → AreSurveyedAs bytes ends now logs
    → Stand bytes (heads_of starts_32 ends) × NoneFalls (left bytes (heads_of starts_32 ends)) × (left bytes (heads_of starts_32 ends) ≡ records_of logs)
begins parts bytes ends now logs long s =
    let it = start parts bytes logs starts_32 ends zeros_32 (count_32 ∙ sym long) s.ends_are s.rise s.are in
    (it.stand, it.none, it.left_is)

-- what was made of the logs that were surveyed so
abbrev pub MadeAs : List ℕ → (ℕ → Bool) → (ℕ → Bool) → Made → Contents → Type 0
MadeAs ends pending committed m c = (logs : List Log) → AreSurveyedAs c.logs ends pending logs → IsMade pending committed (records_of logs) m

abbrev pub NoneAs : List ℕ → (ℕ → Bool) → ℕ → ℕ → Contents → Type 0
NoneAs ends pending m at c = (logs : List Log) → AreSurveyedAs c.logs ends pending logs → ⊥

pub made_told : PartsAreWhole → (a b : Option Contents) (n k : ℕ) (ends : List ℕ) (pending committed : ℕ → Bool) (heads : List HeadState) (m : Made) (IsBad BadR : ℕ → ℕ → Contents → Type 0) → length ends ≡ 32 → heads ≡ heads_of starts_32 ends
    → ReadsBy a b n k (λ (x : Made) c. MadeOf pending committed heads x c) IsBad (Ok m) → ReadsBy a b n k (λ (x : Made) c. MadeAs ends pending committed x c) BadR (Ok m)
made_told parts a b n k ends pending committed heads m IsBad BadR long is p =
    reads_to a b n k (λ (x : Made) c. MadeOf pending committed heads x c) IsBad m (λ (x : Made) c. MadeAs ends pending committed x c) BadR (Ok m) p
    (λ c told logs s.
    let at = subst (λ (hs : List HeadState). Stand c.logs hs × NoneFalls (left c.logs hs) × (left c.logs hs ≡ records_of logs)) (sym is) (begins parts c.logs ends pending logs long s) in
    subst (λ (l : List (List LogRecord)). IsMade pending committed l m) at.2 (told at.0 at.1))
    (λ i l h. absurd (no_error m i l h)) (λ h. no_failure m h)

-- and where it can't be told
pub made_bad : {Y : Type 0} → PartsAreWhole → (a b : Option Contents) (n k : ℕ) (ends : List ℕ) (pending : ℕ → Bool) (heads : List HeadState) (IsP : Made → Contents → Type 0) (IsR : Y → Contents → Type 0) (f : LogsFault) (r : Result Y LogsFault) → length ends ≡ 32
    → heads ≡ heads_of starts_32 ends → IsErrAnd r (λ (z : LogsFault). z ≡ f) → ReadsBy a b n k IsP (λ m at c. Stand c.logs heads → NoneFalls (left c.logs heads) → ⊥) (Err f)
    → ReadsBy a b n k IsR (λ m at c. NoneAs ends pending m at c) r
made_bad parts a b n k ends pending heads IsP IsR f r long is err p =
    reads_err a b n k IsP (λ m at c. Stand c.logs heads → NoneFalls (left c.logs heads) → ⊥) IsR (λ m at c. NoneAs ends pending m at c) f r err p
    (λ m at c bad logs s.
    let at_first = subst (λ (hs : List HeadState). Stand c.logs hs × NoneFalls (left c.logs hs) × (left c.logs hs ≡ records_of logs)) (sym is) (begins parts c.logs ends pending logs long s) in
    bad at_first.0 at_first.1)

-- ---- the rows in their order

no_keys : (ks : List ℕ) → length ks ≡ 0 → ks ≡ []
no_keys [] e = refl
no_keys (k ∷ ks) e = absurd (omega (arith, e))

-- two sets of no keys
pub none_in : (s t : BTreeSet ℕ) → s.keys ≡ [] → length t.keys ≡ 0 → (tran : ℕ) → set.contains nat_cmp s tran ≡ set.contains nat_cmp t tran
none_in s t none len tran = ap (λ (ks : List ℕ). list_any (is_at (nat_cmp tran)) ks) (none ∙ sym (no_keys t.keys len))

abbrev pub RowsAs : List ℕ → (ℕ → Bool) → List Row → Contents → Type 0
RowsAs ends pending x c = (logs : List Log) → AreSurveyedAs c.logs ends pending logs → x ≡ stood_for logs

-- where the transactions that count are those that have committed
rows_as : (c : Contents) (ends : List ℕ) (pending committed : ℕ → Bool) (m : Made) (list : List Row) → list ≡ listed m.rows → ((logs : List Log) → AreSurveyedAs c.logs ends pending logs → (tran : ℕ) → committed tran ≡ (pending tran && has_commit (together (records_of logs)) tran))
    → MadeAs ends pending committed m c → RowsAs ends pending list c
rows_as c ends pending committed m list is all told = λ logs s. is ∙ ap listed ((told logs s).rows_are ∙ rows_are pending committed logs s.pending_are (all logs s))

-- none of the pending ones was found
pub rows_once : (a b : Option Contents) (n k : ℕ) (ends : List ℕ) (pending committed : ℕ → Bool) (m : Made) (list : List Row) (IsBad BadR : ℕ → ℕ → Contents → Type 0) → ReadsBy a b n k (λ (x : Made) c. MadeAs ends pending committed x c) IsBad (Ok m)
    → ((tran : ℕ) → committed tran ≡ set.contains nat_cmp m.found tran) → list ≡ listed m.rows → ReadsBy a b n k (λ (x : List Row) c. RowsAs ends pending x c) BadR (Ok list)
rows_once a b n k ends pending committed m list IsBad BadR p none is =
    reads_to a b n k (λ (x : Made) c. MadeAs ends pending committed x c) IsBad m (λ (x : List Row) c. RowsAs ends pending x c) BadR (Ok list) p
    (λ c told. rows_as c ends pending committed m list is (λ logs s tran. none tran ∙ (told logs s).found_are tran) told)
    (λ i l h. absurd (no_error list i l h)) (λ h. no_failure list h)

-- those that were found are known
pub rows_again : (a b e : Option Contents) (n k j : ℕ) (ends : List ℕ) (pending committed : ℕ → Bool) (first m : Made) (list : List Row) (IsBad BadQ BadR : ℕ → ℕ → Contents → Type 0) → ReadsBy a b n k (λ (x : Made) c. MadeAs ends pending committed x c) IsBad (Ok first)
    → ReadsBy b e k j (λ (x : Made) c. MadeAs ends pending (set.contains nat_cmp first.found) x c) BadQ (Ok m) → list ≡ listed m.rows → ReadsBy a e n j (λ (x : List Row) c. RowsAs ends pending x c) BadR (Ok list)
rows_again a b e n k j ends pending committed first m list IsBad BadQ BadR p q is =
    let on : ReadsBy a e n j (λ (x : Made) c. x ≡ m → RowsAs ends pending list c) BadQ (Ok m) =
    reads_on a b e n k j (λ (x : Made) c. MadeAs ends pending committed x c) IsBad first (λ (x : Made) c. MadeAs ends pending (set.contains nat_cmp first.found) x c) (λ (x : Made) c. x ≡ m → RowsAs ends pending list c) BadQ BadQ (Ok m) p q
    (λ x c told again same. rows_as c ends pending (set.contains nat_cmp first.found) m list is (λ logs s tran. (told logs s).found_are tran) (subst (λ (y : Made). MadeAs ends pending (set.contains nat_cmp first.found) y c) same again)) (λ i l c told bad. bad) in
    reads_to a e n j (λ (x : Made) c. x ≡ m → RowsAs ends pending list c) BadQ m (λ (x : List Row) c. RowsAs ends pending x c) BadR (Ok list) on (λ c f. f refl) (λ i l h. absurd (no_error list i l h)) (λ h. no_failure list h)
