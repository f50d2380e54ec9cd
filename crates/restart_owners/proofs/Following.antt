-- What the parts of a restart's events leave of its page lock, and of the retained pages that it knows.
use Rattle.std.proofs.Common.{◌≡◌, ℕ, suc, refl, sym, ◌∙◌, ap, subst, arith, Bool, true, false, inl, inr, List, [], ◌∷◌, Option, Some, None, Result, Ok, Err}
use Rattle.std.specs.Prelude.{◌==◌, ◌&&◌, if◌then◌else◌, is_none, is_some, length, slice_get}
use Rattle.std.proofs.lemmas.Bool.{and_from, and_parts, both_ways, cases_Bool, eqb-true}
use Rattle.std.proofs.lemmas.Option.{none-some, same_Some}
use Rattle.ds_base.specs.declared.names.PageId.{PageId}
use Rattle.page_format.specs.Fields.{lrsn_of}
use Rattle.facility.specs.declared.command.Reply.{Reply}
use Rattle.facility.specs.declared.command.Reply.TheVariants as reply
use Rattle.facility.specs.CacheCommands.{reply_to_read, reply_to_write}
use Rattle.cache_structure.specs.declared.face.ReadReply.{ReadReply}
use Rattle.cache_structure.specs.declared.face.ReadReply.TheVariants as read
use Rattle.cache_structure.specs.declared.face.WriteReply.{WriteReply}
use Rattle.cache_structure.specs.declared.face.WriteReply.TheVariants as write
use Rattle.log_record.specs.declared.log.Log.{Log}
use Rattle.log_record.specs.Logs.{Parts}
use Rattle.log_reader.specs.declared.calls.LogReply.{LogReply}
use Rattle.log_trans.specs.declared.damage.Damaged.{Damaged}
use Rattle.log_trans.specs.Damage.{log_damage}
use Rattle.restart_records.specs.Given.{ReaderState, after_reply, is_whole, parts_read}
use Rattle.member_log.specs.Buffers.{after_put}
use Rattle.page_redo.specs.declared.fault.FieldFault.{FieldFault}
use Rattle.page_redo.specs.Rows.{change_fault}
use Rattle.write_order.specs.declared.rank.Rank.{Rank}
use Rattle.write_order.specs.Ranks.{rank_of}
use Rattle.restart_records.specs.declared.queue.TurnKey.{TurnKey}
use Rattle.restart_records.specs.declared.trans.Newest.{Newest}
use Rattle.restart_records.specs.Own.{own_with}
use Rattle.restart_records.specs.Queue.{put_in, ranked_key, taken_out}
use Rattle.restart_records.specs.Trans.{after_end, newest, page_of, page_undone}
use Rattle.restart_marks.specs.declared.hand.Hand.{Hand}
use Rattle.restart_marks.specs.declared.told.RestartTold.TheVariants as told
use Rattle.restart_marks.specs.Hands as hand
use Rattle.restart_marks.specs.Moves.{Local, TakeUpRetained, TakeUpUndone, PutDown, Close, Reaches, all_moved, closing_record, is_recovered, is_same, may_close, may_put_down, moved, retained_from, undone_from}
use Rattle.restart_marks.specs.Reading.{judged_after, log_from, read_on_after, reader_after, whole_after}
use Rattle.restart_marks.specs.State.{RestartState, no_hand, with_hand, with_own}
use Rattle.restart_marks.specs.Undoing.{may_undo, undone_as}
use Rattle.restart_resources.specs.Forward.{own_forward}
use Rattle.restart_resources.specs.Held.{Held, with_marks, with_page}
use Rattle.restart_resources.specs.Settled.{bring_after, brought_after, drawn_after_by, noted, read_after, read_in, ready_after, ready_after_at, settle_undo_after, tested_after, tested_in, undo_after_by}
use Rattle.restart_owners.specs.Listing.{is_among}
use Rattle.restart_owners.proofs.Keys.{among_first, among_left, among_put, among_ranked, same_page}

-- what is known of the page in hand is of that page
abbrev pub HandIs : RestartState → Type 0
HandIs s = (key : TurnKey) → s.hand.key ≡ Some key → s.hand.page ≡ Some key.page

-- and that page is one of those that it knows
abbrev pub Keyed : RestartState → Type 0
Keyed s = (key : TurnKey) → s.hand.key ≡ Some key → is_among s.pages key.page ≡ true

-- it has this page lock then; what it has listed is as it was, and it knows all pages that it knew, and none where it knew none
pub record Follows (s t : RestartState) (claim : Option PageId) : Type 0 where
  pub member : t.member ≡ s.member
  pub claimed : t.claim ≡ claim
  pub listed : t.listed ≡ s.listed
  pub is_listed : t.is_listed ≡ s.is_listed
  pub pages : (p : PageId) → HandIs s → is_among s.pages p ≡ true → is_among t.pages p ≡ true
  pub hand : HandIs s → HandIs t
  pub keyed : HandIs s → Keyed s → Keyed t
  pub none : HandIs s → Keyed s → s.pages ≡ [] → t.pages ≡ []

abbrev pub Near : RestartState → RestartState → Type 0
Near s t = Follows s t s.claim

-- nothing of that changes
pub kin : (s t : RestartState) (claim : Option PageId) → t.member ≡ s.member → t.claim ≡ claim → t.listed ≡ s.listed → t.is_listed ≡ s.is_listed → t.pages ≡ s.pages → t.hand.key ≡ s.hand.key → t.hand.page ≡ s.hand.page → Follows s t claim
kin s t claim member claimed listed is_listed pages key page = record {
  member = member;
  claimed = claimed;
  listed = listed;
  is_listed = is_listed;
  pages = λ p _ e. ap (λ (z : List TurnKey). is_among z p) pages ∙ e;
  hand = λ is k e. page ∙ is k (sym key ∙ e);
  keyed = λ _ has k e. ap (λ (z : List TurnKey). is_among z k.page) pages ∙ has k (sym key ∙ e);
  none = λ _ _ e. pages ∙ e;
}

pub near : (s : RestartState) → Near s s
near s = kin s s s.claim refl refl refl refl refl refl refl

pub follows_on : (s t u : RestartState) (claim : Option PageId) → Follows s t claim → Follows t u t.claim → Follows s u claim
follows_on s t u claim a b = record {
  member = b.member ∙ a.member;
  claimed = b.claimed ∙ a.claimed;
  listed = b.listed ∙ a.listed;
  is_listed = b.is_listed ∙ a.is_listed;
  pages = λ p is e. b.pages p (a.hand is) (a.pages p is e);
  hand = λ is. b.hand (a.hand is);
  keyed = λ is has. b.keyed (a.hand is) (a.keyed is has);
  none = λ is has e. b.none (a.hand is) (a.keyed is has) (a.none is has e);
}

either : (b : Bool) (s t u : RestartState) → Near s t → Near s u → Near s (if b then t else u)
either true s t u x y = x
either false s t u x y = y

either_held : (b : Bool) (s : RestartState) (h k : Held) → Near s h.marks → Near s k.marks → Near s (if b then h else k).marks
either_held true s h k x y = x
either_held false s h k x y = y

-- ---- the page in hand
moved_near : (s : RestartState) (key : TurnKey) (page : PageId) (rank : Rank) → s.hand.key ≡ Some key → s.hand.page ≡ Some page → (key.turn == 0) ≡ true → Near s (hand.moved_to s key (ranked_key page rank))
moved_near s key page rank has placed unranked = record {
  member = refl;
  claimed = refl;
  listed = refl;
  is_listed = refl;
  pages = λ p is e. elim (cases_Bool (is_same key.page p)) [
    | inl same ↦ (let own : key.page ≡ page = same_Some key.page page (sym (is key has) ∙ placed) in
        subst (λ (z : PageId). is_among (taken_out (put_in s.pages (ranked_key page rank)) key) z ≡ true) (sym own ∙ same_page key.page p same) (among_ranked s.pages key page rank unranked))
    | inr other ↦ among_left (put_in s.pages (ranked_key page rank)) key p other (among_put s.pages (ranked_key page rank) p e)
  ];
  hand = λ is k e. placed ∙ ap (λ (z : TurnKey). Some z.page) (same_Some (ranked_key page rank) k e);
  keyed = λ _ _ k e. subst (λ (z : TurnKey). is_among (taken_out (put_in s.pages (ranked_key page rank)) key) z.page ≡ true) (same_Some (ranked_key page rank) k e) (among_ranked s.pages key page rank unranked);
  none = λ _ known e. absurd (both_ways false refl (ap (λ (z : List TurnKey). is_among z key.page) (sym e) ∙ known key has));
}

ranked_near : (s : RestartState) (key : TurnKey) (page : PageId) (rank : Rank) → s.hand.key ≡ Some key → s.hand.page ≡ Some page → Near s (hand.ranked_after s key (ranked_key page rank))
ranked_near s key page rank has placed = by (key.turn == 0) refl
  where
    by : (b : Bool) → (key.turn == 0) ≡ b → Near s (if b then hand.moved_to s key (ranked_key page rank) else s)
    by true e = moved_near s key page rank has placed e
    by false e = near s

noted_near : (s : RestartState) (raised : Bool) (number : ℕ) → Near s (hand.noted s raised number)
noted_near s true number = kin s (hand.noted s true number) s.claim refl refl refl refl refl refl refl
noted_near s false number = kin s (hand.noted s false number) s.claim refl refl refl refl refl refl refl

noted_with_near : (s : RestartState) (o : Option TurnKey) (q : Option PageId) (raised : Bool) (number : ℕ) (rank : Rank) → s.hand.key ≡ o → s.hand.page ≡ q → Near s (hand.noted_with s o q raised number rank)
noted_with_near s None q raised number rank has placed = near s
noted_with_near s (Some key) None raised number rank has placed = near s
noted_with_near s (Some key) (Some page) raised number rank has placed =
    follows_on s (hand.ranked_after s key (ranked_key page rank)) (hand.noted (hand.ranked_after s key (ranked_key page rank)) raised number) s.claim (ranked_near s key page rank has placed)
    (noted_near (hand.ranked_after s key (ranked_key page rank)) raised number)

met_near : (s t : RestartState) (number : ℕ) → Near s t → Near s (hand.met t number)
met_near s t number a = follows_on s t (hand.met t number) s.claim a (kin t (hand.met t number) t.claim refl refl refl refl refl refl refl)

readied : (s : RestartState) (raised : Bool) (number : ℕ) (rank : Rank) → Near s (hand.ready_after s raised number rank)
readied s raised number rank = met_near s (hand.noted_with s s.hand.key s.hand.page raised number rank) number (noted_with_near s s.hand.key s.hand.page raised number rank refl refl)

brought : (h : Held) (page : PageId) (outcome : Result Bool FieldFault) → Near h.marks (brought_after h page outcome).marks
brought h page (Ok raised) = readied h.marks raised (lrsn_of h.page) (rank_of page h.page)
brought h page (Err fault) = near h.marks

bring : (h : Held) (page : PageId) → Near h.marks (bring_after h page).marks
bring h page = either_held (is_none h.marks.hand.key) h.marks (noted h page false) (brought_after (with_page h (own_forward page h.page h.marks).page) page (own_forward page h.page h.marks).outcome)
    (readied h.marks false (lrsn_of h.page) (rank_of page h.page)) (brought (with_page h (own_forward page h.page h.marks).page) page (own_forward page h.page h.marks).outcome)

ready_at : (h : Held) (o : Option PageId) → Near h.marks (ready_after_at h o).marks
ready_at h None = near h.marks
ready_at h (Some page) = bring h page

-- ---- it is read, tested and written
registered : (h : Held) (a : Hand) → a.key ≡ h.marks.hand.key → a.page ≡ h.marks.hand.page → Near h.marks (with_marks h (with_hand h.marks a)).marks
registered h a key page = kin h.marks (with_hand h.marks a) h.marks.claim refl refl refl refl refl key page

reads_as : (h : Held) (x : ReadReply) → Near h.marks (read_after h (reply_to_read x)).marks
reads_as h read.Found =
    let in_hand = read_in h reply.Found in
    follows_on h.marks in_hand.marks (ready_after_at in_hand in_hand.marks.hand.page).marks h.marks.claim (registered h (hand.read_after h.marks.hand reply.Found) refl refl) (ready_at in_hand in_hand.marks.hand.page)
reads_as h read.NoData = by h.marks.hand.changed
  where
    in_hand : Held
    in_hand = read_in h reply.NoData

    none : Near h.marks in_hand.marks
    none = registered h (hand.read_after h.marks.hand reply.NoData) refl refl

    by : (b : Bool) → Near h.marks (ready_after in_hand (if b then told.Ready else told.ToFill)).marks
    by true = follows_on h.marks in_hand.marks (ready_after_at in_hand in_hand.marks.hand.page).marks h.marks.claim none (ready_at in_hand in_hand.marks.hand.page)
    by false = none
reads_as h read.CacheFull = registered h (hand.read_after h.marks.hand reply.CacheFull) refl refl
reads_as h read.Lost = registered h (hand.read_after h.marks.hand reply.Lost) refl refl

pub reads : (h : Held) (answer : Reply) (x : ReadReply) → answer ≡ reply_to_read x → Near h.marks (read_after h answer).marks
reads h answer x e = subst (λ z. Near h.marks (read_after h z).marks) (sym e) (reads_as h x)

tests_as : (h : Held) (b : Bool) → Near h.marks (tested_after h (if b then reply.Valid else reply.Invalid)).marks
tests_as h true =
    let in_hand = tested_in h reply.Valid in
    follows_on h.marks in_hand.marks (ready_after_at in_hand in_hand.marks.hand.page).marks h.marks.claim (registered h (hand.tested_after h.marks.hand reply.Valid) refl refl) (ready_at in_hand in_hand.marks.hand.page)
tests_as h false = registered h (hand.tested_after h.marks.hand reply.Invalid) refl refl

pub tests : (h : Held) (answer : Reply) (b : Bool) → answer ≡ (if b then reply.Valid else reply.Invalid) → Near h.marks (tested_after h answer).marks
tests h answer b e = subst (λ z. Near h.marks (tested_after h z).marks) (sym e) (tests_as h b)

writes_as : (h : Held) (x : WriteReply) → Near h.marks (with_hand h.marks (hand.written_after h.marks.hand (reply_to_write x)))
writes_as h write.Written = registered h (hand.written_after h.marks.hand reply.Written) refl refl
writes_as h write.CacheFull = registered h (hand.written_after h.marks.hand reply.CacheFull) refl refl
writes_as h write.Lost = registered h (hand.written_after h.marks.hand reply.Lost) refl refl

pub writes : (h : Held) (answer : Reply) (x : WriteReply) → answer ≡ reply_to_write x → Near h.marks (with_hand h.marks (hand.written_after h.marks.hand answer))
writes h answer x e = subst (λ z. Near h.marks (with_hand h.marks (hand.written_after h.marks.hand z))) (sym e) (writes_as h x)

-- ---- changes that are taken back
undone : (s : RestartState) (id lrsn : ℕ) (o : Option Newest) → Near s (undone_as s id lrsn o)
undone s id lrsn None = near s
undone s id lrsn (Some it) = kin s (undone_as s id lrsn (Some it)) s.claim refl refl refl refl refl refl refl

undone_held : (h : Held) (id lrsn : ℕ) (it : Newest) (o : Option ℕ) → Near h.marks (undo_after_by h id lrsn it o).marks
undone_held h id lrsn it None = either (may_undo h.marks id lrsn) h.marks (undone_as h.marks id lrsn (newest h.marks.trans id)) h.marks (undone h.marks id lrsn (newest h.marks.trans id)) (near h.marks)
undone_held h id lrsn it (Some at) = near h.marks

drawn_by : (h : Held) (id lrsn : ℕ) (o : Option Newest) → Near h.marks (drawn_after_by h id lrsn o).marks
drawn_by h id lrsn None = near h.marks
drawn_by h id lrsn (Some it) = undone_held h id lrsn it (change_fault (page_of it.change) it.change h.page)

pub draws : (h : Held) (id lrsn : ℕ) → Near h.marks (settle_undo_after h id (reply.Drawn lrsn)).marks
draws h id lrsn = either_held (may_undo h.marks id lrsn) h.marks (drawn_after_by h id lrsn (newest h.marks.trans id)) h (drawn_by h id lrsn (newest h.marks.trans id)) (near h.marks)

pub stales : (h : Held) (id index : ℕ) → Near h.marks (settle_undo_after h id (reply.Stale index)).marks
stales h id index = registered h _ refl refl

-- ---- the own log is read
judged : (s : RestartState) (log : Log) (d : Option Damaged) → Near s (judged_after s log d)
judged s log None = kin s (judged_after s log None) s.claim refl refl refl refl refl refl refl
judged s log (Some d) = near s

whole : (s : RestartState) (m : ℕ) (p : Result Parts ℕ) → Near s (whole_after s m p)
whole s m (Err at) = near s
whole s m (Ok p) = judged s (log_from m p) (log_damage (log_from m p ∷ []))

read_by : (s : RestartState) (r : ReaderState) (b : Bool) → Near s (if b then whole_after s r.member (parts_read r) else with_own s (own_with s.own (Some r)))
read_by s r true = whole s r.member (parts_read r)
read_by s r false = kin s (with_own s (own_with s.own (Some r))) s.claim refl refl refl refl refl refl refl

reader : (s : RestartState) (o : Option ReaderState) (x : LogReply) → Near s (reader_after s o x)
reader s None x = near s
reader s (Some r) x =
    let taken = with_own s (own_with s.own None) in
    follows_on s taken (reader_after s (Some r) x) s.claim (kin s taken s.claim refl refl refl refl refl refl refl) (read_by taken (after_reply r x) (is_whole (after_reply r x)))

pub reads_on : (s : RestartState) (x : LogReply) → Near s (read_on_after s x)
reads_on s x = reader s s.own.reader x

-- ---- local moves
first_among : (keys : List TurnKey) (key : TurnKey) → slice_get keys 0 ≡ Some key → is_among keys key.page ≡ true
first_among [] key e = absurd (none-some key e)
first_among (x ∷ keys) key e = subst (λ (z : TurnKey). is_among (x ∷ keys) z.page ≡ true) (same_Some x key e) (among_first x keys)

taken_up : (s : RestartState) (o : Option TurnKey) → slice_get s.pages 0 ≡ o → Near s (retained_from s o)
taken_up s None first = near s
taken_up s (Some key) first = record {
  member = refl;
  claimed = refl;
  listed = refl;
  is_listed = refl;
  pages = λ p _ e. e;
  hand = λ _ k e. ap (λ (z : TurnKey). Some z.page) (same_Some key k e);
  keyed = λ _ _ k e. subst (λ (z : TurnKey). is_among s.pages z.page ≡ true) (same_Some key k e) (first_among s.pages key first);
  none = λ _ _ e. e;
}

undone_up : (s : RestartState) (o : Option PageId) → Near s (undone_from s o)
undone_up s None = near s
undone_up s (Some p) = record { member = refl; claimed = refl; listed = refl; is_listed = refl; pages = λ p _ e. e; hand = λ _ k e. absurd (none-some k e); keyed = λ _ _ k e. absurd (none-some k e); none = λ _ _ e. e }

put_aside : (s : RestartState) → Near s (with_hand s no_hand)
put_aside s = record { member = refl; claimed = refl; listed = refl; is_listed = refl; pages = λ p _ e. e; hand = λ _ k e. absurd (none-some k e); keyed = λ _ _ k e. absurd (none-some k e); none = λ _ _ e. e }

one_near : (x : Local) (s : RestartState) → Near s (moved x s)
one_near TakeUpRetained s = either (is_none s.hand.page) s (retained_from s (slice_get s.pages 0)) s (taken_up s (slice_get s.pages 0) refl) (near s)
one_near (TakeUpUndone id) s = either (is_none s.hand.page && is_recovered s) s (undone_from s (page_undone s.trans id)) s (undone_up s (page_undone s.trans id)) (near s)
one_near PutDown s = either (may_put_down s.hand s.claim) s (with_hand s no_hand) s (put_aside s) (near s)
one_near (Close id) s = by (may_close s id)
  where
    by : (b : Bool) → Near s (if b then record s { log = after_put s.log (closing_record s id); trans = after_end s.trans id } else s)
    by true = kin s _ s.claim refl refl refl refl refl refl refl
    by false = near s

all_near : (xs : List Local) (s : RestartState) → Near s (all_moved xs s)
all_near [] s = near s
all_near (x ∷ xs) s = follows_on s (moved x s) (all_moved xs (moved x s)) s.claim (one_near x s) (all_near xs (moved x s))

pub reaches : (s t : RestartState) → Reaches s t → Near s t
unfolding Reaches
reaches s t r = subst (λ (z : RestartState). Near s z) (sym r.1) (all_near r.0 s)

-- ---- what it knows of the page in hand goes on, and that all retained pages are recovered
pub no_keys : (keys : List TurnKey) → (length keys == 0) ≡ true → keys ≡ []
no_keys [] e = refl
no_keys (x ∷ keys) e = absurd (let z : suc (length keys) ≡ 0 = eqb-true (suc (length keys)) 0 e in omega (arith, z))

pub record KnowsOn (s t : RestartState) : Type 0 where
  pub hand : HandIs s → HandIs t
  pub keyed : HandIs s → Keyed s → Keyed t
  pub recovered : HandIs s → Keyed s → is_recovered s ≡ true → is_recovered t ≡ true

pub knows_on : (s t : RestartState) (claim : Option PageId) → Follows s t claim → KnowsOn s t
knows_on s t claim f = record {
  hand = f.hand;
  keyed = f.keyed;
  recovered = λ is has e. (let both = and_parts s.is_listed (length s.pages == 0) e in
      and_from t.is_listed (length t.pages == 0) (f.is_listed ∙ both.0) (ap (λ (z : List TurnKey). length z == 0) (f.none is has (no_keys s.pages both.1))));
}

pub knows_both : (s t u : RestartState) → KnowsOn s t → KnowsOn t u → KnowsOn s u
knows_both s t u a b = record {
  hand = λ is. b.hand (a.hand is);
  keyed = λ is has. b.keyed (a.hand is) (a.keyed is has);
  recovered = λ is has e. b.recovered (a.hand is) (a.keyed is has) (a.recovered is has e);
}

-- while a retained page is in hand, not all are recovered
pub keyed_unrecovered : (s : RestartState) → Keyed s → is_some s.hand.key ≡ true → is_recovered s ≡ false
keyed_unrecovered s has some = elim (cases_Bool (is_recovered s)) [
  | inl all ↦ absurd (none (no_keys s.pages (and_parts s.is_listed (length s.pages == 0) all).1) s.hand.key refl some)
  | inr e ↦ e
]
  where
    none : s.pages ≡ [] → (o : Option TurnKey) → s.hand.key ≡ o → is_some o ≡ true → ⊥
    none e None is there = both_ways false refl there
    none e (Some key) is there = both_ways false refl (ap (λ (z : List TurnKey). is_among z key.page) (sym e) ∙ has key is)
