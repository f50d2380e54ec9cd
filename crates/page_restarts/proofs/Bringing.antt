-- The page in hand is brought forward in the event in which its bit is seen.
use Rattle.std.proofs.Common.{◌≡◌, ◌≢◌, ℕ, refl, sym, ap, subst, ◌∙◌, Bool, true, false, List, [], ◌∷◌, Option, Some, None, Result, Ok, Err}
use Rattle.std.specs.Prelude.{◌==◌, ◌&&◌, ◌||◌, if◌then◌else◌, is_none, is_some, nat_lt}
use Rattle.std.specs.Option.{option_map_or}
use Rattle.std.proofs.lemmas.Bool.{and_from, cond-false, cond-true, eq-eqb}
use Rattle.ds_base.specs.declared.names.PageId.{PageId}
use Rattle.ds_model.specs.declared.log.LogRecord.{LogRecord}
use Rattle.page_format.specs.Fields.{lrsn_of}
use Rattle.page_format.specs.Header.{header_of}
use Rattle.page_format.specs.declared.header.Header.{Header}
use Rattle.page_format.specs.declared.header.NotAPage.{NotAPage}
use Rattle.heap_space.specs.Written.{written}
use Rattle.page_redo.specs.declared.fault.FieldFault.{FieldFault}
use Rattle.page_redo.specs.Forward.{after_one, body_fault, forward_from, go_on, has_patch, headed, patches_of, unless}
use Rattle.places_redo.specs.Picked.{brought_at, picked}
use Rattle.write_order.specs.Ranks.{rank_of}
use Rattle.write_order.specs.declared.rank.Rank.{Rank}
use Rattle.cache_structure.specs.declared.face.ReadReply.{ReadReply}
use Rattle.cache_structure.specs.declared.face.ReadReply.TheVariants as read
use Rattle.cache_structure.specs.Directory.{Directory, after_read, bit, bytes_of, is_full_for, registers, with_entry}
use Rattle.cache_structure.specs.Replies.{read_reply}
use Rattle.cache_structure.specs.Sound.{IsSound}
use Rattle.facility.specs.declared.command.Reply.{Reply}
use Rattle.facility.specs.declared.command.Reply.TheVariants as reply
use Rattle.facility.specs.CacheCommands.{reply_to_read}
use Rattle.facility.specs.States.{Held as Facility}
use Rattle.restart_records.specs.declared.queue.TurnKey.{TurnKey}
use Rattle.restart_records.specs.Queue.{ranked_key}
use Rattle.restart_marks.specs.Hands.{brought_after as hand_brought, met, moved_to, noted_with, ranked_after, read_told}
use Rattle.restart_marks.specs.State.{RestartState, with_hand}
use Rattle.restart_marks.specs.declared.told.RestartTold.TheVariants as told
use Rattle.restart_resources.specs.Forward.{own_forward}
use Rattle.restart_resources.specs.Held.{Held, with_marks, with_page}
use Rattle.restart_resources.specs.Settled.{bring_after, brought_after, noted, read_after, read_in, ready_after, ready_after_at, tested_after, tested_in}
use Rattle.page_protocol.specs.Moves.{World}
use Rattle.page_protocol.specs.Always.{AlwaysGood}
use Rattle.page_world.specs.Holdings.{Copy, Holdings}
use Rattle.page_world.specs.Numbers.{page_number, set_of}
use Rattle.page_restarts.specs.Stands.{Begins, GoesAlong, SameHand, behind}
use Rattle.page_restarts.specs.Hands.{ForwardGoes, Raises, ReadGoes, TestGoes}
use Rattle.page_restarts.specs.Bringing.{BringGoes, Forwards, ReadsOn, TestsOn}
use Rattle.page_restarts.proofs.Owning.{same_of}
use Rattle.page_restarts.proofs.Standing.{along_on, quiet_by}

-- ---- records that aren't applied leave the page
or_left : (a b : Bool) → a ≡ true → (a || b) ≡ true
or_left true b e = refl
or_left false b e = absurd (cc e)

or_right : (a : Bool) → (a || true) ≡ true
or_right true = refl
or_right false = refl

applied_stays : (id : PageId) (page : List ℕ) (rs : List LogRecord) (x : Bool) → x ≡ true → (forward_from id page x rs).outcome ≡ Ok false → ⊥
applied_stays id page [] true e f = cc f
applied_stays id page [] false e f = cc e
applied_stays id page (r ∷ rs) x e f = by (λ q y. applied_stays id q rs y) (after_one id page r).page (after_one id page r).outcome f
  where
    by : ((q : List ℕ) (y : Bool) → y ≡ true → (forward_from id q y rs).outcome ≡ Ok false → ⊥) → (q : List ℕ) (o : Result Bool FieldFault) → (go_on (λ p y. forward_from id p y rs) x q o).outcome ≡ Ok false → ⊥
    by rest q (Ok one) g = rest q (x || one) (or_left x one e) g
    by rest q (Err fault) g = cc g

forward_page : (id : PageId) (page : List ℕ) (rs : List LogRecord) (x : Bool) → (forward_from id page x rs).outcome ≡ Ok false → (forward_from id page x rs).page ≡ page
forward_page id page [] x e = refl
forward_page id page (r ∷ rs) x e = by (nat_lt (lrsn_of page) r.lrsn && has_patch id (patches_of r.body)) (forward_page id page rs (x || false)) e
  where
    faulty : (o : Option ℕ) → (let f = unless o id page r in (go_on (λ p y. forward_from id p y rs) x f.page f.outcome).outcome ≡ Ok false → (go_on (λ p y. forward_from id p y rs) x f.page f.outcome).page ≡ page)
    faulty (Some at) g = absurd (cc g)
    faulty None g = absurd (applied_stays id (written id r.lrsn (patches_of r.body) page) rs (x || true) (or_right x) g)

    by : (b : Bool) → ((forward_from id page (x || false) rs).outcome ≡ Ok false → (forward_from id page (x || false) rs).page ≡ page)
        → (let f = if b then unless (body_fault id page r.body) id page r else record { page = page; outcome = Ok false } in (go_on (λ p y. forward_from id p y rs) x f.page f.outcome).outcome ≡ Ok false → (go_on (λ p y. forward_from id p y rs) x f.page f.outcome).page ≡ page)
    by true rest g = faulty (body_fault id page r.body) g
    by false rest g = rest g

headed_page : (id : PageId) (page : List ℕ) (rs : List LogRecord) (o : Result Header NotAPage) → (headed id page rs o).outcome ≡ Ok false → (headed id page rs o).page ≡ page
headed_page id page rs (Err e) f = absurd (cc f)
headed_page id page rs (Ok h) f = forward_page id page rs false f

brought_page : (id : PageId) (page : List ℕ) (records : List LogRecord) (places : List ℕ) → (brought_at id page records places).outcome ≡ Ok false → (brought_at id page records places).page ≡ page
unfolding brought_at
brought_page id page records places e = headed_page id page (picked records places) (header_of page id) e

-- ---- an event that leaves the page in hand
same_goes : (w : World) (g : Holdings) (content : ℕ → ℕ → List ℕ) (forced : ℕ → ℕ) (h t : Held) → Begins w g content forced h → SameHand h t → t.marks.own ≡ h.marks.own → GoesAlong w content forced (behind g g.facility h.marks.member t) h t
same_goes w g content forced h t b s own =
    let r = b.restarts in
    quiet_by w g content forced g.facility h t 0 b.tied b.numbered r
    (record {
      member = s.member;
      log = s.log;
      own = own;
      full = λ e. ap (λ (c : Copy). c.filled) s.copy ∙ r.full (sym (ap (λ (c : Copy). c.marked) s.copy) ∙ e);
      shows = λ e. ap lrsn_of (ap (λ (c : Copy). c.bytes) s.copy) ∙ r.shows (sym (ap (λ (c : Copy). c.marked) s.copy) ∙ e) ∙ sym s.last;
      here = same_of h t 0 s ∙ sym (r.copies 0);
      there = λ j ne. same_of h t j s;
    }) refl

met_same : (h : Held) (x : RestartState) (number : ℕ) → SameHand h (with_marks h x) → SameHand h (with_marks h (met x number))
met_same h x number s = record { member = s.member; log = s.log; page = s.page; copy = s.copy; last = s.last }

noted_same : (h : Held) (key ranked : TurnKey) (number : ℕ) → SameHand h (with_marks h (with_hand (ranked_after h.marks key ranked) (hand_brought (ranked_after h.marks key ranked).hand false number)))
noted_same h key ranked number = by (key.turn == 0)
  where
    by : (x : Bool) → (let u = if x then moved_to h.marks key ranked else h.marks in SameHand h (with_marks h (with_hand u (hand_brought u.hand false number))))
    by true = record { member = refl; log = refl; page = refl; copy = refl; last = refl }
    by false = record { member = refl; log = refl; page = refl; copy = refl; last = refl }

noted_own : (h : Held) (key ranked : TurnKey) (number : ℕ) → (with_hand (ranked_after h.marks key ranked) (hand_brought (ranked_after h.marks key ranked).hand false number)).own ≡ h.marks.own
noted_own h key ranked number = by (key.turn == 0)
  where
    by : (x : Bool) → (if x then moved_to h.marks key ranked else h.marks).own ≡ h.marks.own
    by true = refl
    by false = refl

itself : (h : Held) → SameHand h h
itself h = record { member = refl; log = refl; page = refl; copy = refl; last = refl }

-- ---- it is brought forward, as far as its own log raises it
pub bring_goes : ForwardGoes → BringGoes
bring_goes law w g content forced h p b has filled valid forward = by h.marks.hand.key refl
  where
    page : List ℕ
    page = (own_forward p h.page h.marks).page

    number : ℕ
    number = lrsn_of h.page

    rank : Rank
    rank = rank_of p h.page

    unraised : (key : TurnKey) → h.marks.hand.key ≡ Some key → (own_forward p h.page h.marks).outcome ≡ Ok false → GoesAlong w content forced (behind g g.facility h.marks.member (bring_after h p)) h (bring_after h p)
    unraised key e outcome =
        let same : page ≡ h.page = brought_page p h.page h.marks.own.records _ outcome in
        let is : bring_after h p ≡ noted h p false =
        cond-false (is_none h.marks.hand.key) (noted h p false) (brought_after (with_page h page) p (own_forward p h.page h.marks).outcome) (ap is_none e)
        ∙ ap (brought_after (with_page h page) p) outcome ∙ ap (λ z. noted (with_page h z) p false) same in
        let marks : noted_with h.marks h.marks.hand.key h.marks.hand.page false number rank ≡ noted_with h.marks (Some key) (Some p) false number rank =
        ap (λ o. noted_with h.marks o h.marks.hand.page false number rank) e ∙ ap (λ o. noted_with h.marks (Some key) o false number rank) has in
        subst (λ (z : Held). GoesAlong w content forced (behind g g.facility h.marks.member z) h z) (sym is)
        (same_goes w g content forced h (noted h p false) b
        (subst (λ (z : RestartState). SameHand h (with_marks h (met z number))) (sym marks) (met_same h _ number (noted_same h key (ranked_key p rank) number)))
        (ap (λ (z : RestartState). z.own) marks ∙ noted_own h key (ranked_key p rank) number))

    at : (key : TurnKey) → h.marks.hand.key ≡ Some key → (raised : Bool) → (own_forward p h.page h.marks).outcome ≡ Ok raised → (raised ≡ true → Raises w g content h p) → GoesAlong w content forced (behind g g.facility h.marks.member (bring_after h p)) h (bring_after h p)
    at key e true outcome raises = law w g content forced h p key b has filled e valid outcome (raises refl)
    at key e false outcome raises = unraised key e outcome

    by : (o : Option TurnKey) → h.marks.hand.key ≡ o → GoesAlong w content forced (behind g g.facility h.marks.member (bring_after h p)) h (bring_after h p)
    by None e =
        let is : bring_after h p ≡ with_marks h (met h.marks number) =
        cond-true (is_none h.marks.hand.key) (noted h p false) (brought_after (with_page h page) p (own_forward p h.page h.marks).outcome) (ap is_none e)
        ∙ ap (λ o. with_marks h (met (noted_with h.marks o h.marks.hand.page false number rank) number)) e in
        subst (λ (z : Held). GoesAlong w content forced (behind g g.facility h.marks.member z) h z) (sym is) (same_goes w g content forced h (with_marks h (met h.marks number)) b (met_same h h.marks number (itself h)) refl)
    by (Some key) e = let f = forward key e in at key e f.0 f.1 f.2

-- ---- behind a read
full_bit : (m : ℕ) (p : PageId) (d : Directory) (l : Bool) (o : Option Directory) → l ≡ false → is_none o ≡ false → bit (if l then d else option_map_or (λ made. registers made m p 0) o d) m 0 ≡ true
full_bit m p d true o e f = absurd (cc e)
full_bit m p d false None e f = absurd (cc f)
full_bit m p d false (Some made) e f = ap is_some (cond-true ((m == m) && (0 == 0)) (Some p) (made.registered m 0) (and_from (m == m) (0 == 0) (eq-eqb m m refl) refl))

is_there : (l full some : Bool) (x : ReadReply) → (if l then read.Lost else if full then read.CacheFull else if some then read.Found else read.NoData) ≡ x → x ≢ read.Lost → x ≢ read.CacheFull → (l ≡ false) × (full ≡ false)
is_there true full some x e lost room = absurd (lost (sym e))
is_there false true some x e lost room = absurd (room (sym e))
is_there false false some x e lost room = (refl, refl)

read_bit : (f v : Facility) (m : ℕ) (p : PageId) (x : ReadReply) → v ≡ record f { directory = after_read f.directory m p 0 } → read_reply f.directory p ≡ x → x ≢ read.Lost → x ≢ read.CacheFull → bit v.directory m 0 ≡ true
read_bit f v m p x is e lost full =
    let d = f.directory in
    let there = is_there d.lost (is_full_for d p) (is_some (bytes_of d p)) x e lost full in
    subst (λ (z : Facility). bit z.directory m 0 ≡ true) (sym is) (full_bit m p d d.lost (with_entry d p) there.0 there.1)

-- the page that is brought forward, from the world behind the read
module _ (good : AlwaysGood) (bring : BringGoes) (w : World) (g : Holdings) (content : ℕ → ℕ → List ℕ) (forced : ℕ → ℕ) (h t : Held) (p : PageId) (v : Facility) (b : Begins w g content forced h)
    (a : GoesAlong w content forced (behind g v h.marks.member t) h t) (sound : IsSound v.directory) (has : t.marks.hand.page ≡ Some p) where
  then_brought : t.marks.hand.filled ≡ true → bit v.directory t.marks.member 0 ≡ true → Forwards w g content t p → GoesAlong w content forced (behind g v h.marks.member (ready_after_at t t.marks.hand.page)) h (ready_after_at t t.marks.hand.page)
  then_brought filled valid forward =
      subst (λ (o : Option PageId). GoesAlong w content forced (behind g v h.marks.member (ready_after_at t o)) h (ready_after_at t o)) (sym has)
      (along_on w g content forced v h t (bring_after t p) a
      (bring a.goes.moved.world (behind g v h.marks.member t) content forced t p
      (record { good = good set_of a.goes.moves w a.goes.moved.world b.good a.goes.moved.run; tied = a.goes.moved.tied; numbered = a.goes.numbered; sound = sound; restarts = a.goes.stands })
      has filled valid (λ key e. (let f = forward key e in (f.0, f.1, λ x. raised (f.2 x))))))
    where
      raised : Raises w g content t p → Raises a.goes.moved.world (behind g v h.marks.member t) content t p
      raised r = record { own = r.own; last = r.last ∙ ap (content (page_number p)) (sym (a.last (page_number p))) }

pub reads_on : AlwaysGood → ((d : Directory) (m : ℕ) (id : PageId) (index : ℕ) → IsSound d → IsSound (after_read d m id index)) → ReadGoes → BringGoes → ReadsOn
reads_on good keeps law bring w g content forced h after p page bytes answer v b has lent r marks left forward =
    subst (λ (z : Held). GoesAlong w content forced (behind g v h.marks.member (read_after z answer)) h (read_after z answer)) (sym is)
    (by (read_reply g.facility.directory p) refl)
  where
    now : Held
    now = record after { marks = h.marks }

    is : after ≡ now
    is = λ i. record after { marks = marks i }

    m : ℕ
    m = h.marks.member

    a : (x : Reply) → answer ≡ x → GoesAlong w content forced (behind g v h.marks.member (read_in now x)) h (read_in now x)
    a x e = subst (λ z. GoesAlong w content forced (behind g v h.marks.member (read_in now z)) h (read_in now z)) e (law w g content forced h now p page bytes answer v b has lent r refl left)

    sound : IsSound v.directory
    sound = subst (λ (z : Facility). IsSound z.directory) (sym r.1) (keeps g.facility.directory h.marks.member p 0 b.sound)

    fore : (x : Reply) → answer ≡ x → Forwards w g content (read_in now x) p
    fore x e = subst (λ z. Forwards w g content (read_in now z) p) e (subst (λ (z : Held). Forwards w g content (read_in z answer) p) is forward)

    so : (x : Reply) → answer ≡ x → GoesAlong w content forced (behind g v h.marks.member (read_after now x)) h (read_after now x) → GoesAlong w content forced (behind g v h.marks.member (read_after now answer)) h (read_after now answer)
    so x e y = subst (λ z. GoesAlong w content forced (behind g v h.marks.member (read_after now z)) h (read_after now z)) (sym e) y

    empty : (changed : Bool) → h.marks.hand.changed ≡ changed → answer ≡ reply.NoData → read_reply g.facility.directory p ≡ read.NoData → GoesAlong w content forced (behind g v h.marks.member (read_after now reply.NoData)) h (read_after now reply.NoData)
    empty true e n x =
        let said : read_told h.marks.hand reply.NoData ≡ told.Ready = cond-true h.marks.hand.changed told.Ready told.ToFill e in
        subst (λ z. GoesAlong w content forced (behind g v h.marks.member (ready_after (read_in now reply.NoData) z)) h (ready_after (read_in now reply.NoData) z)) (sym said)
        (then_brought good bring w g content forced h (read_in now reply.NoData) p v b (a reply.NoData n) sound has e
        (read_bit g.facility v h.marks.member p read.NoData r.1 x (λ z. cc z) (λ z. cc z)) (fore reply.NoData n))
    empty false e n x =
        let said : read_told h.marks.hand reply.NoData ≡ told.ToFill = cond-false h.marks.hand.changed told.Ready told.ToFill e in
        subst (λ z. GoesAlong w content forced (behind g v h.marks.member (ready_after (read_in now reply.NoData) z)) h (ready_after (read_in now reply.NoData) z)) (sym said) (a reply.NoData n)

    by : (x : ReadReply) → read_reply g.facility.directory p ≡ x → GoesAlong w content forced (behind g v h.marks.member (read_after now answer)) h (read_after now answer)
    by read.Found e =
        let n : answer ≡ reply.Found = r.0 ∙ ap reply_to_read e in
        so reply.Found n (then_brought good bring w g content forced h (read_in now reply.Found) p v b (a reply.Found n) sound has refl (read_bit g.facility v h.marks.member p read.Found r.1 e (λ z. cc z) (λ z. cc z)) (fore reply.Found n))
    by read.NoData e = let n : answer ≡ reply.NoData = r.0 ∙ ap reply_to_read e in so reply.NoData n (empty h.marks.hand.changed refl n e)
    by read.CacheFull e = let n : answer ≡ reply.CacheFull = r.0 ∙ ap reply_to_read e in so reply.CacheFull n (a reply.CacheFull n)
    by read.Lost e = let n : answer ≡ reply.Lost = r.0 ∙ ap reply_to_read e in so reply.Lost n (a reply.Lost n)

-- ---- behind a test
pub tests_on : AlwaysGood → TestGoes → BringGoes → TestsOn
tests_on good law bring w g content forced h p answer v b has filled r forward = by (bit g.facility.directory h.marks.member 0) refl
  where
    a : (x : Reply) → answer ≡ x → GoesAlong w content forced (behind g v h.marks.member (tested_in h x)) h (tested_in h x)
    a x e = subst (λ z. GoesAlong w content forced (behind g v h.marks.member (tested_in h z)) h (tested_in h z)) e (law w g content forced h p answer v b has filled r)

    so : (x : Reply) → answer ≡ x → GoesAlong w content forced (behind g v h.marks.member (tested_after h x)) h (tested_after h x) → GoesAlong w content forced (behind g v h.marks.member (tested_after h answer)) h (tested_after h answer)
    so x e y = subst (λ z. GoesAlong w content forced (behind g v h.marks.member (tested_after h z)) h (tested_after h z)) (sym e) y

    by : (x : Bool) → bit g.facility.directory h.marks.member 0 ≡ x → GoesAlong w content forced (behind g v h.marks.member (tested_after h answer)) h (tested_after h answer)
    by true e =
        let n : answer ≡ reply.Valid = r.0 ∙ ap (λ (z : Bool). if z then reply.Valid else reply.Invalid) e in
        so reply.Valid n
        (then_brought good bring w g content forced h (tested_in h reply.Valid) p v b (a reply.Valid n) (subst (λ (z : Facility). IsSound z.directory) (sym r.1) b.sound) has filled
        (subst (λ (z : Facility). bit z.directory h.marks.member 0 ≡ true) (sym r.1) e) (subst (λ z. Forwards w g content (tested_in h z) p) n forward))
    by false e =
        let n : answer ≡ reply.Invalid = r.0 ∙ ap (λ (z : Bool). if z then reply.Valid else reply.Invalid) e in
        so reply.Invalid n (a reply.Invalid n)
