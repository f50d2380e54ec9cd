-- The states that show the guards' need.
use Rattle.std.proofs.Common.{◌≡◌, ℕ, ◌<◌, ◌∙◌, inl, inr, arith, refl, ap, true, false, Some, None, sym}
use Rattle.std.specs.Prelude.{◌==◌, ◌&&◌}
use Rattle.std.proofs.lemmas.Bool.{cases_Bool, cond-true, cond-false}
use Rattle.page_protocol.specs.Page.{put, write}
use Rattle.page_protocol.specs.Moves.{restarting}
use Rattle.page_protocol.specs.Coherent.{Coherent}
use Rattle.page_protocol.specs.Needed.{all_up_with, in_hand, taken_over, after_rebuild, lost_with_two, while_lost, direct_while_lost, read_before, InvalidationIsNeeded, StableIsNeeded, RestingIsNeeded, AsideIsStable, WrittenIsNeeded, BitIsNeeded, CastoutLockIsNeeded, AllLogsAreNeeded, CacheIsNeeded, ComparisonIsNeeded, both_in_hand, one_link, OrderIsNeeded, valid_elsewhere, UnusedIsNeeded, one_restarting, to_recover, RecoveryIsNeeded}
use Rattle.page_protocol.specs.Always.{Good}
use Rattle.page_protocol.specs.Links.{Link, LinkHolds, Linked}
use Rattle.page_protocol.specs.Redo.{Bytes}

two_stable : Coherent (all_up_with 2 2) in_hand
two_stable = grind arith

one_stable : Coherent (all_up_with 1 2) in_hand
one_stable = grind arith

one_rests : Coherent (restarting (all_up_with 1 2) 1) in_hand
one_rests = grind arith

taken : Coherent (all_up_with 2 2) taken_over
taken = grind arith

rebuilt : Coherent (all_up_with 2 2) after_rebuild
rebuilt = grind arith

lost : Coherent while_lost lost_with_two
lost = grind arith

direct : Coherent read_before direct_while_lost
direct = grind arith

pub invalidation : InvalidationIsNeeded
invalidation = record { coherent = two_stable; marked = refl; stable = grind arith; breaks = λ s. absurd (let e = s.valid 2 refl refl refl in omega (arith, e)) }

pub stable : StableIsNeeded
stable = record { coherent = one_stable; marked = refl; breaks = λ s. absurd (let e = s.stable 1 (omega arith) in omega (arith, e)) }

pub resting : RestingIsNeeded
resting = record { coherent = two_stable; marked = refl; stable = grind arith; breaks = λ s. absurd (let e = s.newest 1 refl (omega arith) refl in cc) }

pub aside : AsideIsStable
aside = record { coherent = one_rests; marked = refl; breaks = λ s. absurd (let e : 1 < 1 = s.resting_stable 1 refl refl refl 1 (omega arith) in omega (arith, e)) }

pub written : WrittenIsNeeded
written = record { coherent = two_stable; own = refl; breaks = λ s. absurd (let e = s.own 1 (omega arith) (omega arith) in cc) }

pub bit : BitIsNeeded
bit = record { coherent = taken; own = refl; filled = refl; breaks = λ s. absurd (let e = s.marked_last 2 refl in omega (arith, e)) }

pub castout_lock : CastoutLockIsNeeded
castout_lock = record { coherent = rebuilt; gone = refl; breaks = λ s. absurd (let e = s.group refl in omega (arith, e)) }

pub all_logs : AllLogsAreNeeded
all_logs = record { coherent = lost; read = grind arith; breaks = λ s. absurd (let e = s.group refl in omega (arith, e)) }

pub cache : CacheIsNeeded
cache = record { coherent = direct; direct = refl; stable = grind arith; read = grind arith; breaks = λ s. absurd (let e = s.read_shared 1 refl (omega arith) in omega (arith, e)) }

pub comparison : ComparisonIsNeeded
comparison = record { rise = (omega arith, (omega arith, tt)); own_log = refl; breaks = λ e. absurd (let x = ap (λ (b : Bytes). b.lrsn) e in omega (arith, x)) }

good : Good both_in_hand
good = record { stands = λ n. two_stable; ordered = λ n i j a b e. grind arith; numbered = λ n. grind arith }

one_holds : (i c : ℕ) → i ≡ 1 → c ≡ 1 → LinkHolds false false in_hand in_hand i c
one_holds i c a b = record { there = grind (arith, a, b); made = grind (arith, a, b); shared = grind (arith, a, b) }

linked : Linked one_link both_in_hand
linked n i l is = elim (cases_Bool ((n == 0) && (i == 1))) [
  | inl here ↦ let e = cond-true ((n == 0) && (i == 1)) (Some link) None here in let f : Some link ≡ Some l = sym e ∙ is in one_holds i l.change (index n i here) (change_of l f)
  | inr other ↦ absurd (let e = cond-false ((n == 0) && (i == 1)) (Some link) None other in let f : None ≡ Some l = sym e ∙ is in cc)
]
  where
    link : Link
    link = record { page = 1; change = 1 }

    index : (n i : ℕ) → ((n == 0) && (i == 1)) ≡ true → i ≡ 1
    index n i h = grind (arith, h)

    change_of : (l : Link) → Some link ≡ Some l → l.change ≡ 1
    change_of l e = grind (arith, e)

pub order : OrderIsNeeded
order = record { good = good; linked = linked; marked = refl; stable = grind arith; breaks = λ s. absurd (no (s 0 1 (record { page = 1; change = 1 }) refl)) }
  where
    no : LinkHolds false false (put both_in_hand.pages 0 (write in_hand 1) 0) (put both_in_hand.pages 0 (write in_hand 1) 1) 1 1 → ⊥
    no k = elim (k.shared refl refl (omega arith)) [ inl lt ↦ (let x : 1 < 1 = lt in omega (arith, x)) | inr e ↦ (let x : false ≡ true = e in cc) ]

elsewhere : Coherent (all_up_with 2 2) valid_elsewhere
elsewhere = grind arith

pub unused : UnusedIsNeeded
unused = record { coherent = elsewhere; free = refl; breaks = λ s. absurd (let e = s.alone_frame 1 2 refl refl (omega arith) in cc) }

recovering : Coherent one_restarting to_recover
recovering = grind arith

pub recovery : RecoveryIsNeeded
recovery = record { coherent = recovering; breaks = λ s. absurd (let e = s.newest 1 refl (omega arith) refl in cc) }
