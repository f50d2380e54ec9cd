-- Each move keeps the whole index.
use Rattle.std.proofs.Common.{◌≡◌, ℕ, suc, ◌<◌, ◌≤◌, refl, sym, ◌∙◌, subst, arith, true, false, List, [], ◌∷◌, None, Some, inl, inr, Bool}
use Rattle.std.specs.Prelude.{◌≢◌, ◌==◌, if◌then◌else◌}
use Rattle.std.proofs.lemmas.Bool.{cond_both, cases_eq, cases_lt, eqb-true, eqb-false}
use Rattle.index_protocol.specs.Index.{Rest, Page, Link, World, Move, Unmade, Leaf, Branch, Give, Split, BranchEntry, Write, End, Fail, GroupRestart, Step, beyond, with_place, split_left, split_right, given_rest, split_rest, entered_rest, written_rest, ended_rest, restarted_rest, failed_rest, failed_page, given_world, split_world, entered_world, written_world, ended_world, restarted_world, failed_world, start, IsOpen, IsThere, MayChange, MayGive, MaySplit, MayEnterBranch, MayWrite, MayEnd, MayFail}
use Rattle.index_protocol.specs.Whole.{Roots, Paths, Shape, Leaves, Apart, WholeIndex, Run, AlwaysWhole}
use Rattle.index_protocol.proofs.Moves.{PartedBy, shape_give, shape_give_other, shape_enter, shape_enter_other, shape_write, shape_write_other, shape_left, shape_right, shape_other, shape_fail, shape_end, shape_restart}
use Rattle.index_protocol.proofs.Leaf_moves.{leaves_give, leaves_give_other, leaves_enter, leaves_enter_other, leaves_write, leaves_end, leaves_left, leaves_right, leaves_other, leaves_fail, leaves_restart}
use Rattle.index_protocol.proofs.Paths.{paths_grow, paths_split, stays_all, paths_fail, flip, apart_changed, apart_same, apart_left, apart_new, apart_both, apart_far, apart_fail, shape_start, leaves_start, roots_start, paths_start, apart_start, roots_give, roots_enter, roots_split, roots_write, roots_end, roots_fail, roots_restart, has_last}

-- all that holds of one page
record Page_whole (g : Rest) (n : ℕ) (p : Page) : Type 0 where
  shape : Shape g n p
  leaves : Leaves g n p

-- one page is changed, and the others have what they had
one : (g : Rest) (pages : ℕ → Page) (n : ℕ) (q : Page) → Page_whole g n q → ((m : ℕ) → m ≢ n → Page_whole g m (pages m)) → (m : ℕ) → Page_whole g m (if m == n then q else pages m)
one g pages n q new old m = cond_both (m == n) q (pages m) (Page_whole g m) (λ e. subst (λ z. Page_whole g z q) (sym (eqb-true m n e)) new) (λ e. old m (eqb-false m n e))

all : (w : World) → Roots w.rest → Paths w.rest (λ q. (w.pages q).last) → ((n : ℕ) → Page_whole w.rest n (w.pages n)) → ((n q : ℕ) → Apart w.rest n q (w.pages n) (w.pages q)) → WholeIndex w
all w r t s a = record { roots = r; paths = t; shape = λ n. (s n).shape; leaves = λ n. (s n).leaves; apart = a }

parted_by : (w : World) (n : ℕ) → WholeIndex w → PartedBy w.rest n (w.pages n)
parted_by w n s c leaf = s.paths.made c n (λ e. cc)

made_leaf : (w : World) (n : ℕ) → WholeIndex w → w.rest.kind n ≡ Leaf → 1 ≤ (w.pages n).last
made_leaf w n s leaf = (s.shape n).made (λ e. cc)

made_branch : (w : World) (n : ℕ) → WholeIndex w → w.rest.kind n ≡ Branch → 1 ≤ (w.pages n).last
made_branch w n s leaf = (s.shape n).made (λ e. cc)

alone_of : (g : Rest) (m n : ℕ) (p : Page) → MayChange g m n p → g.shown n < p.last → g.writer n ≡ m
alone_of g m n p alone = grind (arith, alone)

root_made : (w : World) → WholeIndex w → 1 ≤ (w.pages 1).last
root_made w s = made_branch w 1 s s.roots.root_kind

-- ---- two leaves, where one page has one version more with the same link
apart_one : (w : World) (n k x : ℕ) → WholeIndex w → 1 ≤ (w.pages n).last → (a q : ℕ) → Apart w.rest a q (if a == n then with_place (w.pages n) k x else w.pages a) (if q == n then with_place (w.pages n) k x else w.pages q)
apart_one w n k x s made a q = cond_both (a == n) _ _ (λ z. Apart w.rest a q z (if q == n then with_place (w.pages n) k x else w.pages q))
    (λ e. cond_both (q == n) _ _ (λ z. Apart w.rest a q (with_place (w.pages n) k x) z)
    (λ f. subst (λ z. Apart w.rest a z (with_place (w.pages n) k x) (with_place (w.pages n) k x)) (eqb-true a n e ∙ sym (eqb-true q n f)) (apart_same w.rest a (with_place (w.pages n) k x) (with_place (w.pages n) k x)))
    (λ f. subst (λ z. Apart w.rest z q (with_place (w.pages n) k x) (w.pages q)) (sym (eqb-true a n e)) (apart_changed w.rest n q (w.pages n) (w.pages q) k x (s.apart n q) made (parted_by w n s q))))
    (λ e. cond_both (q == n) _ _ (λ z. Apart w.rest a q (w.pages a) z)
    (λ f. subst (λ z. Apart w.rest a z (w.pages a) (with_place (w.pages n) k x)) (sym (eqb-true q n f)) (flip w.rest n a (with_place (w.pages n) k x) (w.pages a) (apart_changed w.rest n a (w.pages n) (w.pages a) k x (s.apart n a) made (parted_by w n s a))))
    (λ f. s.apart a q))

grows_one : (w : World) (n k x q : ℕ) → (w.pages q).last ≤ (if q == n then with_place (w.pages n) k x else w.pages q).last
grows_one w n k x q = grind arith

-- ---- a Give
pub ungiven : (w : World) (n k : ℕ) → WholeIndex w → MayGive w.rest n (w.pages n) k → w.rest.given k ≡ None
ungiven w n k s may = plain (w.rest.given k) (λ x is. has_last w n k x s may.leaf is may.from_low may.covered)
  where
    plain : (o : Rattle.std.proofs.Common.Option ℕ) → ((x : ℕ) → o ≡ Some x → (w.pages n).entry (w.pages n).last k ≡ Some x) → o ≡ None
    plain None h = refl
    plain (Some x) h = let a = h x refl in let b = may.free in cc

give_open : (w : World) (m n k q v : ℕ) → WholeIndex w → MayGive w.rest n (w.pages n) k → IsOpen w.rest m n → q ≢ n → w.rest.kind q ≡ Leaf → 1 ≤ v → w.rest.shown q ≤ v → v ≤ (w.pages q).last → w.rest.low q ≤ k → beyond ((w.pages q).link v) k ≡ false → w.rest.writer q ≡ m
give_open w m n k q v s may open' ne leaf a b c low in' = elim (cases_lt v (w.rest.parted_at n q)) [
  | inl lt ↦ open' q (omega (arith, lt, b))
  | inr ge ↦ absurd (ne (sym (s.apart n q (w.pages n).last v k may.leaf leaf (made_leaf w n s may.leaf) (omega arith) a c may.from_low low may.covered in' ge (parted_by w n s q leaf))))
]

give_new : (w : World) (m n k x : ℕ) → WholeIndex w → MayGive w.rest n (w.pages n) k → MayChange w.rest m n (w.pages n) → Page_whole (given_rest w.rest m n (w.pages n) k x) n (with_place (w.pages n) k x)
give_new w m n k x s may alone = record {
  shape = shape_give w.rest m n (w.pages n) k x (s.shape n) may.leaf alone;
  leaves = leaves_give w.rest m n (w.pages n) k x (s.leaves n) may alone (ungiven w n k s may) (made_leaf w n s may.leaf) (λ j y leaf is low in'. has_last w n j y s leaf is low in');
}

give_old : (w : World) (m n k x : ℕ) → WholeIndex w → MayGive w.rest n (w.pages n) k → MayChange w.rest m n (w.pages n) → IsOpen w.rest m n → (q : ℕ) → q ≢ n → Page_whole (given_rest w.rest m n (w.pages n) k x) q (w.pages q)
give_old w m n k x s may alone open' q ne = record {
  shape = shape_give_other w.rest m n q (w.pages n) (w.pages q) k x (s.shape q) (s.shape n).seen (made_leaf w n s may.leaf) alone (parted_by w n s) ne;
  leaves = leaves_give_other w.rest m n q (w.pages n) (w.pages q) k x (s.leaves q) (ungiven w n k s may) ne (parted_by w n s q) (λ v leaf a b c low in'. give_open w m n k q v s may open' ne leaf a b c low in');
}

kept_give : (w : World) (m n k x : ℕ) → WholeIndex w → MayGive w.rest n (w.pages n) k → MayChange w.rest m n (w.pages n) → IsOpen w.rest m n → IsThere w.rest m 1 → WholeIndex (given_world w m n k x)
kept_give w m n k x s may alone open' there =
    let t = paths_grow w.rest (λ q. (w.pages q).last) (λ q. ((given_world w m n k x).pages q).last) (grows_one w n k x) s.paths in
    all (given_world w m n k x) (roots_give w.rest m n (w.pages n) k x s.roots may.leaf there) (record { made = t.made; self = t.self; kinds = t.kinds; first = t.first; roots = t.roots; chain = t.chain; left_low = t.left_low })
    (one (given_rest w.rest m n (w.pages n) k x) w.pages n (with_place (w.pages n) k x) (give_new w m n k x s may alone) (give_old w m n k x s may alone open'))
    (apart_one w n k x s (made_leaf w n s may.leaf))

-- ---- a branch's entry
enter_new : (w : World) (m n k c : ℕ) → WholeIndex w → MayEnterBranch w.rest m n (w.pages n) k c → MayChange w.rest m n (w.pages n) → IsOpen w.rest m c → Page_whole (entered_rest w.rest m n) n (with_place (w.pages n) k c)
enter_new w m n k c s may alone open' = record {
  shape = shape_enter w.rest m n (w.pages n) k c (s.shape n) may alone open';
  leaves = leaves_enter w.rest m n (w.pages n) k c (s.leaves n) may.branch;
}

enter_old : (w : World) (m n k c : ℕ) → WholeIndex w → MayEnterBranch w.rest m n (w.pages n) k c → MayChange w.rest m n (w.pages n) → (q : ℕ) → q ≢ n → Page_whole (entered_rest w.rest m n) q (w.pages q)
enter_old w m n k c s may alone q ne = record {
  shape = shape_enter_other w.rest m n q (w.pages n) (w.pages q) (s.shape q) (s.shape n).seen (made_branch w n s may.branch) alone (parted_by w n s) ne;
  leaves = leaves_enter_other w.rest m n q (w.pages q) (s.leaves q) ne;
}

kept_enter : (w : World) (m n k c : ℕ) → WholeIndex w → MayEnterBranch w.rest m n (w.pages n) k c → MayChange w.rest m n (w.pages n) → IsOpen w.rest m c → WholeIndex (entered_world w m n k c)
kept_enter w m n k c s may alone open' =
    let t = paths_grow w.rest (λ q. (w.pages q).last) (λ q. ((entered_world w m n k c).pages q).last) (grows_one w n k c) s.paths in
    all (entered_world w m n k c) (roots_enter w.rest m n (w.pages n) s.roots (alone_of w.rest m n (w.pages n) alone) (made_branch w n s may.branch)) (record { made = t.made; self = t.self; kinds = t.kinds; first = t.first; roots = t.roots; chain = t.chain; left_low = t.left_low })
    (one (entered_rest w.rest m n) w.pages n (with_place (w.pages n) k c) (enter_new w m n k c s may alone open') (enter_old w m n k c s may alone))
    (apart_one w n k c s (made_branch w n s may.branch))

-- ---- a version is written to the group's copy
write_page : (w : World) (n v : ℕ) → WholeIndex w → MayWrite w.rest n (w.pages n) v → (q : ℕ) → Page_whole (written_rest w.rest n v) q (w.pages q)
write_page w n v s may q = elim (cases_eq q n) [
  | inl e ↦ subst (λ z. Page_whole (written_rest w.rest n v) z (w.pages z)) (sym e) (record {
    shape = shape_write w.rest n (w.pages n) v (s.shape n) may;
    leaves = leaves_write w.rest n n v (w.pages n) may.grows (s.leaves n);
  })
  | inr ne ↦ record {
    shape = shape_write_other w.rest n q (w.pages q) v (s.shape q) may.grows ne;
    leaves = leaves_write w.rest n q v (w.pages q) may.grows (s.leaves q);
  }
]

kept_write : (w : World) (n v : ℕ) → WholeIndex w → MayWrite w.rest n (w.pages n) v → WholeIndex (written_world w n v)
kept_write w n v s may = all (written_world w n v) (roots_write w.rest n v s.roots may.grows) (record { made = s.paths.made; self = s.paths.self; kinds = s.paths.kinds; first = s.paths.first; roots = s.paths.roots; chain = s.paths.chain; left_low = s.paths.left_low }) (write_page w n v s may) s.apart

-- ---- the end of a transaction
end_page : (w : World) (m : ℕ) (keys : ℕ → Bool) → WholeIndex w → MayEnd w m keys → (n : ℕ) → Page_whole (ended_rest w.rest keys) n (w.pages n)
end_page w m keys s may n = record {
  shape = shape_end w.rest n (w.pages n) keys (s.shape n);
  leaves = leaves_end w.rest m n (w.pages n) keys (s.leaves n) (λ k x leaf is low in'. has_last w n k x s leaf is low in') may.own (may.all_shown n);
}

kept_end : (w : World) (m : ℕ) (keys : ℕ → Bool) → WholeIndex w → MayEnd w m keys → WholeIndex (ended_world w keys)
kept_end w m keys s may = all (ended_world w keys) (roots_end w.rest m keys s.roots may.own (λ e. (let a = may.all_shown 1 e in let b = root_made w s in omega (arith, a, b)))) (record { made = s.paths.made; self = s.paths.self; kinds = s.paths.kinds; first = s.paths.first; roots = s.paths.roots; chain = s.paths.chain; left_low = s.paths.left_low }) (end_page w m keys s may) s.apart

-- ---- a failure
all_stay : (w : World) (m : ℕ) (c : ℕ → ℕ) → WholeIndex w → ((n : ℕ) → MayFail w.rest m c n (w.pages n)) → (n q : ℕ) → w.rest.kind n ≢ Unmade → 1 ≤ c n → w.rest.parted_at n q ≤ c q
all_stay w m c s may n q made some = stays_all w.rest (λ r. (w.pages r).last) c (suc (w.rest.low n)) n q s.paths (λ r. (may r).stays) (omega arith) made some

-- a page that a kept link leads to is kept
right_kept : (w : World) (m : ℕ) (c : ℕ → ℕ) → WholeIndex w → ((n : ℕ) → MayFail w.rest m c n (w.pages n)) → (n v : ℕ) (l : Link) → 1 ≤ v → v ≤ c n → (w.pages n).link v ≡ Some l → 1 ≤ c l.right
right_kept w m c s may n v l a b is =
    let le : v ≤ (w.pages n).last = let short = (may n).short in omega (arith, b, short) in
    let kind = (s.shape n).right_kind v l a le is in
    let made : w.rest.kind n ≢ Unmade = λ e. (let u = (s.shape n).unmade e in omega (arith, a, le, u)) in
    let made_r : w.rest.kind l.right ≢ Unmade = λ e. made (sym kind ∙ e) in
    plain (c l.right) (w.rest.split_of l.right) ((may l.right).gone made_r) (λ e. (let own = (s.shape n).right_own v l a le is in grind (arith, e, own, b)))
    (λ ne. (let other = (s.shape n).right_other v (w.rest.split_of l.right) l a le is ne in let st = all_stay w m c s may n (w.rest.split_of l.right) made (omega (arith, a, b)) in omega (arith, other, st)))
  where
    plain : (cr q : ℕ) → (cr ≡ 0 → c q < w.rest.parted_at l.right q) → (q ≡ n → w.rest.parted_at l.right q ≤ c q) → (q ≢ n → w.rest.parted_at l.right q ≤ c q) → 1 ≤ cr
    plain cr q gone x y = elim (cases_eq q n) [
      | inl e ↦ (let z = x e in grind (arith, gone, z))
      | inr ne ↦ (let z = y ne in grind (arith, gone, z))
    ]

fail_page : (w : World) (m : ℕ) (c : ℕ → ℕ) → WholeIndex w → ((n : ℕ) → MayFail w.rest m c n (w.pages n)) → (n : ℕ) → Page_whole (failed_rest w.rest c) n (failed_page (w.pages n) (c n))
fail_page w m c s may n = record {
  shape = shape_fail w.rest m c n (w.pages n) (s.shape n) (may n) (right_kept w m c s may n);
  leaves = leaves_fail w.rest c n (w.pages n) (s.leaves n) (may n).short (all_stay w m c s may n);
}

root_stays : (c : ℕ → ℕ) (n : ℕ) {a b : ℕ} → (c n ≡ 0 → a < b) → b ≡ 0 → 1 ≤ c n
root_stays c n gone none = grind (arith, gone, none)

kept_fail : (w : World) (m : ℕ) (c : ℕ → ℕ) → WholeIndex w → ((n : ℕ) → MayFail w.rest m c n (w.pages n)) → WholeIndex (failed_world w c)
kept_fail w m c s may = all (failed_world w c) (roots_fail w.rest c s.roots (root_stays c 1 ((may 1).gone (λ e. (let k = s.roots.root_kind in cc))) (s.roots.root_open (w.rest.split_of 1))) (root_stays c 2 ((may 2).gone (λ e. (let k = s.roots.leaf_kind in cc))) (s.roots.leaf_open (w.rest.split_of 2)))) (paths_fail w.rest (λ q. (w.pages q).last) c (all_stay w m c s may) s.paths) (fail_page w m c s may) (λ n q. apart_fail w.rest c n q (w.pages n) (w.pages q) (s.apart n q) (may n).short (may q).short)

-- ---- a split
split_new : (w : World) (m n new low : ℕ) → WholeIndex w → MaySplit w.rest n (w.pages n) new low → MayChange w.rest m n (w.pages n) → n ≢ new → w.rest.shown new ≡ 0 → Page_whole (split_rest w.rest m n (w.pages n) new low) new (split_right (w.pages n) low)
split_new w m n new low s may alone ne hid = record {
  shape = shape_right w.rest m n (w.pages n) new low (s.shape n) may alone hid ne (λ r made. (let a = s.paths.made r new made in let b = (s.shape new).unmade may.fresh in omega (arith, a, b)));
  leaves = leaves_right w.rest m n (w.pages n) new low (s.leaves n) may.above ne ((s.shape n).made may.made) may.fresh (λ k x leaf is lo in'. has_last w n k x s leaf is lo in') (λ k x is e. (let leaf = (s.leaves new).given_leaf k x is e in let f = may.fresh in cc));
}

split_old : (w : World) (m n new low : ℕ) → WholeIndex w → MaySplit w.rest n (w.pages n) new low → MayChange w.rest m n (w.pages n) → n ≢ new → w.rest.shown new ≡ 0 → Page_whole (split_rest w.rest m n (w.pages n) new low) n (split_left (w.pages n) new low)
split_old w m n new low s may alone ne hid = record {
  shape = shape_left w.rest m n (w.pages n) new low (s.shape n) may alone hid ne;
  leaves = leaves_left w.rest m n (w.pages n) new low (s.leaves n) may alone ne ((s.shape n).made may.made) (λ k x leaf is lo in'. has_last w n k x s leaf is lo in');
}

split_far : (w : World) (m n new low : ℕ) → WholeIndex w → MaySplit w.rest n (w.pages n) new low → MayChange w.rest m n (w.pages n) → (q : ℕ) → q ≢ n → q ≢ new → Page_whole (split_rest w.rest m n (w.pages n) new low) q (w.pages q)
split_far w m n new low s may alone q ne ne' = record {
  shape = shape_other w.rest m n q (w.pages n) (w.pages q) new low (s.shape q) may.fresh (s.shape n).seen ((s.shape n).made may.made) alone (parted_by w n s) (λ c leaf. (let a = s.paths.made c new (λ e. cc) in let b = (s.shape new).unmade may.fresh in omega (arith, a, b))) ne ne';
  leaves = leaves_other w.rest m n q (w.pages n) (w.pages q) new low (s.leaves q) ne ne';
}

-- the page as the split leaves it
three : (w : World) (n new low : ℕ) (P : ℕ → Page → Type 0) → n ≢ new → P n (split_left (w.pages n) new low) → P new (split_right (w.pages n) low) → ((q : ℕ) → q ≢ n → q ≢ new → P q (w.pages q)) → (q : ℕ) → P q (if q == n then split_left (w.pages n) new low else if q == new then split_right (w.pages n) low else w.pages q)
three w n new low P ne a b c q = cond_both (q == n) _ _ (P q)
    (λ e. subst (λ z. P z (split_left (w.pages n) new low)) (sym (eqb-true q n e)) a)
    (λ e. cond_both (q == new) _ _ (P q)
    (λ f. subst (λ z. P z (split_right (w.pages n) low)) (sym (eqb-true q new f)) b)
    (λ f. c q (eqb-false q n e) (eqb-false q new f)))

split_apart : (w : World) (m n new low : ℕ) → WholeIndex w → MaySplit w.rest n (w.pages n) new low → n ≢ new → (a q : ℕ) → Apart (split_rest w.rest m n (w.pages n) new low) a q ((split_world w m n new low).pages a) ((split_world w m n new low).pages q)
split_apart w m n new low s may ne a q = three w n new low (λ x p. Apart (split_rest w.rest m n (w.pages n) new low) x q p ((split_world w m n new low).pages q)) ne (from_left q) (from_right q) (λ x off off'. from_far x off off' q) a
  where
    made : 1 ≤ (w.pages n).last
    made = (s.shape n).made may.made

    from_left : (q : ℕ) → Apart (split_rest w.rest m n (w.pages n) new low) n q (split_left (w.pages n) new low) ((split_world w m n new low).pages q)
    from_left = three w n new low (λ x p. Apart (split_rest w.rest m n (w.pages n) new low) n x (split_left (w.pages n) new low) p) ne
        (apart_same (split_rest w.rest m n (w.pages n) new low) n (split_left (w.pages n) new low) (split_left (w.pages n) new low))
        (flip (split_rest w.rest m n (w.pages n) new low) new n (split_right (w.pages n) low) (split_left (w.pages n) new low) (apart_both w.rest m n (w.pages n) new low ne))
        (λ x off off'. apart_left w.rest m n x (w.pages n) (w.pages x) new low (s.apart n x) made (parted_by w n s x) ne off' may.covered)

    from_right : (q : ℕ) → Apart (split_rest w.rest m n (w.pages n) new low) new q (split_right (w.pages n) low) ((split_world w m n new low).pages q)
    from_right = three w n new low (λ x p. Apart (split_rest w.rest m n (w.pages n) new low) new x (split_right (w.pages n) low) p) ne
        (apart_both w.rest m n (w.pages n) new low ne)
        (apart_same (split_rest w.rest m n (w.pages n) new low) new (split_right (w.pages n) low) (split_right (w.pages n) low))
        (λ x off off'. apart_new w.rest m n x (w.pages n) (w.pages x) new low (s.apart n x) made (parted_by w n s x) ne off' off may.above)

    from_far : (x : ℕ) → x ≢ n → x ≢ new → (q : ℕ) → Apart (split_rest w.rest m n (w.pages n) new low) x q (w.pages x) ((split_world w m n new low).pages q)
    from_far x off off' = three w n new low (λ y p. Apart (split_rest w.rest m n (w.pages n) new low) x y (w.pages x) p) ne
        (flip (split_rest w.rest m n (w.pages n) new low) n x (split_left (w.pages n) new low) (w.pages x) (apart_left w.rest m n x (w.pages n) (w.pages x) new low (s.apart n x) made (parted_by w n s x) ne off' may.covered))
        (flip (split_rest w.rest m n (w.pages n) new low) new x (split_right (w.pages n) low) (w.pages x) (apart_new w.rest m n x (w.pages n) (w.pages x) new low (s.apart n x) made (parted_by w n s x) ne off' off may.above))
        (λ y no' no''. apart_far w.rest m n x y (w.pages n) (w.pages x) (w.pages y) new low (s.apart x y) off' no'')

kept_split : (w : World) (m n new low : ℕ) → WholeIndex w → MaySplit w.rest n (w.pages n) new low → MayChange w.rest m n (w.pages n) → WholeIndex (split_world w m n new low)
kept_split w m n new low s may alone =
    let ne : n ≢ new = λ e. may.made (subst (λ z. w.rest.kind z ≡ Unmade) (sym e) may.fresh) in
    let none = (s.shape new).unmade may.fresh in
    let hid : w.rest.shown new ≡ 0 = let seen = (s.shape new).seen in omega (arith, seen, none) in
    all (split_world w m n new low) (roots_split w.rest m n (w.pages n) new low s.roots may (alone_of w.rest m n (w.pages n) alone) ((s.shape n).made may.made))
    (paths_split w.rest m n (w.pages n) new low (λ q. (w.pages q).last) (λ q. ((split_world w m n new low).pages q).last) s.paths may.fresh may.above may.made ne refl none (grind arith) (grind (arith, ne)) (λ q a b. grind (arith, a, b)))
    (three w n new low (λ q p. Page_whole (split_rest w.rest m n (w.pages n) new low) q p) ne (split_old w m n new low s may alone ne hid) (split_new w m n new low s may alone ne hid) (split_far w m n new low s may alone))
    (split_apart w m n new low s may ne)

-- ---- the group's restart
restart_page : (w : World) → WholeIndex w → (n : ℕ) → Page_whole (restarted_rest w.rest (λ q. (w.pages q).last)) n (w.pages n)
restart_page w s n = record {
  shape = shape_restart w.rest (λ q. (w.pages q).last) n (w.pages n) (s.shape n) refl (λ q made. (s.shape q).made made) (λ c q leaf. s.paths.made c q (λ e. cc));
  leaves = leaves_restart w.rest (λ q. (w.pages q).last) n (w.pages n) (s.leaves n) (λ k x leaf is low in'. has_last w n k x s leaf is low in') refl;
}

kept_restart : (w : World) → WholeIndex w → WholeIndex (restarted_world w)
kept_restart w s = all (restarted_world w)
    (roots_restart w.rest (λ q. (w.pages q).last) s.roots (root_made w s))
    (record { made = s.paths.made; self = s.paths.self; kinds = s.paths.kinds; first = s.paths.first; roots = s.paths.roots; chain = s.paths.chain; left_low = s.paths.left_low })
    (restart_page w s) s.apart

pub kept_step : (w v : World) (e : Move) → WholeIndex w → Step w e v → WholeIndex v
kept_step w v (Give m n k x) s st = subst WholeIndex (sym st.4) (kept_give w m n k x s st.0 st.1 st.2 st.3)
kept_step w v (Split m n new low) s st = subst WholeIndex (sym st.2) (kept_split w m n new low s st.0 st.1)
kept_step w v (BranchEntry m n k c) s st = subst WholeIndex (sym st.3) (kept_enter w m n k c s st.0 st.1 st.2)
kept_step w v (Write n u) s st = subst WholeIndex (sym st.1) (kept_write w n u s st.0)
kept_step w v (End m keys) s st = subst WholeIndex (sym st.1) (kept_end w m keys s st.0)
kept_step w v (Fail m c) s st = subst WholeIndex (sym st.1) (kept_fail w m c s st.0)
kept_step w v GroupRestart s st = subst WholeIndex (sym st) (kept_restart w s)

pub kept_start : (m : ℕ) → WholeIndex (start m)
kept_start m = record { roots = roots_start m; paths = paths_start m; shape = shape_start m; leaves = leaves_start m; apart = apart_start m }

pub run_from : (moves : List Move) (w v : World) → WholeIndex w → Run w moves v → WholeIndex v
run_from [] w v s r = subst WholeIndex (sym r) s
run_from (e ∷ es) w v s r = run_from es r.0 v (kept_step w r.0 e s r.1) r.2

pub always : AlwaysWhole
always m moves w r = run_from moves (start m) w (kept_start m) r
