-- What one need more makes of the first page that doesn't meet its needs.
use Rattle.std.proofs.Common.{◌≡◌, Bool, true, false, List, [], ◌∷◌, ◌++◌, Option, Some, None, refl, sym, ap, ◌∙◌, arith}
use Rattle.std.specs.Prelude.{not, ◌||◌, ◌&&◌, if◌then◌else◌}
use Rattle.std.specs.List.{list_all}
use Rattle.std.proofs.lemmas.Bool.Decides.{nat_tests}
use Rattle.std.proofs.lemmas.List.Folds.{list_any-append, list_all-append}
use Rattle.ds_base.specs.declared.names.PageId.{PageId}
use Rattle.ds_base.specs.Pages.{same_page}
use Rattle.page_images.specs.Images.{Images}
use Rattle.kept_checkpoints.specs.declared.needs.Need.{Need}
use Rattle.kept_checkpoints.specs.Needs.{is_met}
use Rattle.kept_pages.specs.Unmet.{is_before, has_unmet, IsFirstUnmet, AreJudged, lower, judged_with}

-- ---- tests

decide : (b : Bool) (P : Type 0) → (b ≡ true → P) → (b ≡ false → P) → P
decide true P f g = f refl
decide false P f g = g refl

and_true : (a : Bool) → (a && true) ≡ a
and_true true = refl
and_true false = refl

and_false : (a : Bool) → (a && false) ≡ false
and_false true = refl
and_false false = refl

or_false : (a : Bool) → (a || false) ≡ a
or_false true = refl
or_false false = refl

or_first : (a b : Bool) → a ≡ true → (a || b) ≡ true
or_first true b h = refl
or_first false b h = absurd cc

or_second : (a b : Bool) → b ≡ true → (a || b) ≡ true
or_second true b h = refl
or_second false b h = h

neither : (a b : Bool) → a ≡ false → b ≡ false → (a || b) ≡ false
neither true b h k = h
neither false b h k = k

and_both : (a b : Bool) → a ≡ true → b ≡ true → (a && b) ≡ true
and_both true b h k = k
and_both false b h k = h

and_left : (a b : Bool) → (a && b) ≡ true → a ≡ true
and_left true b h = refl
and_left false b h = h

and_right : (a b : Bool) → (a && b) ≡ true → b ≡ true
and_right true b h = h
and_right false b h = absurd cc

left_false : (a b : Bool) → a ≡ false → (a && b) ≡ false
left_false true b h = absurd cc
left_false false b h = refl

itself : (id : PageId) → same_page id id ≡ true
itself id = grind (arith, nat_tests)

not_both : (a b : PageId) → is_before b a ≡ true → same_page a b ≡ false
not_both a b h = grind (arith, nat_tests)

not_either : (a b : PageId) → is_before a b ≡ false → (c : PageId) → is_before c b ≡ true → same_page a c ≡ false
not_either a b h c k = grind (arith, nat_tests)

goes_on : (a b c : PageId) → is_before a b ≡ true → is_before b c ≡ true → is_before a c ≡ true
goes_on a b c h k = grind (arith, nat_tests)

-- ---- one need more

unmet_more : (at : Images) (needs : List Need) (n : Need) (id : PageId) → has_unmet at (needs ++ n ∷ []) id ≡ (has_unmet at needs id || (same_page n.page id && not (is_met at n)))
unmet_more at needs n id =
    list_any-append (λ (n : Need). same_page n.page id && not (is_met at n)) needs (n ∷ [])
    ∙ ap (λ (b : Bool). has_unmet at needs id || b) (or_false (same_page n.page id && not (is_met at n)))

met_more : (at : Images) (needs : List Need) (n : Need) → list_all (is_met at) (needs ++ n ∷ []) ≡ (list_all (is_met at) needs && is_met at n)
met_more at needs n = list_all-append (is_met at) needs (n ∷ []) ∙ ap (λ (b : Bool). list_all (is_met at) needs && b) (and_true (is_met at n))

-- where all are met none is unmet
pub none_unmet : (at : Images) (needs : List Need) (id : PageId) → list_all (is_met at) needs ≡ true → has_unmet at needs id ≡ false
none_unmet at [] id h = refl
none_unmet at (n ∷ ns) id h =
    neither (same_page n.page id && not (is_met at n)) (has_unmet at ns id)
    (ap (λ (b : Bool). same_page n.page id && not b) (and_left (is_met at n) (list_all (is_met at) ns) h) ∙ and_false (same_page n.page id))
    (none_unmet at ns id (and_right (is_met at n) (list_all (is_met at) ns) h))

-- a need that is met changes nothing
still_unmet : (at : Images) (needs : List Need) (n : Need) (id : PageId) → is_met at n ≡ true → has_unmet at (needs ++ n ∷ []) id ≡ has_unmet at needs id
still_unmet at needs n id e =
    unmet_more at needs n id
    ∙ ap (λ (b : Bool). has_unmet at needs id || (same_page n.page id && not b)) e
    ∙ ap (λ (b : Bool). has_unmet at needs id || b) (and_false (same_page n.page id))
    ∙ or_false (has_unmet at needs id)

when_met : (at : Images) (needs : List Need) (n : Need) (first : Option PageId) → is_met at n ≡ true → AreJudged at needs first → AreJudged at (needs ++ n ∷ []) first
when_met at needs n None e h = met_more at needs n ∙ and_both (list_all (is_met at) needs) (is_met at n) h e
when_met at needs n (Some id) e h = record {
  unmet = still_unmet at needs n id e ∙ h.unmet;
  first = λ other before. still_unmet at needs n other e ∙ h.first other before;
}

-- one that isn't is its page's
now_unmet : (at : Images) (needs : List Need) (n : Need) → is_met at n ≡ false → has_unmet at (needs ++ n ∷ []) n.page ≡ true
now_unmet at needs n e =
    unmet_more at needs n n.page
    ∙ or_second (has_unmet at needs n.page) _ (and_both (same_page n.page n.page) (not (is_met at n)) (itself n.page) (ap (λ (b : Bool). not b) e))

other_unmet : (at : Images) (needs : List Need) (n : Need) (id : PageId) → same_page n.page id ≡ false → has_unmet at needs id ≡ false → has_unmet at (needs ++ n ∷ []) id ≡ false
other_unmet at needs n id e h = unmet_more at needs n id ∙ neither (has_unmet at needs id) _ h (left_false (same_page n.page id) (not (is_met at n)) e)

lower_than : (at : Images) (needs : List Need) (n : Need) (id : PageId) → is_met at n ≡ false → IsFirstUnmet at needs id → (b : Bool) → is_before n.page id ≡ b
    → AreJudged at (needs ++ n ∷ []) (if b then Some n.page else Some id)
lower_than at needs n id e h true k = record {
  unmet = now_unmet at needs n e;
  first = λ other before. other_unmet at needs n other (not_both n.page other before) (h.first other (goes_on other n.page id before k));
}
lower_than at needs n id e h false k = record {
  unmet = unmet_more at needs n id ∙ or_first (has_unmet at needs id) _ h.unmet;
  first = λ other before. other_unmet at needs n other (not_either n.page id k other before) (h.first other before);
}

when_unmet : (at : Images) (needs : List Need) (n : Need) (first : Option PageId) → is_met at n ≡ false → AreJudged at needs first → AreJudged at (needs ++ n ∷ []) (lower first n.page)
when_unmet at needs n None e h = record {
  unmet = now_unmet at needs n e;
  first = λ other before. other_unmet at needs n other (not_both n.page other before) (none_unmet at needs other h);
}
when_unmet at needs n (Some id) e h = lower_than at needs n id e h (is_before n.page id) refl

pub judged_more : (at : Images) (needs : List Need) (n : Need) (first : Option PageId) (met : Bool) → met ≡ is_met at n → AreJudged at needs first
    → AreJudged at (needs ++ n ∷ []) (judged_with met first n.page)
judged_more at needs n first true e h = when_met at needs n first (sym e) h
judged_more at needs n first false e h = when_unmet at needs n first (sym e) h
