-- What is told of pages that are read.
use Rattle.std.proofs.Common.{◌≡◌, ℕ, Bool, true, false, List, Option, Some, None, refl, ap, subst, ◌∙◌, arith}
use Rattle.std.specs.Prelude.{nat_le, not, ◌==◌, ◌&&◌}
use Rattle.std.proofs.lemmas.Bool.Decides.{nat_tests}
use Rattle.ds_base.specs.Pages.{same_page}
use Rattle.ds_base.specs.declared.names.PageId.{PageId}
use Rattle.ds_disk.specs.Contents.{Contents, WhenTold, Becomes, Same}
use Rattle.ds_disk.specs.Pages.{page_at}
use Rattle.page_format.specs.Fields.{lrsn_of}
use Rattle.page_images.specs.Images.{Images}
use Rattle.kept_checkpoints.specs.declared.needs.Need.{Need}
use Rattle.kept_checkpoints.specs.Needs.{is_met}
use Rattle.kept_pages.specs.Unmet.{meets, is_seen, IsSeen}

pub same_on : (a b c : Option Contents) → Becomes a b Same → Becomes b c Same → Becomes a c Same
same_on None b c h k = tt
same_on (Some x) None c h k = absurd h
same_on (Some x) (Some y) None h k = absurd k
same_on (Some x) (Some y) (Some z) h k = k ∙ h

-- ---- the page that was seen last

same_number : (m n : ℕ) → (m == n) ≡ true → m ≡ n
same_number m n h = grind (arith, nat_tests)

and_left : (a b : Bool) → (a && b) ≡ true → a ≡ true
and_left true b h = refl
and_left false b h = h

and_right : (a b : Bool) → (a && b) ≡ true → b ≡ true
and_right true b h = h
and_right false b h = absurd cc

same_is : (a b : PageId) → same_page a b ≡ true → a ≡ b
same_is a b h =
    ap (λ (n : ℕ). record { set = n; number = a.number }) (same_number a.set b.set (and_left (a.set == b.set) (a.number == b.number) h))
    ∙ ap (λ (n : ℕ). record { set = b.set; number = n }) (same_number a.number b.number (and_right (a.set == b.set) (a.number == b.number) h))

seen_is : (at : Images) (seen : Option PageId) (id : PageId) (page : List ℕ) → is_seen seen id ≡ true → IsSeen at seen page → page ≡ at id
seen_is at None id page e h = absurd cc
seen_is at (Some last) id page e h = h ∙ ap at (same_is last id e)

pub seen_told : (before : Option Contents) (seen : Option PageId) (id : PageId) (page : List ℕ) → is_seen seen id ≡ true
    → WhenTold before (λ (c : Contents). IsSeen (page_at c.pages) seen page → page ≡ page_at c.pages id)
seen_told None seen id page e = tt
seen_told (Some c) seen id page e = λ h. seen_is (page_at c.pages) seen id page e h

pub read_told : (before : Option Contents) (seen : Option PageId) (id : PageId) (old page : List ℕ) → WhenTold before (λ (c : Contents). page ≡ page_at c.pages id)
    → WhenTold before (λ (c : Contents). IsSeen (page_at c.pages) seen old → page ≡ page_at c.pages id)
read_told None seen id old page h = tt
read_told (Some c) seen id old page h = λ s. h

pub met_told : (before : Option Contents) (seen : Option PageId) (n : Need) (old page : List ℕ) (met : Bool) → met ≡ meets page n
    → WhenTold before (λ (c : Contents). IsSeen (page_at c.pages) seen old → page ≡ page_at c.pages n.page)
    → WhenTold before (λ (c : Contents). IsSeen (page_at c.pages) seen old → (met ≡ is_met (page_at c.pages) n) × (page ≡ page_at c.pages n.page))
met_told None seen n old page met e h = tt
met_told (Some c) seen n old page met e h = λ s. (e ∙ ap (λ (p : List ℕ). nat_le n.lrsn (lrsn_of p) && not n.is_open) (h s), h s)

-- what the need's page tells, in a disk that is as it was at the start
pub met_on : (start now : Option Contents) (seen : Option PageId) (n : Need) (old page : List ℕ) (met : Bool) → Becomes start now Same
    → WhenTold start (λ (c : Contents). IsSeen (page_at c.pages) seen old)
    → WhenTold now (λ (c : Contents). IsSeen (page_at c.pages) seen old → (met ≡ is_met (page_at c.pages) n) × (page ≡ page_at c.pages n.page))
    → WhenTold start (λ (c : Contents). (met ≡ is_met (page_at c.pages) n) × (page ≡ page_at c.pages n.page))
met_on None now seen n old page met s h k = tt
met_on (Some c) None seen n old page met s h k = absurd s
met_on (Some c) (Some d) seen n old page met s h k =
    subst (λ (x : Contents). IsSeen (page_at x.pages) seen old → (met ≡ is_met (page_at x.pages) n) × (page ≡ page_at x.pages n.page)) s k h

pub seen_next : (start : Option Contents) (n : Need) (page : List ℕ) (met : Bool) → WhenTold start (λ (c : Contents). (met ≡ is_met (page_at c.pages) n) × (page ≡ page_at c.pages n.page))
    → WhenTold start (λ (c : Contents). IsSeen (page_at c.pages) (Some n.page) page)
seen_next None n page met h = tt
seen_next (Some c) n page met h = h.1
