-- Pages that point to pages: a change that makes a page point to another page, and the change that made the other ready.
use Rattle.std.specs.Prelude.{◌≡◌, ◌≢◌, ℕ, ◌<◌, ◌≤◌, ◌⊎◌, Bool, true, false, ◌&&◌, ◌==◌, if◌then◌else◌, List, [], ◌∷◌, Option, Some, None}
use Rattle.page_protocol.specs.Page.{Page, Up}
use Rattle.page_protocol.specs.Moves.{World, Move, PageMove, At, Draw, Compensate, Write, WriteDirect, Step}
use Rattle.page_protocol.specs.Always.{Good}
use Rattle.page_protocol.specs.Words.{IsUsable}

-- the page that is pointed to, and its change that the pointer was made for
pub record Link : Type 0 where
  pub page : ℕ
  pub change : ℕ

-- by page and change: the pointer that the change makes
abbrev pub Links : Type 0
Links = ℕ → ℕ → Option Link

-- of change i of page p, which points to change c of page q
pub record LinkHolds (down lost : Bool) (p q : Page) (i c : ℕ) : Type 0 where
  pub there : i < p.last → c < q.last
  -- what it points to was shared before, or is of the same member and not later in its log
  pub made : i < p.last → (c < q.shared) ⊎ ((p.author i ≡ q.author c) × (q.place c ≤ p.place i))
  -- a shared pointer leads to a shared page, or to one that its sole user alone reaches
  pub shared : down ≡ false → lost ≡ false → i < p.shared → (c < q.shared) ⊎ (q.sole ≡ true)

abbrev pub Linked : Links → World → Type 0
Linked links w = (n i : ℕ) (l : Link) → links n i ≡ Some l → LinkHolds w.down w.group.lost (w.pages n) (w.pages l.page) i l.change

-- ---- moves with the pointers that they make

pub record Act : Type 0 where
  pub move : Move
  pub makes : ℕ → Option Link  -- by changed page

-- a change points to what the same record does, or to what its member has in a frame that it may use: that is shared or its own
abbrev pub MayLink : World → ℕ → (ℕ → Bool) → Link → Type 0
MayLink w m touched l =
    ((touched l.page ≡ true) × (l.change ≡ (w.pages l.page).last))
    ⊎ ((l.change < (w.pages l.page).last) × ((l.change < (w.pages l.page).shared) ⊎ ((w.pages l.page).author l.change ≡ m)))

-- a page is written only after each page that it points to was, but where a sole user alone reaches that page
abbrev pub IsInOrder : Links → World → ℕ → Type 0
IsInOrder links w n = (i : ℕ) (l : Link) → links n i ≡ Some l → i < (w.pages n).last → l.page ≢ n → (l.change < (w.pages l.page).shared) ⊎ ((w.pages l.page).sole ≡ true)

abbrev pub PageLinkGuard : Links → World → ℕ → PageMove → Type 0
PageLinkGuard links w n (Write m) = IsInOrder links w n
PageLinkGuard links w n (WriteDirect m) = IsInOrder links w n
PageLinkGuard links w n e = Unit {0}

abbrev pub LinkGuard : Links → World → (ℕ → Option Link) → Move → Type 0
LinkGuard links w makes (At n e) = PageLinkGuard links w n e
LinkGuard links w makes (Draw m touched) = (n : ℕ) (l : Link) → touched n ≡ true → makes n ≡ Some l → MayLink w m touched l
LinkGuard links w makes e = Unit {0}

abbrev pub links_after : Links → World → (ℕ → Option Link) → Move → Links
links_after links w makes (Draw m touched) = λ n i. if touched n && (i == (w.pages n).last) then makes n else links n i
links_after links w makes (Compensate k m) = λ n i. if (n == k) && (i == (w.pages n).last) then None else links n i
links_after links w makes e = links

abbrev pub LinkRun : (ℕ → ℕ) → Links → World → List Act → Links → World → Type 0
LinkRun set links w [] ends v = (v ≡ w) × (ends ≡ links)
LinkRun set links w (a ∷ acts) ends v = (mid : World) × Step set w a.move mid × LinkGuard links w a.makes a.move × LinkRun set (links_after links w a.makes a.move) mid acts ends v

abbrev pub AlwaysLinked : Type 0
AlwaysLinked = (set : ℕ → ℕ) (acts : List Act) (links ends : Links) (w v : World) → Good w → Linked links w → LinkRun set links w acts ends v → Linked ends v

-- a pointer in a frame that a member may use leads to a frame with what the pointer was made for, where it may use that one
abbrev pub LinksLead : Type 0
LinksLead = (links : Links) (w : World) (m n i : ℕ) (l : Link) → Good w → Linked links w → w.down ≡ false → w.group.status m ≡ Up
    → IsUsable w.group (w.pages n) m → IsUsable w.group (w.pages l.page) m → links n i ≡ Some l → i < ((w.pages n).frame m).version → l.change < ((w.pages l.page).frame m).version
