-- Group failure and group restart, at one page.
use Rattle.std.proofs.Common.{◌≡◌, ℕ, ◌+◌, ◌≤◌, arith}
use Rattle.page_protocol.specs.Page.{Page, Group, all_fail, brought_forward, compensate, risen}
use Rattle.page_protocol.specs.Moves.{IsWholeCut, all_failed, longer, all_up}
use Rattle.page_protocol.specs.Coherent.{Coherent}
use Rattle.page_protocol.specs.Down.{Grounded}

pub falls : (g : Group) (p : Page) (n counter : ℕ) → Coherent g p → IsWholeCut g p n → Grounded (all_failed g counter) (all_fail p n)
falls g p n counter s cut = grind arith

pub falls_again : (g : Group) (p : Page) (n counter : ℕ) → Grounded g p → IsWholeCut g p n → Grounded (all_failed g counter) (all_fail p n)
falls_again g p n counter s cut = grind arith

pub forwards : (g : Group) (p : Page) (v : ℕ) → Grounded g p → p.disk ≤ v → v ≤ p.last → Grounded g (brought_forward p v)
forwards g p v s low high = grind arith

pub compensates : (g : Group) (p : Page) (m : ℕ) → Grounded g p → Grounded (longer g m) (compensate p m (g.stable m) (g.counter + 1))
compensates g p m s = grind arith

pub waits : (g : Group) (p : Page) (m : ℕ) → Grounded g p → Grounded (longer g m) p
waits g p m s = grind arith

pub rises : (g : Group) (p : Page) → Grounded g p → p.disk ≡ p.last → Coherent (all_up g) (risen p)
rises g p s done = grind arith
