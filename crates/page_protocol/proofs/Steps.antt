-- What each move of a page keeps.
use Rattle.std.proofs.Common.{◌≡◌, ℕ, ◌≤◌, arith, Bool, true, false, Some, None}
use Rattle.std.specs.Prelude.{◌≢◌}
use Rattle.page_protocol.specs.Page.{Page, Group, Up, Failed, Restarting, read, read_disk, write, write_direct, castout_read, castout_write, castout_done, reclaim, drop_frame, redo, rebuild, lose, owned, owned_whole, given_up, AllStable}
use Rattle.page_protocol.specs.Moves.{MayUse, MayFill, MayBeDirect, IsWritten, IsRead, IsUnused, MayYield, MayPurge, without_cache}
use Rattle.page_protocol.specs.Coherent.{Coherent}

pub kept_read_disk : (g : Group) (p : Page) (m : ℕ) → Coherent g p → g.status m ≢ Failed → (p.frame m).filled ≡ false → MayFill g p m → Coherent g (read_disk p m)
kept_read_disk g p m s up empty may = grind arith

pub kept_read_none : (g : Group) (p : Page) (m : ℕ) (d : Bool) → Coherent g p → g.lost ≡ false → g.status m ≢ Failed → MayUse p m → MayBeDirect g p m d → p.bytes ≡ None → Coherent g (read p m d)
kept_read_none g p m d s there up may direct e = grind arith

pub kept_read_some : (g : Group) (p : Page) (m v : ℕ) (d : Bool) → Coherent g p → g.lost ≡ false → g.status m ≢ Failed → MayUse p m → p.bytes ≡ Some v → Coherent g (read p m d)
kept_read_some g p m v d s there up may e = grind arith

pub kept_write : (g : Group) (p : Page) (m : ℕ) → Coherent g p → g.lost ≡ false → g.status m ≢ Failed → (p.frame m).marked ≡ true → AllStable g p (p.frame m).version → Coherent g (write p m)
kept_write g p m s there up marked stable = grind arith

pub kept_write_direct : (g : Group) (p : Page) (m : ℕ) → Coherent g p → g.lost ≡ false → (p.frame m).direct ≡ true → (p.frame m).marked ≡ true → AllStable g p (p.frame m).version → Coherent g (write_direct p m)
kept_write_direct g p m s there direct marked stable = grind arith

pub kept_castout_read : (g : Group) (p : Page) (m v : ℕ) → Coherent g p → g.lost ≡ false → p.changed ≡ true → p.bytes ≡ Some v → Coherent g (castout_read p m v)
kept_castout_read g p m v s there changed is = grind arith

pub kept_castout_write : (g : Group) (p : Page) (m : ℕ) → Coherent g p → p.castout ≡ Some m → Coherent g (castout_write p)
kept_castout_write g p m s held = grind arith

pub kept_castout_done : (g : Group) (p : Page) (m : ℕ) → Coherent g p → p.castout ≡ Some m → p.sent ≡ true → Coherent g (castout_done p)
kept_castout_done g p m s held sent = grind arith

pub kept_reclaim : (g : Group) (p : Page) → Coherent g p → p.changed ≡ false → p.castout ≡ None → Coherent g (reclaim p)
kept_reclaim g p s clean free = grind arith

pub kept_drop_frame : (g : Group) (p : Page) (m : ℕ) → Coherent g p → (p.frame m).marked ≡ false → Coherent g (drop_frame p m)
kept_drop_frame g p m s unmarked = grind arith

pub kept_lock : (g : Group) (p : Page) (m : ℕ) → Coherent g p → p.owner ≡ None → g.status m ≢ Failed → Coherent g (owned p m)
kept_lock g p m s free up = grind arith

pub kept_unlock : (g : Group) (p : Page) (m : ℕ) → Coherent g p → p.owner ≡ Some m → p.sole ≡ false → g.status m ≡ Up → (p.frame m).marked ≡ false → Coherent g (given_up p)
kept_unlock g p m s own part up unmarked = grind arith

pub kept_redo : (g : Group) (p : Page) (m : ℕ) → Coherent g p → p.owner ≡ Some m → g.status m ≡ Restarting → Coherent g (redo p m)
kept_redo g p m s own up = grind arith

pub kept_put_aside : (g : Group) (p : Page) (m : ℕ) → Coherent g p → g.status m ≡ Restarting → (p.frame m).marked ≡ true → AllStable g p p.last → Coherent g (drop_frame p m)
kept_put_aside g p m s up marked stable = grind arith

pub kept_purge : (g : Group) (p : Page) (m : ℕ) → Coherent g p → p.owner ≡ Some m → p.sole ≡ false → g.status m ≡ Restarting → (p.frame m).marked ≡ false → IsWritten g p m → Coherent g (given_up p)
kept_purge g p m s own part up unmarked done = grind arith

pub no_earlier : (g : Group) (p : Page) (n : ℕ) → Coherent g p → g.lost ≡ true → IsRead g p n → p.shared ≤ n
no_earlier g p n s lost has = let a = has.no_more n in let b = s.read_shared n lost in let c = s.within in grind (arith, a, b, c)

pub kept_rebuild : (g : Group) (p : Page) (n : ℕ) → Coherent g p → g.lost ≡ true → IsRead g p n → p.shared ≤ n → Coherent g (rebuild p n)
kept_rebuild g p n s lost has high = grind arith

pub kept_lose : (g : Group) (p : Page) → Coherent g p → Coherent (without_cache g) (lose p)
kept_lose g p s = grind arith

pub kept_take_set : (g : Group) (p : Page) (m : ℕ) → Coherent g p → g.status m ≡ Up → IsUnused p → Coherent g (owned_whole p m)
kept_take_set g p m s up free = grind arith

pub kept_yield_set : (g : Group) (p : Page) (m : ℕ) → Coherent g p → MayYield g p m → Coherent g (given_up p)
kept_yield_set g p m s may = grind arith

pub kept_purge_set : (g : Group) (p : Page) (m : ℕ) → Coherent g p → MayPurge g p m → Coherent g (given_up p)
kept_purge_set g p m s may = grind arith
