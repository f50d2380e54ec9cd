-- What the crates below say.
use Rattle.std.proofs.Common.{ℕ, List}
use Rattle.ds_base.specs.declared.names.PageId.{PageId}
use Rattle.cache_structure.specs.Directory.{Directory, after_read, after_write, after_unregister, after_castout_read, after_castout_done, after_lose}
use Rattle.cache_structure.specs.Sound.{IsSound}
use Rattle.page_protocol.specs.Always.{AlwaysGood}
use Rattle.page_world.specs.Numbers.{AreNumbered}
use Rattle.needs_law.specs.Lawful.{SendsLawfully}
use Rattle.page_intents.specs.Frames.{ReadGoes, FillGoes, TestGoes, WriteGoes, FreeGoes}
use Rattle.page_intents.specs.Logs.{AppendGoes}
use Rattle.page_intents.specs.Castouts.{CastReadGoes, CastWriteGoes, CastDoneGoes}
use Rattle.page_intents.specs.Draws.{ChangeGoes, UndoGoes, CommitGoes}
use Rattle.page_intents.specs.Owners.{ObtainGoes, GrantGoes, ReleaseGoes, StayGoes}
use Rattle.page_intents.specs.Locals.{LoseGoes, StaleGoes}
use Rattle.page_policies.specs.Locals.{LocalsLeaveLog, ReachesGoes, TransLeavePages}

-- what the directory of a cache keeps
pub record KeepsSound : Type 0 where
  pub read : (d : Directory) (member : ℕ) (id : PageId) (index : ℕ) → IsSound d → IsSound (after_read d member id index)
  pub write : (d : Directory) (member : ℕ) (id : PageId) (index : ℕ) (bytes : List ℕ) → IsSound d → IsSound (after_write d member id index bytes)
  pub unregister : (d : Directory) (member index : ℕ) → IsSound d → IsSound (after_unregister d member index)
  pub castout_read : (d : Directory) (member : ℕ) (id : PageId) → IsSound d → IsSound (after_castout_read d member id)
  pub castout_done : (d : Directory) (member : ℕ) (id : PageId) → IsSound d → IsSound (after_castout_done d member id)
  pub lose : (d : Directory) → IsSound d → IsSound (after_lose d)

pub record Facts : Type 0 where
  pub lawful : SendsLawfully
  pub good : AlwaysGood
  pub numbers : AreNumbered
  pub sound : KeepsSound
  pub read : ReadGoes
  pub fill : FillGoes
  pub test : TestGoes
  pub write : WriteGoes
  pub free : FreeGoes
  pub append : AppendGoes
  pub cast_read : CastReadGoes
  pub cast_write : CastWriteGoes
  pub cast_done : CastDoneGoes
  pub change : ChangeGoes
  pub undo : UndoGoes
  pub commit : CommitGoes
  pub obtain : ObtainGoes
  pub grant : GrantGoes
  pub release : ReleaseGoes
  pub stay : StayGoes
  pub lose : LoseGoes
  pub stale : StaleGoes
  pub leave : TransLeavePages
  pub reaches : ReachesGoes
  pub log : LocalsLeaveLog
