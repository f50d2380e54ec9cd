-- Whose cells are used.
use Rattle.std.specs.Prelude.{ℕ}
use Rattle.ds_model.specs.declared.lock.Name.{Name}
use Rattle.ds_model.specs.declared.lock.Name.TheVariants as name
use Rattle.member_trans.specs.declared.fate.Owner.{Owner}
use Rattle.member_trans.specs.declared.fate.Owner.TheVariants as owner

-- a transaction that claims the name itself has cells of its own; the member, which claims pages and page sets, has those of slot 0
abbrev pub cell_slot : Owner → Name → ℕ
cell_slot (owner.Slot slot) (name.Space table) = slot
cell_slot (owner.Slot slot) (name.Row table key) = slot
cell_slot (owner.Slot slot) (name.Page page) = 0
cell_slot (owner.Slot slot) (name.Set n) = 0
cell_slot (owner.Rollback id) n = 0
