-- Given out again: what the crates above take from those below this one.
pub use Rattle.facility.specs.Counting.{limit}
pub use Rattle.facility.specs.declared.command.Indexes.{Indexes}
pub use Rattle.facility.specs.declared.command.Command.TheVariants as command_variants
pub use Rattle.page_plans.specs.declared.action.Action.{Action}
pub use Rattle.page_plans.specs.declared.action.Action.TheVariants as action_variants
pub use Rattle.page_plans.specs.declared.action.RowPlan.{RowPlan}
pub use Rattle.page_plans.specs.declared.action.RowPlan.TheVariants as row_plan_variants
pub use Rattle.page_plans.specs.Plans.{plan_of}
pub use Rattle.page_plans.specs.Rows.{row_plan, undo_plan, Fits}
pub use Rattle.page_plans.specs.Names.{action_page}
pub use Rattle.page_plans.specs.Looks.{look_of, place_in}
