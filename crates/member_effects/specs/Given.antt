-- Given out again: what the crates above take from those below this one.
pub use Rattle.member_needs.specs.declared.castout.Cast.{Cast}
pub use Rattle.member_needs.specs.declared.plans.Plan.{Plan}
pub use Rattle.member_needs.specs.declared.needs.Setting.{Setting}
pub use Rattle.member_needs.specs.Needs.{need_of}
pub use Rattle.member_needs.specs.Plans.{intent_plan, IsUnlessMemory, PlanIsAllowed}
pub use Rattle.member_needs.specs.Frames.{is_stable}
pub use Rattle.member_needs.specs.declared.plans.Plan.TheVariants as plan_variants
pub use Rattle.member_needs.specs.Records.{frame_of}
