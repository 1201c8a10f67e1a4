pub mod PlanOf
pub mod Passes
