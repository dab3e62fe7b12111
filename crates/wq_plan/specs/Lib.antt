pub mod Plan
pub mod PlanText
