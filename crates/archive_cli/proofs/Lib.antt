pub mod RunPlan
