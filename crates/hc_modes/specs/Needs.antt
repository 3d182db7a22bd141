-- Needs that can be added.
pub use Rattle.hc_tree.specs.Needs.{IsFew}
