-- The meaning of objects, of which these laws speak.
pub use Rattle.hc_dict.specs.declared.dictionary.Dictionary.{Dictionary}
pub use Rattle.hc_slots.specs.Fast.{HasMap}
pub use Rattle.hc_modes.specs.Meaning.{kept_of, world}
pub use Rattle.hc_modes.specs.State.{IsKeptSo, IsObjects}
pub use Rattle.hc_modes.specs.Rest.{AreCalm}
