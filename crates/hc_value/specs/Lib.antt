pub mod Attrs
pub mod Field
pub mod Num
pub mod Prop
pub mod Word
