pub mod Texts
pub mod ShiftTexts
