pub mod Holders
pub mod Loop
pub mod FieldLaws
pub mod ListLaws
pub mod Members
pub mod ItemLaws
pub mod ParcelLaws
