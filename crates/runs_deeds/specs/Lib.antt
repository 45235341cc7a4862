pub mod Deeds
pub mod DeedLaws
