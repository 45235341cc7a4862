pub mod Range
pub mod Survey
pub mod Laying
pub mod PathCall
pub mod Unrounded
