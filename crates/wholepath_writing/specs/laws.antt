pub mod Written
pub mod Laying
