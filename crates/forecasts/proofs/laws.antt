pub mod Forecast
pub mod Number
