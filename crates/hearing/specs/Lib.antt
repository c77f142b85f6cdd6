pub mod Forecasts
pub mod Hearing
pub mod Written
