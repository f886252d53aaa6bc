pub mod ClockOfRun
pub mod TablesOfRun
