mod Cuts
mod Histories
mod Answered
mod Seats
mod Totals
mod Openings
mod Ascents
