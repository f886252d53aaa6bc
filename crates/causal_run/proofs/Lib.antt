mod Histories
mod Objects
mod Starts
