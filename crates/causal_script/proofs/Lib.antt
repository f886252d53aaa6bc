mod Lemmas
mod Numbers
mod Starts
mod Texts
