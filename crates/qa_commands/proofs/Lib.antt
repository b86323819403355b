mod Endings
mod Names
mod Writes
mod Written
mod Pages
