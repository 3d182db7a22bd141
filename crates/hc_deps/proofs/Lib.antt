mod Firsts
mod Counts
mod Telling
