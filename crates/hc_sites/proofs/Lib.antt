mod Distinct
mod Folds
