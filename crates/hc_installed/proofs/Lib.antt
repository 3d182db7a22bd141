mod Lists
mod Tests
mod Discarding
mod Keeping
mod Settling
mod Resting
mod Answering
mod Applying
