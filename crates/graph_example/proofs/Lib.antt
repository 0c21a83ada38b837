pub mod WalksAreMatches
