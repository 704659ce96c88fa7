mod Chains
mod Lines
mod Listed
mod Spaces
