-- Every definition that the contract of a public entry cites: those of document 01, a file for each of its sections and in its order, and in
-- `Memory` what C functions make of them. `Base` has their common words. `Demand3` and `GoodFit` state what crate laws proves of them. The
-- theorems of this crate are computed: `Rows`, in which order the rows of each entry are told, and `Figures`, the marked figures.
pub mod Base
pub mod Layout
pub mod Machine
pub mod Refusals
pub mod Ranks
pub mod Weights
pub mod Order
pub mod Fuse
pub mod Index
pub mod Region
pub mod Costs
pub mod Cut
pub mod Decline
pub mod Fit
pub mod Plan
pub mod Walk
pub mod Begin
pub mod Step
pub mod Bulk
pub mod Mark
pub mod Digits
pub mod Text
pub mod Rows
pub mod Memory
pub mod Demand3
pub mod GoodFit
pub mod Figures
