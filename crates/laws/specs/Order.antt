-- Laws of loop order: the bounds of ranks, tries of weights, of which one succeeds; the order is a permutation of the axes, the one that is
-- sorted; lists put into an order and back; sums and products in any order.
pub mod Ranks
pub mod Tries
pub mod Permutation
pub mod Sorted
pub mod Picked
pub mod Folds
