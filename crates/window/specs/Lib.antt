-- Windows: what the entry answers (`Window`), and what holds of every window that it serves. Assumes nothing.
--   an axis lies in its extent exactly if each of its indices does         Axes      outside_exact
--   window indices lie in the parent, no two name one, offsets agree       Indices   parent_within, parent_once, parent_dot
--   it has no more cells and no more reach than the parent                 Indices   window_total, window_reach
--   so it is planned wherever the parent is, and for every record          Layouts   window_accepted, window_planned
--   starts that the parent's walk takes are taken, shifted                 Starts    window_row9, window_begins
--   all of this of every window that is served, and what is handed out     Whole     window_right, hands_extents, hands_strides, hands_shifts
--   demand 3 for a window's walk, with the parent index at each place      Walks     window_walk, walk-from_parent
--   a window of a window is a window of the parent                         Nested    window_of_window
--   a stride leaves 64 bits only beside an extent of 0                     Places    no_stride_over
pub mod Window
pub mod Axes
pub mod Indices
pub mod Layouts
pub mod Starts
pub mod Whole
pub mod Walks
pub mod Counted
pub mod Selected
pub mod Places
pub mod Nested
pub mod Made
pub mod Memory
pub mod Examples
