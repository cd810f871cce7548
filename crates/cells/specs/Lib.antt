-- Cells copied between byte buffers: what a copy is (`Copy`), a patch of cells (`Patch`, `Patched`), and what holds of them. Assumes nothing.
--   where cells lie apart the copy of a list is its meaning, whatever the order      Meaning   copied-holds, copied-same, copied_perm
--   lists in a row are copied one after the other                                    Meaning   copied-append
--   a patch lists each of its cells, and no other                                    Patches   patch_each, patch_only
--   by index: any list of the cells of each index gives the bytes that ask 3 wants   Indexed   copied-exported, copied_any, exported-one
--   cells at different offsets share no byte; a patch in offsets                     Offsets   offsets_clear, spot_offset
pub mod Copy
pub mod Meaning
pub mod Patch
pub mod Patches
pub mod Reaching
pub mod Patched
pub mod Indexed
pub mod Offsets
