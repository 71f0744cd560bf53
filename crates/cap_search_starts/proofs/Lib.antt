mod Sorted
mod Cells
mod Starting
