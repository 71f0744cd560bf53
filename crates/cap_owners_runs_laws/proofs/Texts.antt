-- What the programs of texts have that `owners` rests on: names that are new in an assertion are
-- bound there, and main asks for cells.
pub mod Binding
pub mod Named
pub mod Bound
pub mod Cells
pub mod Textual
