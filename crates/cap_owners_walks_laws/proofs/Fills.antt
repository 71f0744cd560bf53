-- By what assertions are met where they are drawn out of a part, that they still are while the
-- regions of their facts are in the same states, and which values that brings.
pub mod Drawn
pub mod Amounts
pub mod Still
pub mod Giving
pub mod Siding
pub mod Meeting
