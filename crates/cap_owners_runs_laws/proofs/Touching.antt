-- Statements that touch the heap along a track: regions are entered, the act is done, and all are
-- closed behind it.
pub mod Regions
pub mod ToSeat
pub mod SeatPart
pub mod Renewing
pub mod Touched
pub mod Doing
pub mod ToAct
pub mod Touches
