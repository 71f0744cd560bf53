pub mod Numbers
pub mod Trials
pub mod Listed
pub mod Placed
pub mod Headed
pub mod Noted
pub mod Spans
