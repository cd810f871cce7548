-- What a way to shorten blocks follows (`Rules`). Assumes nothing.
pub mod Rules
