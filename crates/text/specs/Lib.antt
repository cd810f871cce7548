-- What each part of the text entry answers.
pub mod Listed
