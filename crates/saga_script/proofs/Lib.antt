-- What a table tells after one more line, and what the lines of a text tell.
pub mod TableLemmas
pub mod TellLemmas
pub mod NameLemmas
