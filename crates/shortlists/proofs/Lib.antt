-- What is shown of every short list, and the laws that the proofs share.
pub mod AlphabetLaws
pub mod ShortLists
pub mod DigitLaws
pub mod EntryLaws
