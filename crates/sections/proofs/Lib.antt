-- The laws that the proofs of several functions share, and those that crates above cite.
pub mod SectionCases
pub mod SectionWritten
pub mod MemberLaws
pub mod SectionOpen
pub mod SectionLooking
pub mod SectionWalk
pub mod MatchingLaws
