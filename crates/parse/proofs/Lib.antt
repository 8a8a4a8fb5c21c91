-- The laws that the proofs of several functions share, and those that crates above cite.
pub mod RecordLaws
pub mod ReportLaws
pub mod RootLaws
pub mod FillLaws
pub mod EntryLaws
