-- The rules of nodes by their words, and what the entry with a rule buffer promises, as definitions.
pub mod RuleNumbers
pub mod Nodes
pub mod Numbering
pub mod Answers
