-- Lemmas about the grounds of verdicts, and what a sender does whose trace is accepted.
pub mod GroundsFound
pub mod ConductOfTraces
