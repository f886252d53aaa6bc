-- Definitions of private contracts; no public clause uses them.
pub mod IssuedRequests
pub mod ScriptProcessLaws
