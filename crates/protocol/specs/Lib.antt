-- Definitions, in reading order (docs/READING.md).
pub mod StatusCode
pub mod Failure
pub mod AuthType
pub mod LogType
pub mod MessageType
pub mod State
pub mod Command
pub mod Operation
pub mod Frame
pub mod Reading
pub mod Judge
pub mod Reply
pub mod Answer
pub mod Box
pub mod Format
pub mod FirstSteps
pub mod Demand
pub mod InvalidTree
pub mod Says
pub mod PartsRead
pub mod ReplyContent
pub mod Readable
pub mod Worked
pub mod Start
-- Laws for proofs.
pub mod Words
pub mod ReplyFits
pub mod FaultCode
pub mod Sendable
-- Theorems: the demands, then what document 01 and the change requests say, each with the definitions that it alone needs.
pub mod Demand3Example
pub mod Passes
pub mod Onwards
pub mod Three
pub mod Bodies
