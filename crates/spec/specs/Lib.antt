-- What the editor does, as definitions over a text of bytes. They are read in this order.
pub mod Bytes
pub mod Text
pub mod Motions
pub mod Keys
pub mod Editor
pub mod History
pub mod Commands
pub mod Dispatch
pub mod Screen
pub mod Terminal
pub mod Promises
pub mod HistoryLaws
pub mod Worked
pub mod Laws
pub mod HistoryWitnesses
