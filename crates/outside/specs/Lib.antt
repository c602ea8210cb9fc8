-- The files of this crate's definitions.
pub mod Counts
pub mod Files
pub mod HostFiles
pub mod MemoryFiles
pub mod MemorySink
pub mod Plans
pub mod Sink
pub mod StdSink
pub mod Streams
