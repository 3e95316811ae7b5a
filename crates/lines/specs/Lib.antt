pub mod LineReads
