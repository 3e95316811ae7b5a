pub mod HeadTurns
