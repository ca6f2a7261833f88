pub mod Due
pub mod Given
pub mod Listed
pub mod Reserved
pub mod ReadBack
pub mod Tells
pub mod Causes
pub mod Changed
pub mod RestKept
pub mod FlushStages
pub mod Flushed
pub mod Going
pub mod Gone
pub mod OneTurn
pub mod Owned
pub mod Pages
pub mod PlainBytes
pub mod PutBytes
pub mod PutPage
pub mod RangePages
pub mod ReadServes
pub mod ReadStages
pub mod Serving
pub mod Sized
pub mod WriteServes
pub mod WriteWorlds
pub mod WriteEvents
pub mod WriteStages
pub mod Around
pub mod DrivenDeeds
pub mod Behind
pub mod Led
pub mod Asking
pub mod Served
pub mod Quiet
pub mod Whole
pub mod Chained
pub mod Counts
pub mod Fates
pub mod Worlds
pub mod Flushes
pub mod Walks
pub mod Syncing
pub mod Sums
pub mod Beginning
pub mod Holding
pub mod Between
mod Admitting
mod Changing
mod ClosedRounds
mod Ending
mod Epochs
mod Waiting
mod Stages
mod WholeReads
