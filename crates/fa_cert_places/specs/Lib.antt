pub mod OpenCounts
