pub mod PlainView
