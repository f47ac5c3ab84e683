pub mod MetaPages
