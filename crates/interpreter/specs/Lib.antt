pub mod Owing
pub mod Progressing
pub mod Serving
