pub mod Numbers
pub mod Values
pub mod Words
pub mod Serving
pub mod Packed
