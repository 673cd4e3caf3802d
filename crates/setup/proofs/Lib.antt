pub mod Opened
pub mod Examples
pub mod Raw
pub mod Origins
pub mod Valid
pub mod Broken
