pub mod Lists
pub mod Trans
