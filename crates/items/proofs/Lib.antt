pub mod ItemForms
pub mod Reading
pub mod ListRead
pub mod Fronts
pub mod RoundTrip
