pub mod Words
pub mod Routes
pub mod Credentials
pub mod Hosts
pub mod Forms
pub mod Requests
pub mod Responses
pub mod Laws
