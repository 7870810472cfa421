pub mod Logout_call
