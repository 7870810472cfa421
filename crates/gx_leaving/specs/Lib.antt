pub mod Logouts
