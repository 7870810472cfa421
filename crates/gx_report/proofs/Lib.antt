pub mod Samples_next
