pub mod Step_call
