mod Bytes_compared
mod Step_call
