pub mod Commands_read
