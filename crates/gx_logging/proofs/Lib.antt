pub mod Lines_next
