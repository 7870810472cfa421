pub mod Line_call
pub mod Records_next
pub mod Lines_cut
pub mod Lines_text
pub mod Script_next
pub mod Settle_call
pub mod Script_end
pub mod Script_prefix
