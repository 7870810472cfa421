mod Limits_next
mod MinuteCount_next
mod Known_next
mod Lines_next
mod Sample_computed
mod Event_line
