mod Text_decoded
mod Head_parts
mod FieldSearch_next
mod Loopback_parsed
mod Response_read
mod Response_sent
