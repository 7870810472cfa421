pub mod Shown_visible
mod JsonString_end
