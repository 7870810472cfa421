pub mod Cursor
pub mod Prices
pub mod Amounts
pub mod Wishes
pub mod Statuses
pub mod PriceLaws
