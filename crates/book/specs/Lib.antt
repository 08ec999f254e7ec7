pub mod Lists
pub mod Rows
pub mod Dues
pub mod Trades
pub mod Taking
pub mod Listings
pub mod Books
