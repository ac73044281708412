pub mod Laws
pub mod Orders
