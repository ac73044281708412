pub mod Rows
pub mod ClaimTable
