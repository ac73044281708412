pub mod Ticket
