pub mod DispatchSet
