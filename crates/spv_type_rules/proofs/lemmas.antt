pub mod roles
