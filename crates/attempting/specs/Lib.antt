pub mod Attempting
