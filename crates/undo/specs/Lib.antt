pub mod Undoes
