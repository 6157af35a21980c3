pub mod Lexed
