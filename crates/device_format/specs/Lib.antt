pub mod FormatNumber
