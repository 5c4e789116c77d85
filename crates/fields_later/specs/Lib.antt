pub mod LaterLaws
