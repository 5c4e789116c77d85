pub mod CallAnswered
