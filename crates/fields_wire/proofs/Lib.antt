pub mod VarintPlaces
