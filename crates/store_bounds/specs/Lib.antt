pub mod PlacesLaws
