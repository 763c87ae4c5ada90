pub mod UpdatePlaces
