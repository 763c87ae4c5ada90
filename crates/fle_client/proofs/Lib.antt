mod Beginnings
mod Elsewhere
mod Tellings
