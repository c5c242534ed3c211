pub mod Enclosure
