pub mod Alike
pub mod FilesStand
pub mod LinksStand
pub mod NoFault
pub mod OneFile
pub mod OneReading
pub mod Order
