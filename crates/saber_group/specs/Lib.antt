pub mod SliceParts
pub mod SlicePieces
pub mod SliceStores
pub mod SliceLists
